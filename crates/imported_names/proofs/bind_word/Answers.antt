use Rattle.imported_names.proofs.Names.{word-there, word-missing, word_bound}
use Rattle.imported_names.proofs.bind_word.Goals as goal

pub bind_one-requires : goal.bind_one-requires
bind_one-requires c = (c.requires, rw c.bytes.ensures.same (word-there _ _ c.lookup.ensures c.in-Some.is))

pub returns-in-None : goal.returns-in-None
returns-in-None c = word-missing _ _ c.lookup.ensures c.in-None.is _

pub returns-in-Some : goal.returns-in-Some
returns-in-Some c = word_bound _ _ c.lookup.ensures c.in-Some.is (rw c.bytes.ensures.same at c.bind_one.ensures)
