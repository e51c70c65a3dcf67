use native.Mathlib.Omega.{arith}
use Rattle.imported_names.proofs.Words.{first-word, words-over, words-then}
use Rattle.imported_names.proofs.bind_listed.Goals as goal

pub bind_word-requires : goal.bind_word-requires
bind_word-requires c = first-word c.span-end.ensures

pub returns-in_err-bind_word : goal.returns-in_err-bind_word
returns-in_err-bind_word c = words-over c.span-end.ensures c.bind_word.ensures c.in_err-bind_word.was (grind arith)

pub returns : goal.returns
returns c = words-then c.span-end.ensures c.bind_word.ensures c.in_ok-bind_word.was c.bind_more.ensures
