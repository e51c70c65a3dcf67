use Rattle.definitions.specs.File.{saved-bytes, saved-sheet}
use Rattle.definitions.proofs.files.bind_imported.Goals as goal

pub new-requires : goal.new-requires
new-requires c = saved-sheet c.args.left.now c.records.ensures c.args.work.now c.store.ensures c.requires.1

pub returns-clause-binds : goal.returns-clause-binds
returns-clause-binds c = rw (c.replace.ensures.over.over.limit, c.replace.ensures.bytes, c.new.ensures, saved-bytes c.args.left.now c.records.ensures c.args.work.now c.store.ensures c.requires.1) at c.bind_names.ensures.comes
