use Rattle.imported_names.proofs.Names.{names_as}
use Rattle.imported_names.proofs.Words.{names-star, names-words}
use Rattle.imported_names.proofs.bind_names.Goals as goal

pub returns-then-starts_with : goal.returns-then-starts_with
returns-then-starts_with c = names_as (names-star c.starts_with.ensures c.if-starts_with.true) c.bind_all.ensures

pub returns : goal.returns
returns c = names_as (names-words c.starts_with.ensures c.if-starts_with.false) c.bind_listed.ensures
