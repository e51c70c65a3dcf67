use Rattle.std.proofs.Common.{rules}
use mathlib.Core.Path.{sym, ap}
use Rattle.rules.specs.Definitions.{listed}
use Rattle.imported_names.proofs.Names.{none-bound, later-empty, later-some, names_as}
use Rattle.imported_names.proofs.bind_later.Goals as goal

pub returns-then-empty : goal.returns-then-empty
returns-then-empty c = names_as (ap listed (sym (later-empty _ (search rules)))) (none-bound _ _)

pub returns : goal.returns
returns c = names_as (ap listed (sym (later-some _ c.if-empty.false))) c.bind_word.ensures
