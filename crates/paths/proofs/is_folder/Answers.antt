use mathlib.Core.Path.{sym, ◌∙◌}
use borrow.Author.Tests.{eqb-true, eqb-false}
use Rattle.paths.specs.Paths.{folder-empty, folder-path}
use Rattle.paths.proofs.is_folder.Goals as goal

pub returns-then-is_empty : goal.returns-then-is_empty
returns-then-is_empty c = c.if-is_empty.true ∙ folder-empty _ (eqb-true _ _ (sym c.is_empty.ensures ∙ c.if-is_empty.true))

pub returns-else-is_empty : goal.returns-else-is_empty
returns-else-is_empty c = c.is_path.ensures ∙ folder-path _ (eqb-false _ _ (sym c.is_empty.ensures ∙ c.if-is_empty.false))
