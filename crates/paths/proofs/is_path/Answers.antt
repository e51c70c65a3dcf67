use Rattle.std.proofs.Common.{rules}
use mathlib.Core.Path.{ap, ◌∙◌}
use borrow.Author.Tests.{tests}
use Rattle.std.proofs.lemmas.Bool.{lt-leb}
use Rattle.std.proofs.lemmas.Iterator.{YieldsList-from_slice}
use Rattle.std.proofs.lemmas.Iterator.Consumers.{fold_from_yields_List}
use Rattle.paths.specs.declared.Segment.TheVariants.{Empty}
use Rattle.paths.specs.Paths.{step, whole, path-fold, path-long}
use Rattle.paths.proofs.is_path.Goals as goal

pub returns-then-p-le255 : goal.returns-then-p-le255
returns-then-p-le255 c = c.whole.ensures ∙ ap whole (fold_from_yields_List _ step Empty _ c.fold.ensures.ran (YieldsList-from_slice c.args.p.now cc) (λ s x r q k. search (rules, tests))) ∙ path-fold _ (search rules)

pub returns-else-p-le255 : goal.returns-else-p-le255
returns-else-p-le255 c = lt-leb _ _ (search rules) ∙ path-long _ (search rules)
