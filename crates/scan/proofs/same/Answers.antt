use mathlib.Core.Path.{◌∙◌}
use Rattle.scan.proofs.Library.{same-is}
use Rattle.scan.proofs.same.Goals as goal

pub returns : goal.returns
returns c = c.eq.ensures ∙ same-is _ _
