use mathlib.Core.Path.{refl}
use Rattle.scan.proofs.Library.{get-is}
use Rattle.scan.proofs.at.Goals as goal

pub returns : goal.returns
returns c = get-is c.args.c _ _ c.get.result _ _ c.get.ensures.lookup c.eq.ensures (λ x. refl)
