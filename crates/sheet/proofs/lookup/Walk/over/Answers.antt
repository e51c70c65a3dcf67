use mathlib.Core.Path.{refl}
use Rattle.sheet.specs.Walk.{walk-over}
use Rattle.sheet.proofs.lookup.Walk.over.Goals as goal

pub returns : goal.returns
returns c = λ r p. walk-over p refl refl refl refl
