use mathlib.Core.Path.{refl}
use Rattle.binding.specs.Write.{none-source}
use Rattle.values.proofs.none_value.Goals as goal

pub returns : goal.returns
returns c = record { place = refl; none = refl; source = none-source }
