use Rattle.calls.specs.Measure.{behind-inside}
use Rattle.calls.proofs.measure.MeterPieces.take.Goals as goal

pub invariant_of-self : goal.invariant_of-self
invariant_of-self c = record { inside = behind-inside _ _ _ c.behind.ensures }
