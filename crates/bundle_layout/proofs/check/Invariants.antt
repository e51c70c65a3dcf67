use Prim.Native.Nat.{◌-◌}
use Rattle.bundle_layout.specs.Check.{Walking}
use Rattle.bundle_layout.proofs.check.Given as goal

abbrev pub invariant-loop-done : goal.invariant-loop-done
invariant-loop-done l = Walking l.b (l.done-end - l.done) l.walk
