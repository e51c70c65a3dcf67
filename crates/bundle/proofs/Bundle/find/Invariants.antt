use Prim.Native.Nat.{◌-◌}
use Rattle.bundle.specs.Find.{Finding}
use Rattle.bundle.proofs.Bundle.find.Given as goal

abbrev pub invariant-loop-done : goal.invariant-loop-done
invariant-loop-done l = Finding l.b l.path (l.done-end - l.done) l.at l.folder
