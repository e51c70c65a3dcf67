use lib.ListN.{length}
use Prim.Native.Nat.{◌-◌}
use Rattle.rules.specs.Files.{view}
use Rattle.bundle.specs.Find.{entries_of}
use Rattle.expansion.specs.Run.{Expanding}
use Rattle.expansion.proofs.expand.Given as goal

abbrev pub invariant-steps : goal.invariant-steps
invariant-steps l = Expanding (view (entries_of l.bundle)) l.bytes l.initial.left l.initial.w l.left l.w l.done l.whole

abbrev pub decreases-steps : goal.decreases-steps
decreases-steps l = length l.bytes - l.done
