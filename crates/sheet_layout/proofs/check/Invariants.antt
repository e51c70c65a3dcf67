use Prim.Native.Nat.{◌-◌}
use lib.ListN.{length}
use Rattle.sheet_layout.specs.Check.{Checking}
use Rattle.sheet_layout.proofs.check.Given as goal

abbrev pub invariant-loop-i : goal.invariant-loop-i
invariant-loop-i l = Checking l.s l.i l.last

abbrev pub decreases-loop-i : goal.decreases-loop-i
decreases-loop-i l = length l.s - l.i
