use Prim.Native.Nat.{◌-◌}
use lib.ListN.{length}
use Rattle.scan.specs.Laws.{Matching}
use Rattle.scan.proofs.starts_with.Given as goal

abbrev pub invariant-loop-i : goal.invariant-loop-i
invariant-loop-i l = Matching l.mark l.text l.at l.i

abbrev pub decreases-loop-i : goal.decreases-loop-i
decreases-loop-i l = length l.mark - l.i
