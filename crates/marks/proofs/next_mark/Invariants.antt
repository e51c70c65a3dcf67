use lib.ListN.{length}
use Prim.Native.Nat.{◌-◌}
use Rattle.marks.specs.Marks.{Unmarked}
use Rattle.marks.proofs.next_mark.Given as goal

abbrev pub invariant-loop-from : goal.invariant-loop-from
invariant-loop-from l = Unmarked l.text l.from l.i

abbrev pub decreases-loop-from : goal.decreases-loop-from
decreases-loop-from l = length l.text - l.i
