use Prim.Native.Nat.{◌-◌}
use lib.ListN.{length}
use Rattle.imported_names.proofs.Words.{BindingMore}
use Rattle.imported_names.proofs.bind_more.Given as goal

abbrev pub invariant-loop-i : goal.invariant-loop-i
invariant-loop-i l = BindingMore l.text l.other l.initial.left l.left l.i

abbrev pub decreases-loop-i : goal.decreases-loop-i
decreases-loop-i l = length l.text - l.i
