use Prim.Native.Nat.{ℕ, ◌-◌}
use lib.ListN.{length}
use Rattle.rules.specs.Sheet.{Records}
use Rattle.sheet.specs.Items.{Holding, Left}
use Rattle.sheet.proofs.lookup.skip.Given as goal

abbrev pub invariant-loop-remaining : goal.invariant-loop-remaining
invariant-loop-remaining l = (r : Records) (j : ℕ) → Holding l.s l.at l.count r j → Left l.s l.i l.remaining j

abbrev pub decreases-loop-remaining : goal.decreases-loop-remaining
decreases-loop-remaining l = length l.s - l.i
