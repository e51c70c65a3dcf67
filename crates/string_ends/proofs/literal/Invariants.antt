use Prim.Native.Nat.{◌-◌}
use lib.ListN.{length}
use Rattle.string_ends.specs.Text.{LiteralAt}
use Rattle.string_ends.proofs.literal.Given as goal

abbrev pub invariant-loop-i : goal.invariant-loop-i
invariant-loop-i g l = LiteralAt g.P.Pieces.Takes l.text l.initial.to l.to l.i

abbrev pub decreases-loop-i : goal.decreases-loop-i
decreases-loop-i g l = length l.text - l.i
