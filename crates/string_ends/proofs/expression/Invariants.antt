use Prim.Native.Nat.{◌-◌, ◌≤◌}
use lib.ListN.{length}
use Rattle.string_ends.specs.Text.{ExpressionAt}
use Rattle.string_ends.proofs.expression.Given as goal

abbrev pub invariant-loop-i : goal.invariant-loop-i
invariant-loop-i g l = record {
  inside : l.i ≤ length l.text;
  so_far : ExpressionAt g.P.Pieces.Takes g.P.Terms.Looks l.text l.initial.to l.to l.i;
}

abbrev pub decreases-loop-i : goal.decreases-loop-i
decreases-loop-i g l = length l.text - l.i
