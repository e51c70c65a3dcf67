use Rattle.std.proofs.Common.{rules}
use native.Mathlib.Omega.{arith}
use borrow.Author.Tests.{not-true, not-false}
use Rattle.scan.specs.Laws.{sees-the}
use Rattle.string_ends.specs.Text.{expression_start, expression_done, ends-inside, expression_none, expression_last, expression_again}
use Rattle.string_ends.proofs.expression.Goals as goal

pub loop-i-init : goal.loop-i-init
loop-i-init g c = record { inside = search rules; so_far = expression_start (g.met.P.Pieces.none _) _ }

pub returns-then-done : goal.returns-then-done
returns-then-done g c = expression_done g.met.P.Terms.past c.loop-i.invariant.so_far (c.done.ensures c.if-done.true)

pub overflow_add-i : goal.overflow_add-i
overflow_add-i g c = let h = ends-inside c.loop-i.invariant.so_far c.read_round-r.ensures in search rules

pub returns-then-not-r : goal.returns-then-not-r
returns-then-not-r g c = expression_none c.loop-i.invariant.so_far c.read_round-r.ensures g.met.P.Pieces.more g.met.P.Terms.kept (not-true _ c.if-not-r.true)

pub span-i-requires : goal.span-i-requires
span-i-requires g c = ends-inside c.loop-i.invariant.so_far c.read_round-r.ensures

pub returns-then-not-at : goal.returns-then-not-at
returns-then-not-at g c = expression_last c.loop-i.invariant.so_far c.read_round-r.ensures g.met.P.Pieces.more g.met.P.Terms.kept (not-false _ c.if-not-r.false) c.span-i.ensures (sees-the "+" c.at.ensures c.if-not-at.true)

pub loop-i-preserved : goal.loop-i-preserved
loop-i-preserved g c = let h = c.at.ensures.there c.if-not-at.false in record {
  inside = omega arith;
  so_far = expression_again c.loop-i.invariant.so_far c.read_round-r.ensures g.met.P.Pieces.more g.met.P.Terms.kept (not-false _ c.if-not-r.false) c.span-i.ensures (sees-the "+" c.at.ensures c.if-not-at.false);
}
