use mathlib.Core.Option.{none}
use Rattle.std.proofs.Common.{arith}
use Rattle.buffers.specs.Wrote.{puts-wrote}
use Rattle.calls.specs.Called.{calls-back, calls-output}
use Rattle.link_call.specs.Link.{link-back, link-read, read-inside}
use Rattle.link_call.proofs.link.Goals as goal

pub returns-then-at : goal.returns-then-at
returns-then-at c = calls-back _ _ (link-back _ c.span-i.ensures c.at.ensures c.if-at.true) c.span-i.ensures.inside

pub slice_bounds-call_end-count : goal.slice_bounds-call_end-count
slice_bounds-call_end-count c = (c.expression_end-read.ensures (λ z. none)).inside

pub slice_bounds-call_end-start : goal.slice_bounds-call_end-start
slice_bounds-call_end-start c = (c.expression_end-read.ensures (λ z. none)).inside

pub overflow_add-i : goal.overflow_add-i
overflow_add-i c = let h = read-inside (λ z. none) c.span-i.ensures c.at.ensures (c.expression_end-read.ensures _) c.call_end.ensures in omega (arith, h)

pub behind-end-requires : goal.behind-end-requires
behind-end-requires c = let h = read-inside (λ z. none) c.span-i.ensures c.at.ensures (c.expression_end-read.ensures _) c.call_end.ensures in omega (arith, h)

pub returns : goal.returns
returns c =
    let h = read-inside (λ z. none) c.span-i.ensures c.at.ensures (c.expression_end-read.ensures _) c.call_end.ensures in
    calls-output _ (link-read _ c.span-i.ensures c.at.ensures (c.expression_end-read.ensures _) c.call_end.ensures c.if-at.false c.behind-end.ensures) (rw c.behind-end.ensures h) (puts-wrote c.put_link-put.ensures)
