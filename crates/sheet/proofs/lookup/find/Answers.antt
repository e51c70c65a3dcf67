use Rattle.sheet.specs.Walk.{walks-some, walks-none}
use Rattle.sheet.specs.Find.{item_has-body, seek_start, seek_on, seek_found, seek_passed, seek_end}
use Rattle.sheet.proofs.lookup.find.Goals as goal

pub loop-o-init : goal.loop-o-init
loop-o-init c = λ l. seek_start l (rw c.into_iter-o-iterator.ensures.into_iter_gives (c.over-o-items.ensures l.r l.part))

pub loop-o-preserved : goal.loop-o-preserved
loop-o-preserved c = λ l. let k = c.loop-o.invariant l in seek_on k (walks-some k.over _ c.next.ensures.steps c.in-Some.is) c.order.ensures c.in-Less.is

pub value-requires : goal.value-requires
value-requires c = let k = c.loop-o.invariant c.requires in item_has-body (walks-some k.over _ c.next.ensures.steps c.in-Some.is).told

pub returns-in-Equal : goal.returns-in-Equal
returns-in-Equal c = λ l. let k = c.loop-o.invariant l in seek_found k (walks-some k.over _ c.next.ensures.steps c.in-Some.is) c.order.ensures _ c.in-Equal.is c.value.ensures

pub returns-in-Greater : goal.returns-in-Greater
returns-in-Greater c = λ l. let k = c.loop-o.invariant l in seek_passed k (walks-some k.over _ c.next.ensures.steps c.in-Some.is) c.order.ensures c.in-Greater.is

pub returns : goal.returns
returns c = λ l. let k = c.loop-o.invariant l in seek_end k (walks-none k.over _ c.next.ensures.steps c.in-None.is)
