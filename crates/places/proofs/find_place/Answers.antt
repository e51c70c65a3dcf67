use native.Mathlib.Omega.{arith}
use mathlib.Core.Path.{refl}
use Rattle.sheet.specs.Find.{item_holding, item_has, item_rest}
use Rattle.sheet.specs.Walk.{walks-some, walks-none}
use Rattle.places.specs.Place.{place_end, place-below, place_same, place-on}
use Rattle.places.proofs.find_place.Goals as goal

pub loop-i-init : goal.loop-i-init
loop-i-init c = λ r m. let p = c.start.ensures r m in record { i = c.start.result; place = p; over = rw c.into_iter-i-iterator.ensures.into_iter_gives (c.over-i-items.ensures _ p.part) }

pub loop-i-preserved : goal.loop-i-preserved
loop-i-preserved c = λ r p.
    let k = c.loop-i.invariant r p in
    let m = walks-some k.over _ c.next.ensures.steps c.in-Some.is in
    place-on k.place m c.order.ensures (item_rest m.told refl) (omega (arith, m.told.on)) c.in-Less.is

pub skip-end-requires : goal.skip-end-requires
skip-end-requires c = let k = c.loop-i.invariant _ c.requires.marked in
    item_has (walks-some k.over _ c.next.ensures.steps c.in-Some.is).told

pub returns-in-Equal : goal.returns-in-Equal
returns-in-Equal c = λ r p.
    let k = c.loop-i.invariant r p in
    let m = walks-some k.over _ c.next.ensures.steps c.in-Some.is in
    let e = c.skip-end.ensures _ _ (item_holding m.told) in
    place_same k.place m c.order.ensures (item_rest m.told e) (omega (arith, m.told.on, e)) c.in-Equal.is

pub returns-in-Greater : goal.returns-in-Greater
returns-in-Greater c = λ r p.
    let k = c.loop-i.invariant r p in
    let m = walks-some k.over _ c.next.ensures.steps c.in-Some.is in
    place-below k.place m c.order.ensures c.in-Greater.is

pub returns : goal.returns
returns c = λ r p. let k = c.loop-i.invariant r p in place_end k.place (walks-none k.over _ c.next.ensures.steps c.in-None.is)
