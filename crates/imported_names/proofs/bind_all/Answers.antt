use native.Mathlib.Omega.{arith}
use Rattle.sheet.specs.Find.{item_has-body}
use Rattle.sheet.specs.Walk.{walks-some, walks-none}
use Rattle.imported_names.proofs.Names.{all_start, all_end, all-word, all_there, all-over, all-on}
use Rattle.imported_names.proofs.bind_all.Goals as goal

pub loop-o-init : goal.loop-o-init
loop-o-init c = let b = c.bytes-s.ensures in
    all_start _ (rw c.into_iter-o-iterator.ensures.into_iter_gives (c.all-o-items.ensures _ (rw b.same b.layout.written)))

pub value-requires : goal.value-requires
value-requires c = item_has-body (walks-some c.loop-o.invariant.walk _ c.next.ensures.steps c.in-Some.is).told

pub bind_one-requires : goal.bind_one-requires
bind_one-requires c = let k = c.loop-o.invariant in
    let m = walks-some k.walk _ c.next.ensures.steps c.in-Some.is in
    (all-word k m, all_there k m _ c.value.ensures)

pub returns-in_err-bind_one : goal.returns-in_err-bind_one
returns-in_err-bind_one c = let k = c.loop-o.invariant in
    let m = walks-some k.walk _ c.next.ensures.steps c.in-Some.is in
    rw (← c.bytes-s.ensures.same) (all-over k m _ c.value.ensures c.bind_one.ensures c.in_err-bind_one.was (grind arith))

pub loop-o-preserved : goal.loop-o-preserved
loop-o-preserved c = let k = c.loop-o.invariant in
    let m = walks-some k.walk _ c.next.ensures.steps c.in-Some.is in
    all-on k m _ c.value.ensures c.bind_one.ensures c.in_ok-bind_one.was

pub returns : goal.returns
returns c = let k = c.loop-o.invariant in rw (← c.bytes-s.ensures.same) (all_end k (walks-none k.walk _ c.next.ensures.steps c.in-None.is))
