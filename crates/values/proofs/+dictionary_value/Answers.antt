use Rattle.std.proofs.Common.{◌≡◌, Err, arith, ◌+◌, length-take, length-drop}
use Rattle.rules.specs.Answer.{refused}
use Rattle.scan.specs.Laws.{tail-part}
use Rattle.values.specs.Slots.{room-slot, room-rest}
use Rattle.values.specs.Dictionary.{read-behind, value_open, not-open, value_here, spans-here, dictionary_seven, entering-start, entering_close, entering-no, entering-over, entering-on, entering-moves}
use Rattle.std.specs.Prelude.{refl}
use Rattle.places.specs.Mark.{begins-first}
use Rattle.values.proofs.+dictionary_value.Goals as goal

pub dictionary-returns-then-levels-eq0 : goal.dictionary-returns-then-levels-eq0
dictionary-returns-then-levels-eq0 t c = dictionary_seven _ _ _ c.if-levels-eq0.true

pub dictionary-split_at_mut-slot-requires : goal.dictionary-split_at_mut-slot-requires
dictionary-split_at_mut-slot-requires t c = room-slot c.args.work.room

pub dictionary-invariant_of-records-clause-place : goal.dictionary-invariant_of-records-clause-place
dictionary-invariant_of-records-clause-place t c = λ r _ _. begins-first r

pub dictionary-entries-init : goal.dictionary-entries-init
dictionary-entries-init t c = entering-start _ _ _ _ _ c.own_room.ensures refl c.if-levels-eq0.false

pub dictionary-returns-in_default : goal.dictionary-returns-in_default
dictionary-returns-in_default t c = entering_close _ _ _ c.entries.invariant (tail-part c.args.text.now c.entries.i) c.next_entry.ensures c.behind-entry.ensures c.in_default.is c.whole_dictionary.ensures

pub dictionary-invariant_of-inner : goal.dictionary-invariant_of-inner
dictionary-invariant_of-inner t c = record { room = room-rest c.args.work.room c.if-levels-eq0.false _ c.split_at_mut-slot.ensures.back_len c.entries.auto.behind }

pub dictionary-returns-in_err-v : goal.dictionary-returns-in_err-v
dictionary-returns-in_err-v t c =
    let gone : c.from_residual.result ≡ Err c.in_err-v.field-0.0 = grind arith in
    rw gone (entering-no _ _ _ c.entries.invariant (tail-part c.args.text.now c.entries.i) c.next_entry.ensures c.behind-entry.ensures c.in-Some.is (tail-part c.args.text.now c.behind-entry.result.used) c.in_err-v.ensures)

pub dictionary-returns-in_err-bind_value : goal.dictionary-returns-in_err-bind_value
dictionary-returns-in_err-bind_value t c =
    let gone : c.from_residual-in_err-bind_value.result ≡ Err c.in_err-bind_value.field-0.0 = grind arith in
    rw gone (entering-over _ _ _ c.entries.invariant (tail-part c.args.text.now c.entries.i) c.next_entry.ensures c.behind-entry.ensures c.in-Some.is (tail-part c.args.text.now c.behind-entry.result.used) c.in_ok-v.ensures c.bind_value.ensures c.in_err-bind_value.was)

pub dictionary-entries-smaller : goal.dictionary-entries-smaller
dictionary-entries-smaller t c = omega (arith, entering-moves _ _ _ c.entries.invariant (tail-part c.args.text.now c.entries.i) c.next_entry.ensures c.behind-entry.ensures c.in-Some.is (tail-part c.args.text.now c.behind-entry.result.used) c.in_ok-v.ensures c.bind_value.ensures c.in_ok-bind_value.was)

pub dictionary-entries-preserved : goal.dictionary-entries-preserved
dictionary-entries-preserved t c = entering-on _ _ _ c.entries.invariant (tail-part c.args.text.now c.entries.i) c.next_entry.ensures c.behind-entry.ensures c.in-Some.is (tail-part c.args.text.now c.behind-entry.result.used) c.in_ok-v.ensures c.bind_value.ensures c.in_ok-bind_value.was

pub value-returns-in_err-v : goal.value-returns-in_err-v
value-returns-in_err-v t c =
    let gone : c.from_residual.result ≡ Err c.in_err-v.field-0.0 = grind arith in
    rw (gone, value_open c.span-i.ensures c.starts_with.ensures _ _ _ c.if-starts_with.true (tail-part c.args.text.now (c.span-i.result + 1))) c.in_err-v.ensures

pub value-returns-then-starts_with : goal.value-returns-then-starts_with
value-returns-then-starts_with t c =
    let tail = tail-part c.args.text.now (c.span-i.result + 1) in
    read-behind (c.starts_with.ensures.there c.if-starts_with.true) (value_open c.span-i.ensures c.starts_with.ensures _ _ _ c.if-starts_with.true tail) tail c.in_ok-v.ensures c.behind.ensures

pub value-simple_value-requires : goal.value-simple_value-requires
value-simple_value-requires t c =
    let tail = tail-part c.args.text.now c.span-i.result in
    (spans-here c.span-i.ensures tail, not-open c.span-i.ensures c.starts_with.ensures c.if-starts_with.false tail)

pub value-returns-in_err-v-2 : goal.value-returns-in_err-v-2
value-returns-in_err-v-2 t c =
    let gone : c.from_residual-in_err-v-2.result ≡ Err c.in_err-v-2.field-0.0 = grind arith in
    rw (gone, value_here c.span-i.ensures (tail-part c.args.text.now c.span-i.result) _ _ _) (c.in_err-v-2.ensures _)

pub value-behind-requires-2 : goal.value-behind-requires-2
value-behind-requires-2 t c = let h = (c.in_ok-v-2.ensures (λ x. (refused 0, x))).inside in omega (arith, c.span-i.ensures.inside, simp (length-take, length-drop) at h)

pub value-returns : goal.value-returns
value-returns t c =
    let tail = tail-part c.args.text.now c.span-i.result in
    read-behind c.span-i.ensures.inside (value_here c.span-i.ensures tail _ _ _) tail (c.in_ok-v-2.ensures _) c.behind-2.ensures
