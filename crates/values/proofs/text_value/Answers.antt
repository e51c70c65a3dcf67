use Rattle.std.proofs.Common.{◌≡◌, Err, arith, refl, sym, ◌∙◌}
use Rattle.values.specs.Slots.{own-long}
use Rattle.values.specs.Values.{text-refused, text-never, text-put}
use Rattle.values.proofs.text_value.Goals as goal

pub slice_bounds-new-end : goal.slice_bounds-new-end
slice_bounds-new-end c = c.own_room-room.ensures ∙ sym (own-long c.args.work.room c.own_room-room.ensures)

pub returns-in_err-read : goal.returns-in_err-read
returns-in_err-read c =
    let gone : c.from_residual.result ≡ Err c.in_err-read.field-0.0 = grind arith in
    rw gone (text-refused _ _ _ (own-long c.args.work.room c.own_room-room.ensures) c.new-w.ensures c.expression-read.ensures c.in_err-read.was)

pub returns-then-limit-eq0 : goal.returns-then-limit-eq0
returns-then-limit-eq0 c = text-never _ _ _ c.if-limit-eq0.true

pub returns : goal.returns
returns c = text-put _ _ _ (own-long c.args.work.room c.own_room-room.ensures) c.new-w.ensures c.expression-read.ensures c.in_ok-read.was c.if-limit-eq0.false refl c.text-own.ensures c.text_lead-lead.ensures
