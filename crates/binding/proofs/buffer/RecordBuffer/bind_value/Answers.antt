use mathlib.Core.Path.{refl, ◌∙◌}
use native.Mathlib.Omega.{arith}
use Rattle.places.specs.Mark.{begins-first}
use Rattle.binding.specs.Buffer.{has-in, no-room, room-bounds, room-opens, binds-found, begins-found, own-last}
use Rattle.binding.proofs.buffer.RecordBuffer.bind_value.Goals as goal

pub returns-in_err-p : goal.returns-in_err-p
returns-in_err-p c = λ v w. no-room _ (has-in _ c.requires.0) _ _ _ c.find_room.ensures c.in_err-p.was refl v w (grind arith)

pub overflow_add-at : goal.overflow_add-at
overflow_add-at c = let o = room-bounds _ (has-in _ c.requires.0) _ _ _ c.find_room.ensures c.in_ok-p.was in
    omega (arith, o.sum, c.args.self.now.small)

pub overflow_add-at-2 : goal.overflow_add-at-2
overflow_add-at-2 c = let o = room-bounds _ (has-in _ c.requires.0) _ _ _ c.find_room.ensures c.in_ok-p.was in
    omega (arith, o.sum, c.args.self.now.small)

pub shift-requires : goal.shift-requires
shift-requires c = let b = c.args.self.now in
    let o = room-bounds b (has-in _ c.requires.0) _ _ _ c.find_room.ensures c.in_ok-p.was in
    (o.inside, b.fits, omega (arith, o.sum, b.room))

pub invariant_of-self : goal.invariant_of-self
invariant_of-self c = let b = c.args.self.now in record { fits = b.fits; room = b.room; small = b.small; place = λ r _ _. begins-first r }

pub invariant_of-self-2 : goal.invariant_of-self-2
invariant_of-self-2 c = let b = c.args.self.now in
    let l = c.shift.auto.buf in
    record { fits = omega (arith, b.fits, l); room = omega (arith, b.room, l); small = b.small; place = λ r _ _. begins-first r }

pub put_opening-requires : goal.put_opening-requires
put_opening-requires c = room-opens _ (has-in _ c.requires.0) _ _ _ c.find_room.ensures c.in_ok-p.was (c.store.auto.out ∙ c.shift.auto.buf) c.requires.1.is refl

pub invariant_of-self-3 : goal.invariant_of-self-3
invariant_of-self-3 c = let b = c.args.self.now in
    let l = c.store.auto.out ∙ c.shift.auto.buf in
    record { fits = omega (arith, b.fits, l); room = omega (arith, b.room, l); small = b.small; place = λ r _ _. begins-first r }

pub invariant_of-self-4 : goal.invariant_of-self-4
invariant_of-self-4 c = let b = c.args.self.now in
    let h = has-in _ c.requires.0 in
    let w = c.requires.1.is in
    let l = c.put_opening.auto.buf ∙ c.store.auto.out ∙ c.shift.auto.buf in
    let o = own-last _ h _ _ _ c.find_room.ensures c.in_ok-p.was _ refl _ w c.shift.ensures c.store.ensures in
    record {
      fits = omega (arith, (room-bounds _ h _ _ _ c.find_room.ensures c.in_ok-p.was).total, b.room, l);
      room = omega (arith, b.room, l);
      small = b.small;
      place = λ q e _. begins-found _ h _ _ _ c.find_room.ensures c.in_ok-p.was _ refl _ w o c.put_opening.ensures q e;
    }

pub returns : goal.returns
returns c = λ v w.
    let h = has-in _ c.requires.0 in
    let l = c.put_opening.auto.buf ∙ c.store.auto.out ∙ c.shift.auto.buf in
    let o = own-last _ h _ _ _ c.find_room.ensures c.in_ok-p.was _ refl v w c.shift.ensures c.store.ensures in
    binds-found _ h _ _ _ c.find_room.ensures c.in_ok-p.was _ refl v w o c.put_opening.ensures _ (record { same = refl; long = l; limit = refl }) refl refl
