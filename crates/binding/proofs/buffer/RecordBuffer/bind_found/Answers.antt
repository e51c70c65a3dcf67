use mathlib.Core.Path.{refl, ◌∙◌}
use native.Mathlib.Omega.{arith}
use Rattle.places.specs.Mark.{begins-first}
use Rattle.binding.specs.Buffer.{held, binds-as, from-first, no-room, room-bounds, room-opens, binds-found, own-part}
use Rattle.binding.proofs.buffer.RecordBuffer.bind_found.Goals as goal

pub invariant_of-self : goal.invariant_of-self
invariant_of-self c = let b = c.args.self.now in record { fits = b.fits; room = b.room; small = b.small; place = λ r _ _. begins-first r }

pub find_room-requires : goal.find_room-requires
find_room-requires c = from-first _ c.requires.0 refl

pub returns-in_err-p : goal.returns-in_err-p
returns-in_err-p c = λ v g.
    let s = c.source_of-o.ensures _ v g in
    binds-as c.args.self.now _ refl refl refl (no-room _ c.requires.0 _ _ _ c.find_room.ensures c.in_err-p.was (own-part c.args.self.now _ _ s.on s.inside).0 v s.is (grind arith))

pub overflow_add-p : goal.overflow_add-p
overflow_add-p c = let o = room-bounds _ c.requires.0 _ _ _ c.find_room.ensures c.in_ok-p.was in
    omega (arith, o.sum, c.args.self.now.small)

pub arrange-requires : goal.arrange-requires
arrange-requires c = let s = c.source_of-o.ensures _ _ c.requires.1.tells in
    let b = c.args.self.now in
    let o = room-bounds _ c.requires.0 _ _ _ c.find_room.ensures c.in_ok-p.was in
    record { on = s.on; own = omega (arith, s.inside, held b); tail = o.inside; inside = b.fits; room = omega (arith, o.sum, b.room) }

pub invariant_of-self-2 : goal.invariant_of-self-2
invariant_of-self-2 c = let b = c.args.self.now in
    let l = c.arrange.auto.buf in
    record { fits = omega (arith, b.fits, l); room = omega (arith, b.room, l); small = b.small; place = λ r _ _. begins-first r }

pub put_opening-requires : goal.put_opening-requires
put_opening-requires c = let s = c.source_of-o.ensures _ _ c.requires.1.tells in
    room-opens _ c.requires.0 _ _ _ c.find_room.ensures c.in_ok-p.was c.arrange.auto.buf s.is (own-part c.args.self.now _ _ s.on s.inside).0

pub invariant_of-self-3 : goal.invariant_of-self-3
invariant_of-self-3 c = let b = c.args.self.now in
    let l = c.put_opening.auto.buf ∙ c.arrange.auto.buf in
    record {
      fits = omega (arith, (room-bounds _ c.requires.0 _ _ _ c.find_room.ensures c.in_ok-p.was).total, b.room, l);
      room = omega (arith, b.room, l);
      small = b.small;
      place = λ q _ _. begins-first q;
    }

pub returns : goal.returns
returns c = λ v g.
    let s = c.source_of-o.ensures _ v g in
    let l = c.put_opening.auto.buf ∙ c.arrange.auto.buf in
    let o = own-part c.args.self.now _ _ s.on s.inside in
    binds-as c.args.self.now _ refl refl refl (binds-found _ c.requires.0 _ _ _ c.find_room.ensures c.in_ok-p.was _ o.0 v s.is (rw o.1 c.arrange.ensures) c.put_opening.ensures _ (record { same = refl; long = l; limit = refl }) refl refl)
