use mathlib.Core.Path.{refl}
use native.Mathlib.Omega.{arith}
use Rattle.binding.specs.Buffer.{has-mark, name-over, own-over, total-over, tail-inside, total-small, fits-in, no-plan}
use Rattle.binding.proofs.buffer.RecordBuffer.find_room.Goals as goal

pub returns-in_err-within : goal.returns-in_err-within
returns-in_err-within c = no-plan c.args.self.now _ _ _ c.in_err-within.ensures (name-over c.args.self.now _ _ _ c.len-long.ensures) (grind arith)

pub returns-in_err-within-2 : goal.returns-in_err-within-2
returns-in_err-within-2 c = no-plan c.args.self.now _ _ _ c.in_err-within-2.ensures (own-over c.args.self.now _ _ _) (grind arith)

pub find_place-place-requires : goal.find_place-place-requires
find_place-place-requires c = rw c.records-s.ensures (has-mark c.args.self.now c.requires)

pub overflow_add-total : goal.overflow_add-total
overflow_add-total c = omega (arith, total-small c.args.self.now _ _ _ c.requires c.records-s.ensures c.len-long.ensures c.find_place-place.ensures c.opening_len-head.ensures refl c.in_ok-within.ensures c.in_ok-within-2.ensures)

pub overflow_add-total-2 : goal.overflow_add-total-2
overflow_add-total-2 c = omega (arith, total-small c.args.self.now _ _ _ c.requires c.records-s.ensures c.len-long.ensures c.find_place-place.ensures c.opening_len-head.ensures refl c.in_ok-within.ensures c.in_ok-within-2.ensures)

pub overflow_sub-total : goal.overflow_sub-total
overflow_sub-total c = let t = tail-inside c.args.self.now _ _ c.args.len c.requires c.records-s.ensures c.len-long.ensures c.find_place-place.ensures c.opening_len-head.ensures refl in
    omega (arith, t.0, t.1)

pub overflow_add-total-3 : goal.overflow_add-total-3
overflow_add-total-3 c = omega (arith, total-small c.args.self.now _ _ _ c.requires c.records-s.ensures c.len-long.ensures c.find_place-place.ensures c.opening_len-head.ensures refl c.in_ok-within.ensures c.in_ok-within-2.ensures)

pub returns-in_err-within-3 : goal.returns-in_err-within-3
returns-in_err-within-3 c = no-plan c.args.self.now _ _ _ c.in_err-within-3.ensures (total-over c.args.self.now _ _ _ c.requires c.records-s.ensures c.len-long.ensures c.find_place-place.ensures c.opening_len-head.ensures refl) (grind arith)

pub returns : goal.returns
returns c = fits-in c.args.self.now _ _ _ c.requires c.records-s.ensures c.len-long.ensures c.find_place-place.ensures c.opening_len-head.ensures refl c.in_ok-within-3.ensures c.in_ok-within.ensures c.in_ok-within-2.ensures
