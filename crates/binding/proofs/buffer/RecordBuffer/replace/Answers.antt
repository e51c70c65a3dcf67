use native.Mathlib.Omega.{arith}
use Rattle.buffers.specs.Laws.{stored-first}
use Rattle.places.specs.Mark.{begins-first}
use Rattle.binding.proofs.buffer.RecordBuffer.replace.Goals as goal

pub invariant_of-self : goal.invariant_of-self
invariant_of-self c = let b = c.args.self.now in record { fits = b.fits; room = b.room; small = b.small; place = λ r _ _. begins-first r }

pub invariant_of-self-2 : goal.invariant_of-self-2
invariant_of-self-2 c = let b = c.args.self.now in
    let l = c.store.auto.out in
    record { fits = omega (arith, b.room, c.requires, l); room = omega (arith, b.room, l); small = b.small; place = λ r _ _. begins-first r }

pub returns-clause-bytes : goal.returns-clause-bytes
returns-clause-bytes c = rw c.store.ensures (stored-first _ _ (omega (arith, c.args.self.now.room)))
