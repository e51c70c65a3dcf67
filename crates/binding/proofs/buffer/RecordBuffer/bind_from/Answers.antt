use mathlib.Core.Path.{refl}
use Rattle.places.specs.Mark.{begins-first}
use Rattle.binding.specs.Buffer.{from-first, binds-as}
use Rattle.binding.proofs.buffer.RecordBuffer.bind_from.Goals as goal

pub invariant_of-self : goal.invariant_of-self
invariant_of-self c = let b = c.args.self.now in record { fits = b.fits; room = b.room; small = b.small; place = λ r _ _. begins-first r }

pub bind_value-requires : goal.bind_value-requires
bind_value-requires c = let s = c.source_of-o.ensures _ _ c.requires.1.tells in (from-first _ c.requires.0 refl, record { v = c.requires.1.v; is = s.is })

pub returns : goal.returns
returns c = λ v g. binds-as c.args.self.now _ refl refl refl (c.bind_value.ensures v (c.source_of-o.ensures _ v g).is)
