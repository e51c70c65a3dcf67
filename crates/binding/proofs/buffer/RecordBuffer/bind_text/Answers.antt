use mathlib.Core.Path.{refl}
use Rattle.rules.specs.Sheet.{text}
use Rattle.places.specs.Mark.{begins-first}
use Rattle.binding.specs.Buffer.{from-first, binds-as}
use Rattle.binding.proofs.buffer.RecordBuffer.bind_text.Goals as goal

pub invariant_of-self : goal.invariant_of-self
invariant_of-self c = let b = c.args.self.now in record { fits = b.fits; room = b.room; small = b.small; place = λ r _ _. begins-first r }

pub bind_value-requires : goal.bind_value-requires
bind_value-requires c = (from-first _ c.requires refl, record { v = text c.args.content.now; is = c.text_lead.ensures c.args.content.now refl })

pub returns : goal.returns
returns c = binds-as c.args.self.now _ refl refl refl (c.bind_value.ensures (text c.args.content.now) (c.text_lead.ensures c.args.content.now refl))
