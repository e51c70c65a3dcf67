use mathlib.Core.Path.{◌∙◌, ap}
use Rattle.std.specs.Int.Bits.{bit_or}
use Rattle.record_bytes.specs.Opening.{map-plain, map-named}
use Rattle.record_bytes.proofs.map_of.Goals as goal

pub returns-then-name-eq0 : goal.returns-then-name-eq0
returns-then-name-eq0 c = c.bit-bit.ensures ∙ map-plain _ _ c.if-name-eq0.true

pub returns-else-name-eq0 : goal.returns-else-name-eq0
returns-else-name-eq0 c = ap (λ z. bit_or z 1) c.bit-bit.ensures ∙ map-named _ _ c.if-name-eq0.false
