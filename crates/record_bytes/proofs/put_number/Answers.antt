use mathlib.Core.Path.{refl, ◌∙◌}
use native.Mathlib.Numerals.{add-one}
use Rattle.rules.specs.Sheet.{word16_bytes}
use Rattle.record_bytes.specs.Opening.{low_first}
use Rattle.record_bytes.proofs.put_number.Goals as goal

pub returns : goal.returns
unfolding word16_bytes
returns c = rw (add-one, c.to_le_bytes.ensures ∙ low_first c.args.k c.requires.0) refl
