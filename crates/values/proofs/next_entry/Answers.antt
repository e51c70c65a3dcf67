use Rattle.std.proofs.Common.{refl}
use Rattle.values.specs.Dictionary.{entry_none, entry-some}
use Rattle.values.proofs.next_entry.Goals as goal

pub returns-then-not-sees : goal.returns-then-not-sees
returns-then-not-sees c = entry_none c.span-from.ensures c.sees.ensures c.if-not-sees.true c.skip.ensures

pub returns : goal.returns
returns c = entry-some c.span-from.ensures c.sees.ensures c.if-not-sees.false c.span-to.ensures c.span-used.ensures refl
