use Rattle.bundle_entries.specs.Entries.{field_off, field_on}
use Rattle.bundle_entries.proofs.content.Goals as goal

pub returns-then-not-has : goal.returns-then-not-has
returns-then-not-has c = field_off _ _ _ c.has.ensures c.if-not-has.true

pub returns : goal.returns
returns c = field_on c.args.b.now c.args.at _ c.has.ensures c.if-not-has.false _ c.long_field.ensures
