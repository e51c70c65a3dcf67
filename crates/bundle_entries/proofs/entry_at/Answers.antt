use Rattle.std.proofs.Common.{rules}
use Rattle.bundle_entries.specs.Entries.{entry-end, entry-no-map, entry_map}
use Rattle.bundle_entries.proofs.entry_at.Goals as goal

pub returns-then-b-at : goal.returns-then-b-at
returns-then-b-at c = entry-end c.args.b.now c.args.at (search rules)

pub returns-then-not-allowed : goal.returns-then-not-allowed
returns-then-not-allowed c = entry-no-map c.args.b.now c.args.at (search rules) c.allowed.ensures c.if-not-allowed.true

pub returns : goal.returns
returns c = entry_map c.args.b.now c.args.at (search rules) c.allowed.ensures c.if-not-allowed.false _ c.fields.ensures
