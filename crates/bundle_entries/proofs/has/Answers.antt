use Rattle.bundle_entries.specs.Entries.{shifted}
use Rattle.bundle_entries.proofs.has.Goals as goal

pub returns : goal.returns
returns c = shifted c.args.field c.args.map
