use Rattle.builder.specs.Lookups.{lookup-cleared}
use Rattle.builder.proofs.resolve.Goals as goal

pub returns : goal.returns
returns c = lookup-cleared c.resolve.result _ c.resolve.ensures c.from-resolved.ensures c.clear_from.ensures
