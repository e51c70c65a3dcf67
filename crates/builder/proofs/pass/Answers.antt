use Rattle.builder.specs.Runs.{pass-cleared}
use Rattle.builder.proofs.pass.Goals as goal

pub returns : goal.returns
returns c = pass-cleared _ _ c.pass.ensures c.from-passed.ensures c.clear_from.ensures c.clear_from-2.ensures c.clear_from-3.ensures
