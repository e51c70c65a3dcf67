use Rattle.paths.specs.Paths.{parent-found}
use Rattle.paths.proofs.parent.Goals as goal

pub returns : goal.returns
returns c = (parent-found _ _ c.memrchr.ensures c.unwrap_or.ensures).text
