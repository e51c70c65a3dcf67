use Rattle.sheet.specs.Heads.{map_allowed}
use Rattle.sheet.proofs.head.allowed.Goals as goal

pub returns : goal.returns
returns c = map_allowed _ _ c.requires
