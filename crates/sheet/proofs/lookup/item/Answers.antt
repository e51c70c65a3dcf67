use Rattle.sheet.specs.Items.{is_there, told}
use Rattle.sheet.proofs.lookup.item.Goals as goal

pub unwrap-requires : goal.unwrap-requires
unwrap-requires c = is_there _ _ _ c.requires.part _ c.read.ensures

pub returns : goal.returns
returns c = λ n v r j p. told n v r p _ c.read.ensures c.unwrap.ensures
