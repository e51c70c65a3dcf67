use Rattle.sheet.specs.Parts.{part-all}
use Rattle.sheet.proofs.lookup.Walk.all.Goals as goal

pub returns : goal.returns
returns c = λ r p. c.over.ensures r (part-all p)
