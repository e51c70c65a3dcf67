use Rattle.std.proofs.Common.{◌∙◌}
use Rattle.sheet.specs.Count.{drains-count}
use Rattle.sheet.proofs.lookup.count.Goals as goal

pub returns : goal.returns
returns c = λ r p. let n = c.count.ensures.ran in n.2 ∙ drains-count (c.all.ensures r p) n.0 n.1
