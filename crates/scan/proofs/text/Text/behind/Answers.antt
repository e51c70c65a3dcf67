use Rattle.rules.specs.Bytes.{ascii}
use Rattle.scan.specs.Stretches.{all-part}
use Rattle.scan.proofs.text.Text.behind.Goals as goal

pub invariant_of-result : goal.invariant_of-result
invariant_of-result c = all-part ascii _ _ _ c.self.invariant
