use Rattle.std.proofs.Common.{rules, refl}
use Rattle.strings.specs.Written.{puts-all}
use Rattle.strings.proofs.expression.Goals as goal

pub returns : goal.returns
returns c = let r = c.read_expression-used.ensures in let n = r.text.same in record { ends = r.ends; puts = puts-all r.text refl (search rules) }
