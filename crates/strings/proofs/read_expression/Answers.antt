use Rattle.std.proofs.Common.{rules, refl}
use Rattle.strings.proofs.read_expression.Goals as goal

pub returns : goal.returns
returns g c = let r = c.expression.ensures in let h = r.taken _ refl in let k = h.2 in let n = h.1 in record { ends = r.ends (λ d. d) _; text = search rules }
