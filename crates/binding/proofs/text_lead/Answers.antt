use mathlib.Core.Path.{sym, ◌∙◌}
use Rattle.binding.specs.Write.{text-empty, text-full}
use Rattle.binding.proofs.text_lead.Goals as goal

pub returns-then-len-eq0 : goal.returns-then-len-eq0
returns-then-len-eq0 c = λ t e. text-empty t (e ∙ c.if-len-eq0.true)

pub returns : goal.returns
returns c = λ t e. rw (← e) (text-full t (λ z. c.if-len-eq0.false (sym e ∙ z)))
