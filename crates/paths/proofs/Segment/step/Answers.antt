use mathlib.Core.Path.{sym, ◌∙◌}
use Rattle.paths.specs.Paths.{step-slash, step-no, step_dot, step-name}
use Rattle.paths.proofs.Segment.step.Goals as goal

pub returns-then-x-eq47 : goal.returns-then-x-eq47
returns-then-x-eq47 c = c.ended.ensures ∙ step-slash _ _ c.if-x-eq47.true

pub returns-then-not-member : goal.returns-then-not-member
returns-then-not-member c = step-no _ _ c.if-x-eq47.false (sym c.member.ensures ∙ c.if-not-member.true)

pub returns-then-dot : goal.returns-then-dot
returns-then-dot c = c.dotted.ensures ∙ step_dot _ _ c.if-x-eq47.false (sym c.member.ensures ∙ c.if-not-member.false) c.if-dot.true

pub returns-else-dot : goal.returns-else-dot
returns-else-dot c = c.named.ensures ∙ step-name _ _ c.if-x-eq47.false (sym c.member.ensures ∙ c.if-not-member.false) c.if-dot.false
