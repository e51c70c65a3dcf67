use mathlib.Core.Path.{sym, ◌∙◌}
use Rattle.sheet_layout.specs.Check.{enters-broken, enters-in, enters-not}
use Rattle.sheet_layout.proofs.entry.Goals as goal

pub returns-in_err-o : goal.returns-in_err-o
returns-in_err-o c = rw c.from_residual.ensures (enters-broken _ _ _ _ c.in_err-o.ensures)

pub returns-then-not-keeps_rules : goal.returns-then-not-keeps_rules
returns-then-not-keeps_rules c = enters-not _ _ _ _ _ c.in_ok-o.ensures (sym c.keeps_rules.ensures ∙ c.if-not-keeps_rules.true)

pub returns : goal.returns
returns c = enters-in _ _ _ _ _ c.in_ok-o.ensures (sym c.keeps_rules.ensures ∙ c.if-not-keeps_rules.false)
