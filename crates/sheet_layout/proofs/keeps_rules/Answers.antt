use mathlib.Core.Path.{sym, ◌∙◌}
use Rattle.std.proofs.lemmas.Cmp.{is_lt_index}
use Rattle.sheet_layout.specs.Check.{suits-behind}
use Rattle.sheet_layout.proofs.keeps_rules.Goals as goal

pub returns : goal.returns
returns c = c.eq.ensures ∙ sym (is_lt_index _) ∙ suits-behind _ _ _ (sym c.all_of.ensures ∙ c.if-not-all_of.false) (sym c.is_ascii.ensures ∙ c.if-not-is_ascii.false) c.in-Some.is c.order.ensures
