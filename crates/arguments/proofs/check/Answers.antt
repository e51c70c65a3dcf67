use mathlib.Core.Path.{sym, ◌∙◌}
use Rattle.arguments.specs.Given.{judges-two, judges-three, judges-four, judges-six, judges_nine}
use Rattle.arguments.proofs.check.Goals as goal

pub returns-in_default : goal.returns-in_default
returns-in_default c = judges-two _ _ _ _ _ c.in_default.ensures

pub returns-in_default-check : goal.returns-in_default-check
returns-in_default-check c = judges-three _ _ _ _ _ c.in-Some.ensures.layout c.in_default-check.ensures

pub returns-then-not-is_folder : goal.returns-then-not-is_folder
returns-then-not-is_folder c = judges-four _ _ _ _ _ c.in-Some.ensures.layout c.in-Some-check.ensures.1 (sym c.is_folder.ensures ∙ c.if-not-is_folder.true)

pub returns-then-not-is_ascii : goal.returns-then-not-is_ascii
returns-then-not-is_ascii c = judges-six _ _ _ _ _ c.in-Some.ensures.layout c.in-Some-check.ensures.1 (sym c.is_folder.ensures ∙ c.if-not-is_folder.false) (sym c.is_ascii.ensures ∙ c.if-not-is_ascii.true)

pub returns-then-over : goal.returns-then-over
returns-then-over c = judges_nine _ _ _ _ _ c.in-Some.ensures.layout c.in-Some-check.ensures.1 (sym c.is_folder.ensures ∙ c.if-not-is_folder.false) (sym c.is_ascii.ensures ∙ c.if-not-is_ascii.false) c.if-over.true
