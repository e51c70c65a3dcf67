use mathlib.Core.Path.{refl, ◌∙◌, ap}
use Rattle.std.specs.Prelude.{Some}
use Rattle.sheet.specs.Find.{found_kind}
use Rattle.builder.proofs.kind.Goals as goal

pub returns-in-None : goal.returns-in-None
unfolding found_kind
returns-in-None c = rw c.in-None.is refl

pub returns-in-Some-Nothing : goal.returns-in-Some-Nothing
unfolding found_kind
returns-in-Some-Nothing c = rw (c.in-Some-Nothing.is ∙ ap Some (rw c.in-Some-Nothing.is at c.in-Some-Nothing.field-0-is)) refl

pub returns-in-Some-Text : goal.returns-in-Some-Text
unfolding found_kind
returns-in-Some-Text c = rw (c.in-Some-Text.is ∙ ap Some (rw c.in-Some-Text.is at c.in-Some-Text.field-0-is)) refl

pub returns-in-Some-Dictionary : goal.returns-in-Some-Dictionary
unfolding found_kind
returns-in-Some-Dictionary c = rw (c.in-Some-Dictionary.is ∙ ap Some (rw c.in-Some-Dictionary.is at c.in-Some-Dictionary.field-0-is)) refl
