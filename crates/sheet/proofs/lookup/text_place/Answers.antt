use mathlib.Core.Path.{sym, ◌∙◌}
use native.Mathlib.Omega.{arith}
use Rattle.sheet.specs.Find.{places-text, places-none}
use Rattle.sheet.proofs.lookup.text_place.Goals as goal

pub returns-in-Text : goal.returns-in-Text
returns-in-Text c = places-text _ (sym c.unwrap_or.ensures ∙ c.in-Text.is)

pub returns-in-Nothing : goal.returns-in-Nothing
returns-in-Nothing c = places-none _ (λ p e. grind (arith, c.in-Nothing.is, c.unwrap_or.ensures, e))

pub returns-in-Dictionary : goal.returns-in-Dictionary
returns-in-Dictionary c = places-none _ (λ p e. grind (arith, c.in-Dictionary.is, c.unwrap_or.ensures, e))
