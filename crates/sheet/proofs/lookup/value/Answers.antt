use Rattle.sheet.specs.Find.{tells_nothing, tells-text, tells-dictionary, body-holding}
use Rattle.sheet.proofs.lookup.value.Goals as goal

pub returns-in-Nothing : goal.returns-in-Nothing
returns-in-Nothing c = λ v d. tells_nothing v d c.in-Nothing.is

pub returns-in-Text : goal.returns-in-Text
returns-in-Text c = λ v d. tells-text v d c.in-Text.is

pub returns-in-Dictionary : goal.returns-in-Dictionary
returns-in-Dictionary c = λ v d. tells-dictionary v d c.in-Dictionary.is (c.skip.ensures _ _ (body-holding d))
