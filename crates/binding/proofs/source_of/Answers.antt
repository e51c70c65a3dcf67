use mathlib.Core.Path.{sym, ◌∙◌}
use Rattle.binding.specs.Write.{source-none, source-text, source-dictionary}
use Rattle.binding.proofs.source_of.Goals as goal

pub returns-in-Nothing : goal.returns-in-Nothing
returns-in-Nothing c = λ s v g. source-none s v c.in-Nothing.is g

pub returns-in-Text : goal.returns-in-Text
returns-in-Text c = λ s v g. source-text s v g c.in-Text.is (λ t e. c.text_lead.ensures t (e ∙ sym c.saturating_sub.ensures))

pub returns-in-Dictionary : goal.returns-in-Dictionary
returns-in-Dictionary c = λ s v g. source-dictionary s v g c.in-Dictionary.is
