use Rattle.values.specs.Dictionary.{value-quote, value_none, value-name, value-other}
use Rattle.values.proofs.simple_value.Goals as goal

pub returns-then-at : goal.returns-then-at
returns-then-at c = λ inner. rw (value-quote _ _ inner c.requires.0 c.requires.1 c.at.ensures c.if-at.true) (c.text_value.ensures)

pub returns-then-starts_with : goal.returns-then-starts_with
returns-then-starts_with c = λ inner. value_none _ _ inner c.requires.0 c.requires.1 c.at.ensures c.if-at.false c.starts_with.ensures c.if-starts_with.true c.none_value.ensures

pub returns-then-sees : goal.returns-then-sees
returns-then-sees c = λ inner. rw (value-name _ _ inner c.requires.0 c.requires.1 c.at.ensures c.if-at.false c.starts_with.ensures c.if-starts_with.false c.sees.ensures c.if-sees.true) (c.text_value-then-sees.ensures)

pub returns : goal.returns
returns c = λ inner. value-other _ _ inner c.requires.0 c.requires.1 c.at.ensures c.if-at.false c.starts_with.ensures c.if-starts_with.false c.sees.ensures c.if-sees.false c.find.ensures c.none_value-2.ensures
