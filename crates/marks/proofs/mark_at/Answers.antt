use Rattle.marks.specs.Marks.{at_include, at_source, at_none}
use Rattle.marks.proofs.mark_at.Goals as goal

pub returns-then-stands : goal.returns-then-stands
returns-then-stands c = at_include c.stands.ensures c.if-stands.true

pub returns-then-stands-2 : goal.returns-then-stands-2
returns-then-stands-2 c = at_source c.stands.ensures c.if-stands.false c.stands-2.ensures c.if-stands-2.true

pub returns : goal.returns
returns c = at_none c.stands.ensures c.if-stands.false c.stands-2.ensures c.if-stands-2.false
