use Rattle.std.proofs.Common.{rules}
use Rattle.bundle.specs.Open.{rising-start, rising-found, rising-top, rising-on}
use Rattle.bundle.proofs.Bundle.project_root.Goals as goal

pub loop-upward-init : goal.loop-upward-init
loop-upward-init c = rising-start _ _

pub returns-then-has_citation : goal.returns-then-has_citation
returns-then-has_citation c = rising-found c.loop-upward.invariant c.has_citation.ensures c.if-has_citation.true

pub returns-then-is_empty : goal.returns-then-is_empty
returns-then-is_empty c = rising-top c.loop-upward.invariant c.has_citation.ensures c.if-has_citation.false (search rules)

pub loop-upward-smaller : goal.loop-upward-smaller
loop-upward-smaller c = (rising-on c.loop-upward.invariant c.has_citation.ensures c.if-has_citation.false (search rules) c.parent-upward.ensures).0

pub loop-upward-preserved : goal.loop-upward-preserved
loop-upward-preserved c = (rising-on c.loop-upward.invariant c.has_citation.ensures c.if-has_citation.false (search rules) c.parent-upward.ensures).1
