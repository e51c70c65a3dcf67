use Rattle.std.proofs.Common.{rules}
use Rattle.scan.specs.Laws.{starts-short, matching-no, matching-on, matching-end}
use Rattle.scan.proofs.starts_with.Goals as goal

pub returns-then-text-at : goal.returns-then-text-at
returns-then-text-at c = starts-short _ _ _ (search rules) (search rules)

pub returns-then-mark-i : goal.returns-then-mark-i
returns-then-mark-i c = matching-no _ _ _ _ c.loop-i.invariant (search rules) (search rules) c.if-mark-i.true

pub loop-i-preserved : goal.loop-i-preserved
loop-i-preserved c = matching-on _ _ _ _ c.loop-i.invariant (search rules) (search rules) c.if-mark-i.false

pub returns : goal.returns
returns c = matching-end _ _ _ _ c.loop-i.invariant (search rules)
