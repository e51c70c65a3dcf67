use Rattle.std.proofs.Common.{rules}
use Rattle.marks.specs.Marks.{mark-last, mark-found, mark-again}
use Rattle.marks.proofs.next_mark.Goals as goal

pub returns-then-text-at : goal.returns-then-text-at
returns-then-text-at c = mark-last c.loop-from.invariant c.find-at.ensures (search rules)

pub returns-in-Some : goal.returns-in-Some
returns-in-Some c = mark-found c.loop-from.invariant c.find-at.ensures c.mark_at-mark.ensures (search rules) c.in-Some.is

pub loop-from-preserved : goal.loop-from-preserved
loop-from-preserved c = mark-again c.loop-from.invariant c.find-at.ensures c.mark_at-mark.ensures (search rules) c.in-None.is
