use Rattle.scan.specs.Stretches.{spans-but}
use Rattle.marks.specs.Read.{behind-line, behind_paren}
use Rattle.marks.proofs.read.Reader.behind_source.Goals as goal

pub returns-then-to-text-clause-ends : goal.returns-then-to-text-clause-ends
returns-then-to-text-clause-ends c = rw (← c.self.view_is) (behind-line (spans-but ")" c.find-paren.ensures) c.skip-from.ensures (spans-but "\n" (rw c.self.invariant.2 at c.next-to.ensures.finds)) c.if-to-text.true)

pub returns-clause-ends : goal.returns-clause-ends
returns-clause-ends c = rw (← c.self.view_is) (behind_paren (spans-but ")" c.find-paren.ensures) c.skip-from.ensures (spans-but "\n" (rw c.self.invariant.2 at c.next-to.ensures.finds)) c.if-to-text.false)
