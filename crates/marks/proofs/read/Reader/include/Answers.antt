use Rattle.marks.specs.Read.{include_none, include_some}
use Rattle.marks.proofs.read.Reader.include.Goals as goal
use Rattle.marks.proofs.read.Reader.include.Goals.{in-Some, in-None}

pub returns-clause-reads : goal.returns-clause-reads
returns-clause-reads c = let f = rw c.self.invariant.0 at c.next.ensures.finds in let st = rw (← c.self.view_is) at c.requires in rw (← c.self.view_is) (elim c.match-next.branch [
  | in-Some w ↦ rw w.result-is (include_some st f w.in-Some.is w.trim.ensures)
  | in-None w ↦ rw w.result-is (include_none st f w.in-None.is w.copied.ensures)
])
