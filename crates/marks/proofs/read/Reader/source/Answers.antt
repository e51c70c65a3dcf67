use Rattle.std.proofs.Common.{refl}
use Rattle.marks.specs.Read.{source-language, source_none}
use Rattle.marks.proofs.read.Reader.source.Goals as goal
use Rattle.marks.proofs.read.Reader.source.Goals.{in-Some, in-None}

pub returns-clause-reads : goal.returns-clause-reads
returns-clause-reads c = let f = rw (c.self.invariant.1, c.self.view_is, c.behind_source-end.ensures.same) at c.next.ensures.finds in elim c.match-next.branch [
  | in-Some w ↦ rw w.result-is (source-language c.requires f c.behind_source-end.ensures.ends w.in-Some.is w.trim.ensures)
  | in-None w ↦ rw w.result-is (source_none c.requires f c.behind_source-end.ensures.ends w.in-None.is w.trim-in-None.ensures refl)
]
