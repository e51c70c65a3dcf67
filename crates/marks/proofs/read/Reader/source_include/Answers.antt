use Rattle.scan.specs.Laws.{sees-the}
use Rattle.marks.specs.Read.{source-plain, source-none, has-path}
use Rattle.marks.proofs.read.Reader.source_include.Goals as goal

pub returns-then-not-at-clause-reads : goal.returns-then-not-at-clause-reads
returns-then-not-at-clause-reads c = let st = rw (← c.self.view_is) at c.requires in rw (← c.self.view_is) (source-plain st c.span-i.ensures (sees-the "(" c.at.ensures c.if-not-at.true) c.copied.ensures)

pub source-requires : goal.source-requires
source-requires c = let st = rw (← c.self.view_is) at c.requires in has-path st c.span-i.ensures (sees-the "(" c.at.ensures c.if-not-at.false) (rw c.self.invariant.0 at c.next.ensures.finds) c.in-Some.is

pub returns-in-None-clause-reads : goal.returns-in-None-clause-reads
returns-in-None-clause-reads c = let st = rw (← c.self.view_is) at c.requires in rw (← c.self.view_is) (source-none st c.span-i.ensures (sees-the "(" c.at.ensures c.if-not-at.false) (rw c.self.invariant.0 at c.next.ensures.finds) c.in-None.is c.copied-in-None.ensures)
