use native.Mathlib.Omega.{arith}
use Rattle.marks.specs.Marks.{mark-stands, mark-behind}
use Rattle.marks.specs.Read.{read-commented, read_taken}
use Rattle.marks.proofs.read.Reader.read.Goals as goal

pub copied-requires : goal.copied-requires
copied-requires c = let r = rw (← c.self.view_is) at c.requires in omega (arith, c.len.ensures, (mark-stands _ _ r.1 r.2).inside)

pub returns-then-commented-clause-reads : goal.returns-then-commented-clause-reads
returns-then-commented-clause-reads c = let r = rw (← c.self.view_is) at c.requires in rw (← c.self.view_is) (read-commented _ _ _ c.commented.ensures r.1 r.2 c.len.ensures c.if-commented.true c.copied.ensures)

pub include-requires : goal.include-requires
include-requires c = mark-behind _ _ c.requires.1 c.requires.2 c.len.ensures c.in-Include.is

pub source_include-requires : goal.source_include-requires
source_include-requires c = mark-behind _ _ c.requires.1 c.requires.2 c.len.ensures c.in-SourceInclude.is

pub returns-in-Include-clause-reads : goal.returns-in-Include-clause-reads
returns-in-Include-clause-reads c = read_taken _ _ _ (rw c.self.view_is at c.commented.ensures) c.requires.1 c.requires.2 c.len.ensures c.if-commented.false (rw c.in-Include.is c.include.ensures.reads)

pub returns-in-SourceInclude-clause-reads : goal.returns-in-SourceInclude-clause-reads
returns-in-SourceInclude-clause-reads c = read_taken _ _ _ (rw c.self.view_is at c.commented.ensures) c.requires.1 c.requires.2 c.len.ensures c.if-commented.false (rw c.in-SourceInclude.is c.source_include.ensures.reads)
