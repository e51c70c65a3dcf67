use Rattle.rules.specs.Files.{content_of}
use Rattle.bundle.specs.Find.{file_at}
use Rattle.bundle.specs.Open.{fetch-path, fetch-found}
use Rattle.bundle.proofs.Bundle.fetch.Goals as goal

pub returns-then-not-is_path-clause-answers : goal.returns-then-not-is_path-clause-answers
returns-then-not-is_path-clause-answers c = fetch-path _ _ c.is_path.ensures c.if-not-is_path.true

pub returns-in-Absent-clause-answers : goal.returns-in-Absent-clause-answers
unfolding content_of file_at
returns-in-Absent-clause-answers c = fetch-found _ _ c.is_path.ensures c.if-not-is_path.false _ c.in-Absent.ensures

pub returns-in-Folder-clause-answers : goal.returns-in-Folder-clause-answers
unfolding content_of file_at
returns-in-Folder-clause-answers c = fetch-found _ _ c.is_path.ensures c.if-not-is_path.false _ c.in-Folder.ensures

pub returns-in-File-clause-answers : goal.returns-in-File-clause-answers
unfolding content_of file_at
returns-in-File-clause-answers c = rw (c.of.ensures, ← c.self.view_is) (fetch-found _ _ c.is_path.ensures c.if-not-is_path.false _ (rw (← c.self.view_is) at c.in-File.ensures))
