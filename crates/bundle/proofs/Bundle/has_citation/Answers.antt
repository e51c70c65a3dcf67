use Rattle.std.proofs.Common.{◌∙◌, ap, length, arith}
use Rattle.paths.specs.Joined.{text-short}
use Rattle.bundle.specs.Find.{entries_of}
use Rattle.bundle.specs.Open.{citation_long, citation_asked}
use Rattle.bundle.proofs.Bundle.has_citation.Goals as goal

pub returns-in-None : goal.returns-in-None
returns-in-None c = citation_long c.args.self.now (entries_of c.args.self.now) _ c.in-None.ensures

pub returns-in-Some : goal.returns-in-Some
returns-in-Some c = citation_asked _ _ _ (omega (arith, ap length c.as_bytes.ensures, text-short c.in-Some.path)) (c.as_bytes.ensures ∙ c.in-Some.ensures) c.find.ensures c.exists.ensures
