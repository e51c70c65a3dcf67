use Rattle.runs.specs.Pass.{ends-none, ends-byte}
use Rattle.runs.proofs.pass_call.ends_in_newline.Goals as goal

pub returns-in-None : goal.returns-in-None
returns-in-None c = ends-none _ _ c.last.ensures.value c.in-None.is

pub returns-in-Some : goal.returns-in-Some
returns-in-Some c = ends-byte _ _ c.last.ensures.value c.in-Some.is
