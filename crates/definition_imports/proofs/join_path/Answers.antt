use Rattle.std.proofs.Common.{arith}
use Rattle.definition_imports.specs.Import.{joined-over}
use Rattle.definition_imports.proofs.join_path.Goals as goal

pub returns-in_err-join_within-clause-joins : goal.returns-in_err-join_within-clause-joins
returns-in_err-join_within-clause-joins c = joined-over _ c.join_within.new.joined c.in_err-join_within.ensures.joins (grind arith)
