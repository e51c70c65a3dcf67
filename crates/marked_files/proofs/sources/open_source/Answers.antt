use Rattle.std.proofs.Common.{arith}
use Rattle.marked_files.specs.Sources.{source-long}
use Rattle.marked_files.proofs.sources.open_source.Goals as goal

pub returns-in_err-join_within : goal.returns-in_err-join_within
returns-in_err-join_within c = source-long _ c.project_root.ensures _ c.in_err-join_within.ensures.joins (grind arith)
