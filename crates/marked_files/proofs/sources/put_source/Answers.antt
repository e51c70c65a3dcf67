use Rattle.std.proofs.Common.{refl, arith}
use Rattle.marked_files.specs.Sources.{source-refused, source-put}
use Rattle.marked_files.proofs.sources.put_source.Goals as goal

pub returns-in_err-content : goal.returns-in_err-content
returns-in_err-content c = source-refused _ c.in_err-content.ensures (grind arith) refl

pub returns : goal.returns
returns c = source-put _ c.in_ok-content.ensures c.put_block.ensures
