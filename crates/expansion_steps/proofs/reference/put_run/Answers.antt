use Rattle.std.proofs.Common.{arith}
use Rattle.buffers.specs.Wrote.{puts-then, puts-no}
use Rattle.expansion_steps.proofs.reference.put_run.Goals as goal

pub returns-in_err-put_byte : goal.returns-in_err-put_byte
returns-in_err-put_byte c = puts-no c.put_byte.ensures c.in_err-put_byte.was _ (grind arith)

pub returns : goal.returns
returns c = puts-then c.put_byte.ensures c.in_ok-put_byte.was c.put.ensures
