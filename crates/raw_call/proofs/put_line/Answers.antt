use Rattle.std.proofs.Common.{arith}
use Rattle.buffers.specs.Wrote.{puts-then, puts-no}
use Rattle.raw_call.proofs.put_line.Goals as goal

pub returns-in_err-put_byte : goal.returns-in_err-put_byte
returns-in_err-put_byte c = puts-no c.put_byte.ensures c.in_err-put_byte.was _ (grind arith)

pub returns-in_err-put_content : goal.returns-in_err-put_content
returns-in_err-put_content c = puts-then c.put_byte.ensures c.in_ok-put_byte.was (puts-no c.put_content.ensures c.in_err-put_content.was _ (grind arith))

pub returns : goal.returns
returns c = puts-then c.put_byte.ensures c.in_ok-put_byte.was (puts-then c.put_content.ensures c.in_ok-put_content.was c.put_byte-2.ensures)
