use Rattle.std.proofs.Common.{arith}
use Rattle.buffers.specs.Wrote.{puts-then, puts-no}
use Rattle.marked_files.proofs.sources.put_block.Goals as goal

pub returns-in_err-put : goal.returns-in_err-put
returns-in_err-put c = puts-no c.put.ensures c.in_err-put.was _ (grind arith)

pub returns-in_err-put-2 : goal.returns-in_err-put-2
returns-in_err-put-2 c = puts-then c.put.ensures c.in_ok-put.was (puts-no c.put-2.ensures c.in_err-put-2.was _ (grind arith))

pub returns-in_err-put-3 : goal.returns-in_err-put-3
returns-in_err-put-3 c = puts-then c.put.ensures c.in_ok-put.was (puts-then c.put-2.ensures c.in_ok-put-2.was (puts-no c.put-3.ensures c.in_err-put-3.was _ (grind arith)))

pub returns-in_err-put-4 : goal.returns-in_err-put-4
returns-in_err-put-4 c = puts-then c.put.ensures c.in_ok-put.was (puts-then c.put-2.ensures c.in_ok-put-2.was (puts-then c.put-3.ensures c.in_ok-put-3.was (puts-no c.put-4.ensures c.in_err-put-4.was _ (grind arith))))

pub returns : goal.returns
returns c = puts-then c.put.ensures c.in_ok-put.was (puts-then c.put-2.ensures c.in_ok-put-2.was (puts-then c.put-3.ensures c.in_ok-put-3.was (puts-then c.put-4.ensures c.in_ok-put-4.was c.put_end.ensures)))
