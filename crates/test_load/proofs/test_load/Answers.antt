use Rattle.std.proofs.Common.{rules, arith}
use Rattle.buffers.specs.Wrote.{stands-ok, stands-no}
use Rattle.test_load.specs.Laws.{loads}
use Rattle.test_load.proofs.test_load.Goals as goal

pub returns-in_err-put_load : goal.returns-in_err-put_load
returns-in_err-put_load c = loads _ _ _ _ _ (stands-no c.new-w.ensures (rw c.pieces.ensures at c.put_load.ensures) (search rules) c.in_err-put_load.was (grind arith))

pub returns : goal.returns
returns c = loads _ _ _ _ _ (stands-ok c.new-w.ensures (rw c.pieces.ensures at c.put_load.ensures) (search rules) c.in_ok-put_load.was)
