use Rattle.std.proofs.Common.{◌-◌}
use mathlib.Core.Path.{◌∙◌}
use native.Mathlib.Omega.{arith}
use lib.ListN.{length-set}
use Rattle.record_bytes.specs.Moves.{down-byte}
use Rattle.record_bytes.proofs.move_down.Goals as goal

pub loop-k-preserved : goal.loop-k-preserved
loop-k-preserved c = let l = c.loop-k in
    (simp length-set l.invariant.0, down-byte l.buf (c.args.from - c.args.to) l.k c.args.end (omega arith) (omega arith) (omega arith) ∙ l.invariant.1)
