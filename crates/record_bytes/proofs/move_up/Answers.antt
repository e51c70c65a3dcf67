use Rattle.std.proofs.Common.{◌≡◌, ◌+◌, ◌-◌}
use native.Mathlib.Omega.{arith}
use lib.ListN.{length-set}
use Rattle.record_bytes.specs.Moves.{up-byte}
use Rattle.record_bytes.proofs.move_up.Goals as goal

pub loop-k-preserved : goal.loop-k-preserved
loop-k-preserved c =
    let a = c.args in
    let l = c.loop-k in
    (omega arith, simp length-set l.invariant.1, up-byte a.buf.now l.buf (a.to - a.from) l.k a.end (omega arith) (omega arith) (omega arith) l.invariant.2)

pub returns : goal.returns
returns c =
    let a = c.args in
    let k : c.loop-k.k ≡ a.from = omega arith in
    let p : a.from + (a.to - a.from) ≡ a.to = omega arith in
    rw (k, p) at c.loop-k.invariant.2
