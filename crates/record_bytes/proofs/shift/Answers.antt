use mathlib.Core.Path.{◌≡◌, sym, ap, ◌∙◌}
use native.Mathlib.Omega.{arith}
use lib.Seq.{sets}
use Rattle.scan.specs.Sets.{part}
use Rattle.record_bytes.specs.Moves.{sets-slice}
use Rattle.record_bytes.proofs.shift.Goals as goal

pub returns-else-from-to : goal.returns-else-from-to
returns-else-from-to c =
    let a = c.args in
    let e : a.from ≡ a.to = omega arith in
    sym (sets-slice a.buf.now a.from a.end (omega arith) (omega arith)) ∙ ap (λ z. sets a.buf.now z (part a.buf.now a.from a.end)) e
