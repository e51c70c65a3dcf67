use mathlib.Core.Path.{ap, sym, ◌∙◌}
use native.Mathlib.Omega.{arith}
use lib.ListN.{length}
use lib.Seq.{length-sets}
use Rattle.record_bytes.specs.Opening.{field-none, field-some, wide-some}
use Rattle.record_bytes.proofs.put_field.Goals as goal

pub returns-then-len-eq0 : goal.returns-then-len-eq0
returns-then-len-eq0 c = field-none _ _ _ (sym c.len-len.ensures ∙ c.if-len-eq0.true)

pub put_number-requires : goal.put_number-requires
put_number-requires c = let e = c.len-len.ensures in
    (omega (arith, c.requires.0, e), omega (arith, c.requires.1, wide-some _ (rw e at c.if-len-eq0.false)))

pub put_name-requires : goal.put_name-requires
put_name-requires c = let e = c.len-len.ensures in
    omega (arith, c.requires.1, e, wide-some _ (rw e at c.if-len-eq0.false), simp length-sets at (ap length c.put_number.ensures))

pub returns : goal.returns
returns c = let e = c.len-len.ensures in
    field-some _ _ _ (rw e at c.if-len-eq0.false) (rw e at c.put_number.ensures) c.put_name.ensures
