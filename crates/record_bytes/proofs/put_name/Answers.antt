use Rattle.std.proofs.Common.{rules}
use mathlib.Core.Path.{refl, sym, ◌∙◌}
use native.Mathlib.Omega.{arith}
use lib.ListN.{length-set}
use Rattle.sheet.specs.Name.{asked-long, asked-next}
use Rattle.record_bytes.specs.Opening.{name-step, name-end}
use Rattle.record_bytes.proofs.put_name.Goals as goal

pub bounds-buf-at : goal.bounds-buf-at
bounds-buf-at c = omega (arith, c.requires, c.loop-i.invariant.0, rw (asked-long c.args.name c.text-x-items.ensures) at c.loop-i-test.true)

pub loop-i-preserved : goal.loop-i-preserved
loop-i-preserved c =
    let n = c.text-x-items.ensures in
    (simp length-set (search rules), name-step _ c.args.at c.loop-i.i _ (rw (asked-long c.args.name n) at c.loop-i-test.true) (asked-next c.args.name n c.loop-i-test.true refl c.byte.ensures) ∙ c.loop-i.invariant.1)

pub returns : goal.returns
returns c = sym (name-end _ _ c.loop-i.i _ (rw (asked-long c.args.name c.text-x-items.ensures) at c.loop-i-test.false)) ∙ c.loop-i.invariant.1
