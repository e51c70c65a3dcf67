use Rattle.std.proofs.Common.{rules}
use native.Mathlib.Omega.{arith}
use Rattle.sheet.specs.Records.{checked-keeps, sheet-keeps}
use Rattle.sheet_layout.specs.Check.{check-long, checking-start, checking-end, checking-broken, checking_bad, checking-on}
use Rattle.sheet_layout.proofs.check.Goals as goal

pub returns-then-s-gt65535 : goal.returns-then-s-gt65535
returns-then-s-gt65535 c = check-long _ c.if-s-gt65535.true

pub loop-i-init : goal.loop-i-init
loop-i-init c = checking-start _ (search rules)

pub returns-in_err-o : goal.returns-in_err-o
returns-in_err-o c = rw c.from_residual.ensures (checking-broken c.loop-i.invariant (search rules) c.in_err-o.ensures)

pub returns-in_err-i : goal.returns-in_err-i
returns-in_err-i c = rw c.from_residual-in_err-i.ensures (checking_bad c.loop-i.invariant (search rules) _ c.in_ok-o.ensures c.in_err-i.ensures)

pub loop-i-preserved : goal.loop-i-preserved
loop-i-preserved c = checking-on c.loop-i.invariant (search rules) _ c.in_ok-o.ensures _ c.in_ok-i.ensures

pub new-requires : goal.new-requires
new-requires c = sheet-keeps (checked-keeps _ (checking-end c.loop-i.invariant (search rules)) (λ i. omega (arith, c.type_inv.s i)))

pub returns : goal.returns
returns c = (c.new.ensures, checked-keeps _ (checking-end c.loop-i.invariant (search rules)) (λ i. omega (arith, c.type_inv.s i)))
