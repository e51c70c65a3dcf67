use Rattle.std.proofs.Common.{rules}
use native.Mathlib.Omega.{arith}
use Rattle.sheet_layout.specs.Check.{body_flat, body-none, running-start, running-end, running-broken, running_bad, running-on}
use Rattle.sheet_layout.proofs.+inside.Goals as goal

pub returns-in_default : goal.returns-in_default
returns-in_default t c = body_flat _ _ _ _ _ c.in_default.not-Dictionary (search rules)

pub returns-then-levels-eq0 : goal.returns-then-levels-eq0
returns-then-levels-eq0 t c = body-none c.args.s.now _ c.args.o.next _ _ c.in-Dictionary.is c.if-levels-eq0.true

pub loop-init : goal.loop-init
loop-init t c = running-start _ _ _ _ (search rules) c.if-levels-eq0.false

pub returns-in_err-held : goal.returns-in_err-held
returns-in_err-held t c = rw c.from_residual.ensures (running-broken c.loop.invariant _ c.in-Dictionary.is (omega arith) c.in_err-held.ensures)

pub returns-in_err-i : goal.returns-in_err-i
returns-in_err-i t c = rw c.from_residual-in_err-i.ensures (running_bad c.loop.invariant _ c.in-Dictionary.is (omega arith) _ c.in_ok-held.ensures c.in_err-i.ensures)

pub loop-preserved : goal.loop-preserved
loop-preserved t c = running-on c.loop.invariant _ c.in-Dictionary.is (omega arith) _ c.in_ok-held.ensures _ (omega arith) c.in_ok-i.ensures

pub returns : goal.returns
returns t c = running-end c.loop.invariant _ c.in-Dictionary.is (omega arith)
