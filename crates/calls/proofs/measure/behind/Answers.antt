use Rattle.std.proofs.Common.{◌≡◌, None, refl, ◌∙◌, sym, arith}
use Rattle.calls.specs.Measure.{behind, behind-yes, behind-no}
use Rattle.calls.proofs.measure.behind.Goals as goal

pub returns-in_err-p : goal.returns-in_err-p
unfolding behind
returns-in_err-p c = let gone : c.from_residual.result ≡ None = grind arith in gone ∙ sym (rw c.in_err-p.was refl)

pub overflow_sub-room : goal.overflow_sub-room
overflow_sub-room c = c.requires _ c.in_ok-p.was

pub returns-then-room-p : goal.returns-then-room-p
returns-then-room-p c = let h = c.requires _ c.in_ok-p.was in rw c.in_ok-p.was (sym (behind-no _ _ _ (omega (arith, h, c.if-room-p.true))))

pub overflow_add-result : goal.overflow_add-result
overflow_add-result c = let h = c.requires _ c.in_ok-p.was in omega (arith, h, c.if-room-p.false)

pub returns : goal.returns
returns c = let h = c.requires _ c.in_ok-p.was in rw c.in_ok-p.was (sym (behind-yes _ _ _ (omega (arith, h, c.if-room-p.false))))
