use Rattle.std.specs.Prelude.{◌≡◌, ℕ, false}
use Rattle.std.proofs.Common.{refl, ne_eqb}
use Rattle.rules.specs.Reader.{the}
use Rattle.sheet.specs.Name.{asked_byte}
use Rattle.sheet.proofs.Name.byte.Goals as goal

no-dash : (x : ℕ) → (x ≡ 45 → ⊥) → the "-" x ≡ false
unfolding the
no-dash x h = ne_eqb x 45 h

pub returns-then-x-eq45 : goal.returns-then-x-eq45
unfolding the
returns-then-x-eq45 c = rw (c.in-Reference.is, c.if-x-eq45.true) refl

pub returns-else-x-eq45 : goal.returns-else-x-eq45
returns-else-x-eq45 c = rw (c.in-Reference.is, no-dash c.args.x c.if-x-eq45.false, asked_byte) refl
