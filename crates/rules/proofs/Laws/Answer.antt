-- What an accepted answer says of its parts.
use Rattle.std.specs.Prelude.{◌≡◌, Bool, ℕ}
use Rattle.std.proofs.Math.Path.{refl}
use Rattle.std.proofs.Math.Bool.{true, false}
use Rattle.std.proofs.Math.Option.{Option, none, some}
use Rattle.std.proofs.Common.{arith}
use Rattle.rules.specs.Answer.{Answer, refused, accepted, ◌>>=◌, ◌>>◌, check, or_refuse}

module _ {A : Type 0} where
  pub not-both : {k : ℕ} {a : A} → ◌≡◌ {A = Answer A} (refused k) (accepted a) → ⊥
  not-both h = let z : ◌≡◌ {A = ℕ} 0 1 = cc in omega arith

  pub accepted-same : {a b : A} → ◌≡◌ {A = Answer A} (accepted a) (accepted b) → a ≡ b
  accepted-same h = cc

  -- The test holds, and what follows it is accepted.
  pub check_inv : (k : ℕ) (c : Bool) (x : Answer A) {a : A} → (check k c >> x) ≡ accepted a → (c ≡ true) × (x ≡ accepted a)
  unfolding check ◌>>◌
  check_inv k true x h = (refl, h)
  check_inv k false x h = absurd (not-both h)

  pub or_refuse_inv : (k : ℕ) (x : Option A) {a : A} → or_refuse k x ≡ accepted a → x ≡ some a
  unfolding or_refuse
  or_refuse_inv k none h = absurd (not-both h)
  or_refuse_inv k (some a) h = cc

module _ {A B : Type 0} where
  pub bind_inv : (x : Answer A) (f : A → Answer B) {b : B} → (x >>= f) ≡ accepted b → (a : A) × (x ≡ accepted a) × (f a ≡ accepted b)
  unfolding ◌>>=◌
  bind_inv (refused k) f h = absurd (not-both h)
  bind_inv (accepted a) f h = (a, refl, h)

  pub bind-accepted : (x : Answer A) (f : A → Answer B) {a : A} → x ≡ accepted a → (x >>= f) ≡ f a
  unfolding ◌>>=◌
  bind-accepted x f h = rw h

-- Binding associates.
pub assoc : {A B C : Type 0} (a : Answer A) (f : A → Answer B) (g : B → Answer C) → (a >>= λ x. f x >>= g) ≡ (a >>= f >>= g)
unfolding ◌>>=◌
assoc (refused k) f g = refl
assoc (accepted x) f g = refl
