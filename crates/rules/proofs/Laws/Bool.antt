-- Laws of Boolean tests, of the tests of numbers, and of the test whether there is anything.
use Rattle.std.specs.Prelude.{◌≡◌, ◌≢◌, Bool, true, false, ◌&&◌, ◌||◌, ℕ, ◌≤◌, ◌<◌, T, leb, ltb, eqb}
use Rattle.std.proofs.Math.Path.{refl}
use Rattle.std.proofs.Common.{sym, ◌∙◌, true≢false, leb→le, le→leb, ltb→lt, lt→ltb, nltb→le, eqb→eq}
use Rattle.std.proofs.lemmas.Bool.{false≢true}
use Rattle.std.proofs.Math.Option.{Option, none, some}
use Rattle.std.proofs.Math.Dec.{eqb_refl}
unfoldable pub use Rattle.rules.specs.Answer.{is_some}

-- The left side of a true conjunction is true.
pub and_l : (a b : Bool) → (a && b) ≡ true → a ≡ true
and_l true b h = refl
and_l false b h = h

-- The right side of a true conjunction is true.
pub and_r : (a b : Bool) → (a && b) ≡ true → b ≡ true
and_r true b h = h
and_r false b h = absurd (false≢true h)

-- A conjunction is true if both its sides are.
pub and_i : (a b : Bool) → a ≡ true → b ≡ true → (a && b) ≡ true
and_i true b p q = q
and_i false b p q = p

-- The right side of a false conjunction is false if the left side is true.
pub and_false_r : (a b : Bool) → a ≡ true → (a && b) ≡ false → b ≡ false
and_false_r true b p h = h
and_false_r false b p h = absurd (false≢true p)

-- A conjunction of three, with a fourth that is true.
pub and-three : (a b c : Bool) → (a && (b && true && c)) ≡ (a && b && c)
and-three true true c = refl
and-three true false c = refl
and-three false b c = refl

-- A disjunction is true if its left side is.
pub or-i-l : (a b : Bool) → a ≡ true → (a || b) ≡ true
or-i-l true b p = refl
or-i-l false b p = absurd (false≢true p)

-- A disjunction is true if its right side is.
pub or-i-r : (a b : Bool) → b ≡ true → (a || b) ≡ true
or-i-r true b p = refl
or-i-r false b p = p

-- The left side of a true disjunction is true if the right side is false.
pub or_l : (a b : Bool) → (a || b) ≡ true → b ≡ false → a ≡ true
or_l true b h k = refl
or_l false b h k = absurd (true≢false (sym h ∙ k))

-- What follows from each side of a true disjunction holds.
pub or_elim : {P : Type 0} (a b : Bool) → (a || b) ≡ true → (a ≡ true → P) → (b ≡ true → P) → P
or_elim true b h f g = f refl
or_elim false b h f g = g h

-- The left side of a false disjunction is false.
pub or-false-l : (a b : Bool) → (a || b) ≡ false → a ≡ false
or-false-l true b h = h
or-false-l false b h = refl

-- The right side of a false disjunction is false.
pub or-false-r : (a b : Bool) → (a || b) ≡ false → b ≡ false
or-false-r true b h = absurd (true≢false h)
or-false-r false b h = h

-- What cannot be true is false.
pub not-true : (c : Bool) → (c ≡ true → ⊥) → c ≡ false
not-true true f = absurd (f refl)
not-true false f = refl

-- What holds is true.
pub T_true : (c : Bool) → T c → c ≡ true
T_true true t = refl
T_true false t = absurd t

-- The test of `≤` is true: a is at most b.
pub true-leb : (a b : ℕ) → leb a b ≡ true → a ≤ b
true-leb a b h = leb→le a b (rw h tt)

-- And the way back.
pub leb-true : (a b : ℕ) → a ≤ b → leb a b ≡ true
leb-true a b h = T_true (leb a b) (le→leb a b h)

-- The test of `<` is true: a is below b.
pub true-ltb : (a b : ℕ) → ltb a b ≡ true → a < b
true-ltb a b h = ltb→lt a b (rw h tt)

-- And the way back.
pub ltb-true : (a b : ℕ) → a < b → ltb a b ≡ true
ltb-true a b h = T_true (ltb a b) (lt→ltb a b h)

-- The test of `<` is false: b is at most a.
pub false-ltb : (a b : ℕ) → ltb a b ≡ false → b ≤ a
false-ltb a b h = nltb→le a b (rw h tt)

-- The test of equality is true: a is b.
pub true-eqb : (a b : ℕ) → eqb a b ≡ true → a ≡ b
true-eqb a b h = eqb→eq a b (rw h tt)

-- And the way back.
pub eqb-true : (a b : ℕ) → a ≡ b → eqb a b ≡ true
eqb-true a b e = rw e (T_true (eqb b b) (eqb_refl b))

-- The test of equality is false: a is not b.
pub false-eqb : (a b : ℕ) → eqb a b ≡ false → a ≢ b
false-eqb a b h e = true≢false (sym (eqb-true a b e) ∙ h)

module _ {A : Type 0} where
  -- There is: what it is.
  pub true-some : (x : Option A) → is_some x ≡ true → (a : A) × (x ≡ some a)
  unfolding is_some
  true-some none h = absurd (false≢true h)
  true-some (some a) h = (a, refl)

  -- There is not.
  pub false-some : (x : Option A) → is_some x ≡ false → x ≡ none
  unfolding is_some
  false-some none h = refl
  false-some (some a) h = absurd (true≢false h)
