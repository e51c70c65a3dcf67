-- The first bytes of a text that comes piece by piece.
use Rattle.std.specs.Prelude.{◌≡◌, refl, List, [], ◌++◌, ℕ, ◌+◌, ◌-◌, ◌≤◌, length, take}
use Rattle.std.proofs.Common.{sym, ap, ◌∙◌, arith, append-nil, length-append, take_all}
use Rattle.std.proofs.Math.Decide.{dec_le}
use Rattle.std.proofs.Math.Seq.{take-append-add}
use Rattle.std.proofs.lemmas.List.{take-append-le}
use Rattle.raw_content.specs.declared.first.FirstBytes.{FirstBytes}

-- Of the text v so many bytes are taken as are left, in the same place.
abbrev pub TakesFirst : {A : Type 0} → (A → List ℕ → A → Type 0) → FirstBytes A → List ℕ → FirstBytes A → Type 0
TakesFirst takes a v b = (b.to.ghost_name ≡ a.to.ghost_name) × (b.left ≡ a.left - length v) × takes a.to.now (take a.left v) b.to.now

-- LAWS.
take-none : (n : ℕ) → take {A = ℕ} n [] ≡ []
take-none n = take_all n [] (omega arith)

take-both : (n : ℕ) (v w : List ℕ) → take n v ++ take (n - length v) w ≡ take n (v ++ w)
take-both n v w = at (dec_le n (length v))
  where
    at : Dec (n ≤ length v) → take n v ++ take (n - length v) w ≡ take n (v ++ w)
    at (yes h) =
        let z : n - length v ≡ 0 = omega arith in
        rw z (append-nil (take n v) ∙ sym (take-append-le n v w h))
    at (no h) =
        let z : n ≡ length v + (n - length v) = omega arith in
        ap (λ y. y ++ take (n - length v) w) (take_all n v (omega arith)) ∙ sym (take-append-add v w (n - length v)) ∙ ap (λ m. take m (v ++ w)) (sym z)

module _ {A : Type 0} (takes : A → List ℕ → A → Type 0) where
  pub first-none : (a : FirstBytes A) → takes a.to.now [] a.to.now → TakesFirst takes a [] a
  first-none a n = (refl, omega arith, rw (take-none a.left) n)

  pub first-more : (a b c : FirstBytes A) (v w : List ℕ) → TakesFirst takes a v b → TakesFirst takes b w c → ((v w : List ℕ) → takes a.to.now v b.to.now → takes b.to.now w c.to.now → takes a.to.now (v ++ w) c.to.now) → TakesFirst takes a (v ++ w) c
  first-more a b c v w p q more = (q.0 ∙ p.0, omega (arith, p.1, q.1, length-append v w), rw (sym (take-both a.left v w)) (more _ _ p.2 (rw p.1 at q.2)))
