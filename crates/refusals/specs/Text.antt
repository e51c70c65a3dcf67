-- The text of a refusal.
use Rattle.std.specs.Prelude.{◌≡◌, refl, List, [], ◌∷◌, ◌++◌, ℕ, ◌+◌, ◌/◌, ◌%◌, ◌≤◌, ◌<◌, length, take}
use Rattle.std.proofs.Common.{sym, ap, ◌∙◌, arith, le-ltb, lt-ltb}
use Rattle.std.proofs.lemmas.List.Edits.{sets}
use Rattle.std.proofs.Math.Seq.{length-sets}
use Rattle.rules.specs.Answer.{refused}
use Rattle.rules.specs.Reader.{bytes}
use Rattle.rules.specs.Calls.{padded}
use Rattle.rules.specs.Manual.{decimal, shown}
use Rattle.buffers.specs.Laws.{sets-append, stored-first}

-- The text t stands at the start of the buffer.
pub record Shows (t out out₂ : List ℕ) (n : ℕ) : Type 0 where
  pub size : length out₂ ≡ length out
  pub fits : n ≤ length out
  pub is : take n out₂ ≡ t

-- The same, n bytes, and zero behind it.
pub record Leaves (t out out₂ : List ℕ) (n : ℕ) : Type 0 where
  pub long : length t ≡ n
  pub is : padded (length out) t ≡ out₂

refusal : {n : ℕ} {d x o o₁ o₂ : List ℕ} → 11 ≤ length o → o₁ ≡ sets o 0 (bytes "refused ") → o₂ ≡ sets o₁ 8 d → length d ≤ 3 → n ≡ 8 + length d → bytes "refused " ++ d ≡ x → Shows x o o₂ n
refusal {n = n} {d} {o = o} {o₁} {o₂} l e₁ e₂ h z q =
    let t = bytes "refused " ++ d in
    let y : o₂ ≡ sets o 0 t = e₂ ∙ ap (λ x. sets x 8 d) e₁ ∙ sets-append o 0 (bytes "refused ") d in
    let i : n ≡ length t = omega arith in
    record {
      size = ap length y ∙ length-sets o 0 t;
      fits = omega arith;
      is = ap (λ i. take i o₂) i ∙ ap (take (length t)) y ∙ stored-first o t (omega arith) ∙ q;
    }

pub refusal-one : (k : ℕ) {o o₁ o₂ : List ℕ} → k < 10 → 11 ≤ length o → o₁ ≡ sets o 0 (bytes "refused ") → o₂ ≡ sets o₁ 8 ((48 + k) ∷ 10 ∷ []) → Shows (shown (refused k)) o o₂ 10
unfolding shown decimal
refusal-one k h l e₁ e₂ = let z : decimal k ≡ (48 + k) ∷ [] = rw (lt-ltb k 10 h, decimal) refl in refusal {d = (48 + k) ∷ 10 ∷ []} l e₁ e₂ (omega arith) refl (ap (λ x. bytes "refused " ++ (x ++ bytes "\n")) (sym z))

pub refusal-two : (k : ℕ) {o o₁ o₂ : List ℕ} → 10 ≤ k → 11 ≤ length o → o₁ ≡ sets o 0 (bytes "refused ") → o₂ ≡ sets o₁ 8 ((48 + k / 10) ∷ (48 + k % 10) ∷ 10 ∷ []) → Shows (shown (refused k)) o o₂ 11
unfolding shown decimal
refusal-two k h l e₁ e₂ = let z : decimal k ≡ (48 + k / 10) ∷ (48 + k % 10) ∷ [] = rw (le-ltb k 10 h, decimal) refl in refusal {d = (48 + k / 10) ∷ (48 + k % 10) ∷ 10 ∷ []} l e₁ e₂ (omega arith) refl (ap (λ x. bytes "refused " ++ (x ++ bytes "\n")) (sym z))
