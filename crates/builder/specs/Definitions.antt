-- What the definitions call came to as its answer, once the buffers are cleared behind the sheet.
use Rattle.std.specs.Prelude.{◌≡◌, ◌≤◌, List, ℕ, Result, Ok, Err, length, take}
use Rattle.std.proofs.Common.{sym, ap, ◌∙◌, arith, length-take-le}
use Rattle.rules.specs.Answer.{Answer}
use Rattle.rules.specs.Sheet.{Records, encode}
use Rattle.rules.specs.Calls.{padded, defined_answer}
use Rattle.refusal.specs.declared.Refusal.{Refusal}
use Rattle.refusal.specs.Numbers.{number}
use Rattle.define.specs.Define.{Defines}
use Rattle.builder.specs.declared.Defined.{Defined}
use Rattle.builder.specs.Cleared.{behind, all-zero}

-- Number 0 and the sheet's length; or the refusal's number.
abbrev pub IsDefinedOf : Result ℕ Refusal → Defined → Type 0
IsDefinedOf (Ok n) answer = answer ≡ record { number = 0; sheet = n }
IsDefinedOf (Err refusal) answer = answer ≡ record { number = number refusal; sheet = 0 }

-- LAWS.
module _ {a : Answer Records} {l l₂ w w₂ : List ℕ} where
  pub definitions-cleared : (r : Result ℕ Refusal) (d : Defined) {l₃ w₃ : List ℕ} → Defines a l l₂ w w₂ r → IsDefinedOf r d → l₃ ≡ padded (length l₂) (take d.sheet l₂) → w₃ ≡ padded (length w₂) (take 0 w₂) →
      defined_answer (length l) (length w) a ≡ record { number = d.number; sheet_len = d.sheet; left = l₃; work = w₃ }
  unfolding defined_answer
  definitions-cleared (Ok n) d p q x y =
      let h : n ≤ length l = p.fits in
      let s = p.is in
      let long : length (encode s.0) ≡ n = ap length (sym s.2) ∙ length-take-le n l₂ (omega (arith, p.left-size)) in
      let there = ap (padded (length l)) (sym s.2) ∙ behind l₂ n p.left-size (rw q at x) in
      ap (defined_answer (length l) (length w)) s.1 ∙ rw q (λ i. record { number = 0; sheet_len = long i; left = there i; work = all-zero w₂ p.work-size y i })
  definitions-cleared (Err k) d p q x y =
      ap (defined_answer (length l) (length w)) p.is ∙ rw q (λ i. record { number = number k; sheet_len = 0; left = all-zero l₂ p.left-size (rw q at x) i; work = all-zero w₂ p.work-size y i })
