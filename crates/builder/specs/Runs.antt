-- What an expansion and a pass came to as the answers of the calls, once the buffers are cleared behind their results.
use Rattle.std.specs.Prelude.{◌≡◌, false, List, ℕ, Result, Ok, Err, length, take}
use Rattle.std.proofs.Common.{sym, ap, ◌∙◌, length-take-le}
use Rattle.rules.specs.Answer.{Answer}
use Rattle.rules.specs.Sheet.{Records, encode}
use Rattle.rules.specs.Calls.{padded, expanded_answer, preprocess_typst_of, passed_answer, closed_of, pass_of}
use Rattle.refusal.specs.declared.Refusal.{Refusal}
use Rattle.refusal.specs.Numbers.{number}
use Rattle.runs.specs.declared.expansion_call.Expanded.{Expanded as Ran}
use Rattle.runs.specs.declared.pass_call.Passed.{Passed as Pass}
use Rattle.runs.specs.Expansion.{Results, ExpandsText}
use Rattle.runs.specs.Pass.{setting_of, Passes}
use Rattle.builder.specs.declared.Expanded.{Expanded}
use Rattle.builder.specs.declared.Passed.{Passed}
use Rattle.builder.specs.Cleared.{behind, all-zero}

-- Number 0 and the lengths; or the refusal's number.
abbrev pub IsExpandedOf : Result Ran Refusal → Expanded → Type 0
IsExpandedOf (Ok ran) answer = answer ≡ record { number = 0; len = ran.len; sheet = ran.sheet }
IsExpandedOf (Err refusal) answer = answer ≡ record { number = number refusal; len = 0; sheet = 0 }

-- Number 0, the lengths, and whether the text is closed; or the refusal's number.
abbrev pub IsPassedOf : Result Pass Refusal → Passed → Type 0
IsPassedOf (Ok pass) answer = answer ≡ record { number = 0; len = pass.len; sheet = pass.sheet; closed = pass.closed }
IsPassedOf (Err refusal) answer = answer ≡ record { number = number refusal; len = 0; sheet = 0; closed = false }

-- LAWS. The sheet that is left.
module _ {a : Answer (List ℕ × Records)} {c m : List ℕ} {k j : ℕ} (L : Results a c m k j) where
  sheet-long : length (encode L.records) ≡ j
  sheet-long = ap length (sym L.sheet-is) ∙ length-take-le j m L.sheet-fits

  sheet-behind : {n : ℕ} {m₃ : List ℕ} → length m ≡ n → m₃ ≡ padded (length m) (take j m) → padded n (encode L.records) ≡ m₃
  sheet-behind {n} e x = ap (padded n) (sym L.sheet-is) ∙ behind m j e x

module _ {b t z o o₂ l l₂ : List ℕ} where
  pub expansion-cleared : (r : Result Ran Refusal) (e : Expanded) {o₃ l₃ : List ℕ} → ExpandsText b t z o o₂ l l₂ r → IsExpandedOf r e → o₃ ≡ padded (length o₂) (take e.len o₂) → l₃ ≡ padded (length l₂) (take e.sheet l₂) →
      preprocess_typst_of b t z (length o) (length l) ≡ record { number = e.number; len = e.len; sheet_len = e.sheet; out = o₃; left = l₃ }
  unfolding preprocess_typst_of expanded_answer
  expansion-cleared (Ok x) e p q y w =
      let i = p.is in
      ap (expanded_answer (length o) (length l)) i.says
      ∙ rw q (λ j. record { number = 0; len = length-take-le x.len o₂ i.fits j; sheet_len = sheet-long i j; out = behind o₂ x.len p.out-size (rw q at y) j; left = sheet-behind i p.left-size (rw q at w) j })
  expansion-cleared (Err k) e p q y w =
      ap (expanded_answer (length o) (length l)) p.is
      ∙ rw q (λ j. record { number = number k; len = 0; sheet_len = 0; out = all-zero o₂ p.out-size (rw q at y) j; left = all-zero l₂ p.left-size (rw q at w) j })

module _ {b g t z m m₂ o o₂ l l₂ : List ℕ} where
  pub pass-cleared : (r : Result Pass Refusal) (e : Passed) {m₃ o₃ l₃ : List ℕ} → Passes b g t z m m₂ o o₂ l l₂ r → IsPassedOf r e → m₃ ≡ padded (length m₂) (take 0 m₂) → o₃ ≡ padded (length o₂) (take e.len o₂) → l₃ ≡ padded (length l₂) (take e.sheet l₂) →
      pass_of (setting_of b g (length m) (length o) (length l)) z t ≡ record { number = e.number; len = e.len; sheet_len = e.sheet; closed = e.closed; middle = m₃; out = o₃; left = l₃ }
  unfolding pass_of passed_answer
  pass-cleared (Ok x) e p q v y w =
      let k = setting_of b g (length m) (length o) (length l) in
      let i = p.is in
      ap (passed_answer k (closed_of k z t)) i.0.says
      ∙ rw q (λ j. record { number = 0; len = length-take-le x.len o₂ i.0.fits j; sheet_len = sheet-long i.0 j; closed = i.1 j; middle = all-zero m₂ p.middle-size v j; out = behind o₂ x.len p.out-size (rw q at y) j; left = sheet-behind i.0 p.left-size (rw q at w) j })
  pass-cleared (Err f) e p q v y w =
      let k = setting_of b g (length m) (length o) (length l) in
      ap (passed_answer k (closed_of k z t)) p.is
      ∙ rw q (λ j. record { number = number f; len = 0; sheet_len = 0; closed = false; middle = all-zero m₂ p.middle-size v j; out = all-zero o₂ p.out-size (rw q at y) j; left = all-zero l₂ p.left-size (rw q at w) j })
