-- The calls whose results stand at the starts of their buffers, once those are cleared behind them.
use Rattle.std.specs.Prelude.{◌≡◌, ◌≤◌, List, ℕ, Result, Ok, Err, IfOk, length, take}
use Rattle.std.proofs.Common.{sym, ap, ◌∙◌, arith, length-take-le}
use Rattle.std.proofs.Math.Nat.{sub-zero}
use Rattle.rules.specs.Answer.{Answer}
use Rattle.rules.specs.Calls.{zeros, padded, output_answer}
use Rattle.refusal.specs.declared.Refusal.{Refusal}
use Rattle.refusal.specs.Numbers.{number}
use Rattle.buffers.specs.Wrote.{first_bytes}
use Rattle.builder.specs.declared.Text.{Text}
use Rattle.builder.specs.Texts.{IsTextOf}

-- A buffer that kept its length and is cleared behind n bytes; or whole.
pub behind : {m : ℕ} (o₂ : List ℕ) {o₃ : List ℕ} (n : ℕ) → length o₂ ≡ m → o₃ ≡ padded (length o₂) (take n o₂) → padded m (take n o₂) ≡ o₃
behind o₂ n e h = sym (h ∙ ap (λ x. padded x (take n o₂)) e)

pub all-zero : {m : ℕ} (o₂ : List ℕ) {o₃ : List ℕ} → length o₂ ≡ m → o₃ ≡ padded (length o₂) (take 0 o₂) → zeros m ≡ o₃
unfolding padded
all-zero o₂ e h = sym (h ∙ simp sub-zero (ap zeros e))

-- A text's answer.
module _ {n : ℕ} (o₂ : List ℕ) (size : length o₂ ≡ n) where
  pub text-cleared : (r : Result ℕ Refusal) (t : Text) {a : Answer (List ℕ)} {o₃ : List ℕ} → IfOk r (λ k. k ≤ n) → a ≡ first_bytes o₂ r → IsTextOf r t → o₃ ≡ padded (length o₂) (take t.len o₂) → output_answer n a ≡ record { number = t.number; len = t.len; out = o₃ }
  unfolding output_answer first_bytes
  text-cleared (Ok k) t fits is e x = ap (output_answer n) is ∙ rw e (λ i. record { number = 0; len = length-take-le k o₂ (omega arith) i; out = behind o₂ k size (rw e at x) i })
  text-cleared (Err f) t fits is e x = ap (output_answer n) is ∙ rw e (λ i. record { number = number f; len = 0; out = all-zero o₂ size (rw e at x) i })
