-- `#` and a reference.
use Rattle.std.specs.Prelude.{◌≡◌, List, ℕ, Bool, true, false, ◌++◌, ◌≤◌, length, take, drop, Result}
use Rattle.std.proofs.Math.Path.{refl, ap}
use Rattle.std.proofs.Math.Nat.{sub-zero}
use Rattle.std.proofs.Common.{arith}
use Rattle.refusal.specs.declared.Refusal.{Refusal}
use Rattle.rules.specs.Reader.{ret, if_r, ◌>>=◌, bytes, the}
use Rattle.rules.specs.Bytes.{letter, run_byte, underscored}
use Rattle.rules.specs.Sheet.{Records, resolve, text_of}
use Rattle.rules.specs.Expansion.{writes, reference_step}
use Rattle.scan.specs.Sets.{part, Spans, Sees}
use Rattle.buffers.specs.declared.writer.Writer.{Writer}
use Rattle.scan.specs.declared.read.Read.{Read}
use Rattle.buffers.specs.Wrote.{Puts}

first : (t : List ℕ) (e : ℕ) → part t 0 e ≡ take e t
first t e = ap (λ n. take n t) (sub-zero e)

-- The step writes a text, and keeps the records s; reading goes on behind what r says, whether or not there was room for the text.
pub record Refers (s : Records) (t : List ℕ) (w w₂ : Writer) (r : Read (Result (Unit {0}) Refusal)) : Type 0 where
  pub inside : r.used ≤ length t
  pub text : List ℕ
  pub does : reference_step (resolve s) s t ≡ (writes s text, drop r.used t)
  pub puts : Puts text w w₂ r.what

-- The ways through the step: the text from behind the `#` on, and what the scans said.
module _ (s : Records) {t : List ℕ} {l : Bool} (x : Sees letter t 0 l) {w w₂ : Writer} {q : Result (Unit {0}) Refusal} where
  pub refers-other : l ≡ false → Puts (bytes "#") w w₂ q → Refers s t w w₂ (record { what = q; used = 0 })
  unfolding reference_step ret if_r ◌>>=◌
  refers-other e P = record { inside = omega arith; text = bytes "#"; does = rw (x.says, e) refl; puts = P }

  module _ (h : l ≡ true) {e : ℕ} (y : Spans run_byte t 0 e) {f : Bool} (k : Sees (the "(") t e f) where
    pub refers-called : f ≡ true → Puts (bytes "#" ++ take e t) w w₂ q → Refers s t w w₂ (record { what = q; used = e })
    unfolding reference_step ret if_r ◌>>=◌
    refers-called g P = record { inside = y.inside; text = bytes "#" ++ take e t; does = rw (x.says, h, y.rest, y.took, k.says, g, first t e) refl; puts = P }

    pub refers-text : f ≡ false → Puts (text_of (resolve s (underscored (take e t)))) w w₂ q → Refers s t w w₂ (record { what = q; used = e })
    unfolding reference_step ret if_r ◌>>=◌
    refers-text g P = record { inside = y.inside; text = _; does = rw (x.says, h, y.rest, y.took, k.says, g, first t e) refl; puts = P }
