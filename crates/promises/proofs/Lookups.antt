-- The one lookup (E1): what its call tells apart, and that the text it tells is what a reference stands for.
use Rattle.std.proofs.Math.Path.{◌≡◌, refl, ap}
use Rattle.std.proofs.Common.{sym, true≢false, arith}
use mathlib.Core.List.{List, [], ◌∷◌}
use Rattle.std.specs.Prelude.{Bool, ℕ, ◌<◌, ◌≤◌, eqb, length}
use Rattle.std.proofs.Math.Bool.{true, false}
use Rattle.std.proofs.Math.Option.{Option, none, some}
use Rattle.std.proofs.Math.Nat.{sub-zero}
use Rattle.std.proofs.Math.Dec.{leb}
use borrow.Author.Tests.{le-leb, leb-false}
use Rattle.rules.specs.Answer.{◌>>=◌, ◌>>◌, check, or_refuse}
use Rattle.rules.specs.Reader.{ret, if_r, all, the, span, sees}
use Rattle.rules.specs.Layout.{bind}
use Rattle.rules.specs.Bytes.{ascii, letter, digit, word, run_byte, underscored, prepend, split}
use Rattle.rules.specs.Sheet.{Value, text, nothing, dictionary, Records, sheet_of, get, get_fields, get_pieces, resolve, kind_of, text_of}
use Rattle.rules.specs.Strings.{reference}
use Rattle.rules.specs.Expansion.{writes, reference_step}
use Rattle.rules.proofs.Laws.Bool.{and_l, and_r, not-true, true-eqb}
use Rattle.rules.specs.Calls.{zeros, padded, Looked, looked_answer, resolve_result, resolve_of}

module _ (sheet path : List ℕ) (n : ℕ) (s : Records) (h : sheet_of sheet ≡ some s) where
  -- TOLD APART: missing, none, a dictionary and a text each have their answer, the empty text too. Only a text needs room.
  pub told-apart : all ascii path ≡ true → let r = resolve_of sheet path n in
      (resolve s path ≡ none → r ≡ record { number = 0; kind = 0; len = 0; out = zeros n })
      × (resolve s path ≡ some nothing → r ≡ record { number = 0; kind = 1; len = 0; out = zeros n })
      × ((t : List ℕ) → resolve s path ≡ some (text t) → length t ≤ n → r ≡ record { number = 0; kind = 2; len = length t; out = padded n t })
      × ((d : Records) → resolve s path ≡ some (dictionary d) → r ≡ record { number = 0; kind = 3; len = 0; out = zeros n })
  unfolding resolve_of resolve_result looked_answer padded kind_of text_of or_refuse check ◌>>=◌ ◌>>◌
  told-apart a = (
    λ v. rw (h, a, v, le-leb 0 n (omega arith)) (bare 0),
    λ v. rw (h, a, v, le-leb 0 n (omega arith)) (bare 1),
    λ t v l. rw (h, a, v, le-leb (length t) n l) refl,
    λ d v. rw (h, a, v, le-leb 0 n (omega arith)) (bare 3),
  )
    where
      bare : (k : ℕ) → ◌≡◌ {A = Looked} (record { number = 0; kind = k; len = 0; out = padded n [] }) (record { number = 0; kind = k; len = 0; out = zeros n })
      bare k = let z : padded n [] ≡ zeros n = ap zeros (simp sub-zero refl) in λ i. record { number = 0; kind = k; len = 0; out = z i }

  -- ELEVEN: only of a text, and of one that is longer than the buffer.
  pub eleven_text : (resolve_of sheet path n).number ≡ 11 → (t : List ℕ) × (resolve s path ≡ some (text t)) × (n < length t)
  unfolding resolve_of resolve_result looked_answer text_of or_refuse check ◌>>=◌ ◌>>◌
  eleven_text e = long (resolve s path) refl (leb-false _ _ (at (all ascii path) (leb (length (text_of (resolve s path))) n) refl refl))
    where
      at : (a b : Bool) → all ascii path ≡ a → leb (length (text_of (resolve s path))) n ≡ b → b ≡ false
      at false b p q = let z : ◌≡◌ {A = ℕ} 6 11 = rw (h, p) at e in absurd (omega arith)
      at true true p q = let z : ◌≡◌ {A = ℕ} 0 11 = rw (h, p, q) at e in absurd (omega arith)
      at true false p q = refl

      long : (v : Option Value) → resolve s path ≡ v → n < length (text_of v) → (t : List ℕ) × (resolve s path ≡ some (text t)) × (n < length t)
      long (some (text t)) p l = (t, p, l)
      long none p l = absurd (omega arith)
      long (some nothing) p l = absurd (omega arith)
      long (some (dictionary d)) p l = absurd (omega arith)

-- REFERENCES: where the lookup finds a text, that text is what a reference in an expression stands for, and what one in a document writes.
pub references_write : (s : Records) (u t : List ℕ) → let r = span run_byte u in resolve s (underscored r.0) ≡ some (text t) →
    (reference (resolve s) u ≡ (t, r.1))
    × (sees letter u ≡ (true, u) → sees (the "(") r.1 ≡ (false, r.1) → reference_step (resolve s) s u ≡ (writes s t, r.1))
unfolding reference reference_step text_of ret if_r Rattle.rules.specs.Reader.◌>>=◌
references_write s u t f = (rw f refl, λ l p. rw (l, p, f) refl)

-- IMPORTS: a word holds no dot, so its lookup is the value bound under it.
no_dot : (x : ℕ) → word x ≡ true → the "." x ≡ false
unfolding word letter digit the
no_dot x h = not-true (eqb x 46) (λ e. let w = rw (true-eqb x 46 e) at h in absurd (true≢false (sym w)))

one_piece : (w : List ℕ) → all word w ≡ true → split "." w ≡ w ∷ []
unfolding split prepend all
one_piece [] h = refl
one_piece (x ∷ xs) h = rw (no_dot x (and_l (word x) (all word xs) h), one_piece xs (and_r (word x) (all word xs) h), split) refl

pub words-bound : (r : Records) (w : List ℕ) → all word w ≡ true → resolve r w ≡ get r w
unfolding resolve get_pieces get_fields bind
words-bound r w h = rw (one_piece w h) (same (get r w))
  where
    same : (v : Option Value) → bind v (get_fields []) ≡ v
    same none = refl
    same (some v) = refl
