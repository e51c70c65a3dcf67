-- Sources, and the block that one is put as.
use Rattle.std.specs.Prelude.{Option, Some, None, Result, Err, not, nat_eq, slice_get}
use Rattle.std.specs.Option.{option_copied, option_eq}
use Rattle.std.specs.Borrow.{Bor}
use Rattle.std.proofs.lemmas.Option.{none-some, slice_get-get_or, get_or_from_slice_get}
use Rattle.std.specs.Prelude.{◌≡◌, refl, List, [], ◌∷◌, ◌++◌, true, false, ℕ, ◌-◌, ◌<◌, eqb, length, get_or, Bool}
use Rattle.std.proofs.Common.{sym, ap, ◌∙◌, eq-eqb, ne_eqb, eqb-true, true≢false}
use native.Mathlib.Omega.{arith}
use Rattle.rules.specs.Answer.{Answer, refused, accepted}
use Rattle.rules.specs.Reader.{bytes, empty}
use Rattle.rules.specs.Run.{ends_in_newline}
use Rattle.rules.specs.Bytes.{join}
use Rattle.rules.specs.Files.{View, opened}
use Rattle.rules.specs.Includes.{last_newline, fenced}
use Rattle.scan.specs.Laws.{not-empty, ends_last}
use Rattle.bundle.specs.Open.{Answers, long-opened}
use Rattle.refusal.specs.declared.Refusal.{Refusal}
use Rattle.refusal.specs.Numbers.{number}
use Rattle.buffers.specs.declared.writer.Writer.{Writer}
use Rattle.buffers.specs.Wrote.{Puts, Wrote, puts-wrote, wrote-fail}

-- A source's block.
abbrev pub block_text : List ℕ → List ℕ → List ℕ
block_text l c = bytes "```" ++ (l ++ (bytes "\n" ++ (c ++ (last_newline c ++ bytes "```\n"))))

-- PUTTING it.
pub close_empty : (c : List ℕ) → length c ≡ 0 → bytes "\n```\n" ≡ last_newline c ++ bytes "```\n"
unfolding last_newline ends_in_newline empty
close_empty [] h = refl
close_empty (x ∷ xs) h = absurd (omega arith)

pub close_other : (c : List ℕ) → (length c ≡ 0 → ⊥) → (get_or c (length c - 1) 0 ≡ 10 → ⊥) → bytes "\n```\n" ≡ last_newline c ++ bytes "```\n"
unfolding last_newline
close_other c h e = rw (ends_last c (omega arith) ∙ ne_eqb (get_or c (length c - 1) 0) 10 e, last_newline) refl

pub close_newline : (c : List ℕ) → (length c ≡ 0 → ⊥) → get_or c (length c - 1) 0 ≡ 10 → bytes "```\n" ≡ last_newline c ++ bytes "```\n"
unfolding last_newline
close_newline c h e = rw (ends_last c (omega arith) ∙ eq-eqb (get_or c (length c - 1) 0) 10 e, not-empty c h, last_newline) refl

-- By whether its last byte is no newline.
abbrev NotLast : Option (Bor ℕ) → Bor ℕ → Bool
NotLast o r = not (option_eq (λ x y. nat_eq x.now y.now) o (Some r))

pub close-lacks : (c : List ℕ) (o : Option (Bor ℕ)) → option_copied o ≡ slice_get c (length c - 1) → (r : Bor ℕ) → r.now ≡ 10 → true ≡ NotLast o r → bytes "\n```\n" ≡ last_newline c ++ bytes "```\n"
close-lacks [] o v r k h = close_empty [] refl
close-lacks (x ∷ xs) None v r k h = absurd (none-some _ (v ∙ slice_get-get_or (x ∷ xs) (length (x ∷ xs) - 1) 0 (omega arith)))
close-lacks (x ∷ xs) (Some b) v r k h = close_other (x ∷ xs) (λ z. absurd (omega arith)) (λ e. let z : b.now ≡ r.now = sym (get_or_from_slice_get (x ∷ xs) (length (x ∷ xs) - 1) b.now 0 (sym v)) ∙ e ∙ sym k in absurd (true≢false (h ∙ ap not (eq-eqb b.now r.now z))))

pub close-ends : (c : List ℕ) (o : Option (Bor ℕ)) → option_copied o ≡ slice_get c (length c - 1) → (r : Bor ℕ) → r.now ≡ 10 → false ≡ NotLast o r → bytes "```\n" ≡ last_newline c ++ bytes "```\n"
close-ends c None v r k h = absurd (true≢false (sym h))
close-ends [] (Some b) v r k h = absurd (none-some _ (sym v))
close-ends (x ∷ xs) (Some b) v r k h = close_newline (x ∷ xs) (λ z. absurd (omega arith)) (get_or_from_slice_get (x ∷ xs) (length (x ∷ xs) - 1) b.now 0 (sym v) ∙ at (eqb b.now r.now) refl h ∙ k)
  where
    at : (t : Bool) → eqb b.now r.now ≡ t → false ≡ not t → b.now ≡ r.now
    at true q e = eqb-true b.now r.now q
    at false q e = absurd (true≢false (sym e))

-- OPENING.
module _ (v : View) {g q : List ℕ} (e : g ≡ q) (p : List ℕ) where
  pub source-long : {k : Refusal} → (255 < length (join g p)) × (number k ≡ 4) → {r : Result (Bor (List ℕ)) Refusal} → r ≡ Err k → Answers (opened v (join q p)) r
  source-long h y = rw (y, h.1) (long-opened v (join q p) (rw e at h.0))

-- A source that was opened, or not.
module _ (l : List ℕ) {a : Answer (List ℕ)} {w w₂ : Writer} {A : Type 0} {r : Result A Refusal} where
  pub source-refused : {k : Refusal} → a ≡ refused (number k) → r ≡ Err k → w₂ ≡ w → Wrote (fenced l a) w w₂ r
  unfolding fenced
  source-refused h e x = rw (h, e, x) (wrote-fail w _)

  pub source-put : {c : List ℕ} → a ≡ accepted c → Puts (block_text l c) w w₂ r → Wrote (fenced l a) w w₂ r
  unfolding fenced
  source-put h s = rw h (puts-wrote s)
