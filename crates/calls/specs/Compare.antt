-- An expression that begins with another byte than a text.
use Rattle.std.specs.Prelude.{◌≡◌, List, [], ◌∷◌, Bool, true, false, not, ◌&&◌, eqb, length, get_or}
use Rattle.std.proofs.Math.Path.{refl}
use Rattle.std.proofs.Common.{sym, ap, ◌∙◌, arith}
use Prim.Native.Nat.{ℕ, ◌≤◌}
use Rattle.rules.specs.Reader.{if_r, ◌>>=◌, ◌>>◌, the, but, span, sees, skip, prefix, same, rounds}
use Rattle.rules.specs.Bytes.{blank, line_blank}
use Rattle.rules.specs.Sheet.{Lookup}
use Rattle.rules.specs.Strings.{onto, literal_from, literal, expression_round, expression}
use Rattle.scan.specs.Sets.{plain_byte}
use Rattle.rules.proofs.Laws.Bool.{and_l, and_r, and_i, not-true, true-eqb, eqb-true}
use Rattle.std.proofs.lemmas.Bool.{eqb-false, not-true as negated}
use Rattle.rules.proofs.Laws.Sheet.{same_eq}
use Rattle.string_ends.specs.Text.{begins, plus-begins, loop-at, loop-begins}

-- For every lookup an expression's text is another than w.
pub record Differs (t w : List ℕ) : Type 0 where
  pub differs : (look : Lookup) → same (expression look t).0 w ≡ false

-- An expression that begins with a literal begins with its first byte, where that stands for itself.
literal-first : (y : ℕ) (r : List ℕ) → plain_byte y ≡ true → prefix (y ∷ []) (literal (y ∷ r)).0 ≡ true
unfolding literal literal_from onto prefix the but
literal-first y r h =
    let a : the "\"" y ≡ false = negated (the "\"" y) (and_l (but "\"" y) (but "\\" y) h) in
    let b : the "\\" y ≡ false = negated (the "\\" y) (and_r (but "\"" y) (but "\\" y) h) in
    rw (a, b, literal_from) (and_i (eqb y y) true (eqb-true y y refl) refl)

first-begins : (look : Lookup) (y : ℕ) (r : List ℕ) → plain_byte y ≡ true → prefix (y ∷ []) (expression look (34 ∷ y ∷ r)).0 ≡ true
unfolding expression rounds
first-begins look y r h = loop-at look (y ∷ []) _ [] (34 ∷ y ∷ r) _ refl (round-first (34 ∷ y ∷ r) refl) (loop-begins look (y ∷ []) _)
  where
    round-first : (t : List ℕ) → t ≡ 34 ∷ y ∷ r → begins look (y ∷ []) (expression_round look [] t).0 ≡ true
    round-first t e = unfold expression_round span sees skip if_r ◌>>=◌ ◌>>◌ the line_blank blank in (rw e ((plus-begins look (y ∷ []) _ (literal-first y r h)).yields _))

other-first : (look : Lookup) (y z : ℕ) (r w : List ℕ) → plain_byte y ≡ true → (y ≡ z → ⊥) → same (expression look (34 ∷ y ∷ r)).0 (z ∷ w) ≡ false
unfolding prefix
other-first look y z r w p n = not-true (same (expression look (34 ∷ y ∷ r)).0 (z ∷ w)) (λ s.
    let q : prefix (y ∷ []) (z ∷ w) ≡ true = sym (ap (prefix (y ∷ [])) (same_eq (expression look (34 ∷ y ∷ r)).0 (z ∷ w) s)) ∙ first-begins look y r p in
    n (true-eqb y z (and_l (eqb y z) true q)))

begins-other : (t w : List ℕ) → 2 ≤ length t → 1 ≤ length w → get_or t 0 0 ≡ 34 → plain_byte (get_or t 1 0) ≡ true → (get_or t 1 0 ≡ get_or w 0 0 → ⊥) → Differs t w
begins-other (a ∷ y ∷ r) (z ∷ w) h k e p n = record { differs = λ look. rw e (other-first look y z r w p n) }
begins-other [] w h k e p n = absurd (omega arith)
begins-other (a ∷ []) w h k e p n = absurd (omega arith)
begins-other (a ∷ y ∷ r) [] h k e p n = absurd (omega arith)

-- As the code tells it; m: does the byte stand for itself.
pub told-other : (t w : List ℕ) (m : Bool) → 2 ≤ length t → 1 ≤ length w → m ≡ plain_byte (get_or t 1 0) → ((eqb (get_or t 0 0) 34 && m) && not (eqb (get_or t 1 0) (get_or w 0 0))) ≡ true → Differs t w
told-other t w m h k e q =
    let x = eqb (get_or t 0 0) 34 in
    let y = not (eqb (get_or t 1 0) (get_or w 0 0)) in
    let a = and_l (x && m) y q in
    begins-other t w h k (true-eqb _ _ (and_l x m a)) (sym e ∙ and_r x m a) (eqb-false _ _ (negated _ (and_r (x && m) y q)))
