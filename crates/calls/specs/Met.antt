-- What is left of another text behind a text that comes piece by piece.
use Rattle.std.specs.Prelude.{Option, Some, None, MatchOption, ◌≡◌, ◌≢◌, refl, List, [], ◌∷◌, ◌++◌, ℕ, Bool, true, false, nat_eq, length}
use Rattle.std.specs.Borrow.{Bor}
use Rattle.std.proofs.Math.Path.{sym, ap}
use Rattle.std.proofs.Common.{◌∙◌, arith, append_assoc, append-nil, length-append, ne_eqb}
use Rattle.std.proofs.lemmas.List.{append_cancel_left}
use Rattle.rules.specs.Reader.{same}
use Rattle.rules.proofs.Laws.Sheet.{same_refl, same_eq}
use Rattle.calls.specs.declared.compare.Met.{Met}

-- The text v is met: x is left of l. Nothing is left where l does not begin with v, and then stays so.
unfoldable pub Leaves : Option (Bor (List ℕ)) → List ℕ → Option (Bor (List ℕ)) → Type 0
Leaves None v x = x ≡ None
Leaves (Some l) v x = MatchOption x ((rest : List ℕ) → l.now ≢ v ++ rest) (λ y. l.now ≡ v ++ y.now)

-- The text v is met by a, which is then b, with the same sheet.
abbrev pub Meets : Met → List ℕ → Met → Type 0
Meets a v b = (b.sheet.now ≡ a.sheet.now) × Leaves a.left v b.left

-- Nothing but the empty text is left.
unfoldable pub all_met : Option (Bor (List ℕ)) → Bool
all_met None = false
all_met (Some l) = nat_eq (length l.now) 0

pub leaves-all : (a : Option (Bor (List ℕ))) → Leaves a [] a
unfolding Leaves
leaves-all None = refl
leaves-all (Some l) = refl

-- One text behind the other.
pub leaves-more : (a b c : Option (Bor (List ℕ))) (v w : List ℕ) → Leaves a v b → Leaves b w c → Leaves a (v ++ w) c
unfolding Leaves
leaves-more None b c v w p q = rw p at q
leaves-more (Some l) None c v w p q = rw q (λ rest e. p (w ++ rest) (e ∙ append_assoc v w rest))
leaves-more (Some l) (Some x) None v w p q = λ rest e. q rest (append_cancel_left v x.now (w ++ rest) (sym p ∙ e ∙ append_assoc v w rest))
leaves-more (Some l) (Some x) (Some y) v w p q = p ∙ ap (λ z. v ++ z) q ∙ sym (append_assoc v w y.now)

-- Where nothing is left, nothing is behind more text.
pub leaves-past : (a b : Option (Bor (List ℕ))) (v w : List ℕ) → b ≡ None → Leaves a v b → Leaves a (v ++ w) b
unfolding Leaves
leaves-past None b v w d p = p
leaves-past (Some l) b v w d p = let n : (rest : List ℕ) → l.now ≢ v ++ rest = rw d at p in rw d (λ rest e. n (w ++ rest) (e ∙ append_assoc v w rest))

-- A text that has come whole is the same as l where all of l is met.
pub all-same : (l : Bor (List ℕ)) (v : List ℕ) (x : Option (Bor (List ℕ))) → Leaves (Some l) v x → all_met x ≡ same v l.now
unfolding Leaves all_met
all-same l v x p = at x (same v l.now) p refl
  where
    at : (x : Option (Bor (List ℕ))) (c : Bool) → Leaves (Some l) v x → same v l.now ≡ c → all_met x ≡ same v l.now
    at None false p e = sym e
    at None true p e = absurd (p [] (sym (same_eq v l.now e) ∙ sym (append-nil v)))
    at (Some y) c p e = left y.now c p e
      where
        left : (y : List ℕ) (c : Bool) → l.now ≡ v ++ y → same v l.now ≡ c → nat_eq (length y) 0 ≡ same v l.now
        left [] c p e = sym (ap (same v) (p ∙ append-nil v) ∙ same_refl v)
        left (z ∷ zs) false p e = ne_eqb (length (z ∷ zs)) 0 (λ h. absurd (omega arith)) ∙ sym e
        left (z ∷ zs) true p e = let k = ap length (same_eq v l.now e ∙ p) in absurd (omega (arith, k, length-append v (z ∷ zs)))
