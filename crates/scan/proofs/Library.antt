-- What the library's methods of a slice say, in the words of the rules.
use Rattle.std.specs.Prelude.{◌≡◌, refl, List, [], ◌∷◌, Bool, true, false, not, ◌&&◌, ◌||◌, ltb, eqb, ℕ, zero, suc, ◌+◌, ◌-◌, ◌≤◌, ◌<◌, length, take, drop, get_or, min, cond, Option, None, Some, MatchOption}
use Rattle.std.specs.List.{fold, list_all, list_any, prefix_len, position_or_len}
use Rattle.std.specs.Cmp.Lexicographic.{pointwise}
use Rattle.std.specs.Option.{option_eq}
use Rattle.std.specs.Slice.{IsItemAt}
use Rattle.std.proofs.Common.{Bor, sym, ap, true≢false, ◌∙◌, arith, add-one, add-zero, length-drop, drop-cons, drop-drop}
use Rattle.std.proofs.Math.Bool.{and_assoc}
use Rattle.std.proofs.Math.Dec.{eqb-suc-suc}
use Rattle.std.proofs.Math.Decide.{dec_le}
use Rattle.std.proofs.lemmas.List.Sums.{prefix_len-le-length}
use borrow.Author.Tests.{ltb-false, ne_eqb}
use Rattle.rules.specs.Reader.{all, span, prefix, same}
use Rattle.rules.proofs.Laws.Bool.{and_l, and_r, and_i}
use Rattle.scan.specs.Sets.{Spans, Sees, Skips, byte_is, not_byte}
use Rattle.scan.specs.Laws.{Spanning, spanning-on, seen, sees-is, sees-end, skips-at, skips-end, tail-part}

-- `take_while` and `count`: a stretch is the bytes from the front on that have p.
span_is : (p : ℕ → Bool) (t : List ℕ) → span p t ≡ (take (prefix_len p t) t, drop (prefix_len p t) t)
unfolding span
span_is p [] = refl
span_is p (x ∷ xs) = at (p x) refl (span_is p xs)
  where
    at : (c : Bool) → p x ≡ c → span p xs ≡ (take (prefix_len p xs) xs, drop (prefix_len p xs) xs) → span p (x ∷ xs) ≡ (take (prefix_len p (x ∷ xs)) (x ∷ xs), drop (prefix_len p (x ∷ xs)) (x ∷ xs))
    at true q ih = let e : 1 + prefix_len p xs ≡ suc (prefix_len p xs) = omega arith in rw (q, span, ih, e) refl
    at false q ih = rw (q, span) refl

pub spans_prefix : (p : ℕ → Bool) (t : List ℕ) (at n : ℕ) → at ≤ length t → n ≡ prefix_len p (drop at t) → Spans p t at (at + n)
spans_prefix p t at n h e =
    let k : at + n - at ≡ n = omega arith in
    record {
      on = omega arith;
      inside = omega (arith, prefix_len-le-length p (drop at t), length-drop at t);
      took = rw k (ap (λ z. z.0) (span_is p (drop at t)) ∙ ap (λ z. take z (drop at t)) (sym e));
      rest = ap (λ z. z.1) (span_is p (drop at t)) ∙ ap (λ z. drop z (drop at t)) (sym e) ∙ drop-drop n at t;
    }

-- `all`.
pub list_all-is : (p : ℕ → Bool) (t : List ℕ) → list_all p t ≡ all p t
unfolding all
list_all-is p [] = refl
list_all-is p (x ∷ xs) = ap (λ z. p x && z) (list_all-is p xs)

-- A block of bytes that all have p moves a stretch on.
module _ (p : ℕ → Bool) (t : List ℕ) (at : ℕ) where
  pub spanning_block : (n i : ℕ) → Spanning p t at i → i + n ≤ length t → all p (take n (drop i t)) ≡ true → Spanning p t at (i + n)
  unfolding all
  spanning_block zero i s h a = rw add-zero s
  spanning_block (suc n) i s h a =
      let l : i < length t = omega arith in
      let x : Bool = p (get_or t i 0) in
      let b : (x && all p (take n (drop (i + 1) t))) ≡ true = rw add-one (rw (drop-cons t i 0) at a) in
      let e : i + suc n ≡ i + 1 + n = omega arith in
      rw e (spanning_block n (i + 1) (spanning-on p t at i s l (and_l x _ b)) (omega arith) (and_r x _ b))

-- `contains`: a stretch goes on over a block without c.
without : (c : ℕ) (u : List ℕ) → list_any (λ y. eqb y c) u ≡ false → all (not_byte c) u ≡ true
unfolding all
without c [] h = refl
without c (x ∷ xs) h = let k = none (eqb x c) _ h in and_i (not_byte c x) (all (not_byte c) xs) (ap not k.0) (without c xs k.1)
  where
    none : (a b : Bool) → (a || b) ≡ false → (a ≡ false) × (b ≡ false)
    none true b h = absurd (true≢false h)
    none false b h = (refl, h)

pub over : (c : ℕ) (t : List ℕ) (at i n : ℕ) → Spanning (not_byte c) t at i → i + n ≤ length t → list_any (λ y. eqb y c) (take (i + n - i) (drop i t)) ≡ false → Spanning (not_byte c) t at (i + n)
over c t at i n s h e =
    let k : i + n - i ≡ n = omega arith in
    spanning_block (not_byte c) t at n i s h (rw k at (without c (take (i + n - i) (drop i t)) e))

-- `position`: no byte before the first c is c.
module _ (c : ℕ) (t : List ℕ) (i : ℕ) (h : i ≤ length t) where
  abbrev pub rest : List ℕ
  rest = take (length t - i) (drop i t)

  abbrev pub place : ℕ
  place = position_or_len (λ x. eqb x c) rest

  to-place : Spans (not_byte c) t i (i + place)
  to-place = spans_prefix (not_byte c) t i place h (ap (prefix_len (not_byte c)) (tail-part t i))

  pub found : {r : Option ℕ} {n : ℕ} → r ≡ cond (ltb place (length rest)) (Some place) None → r ≡ Some n → Spans (not_byte c) t i (i + n)
  found {r} {n} f e = rw (go (ltb place (length rest)) (sym e ∙ f)) to-place
    where
      go : (b : Bool) → Some n ≡ cond b (Some place) None → n ≡ place
      go true e = cc
      go false e = cc

  pub found-none : {r : Option ℕ} → r ≡ cond (ltb place (length rest)) (Some place) None → r ≡ None → Spans (not_byte c) t i (length t)
  found-none {r} f e =
      let l : length rest ≤ place = ltb-false place (length rest) (go (ltb place (length rest)) (sym e ∙ f)) in
      let k : i + place ≡ length t = omega (arith, prefix_len-le-length (not_byte c) rest, ap length (tail-part t i), length-drop i t) in
      rw k at to-place
    where
      go : (b : Bool) → None ≡ cond b (Some place) None → b ≡ false
      go true e = cc
      go false e = refl

-- `fold`: all bytes, each looked at.
pub fold-all : (p : ℕ → Bool) (t : List ℕ) (b : Bool) → fold (λ c x. c && p x) b t ≡ (b && all p t)
unfolding all
fold-all p [] true = refl
fold-all p [] false = refl
fold-all p (x ∷ xs) b = fold-all p xs (b && p x) ∙ and_assoc b (p x) (all p xs)

-- `get`: the byte at a place, if there is one, and what is said of it.
pub get-sees : (p : ℕ → Bool) (t : List ℕ) (i : ℕ) (o : Option (Bor ℕ)) (r : Bool) {Q : Bor ℕ → Type 0} → IsItemAt t i o → MatchOption o (r ≡ false) Q → ((x : Bor ℕ) → Q x → r ≡ p x.now) → Sees p t i r
get-sees p t i None r h e k = seen (sees-end p t i h.3) (sym e)
get-sees p t i (Some x) r h e k = sees-is p t i h.3.0 (k x e ∙ ap p (h.4 (omega arith) 0))

pub get-is : (c : ℕ) (t : List ℕ) (i : ℕ) (o : Option (Bor ℕ)) (r : Bool) (E : Bor ℕ → Bor ℕ → Bool) {y : Bor ℕ} → IsItemAt t i o → r ≡ option_eq E o (Some y) → ((x : Bor ℕ) → E x y ≡ byte_is c x.now) → Sees (byte_is c) t i r
get-is c t i None r E {y} h e k = get-sees (byte_is c) t i None r {Q = λ x. r ≡ E x y} h e (λ x q. q ∙ k x)
get-is c t i (Some x) r E {y} h e k = get-sees (byte_is c) t i (Some x) r {Q = λ x. r ≡ E x y} h e (λ x q. q ∙ k x)

-- `==`.
pub same-is : (p q : List ℕ) → pointwise eqb p q ≡ same p q
unfolding same prefix
same-is [] [] = refl
same-is [] (y ∷ q) = rw (ne_eqb 0 (suc (length q)) (λ e. absurd (omega arith))) refl
same-is (x ∷ p) [] = rw (ne_eqb (suc (length p)) 0 (λ e. absurd (omega arith))) refl
same-is (x ∷ p) (y ∷ q) = rw eqb-suc-suc (ap (λ z. eqb x y && z) (same-is p q) ∙ swap (eqb x y) (eqb (length p) (length q)) (prefix p q))
  where
    swap : (a b c : Bool) → (a && (b && c)) ≡ (b && (a && c))
    swap true b c = refl
    swap false true c = refl
    swap false false c = refl

-- `min`: one byte on, or none at the end.
pub skips-min : (t : List ℕ) (i : ℕ) → i ≤ length t → Skips t i (min (length t) (i + 1))
skips-min t i h = go (dec_le (length t) i)
  where
    go : Dec (length t ≤ i) → Skips t i (min (length t) (i + 1))
    go (yes k) = let e : min (length t) (i + 1) ≡ i = omega arith in rw e (skips-end t i h k)
    go (no k) = let e : min (length t) (i + 1) ≡ i + 1 = omega arith in rw e (skips-at t i (omega arith))
