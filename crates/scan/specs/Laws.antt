-- Scanning at a place of a text.
use Rattle.std.specs.Prelude.{◌≡◌, List, [], ◌∷◌, ◌++◌, Bool, true, false, not, ltb, eqb, length, take, get_or}
use Rattle.std.proofs.Math.Path.{refl}
use Rattle.std.proofs.Common.{sym, ap, ◌∙◌, append_assoc, true≢false, drop_of_length-le, length-append, length-drop, drop-drop, take-add, take_all}
use Rattle.std.proofs.lemmas.Bool.{false≢true}
use Prim.Native.Char.{Char, code}
use Prim.Native.Nat.{ℕ, zero, suc, ◌+◌, ◌-◌, ◌≤◌, ◌<◌}
use Rattle.std.proofs.Math.Numerals.{add-one}
use Rattle.std.proofs.Math.Nat.{sub-zero, suc-sub-suc}
use native.Mathlib.Omega.{arith}
use Rattle.std.proofs.Math.Decide.{dec_le}
use Rattle.std.proofs.Math.ListN.{drop}
use Rattle.std.proofs.Math.Seq.{drop-cons, take-nil, take-append_seam}
use borrow.Author.Tests.{lt-ltb, le-ltb, eq-eqb, ne_eqb, eqb-true, not-true as negated-true, not-false as negated-false}
use Rattle.rules.specs.Reader.{the, but, all, empty, span, sees, skip, prefix, mark}
use Rattle.rules.specs.Run.{ends_in_newline}
use Rattle.rules.proofs.Laws.Bool.{and_l, and_r, and_i}
use Rattle.scan.specs.Sets.{byte_is, Spans, Sees, Starts, Stands, Skips}

module _ (p : ℕ → Bool) (t : List ℕ) (i : ℕ) where
  pub sees-at : i < length t → sees p (drop i t) ≡ (p (get_or t i 0), drop i t)
  unfolding sees
  sees-at h = rw (drop-cons t i 0) refl

  pub sees-is : {r : Bool} → i < length t → r ≡ p (get_or t i 0) → Sees p t i r
  sees-is h e = record { says = rw e (sees-at h); there = λ z. h }

  pub sees-end : length t ≤ i → Sees p t i false
  unfolding sees
  sees-end h = record { says = rw (drop_of_length-le t h) refl; there = λ e. absurd (true≢false (sym e)) }

-- What is seen, by what the test of it said.
pub seen : {p : ℕ → Bool} {t : List ℕ} {i : ℕ} {r v : Bool} → Sees p t i r → r ≡ v → Sees p t i v
seen s e = rw e at s

-- What the scan of a byte says of the character.
pub sees-the : (c : Char) {t : List ℕ} {i : ℕ} {r v : Bool} → Sees (byte_is (code c)) t i r → r ≡ v → Sees (the c) t i v
unfolding the
sees-the c s e = rw e at s

-- A byte that is another one than c is not c; any other byte is.
pub but-yes : (c : Char) (x : ℕ) → but c x ≡ true → the c x ≡ false
unfolding but the
but-yes c x h = negated-true (eqb x (code c)) h

pub but-no : (c : Char) (x : ℕ) → but c x ≡ false → the c x ≡ true
unfolding but the
but-no c x h = negated-false (eqb x (code c)) h

-- The END of a text: is anything left, and has a text any byte.
pub not_end : (t : List ℕ) (i : ℕ) → not (empty (drop i t)) ≡ ltb i (length t)
unfolding empty
not_end t i = go (dec_le (length t) i)
  where
    go : Dec (length t ≤ i) → not (empty (drop i t)) ≡ ltb i (length t)
    go (yes h) = rw (drop_of_length-le t h, le-ltb i (length t) h) refl
    go (no h) = let z : i < length t = omega arith in rw (drop-cons t i 0 z, lt-ltb i (length t) z) refl

pub not-empty : (t : List ℕ) → (length t ≡ 0 → ⊥) → empty t ≡ false
unfolding empty
not-empty [] h = absurd (h refl)
not-empty (x ∷ xs) h = refl

-- The last byte of a text.
pub ends_last : (c : List ℕ) → 0 < length c → ends_in_newline c ≡ eqb (get_or c (length c - 1) 0) 10
unfolding ends_in_newline
ends_last [] h = absurd (omega arith)
ends_last (x ∷ []) h = refl
ends_last (x ∷ y ∷ ys) h = let z : length (x ∷ y ∷ ys) - 1 ≡ suc (length (y ∷ ys) - 1) = omega arith in rw z (ends_last (y ∷ ys) (omega arith))

pub skip_at : (t : List ℕ) (i : ℕ) → i < length t → (skip (drop i t)).1 ≡ drop (i + 1) t
unfolding skip
skip_at t i h = rw (add-one, drop-cons t i 0) refl

pub skips-at : (t : List ℕ) (i : ℕ) → i < length t → Skips t i (i + 1)
skips-at t i h = record { on = omega arith; inside = omega arith; rest = skip_at t i h }

pub skips-end : (t : List ℕ) (i : ℕ) → i ≤ length t → length t ≤ i → Skips t i i
unfolding skip
skips-end t i h k = record { on = omega arith; inside = h; rest = rw (drop_of_length-le t k) refl }

-- what a span takes is behind it
pub record Spanning (p : ℕ → Bool) (t : List ℕ) (at i : ℕ) : Type 0 where
  pub on : at ≤ i
  pub inside : i ≤ length t
  pub took : (span p (drop at t)).0 ≡ take (i - at) (drop at t) ++ (span p (drop i t)).0
  pub rest : (span p (drop at t)).1 ≡ (span p (drop i t)).1

-- what stands from `at` to k, cut at i
pub cut_at : (t : List ℕ) (at i k : ℕ) → at ≤ i → i ≤ k → take (k - at) (drop at t) ≡ take (i - at) (drop at t) ++ take (k - i) (drop i t)
cut_at t at i k h g =
    let a : k - at ≡ (i - at) + (k - i) = omega arith in
    let b : at + (i - at) ≡ i = omega arith in
    rw (a, take-add, drop-drop, b) refl

get_or-there : (t : List ℕ) (at i : ℕ) → at ≤ i → i < length t → take (suc i - at) (drop at t) ≡ take (i - at) (drop at t) ++ (get_or t i 0 ∷ [])
get_or-there t at i h k = let e : suc i - i ≡ 1 = omega arith in cut_at t at i (suc i) h (omega arith) ∙ rw (e, drop-cons t i 0) refl

module _ (p : ℕ → Bool) (t : List ℕ) (at : ℕ) where
  module _ (i : ℕ) (s : Spanning p t at i) where
    pub spanning-on : i < length t → p (get_or t i 0) ≡ true → Spanning p t at (i + 1)
    unfolding span
    spanning-on h e =
        let k : span p (drop i t) ≡ (get_or t i 0 ∷ (span p (drop (suc i) t)).0, (span p (drop (suc i) t)).1) = rw (drop-cons t i 0) (rw (e, span) refl) in
        rw add-one (record {
          on = omega (arith, s.on);
          inside = h;
          took = s.took ∙ rw (k, get_or-there t at i s.on h, append_assoc) refl;
          rest = s.rest ∙ rw k refl;
        })

    -- what is left of it is a stretch from i
    pub spanning-then : {j : ℕ} → Spans p t i j → Spans p t at j
    spanning-then {j} r = record {
      on = omega (arith, s.on, r.on);
      inside = r.inside;
      took = s.took ∙ rw (r.took, cut_at t at i j s.on r.on) refl;
      rest = s.rest ∙ r.rest;
    }

-- a mark that stands there is no longer than the text
pub prefix-fits : (m t : List ℕ) → prefix m t ≡ true → length m ≤ length t
unfolding prefix
prefix-fits [] t h = omega arith
prefix-fits (x ∷ m) [] h = absurd (false≢true h)
prefix-fits (x ∷ m) (y ∷ t) h = let i = prefix-fits m t (and_r (eqb x y) (prefix m t) h) in omega arith

pub starts-short : (m t : List ℕ) (at : ℕ) → at ≤ length t → length t - at < length m → Starts m t at false
starts-short m t at h g = record { says = no (prefix m (drop at t)) refl; there = λ e. absurd (false≢true e) }
  where
    no : (c : Bool) → prefix m (drop at t) ≡ c → prefix m (drop at t) ≡ false
    no false e = e
    no true e = absurd (omega (arith, prefix-fits m (drop at t) e, length-drop at t))

-- i bytes of the mark m stand at `at`
pub record Matching (m t : List ℕ) (at i : ℕ) : Type 0 where
  pub short : i ≤ length m
  pub inside : at + i ≤ length t
  pub same : prefix m (drop at t) ≡ prefix (drop i m) (drop (at + i) t)

module _ (m t : List ℕ) (at : ℕ) where
  module _ (i : ℕ) (s : Matching m t at i) where
    pub matching-no : i < length m → at + i < length t → (get_or m i 0 ≡ get_or t (at + i) 0 → ⊥) → Starts m t at false
    unfolding prefix
    matching-no h g n = record { says = s.same ∙ rw (drop-cons m i 0, drop-cons t (at + i) 0, ne_eqb _ _ n) refl; there = λ e. absurd (false≢true e) }

    pub matching-on : i < length m → at + i < length t → get_or m i 0 ≡ get_or t (at + i) 0 → Matching m t at (i + 1)
    unfolding prefix
    matching-on h g e =
        let k : at + (i + 1) ≡ suc (at + i) = omega arith in
        record { short = omega arith; inside = omega arith; same = s.same ∙ rw (k, add-one, drop-cons m i 0, drop-cons t (at + i) 0, eq-eqb _ _ e) refl }

    pub matching-end : length m ≤ i → Starts m t at true
    unfolding prefix
    matching-end h = record { says = s.same ∙ rw (drop_of_length-le m h) refl; there = λ e. omega (arith, s.inside, s.short) }

-- a mark that stands at i, and one that does not
pub mark_of : (m t : List ℕ) (r : Bool) → prefix m t ≡ r → mark m t ≡ elim r [ true ↦ (true, drop (length m) t) | false ↦ (false, t) ]
unfolding mark
mark_of m t r e = rw (e, mark) refl

module _ {m t : List ℕ} {i : ℕ} {r : Bool} (s : Starts m t i r) where
  pub mark-yes : r ≡ true → mark m (drop i t) ≡ (true, drop (i + length m) t)
  mark-yes e = mark_of m (drop i t) true (s.says ∙ e) ∙ ap (λ z. (true, z)) (drop-drop (length m) i t)

  pub mark-no : r ≡ false → mark m (drop i t) ≡ (false, drop i t)
  mark-no e = mark_of m (drop i t) false (s.says ∙ e)

-- A test for a mark, by its answer.
pub starts_as : {m t : List ℕ} {i : ℕ} {r c : Bool} → Starts m t i r → r ≡ c → Starts m t i c
starts_as s e = rw e at s

-- A text that begins with a mark is the mark and what is behind it.
pub prefix-split : (m t : List ℕ) → prefix m t ≡ true → t ≡ m ++ drop (length m) t
unfolding prefix
prefix-split [] t h = refl
prefix-split (c ∷ m) [] h = absurd (true≢false (sym h))
prefix-split (c ∷ m) (x ∷ xs) h =
    let e : c ≡ x = eqb-true c x (and_l (eqb c x) (prefix m xs) h) in
    λ j. sym e j ∷ prefix-split m xs (and_r (eqb c x) (prefix m xs) h) j

pub stands : (m t : List ℕ) (at : ℕ) → at ≤ length t → prefix m (drop at t) ≡ true → Stands m t at (at + length m)
stands m t at l h =
    let e = prefix-split m (drop at t) h in
    let z : at + length m - at ≡ length m = omega arith in
    record {
      on = omega arith;
      inside = omega (arith, length-drop at t, ap length e ∙ length-append m (drop (length m) (drop at t)));
      text = rw z (ap (take (length m)) e ∙ take-append_seam m (drop (length m) (drop at t)));
    }

-- All bytes to the end.
none-all : (p : ℕ → Bool) (x : ℕ) (xs : List ℕ) (c : Bool) → p x ≡ c → (span p (x ∷ xs)).1 ≡ [] → ((span p xs).1 ≡ [] → all p xs ≡ true) → all p (x ∷ xs) ≡ true
unfolding span all
none-all p x xs true q h ih = and_i (p x) (all p xs) q (ih (rw (q, span) at h))
none-all p x xs false q h ih = let z : x ∷ xs ≡ [] = rw (q, span) at h in let o : ◌≡◌ {A = ℕ} 0 1 = cc in absurd (omega arith)

pub span-all : (p : ℕ → Bool) (t : List ℕ) → (span p t).1 ≡ [] → all p t ≡ true
unfolding span all
span-all p [] h = refl
span-all p (x ∷ xs) h = none-all p x xs (p x) refl h (span-all p xs)

pub drop-take : (a n : ℕ) (l : List ℕ) → drop a (take n l) ≡ take (n - a) (drop a l)
drop-take zero n l = rw sub-zero
drop-take (suc a) zero l = let z : 0 - suc a ≡ 0 = omega arith in rw z refl
drop-take (suc a) (suc n) [] = sym (take-nil (suc n - suc a))
drop-take (suc a) (suc n) (x ∷ xs) = rw suc-sub-suc (drop-take a n xs)

pub tail-part : (t : List ℕ) (a : ℕ) → take (length t - a) (drop a t) ≡ drop a t
tail-part t a = take_all (length t - a) (drop a t) (omega (arith, length-drop a t))
