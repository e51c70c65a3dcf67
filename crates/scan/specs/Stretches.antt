-- Stretches of a text: every byte of one, the byte behind it, a stretch that begins later.
use Rattle.std.specs.Prelude.{◌≡◌, refl, List, [], ◌∷◌, Bool, true, false, ℕ, zero, suc, ◌+◌, ◌-◌, ◌≤◌, ◌<◌, length, take, drop, get_or}
use Rattle.std.proofs.Common.{sym, ap, ◌∙◌, arith, length-drop, take-append-drop, drop-cons, drop-drop, length-take-le, get_or-take, get_or-drop}
use Prim.Native.Char.{Char, code}
use Rattle.rules.specs.Reader.{all, but, span}
use Rattle.rules.proofs.Laws.Bool.{and_l, and_r, and_i}
use Rattle.rules.proofs.Laws.Texts.{all_left, all_right}
use Rattle.scan.specs.Sets.{part, Spans, not_byte}
use Rattle.scan.specs.Laws.{drop-take}

all-each : (p : ℕ → Bool) (l : List ℕ) (k : ℕ) → all p l ≡ true → k < length l → p (get_or l k 0) ≡ true
unfolding all
all-each p [] k h z = absurd (omega arith)
all-each p (x ∷ xs) zero h z = and_l (p x) (all p xs) h
all-each p (x ∷ xs) (suc k) h z = all-each p xs k (and_r (p x) (all p xs) h) (omega arith)

-- A part of a text whose bytes all have p.
pub all-part : (p : ℕ → Bool) (a e : ℕ) (t : List ℕ) → all p t ≡ true → all p (part t a e) ≡ true
all-part p a e t h =
    let d : all p (drop a t) ≡ true = all_right p (take a t) (drop a t) (ap (all p) (take-append-drop a t) ∙ h) in
    all_left p (part t a e) (drop (e - a) (drop a t)) (ap (all p) (take-append-drop (e - a) (drop a t)) ∙ d)

-- Every byte that a stretch takes has p.
pub span-took : (p : ℕ → Bool) (t : List ℕ) → all p (span p t).0 ≡ true
unfolding span all
span-took p [] = refl
span-took p (x ∷ xs) = at (p x) refl (span-took p xs)
  where
    at : (c : Bool) → p x ≡ c → all p (span p xs).0 ≡ true → all p (span p (x ∷ xs)).0 ≡ true
    at true q ih = rw (q, span) (and_i (p x) (all p (span p xs).0) q ih)
    at false q ih = rw (q, span) refl

-- Every byte of a stretch has p.
pub spans-each : {p : ℕ → Bool} {t : List ℕ} {i j : ℕ} → Spans p t i j → (k : ℕ) → i ≤ k → k < j → p (get_or t k 0) ≡ true
spans-each {p} {t} {i} {j} s k a b =
    let l : length (take (j - i) (drop i t)) ≡ j - i = length-take-le (j - i) (drop i t) (omega (arith, length-drop i t, s.inside)) in
    let e : p (get_or (take (j - i) (drop i t)) (k - i) 0) ≡ true = all-each p (take (j - i) (drop i t)) (k - i) (ap (all p) (sym s.took) ∙ span-took p (drop i t)) (omega arith) in
    let z : i + (k - i) ≡ k = omega arith in
    ap p (sym (get_or-take (j - i) (drop i t) (k - i) 0 (omega arith) ∙ get_or-drop i t (k - i) 0 ∙ ap (λ x. get_or t x 0) z)) ∙ e

-- A STRETCH that begins later ends where the whole stretch ends.
span-later : (p : ℕ → Bool) (t : List ℕ) (n : ℕ) → n ≤ length (span p t).0 → ((span p (drop n t)).0 ≡ drop n (span p t).0) × ((span p (drop n t)).1 ≡ (span p t).1)
unfolding span
span-later p t zero h = (refl, refl)
span-later p [] (suc n) h = absurd (omega arith)
span-later p (x ∷ xs) (suc n) h = at (p x) refl (span-later p xs n)
  where
    at : (c : Bool) → p x ≡ c → (n ≤ length (span p xs).0 → ((span p (drop n xs)).0 ≡ drop n (span p xs).0) × ((span p (drop n xs)).1 ≡ (span p xs).1)) →
        ((span p (drop n xs)).0 ≡ drop (suc n) (span p (x ∷ xs)).0) × ((span p (drop n xs)).1 ≡ (span p (x ∷ xs)).1)
    at true q ih =
        let e : span p (x ∷ xs) ≡ (x ∷ (span p xs).0, (span p xs).1) = rw (q, span) refl in
        let k = ih (omega (arith, ap (λ z. length z.0) e)) in
        (k.0 ∙ sym (ap (λ z. drop (suc n) z.0) e), k.1 ∙ sym (ap (λ z. z.1) e))
    at false q ih = let e : span p (x ∷ xs) ≡ ([], x ∷ xs) = rw (q, span) refl in absurd (omega (arith, ap (λ z. length z.0) e))

pub spans-later : {p : ℕ → Bool} {t : List ℕ} {i j k : ℕ} → Spans p t i j → i ≤ k → k ≤ j → Spans p t k j
spans-later {p} {t} {i} {j} {k} s a b =
    let n = k - i in
    let z : i + n ≡ k = omega arith in
    let m : j - i - n ≡ j - k = omega arith in
    let d : drop n (drop i t) ≡ drop k t = drop-drop n i t ∙ ap (λ x. drop x t) z in
    let l : length (take (j - i) (drop i t)) ≡ j - i = length-take-le (j - i) (drop i t) (omega (arith, length-drop i t, s.inside)) in
    let e = span-later p (drop i t) n (omega (arith, ap length s.took)) in
    record {
      on = b;
      inside = s.inside;
      took = ap (λ x. (span p x).0) (sym d) ∙ e.0 ∙ ap (drop n) s.took ∙ drop-take n (j - i) (drop i t) ∙ ap (λ x. take x (drop n (drop i t))) m ∙ ap (take (j - k)) d;
      rest = ap (λ x. (span p x).1) (sym d) ∙ e.1 ∙ s.rest;
    }

stops_at : (p : ℕ → Bool) (y : ℕ) (ys : List ℕ) (x : ℕ) (xs : List ℕ) (c : Bool) → p y ≡ c → (span p (y ∷ ys)).1 ≡ x ∷ xs → ((span p ys).1 ≡ x ∷ xs → p x ≡ false) → p x ≡ false
unfolding span
stops_at p y ys x xs true q e ih = ih (rw (q, span) at e)
stops_at p y ys x xs false q e ih = let z : y ∷ ys ≡ x ∷ xs = rw (q, span) at e in let w : y ≡ x = cc in sym (ap p w) ∙ q

pub span-stops : (p : ℕ → Bool) (t : List ℕ) (x : ℕ) (xs : List ℕ) → (span p t).1 ≡ x ∷ xs → p x ≡ false
unfolding span
span-stops p [] x xs e = let z : ◌≡◌ {A = List ℕ} [] (x ∷ xs) = e in let o : ◌≡◌ {A = ℕ} 0 1 = cc in absurd (omega arith)
span-stops p (y ∷ ys) x xs e = stops_at p y ys x xs (p y) refl e (span-stops p ys x xs)

-- Where a stretch ends within the text, the byte there is none of it.
pub spans-stop : {p : ℕ → Bool} {t : List ℕ} {i j : ℕ} → Spans p t i j → j < length t → p (get_or t j 0) ≡ false
spans-stop {p} {t} {i} {j} s h = span-stops p (drop i t) (get_or t j 0) (drop (suc j) t) (s.rest ∙ drop-cons t j 0 h)

-- The stretches that a search for a byte gives are those of the rules.
pub spans-but : (c : Char) {t : List ℕ} {i j : ℕ} → Spans (not_byte (code c)) t i j → Spans (but c) t i j
unfolding but
spans-but c s = s
