-- Paths: how far a segment has been read, and what the functions of `paths` promise.
use Rattle.std.specs.Prelude.{◌≡◌, refl, Option, None, Some, List, [], ◌∷◌, ◌++◌, Bool, true, false, not, ◌&&◌, leb, eqb, drop, get_or, ℕ, zero, suc, ◌+◌, ◌-◌, ◌≤◌, ◌<◌}
use Rattle.std.proofs.Math.Path.{sym, ap}
use Rattle.std.proofs.Common.{◌∙◌, length-append, take-suc, take_all, arith, le-leb, eq-eqb, ne_eqb}
use Rattle.std.proofs.Math.Bool.{and-true, and-false}
use Rattle.std.proofs.Math.Dec.{eqb-suc-suc}
use Rattle.std.proofs.Math.ListN.{length, take}
use Rattle.std.proofs.lemmas.Bool.{lt-leb, eqb-true, eqb-false}
use Rattle.std.proofs.lemmas.List.Sums.{suffix_len-take_yes, suffix_len-take_no}
use Rattle.std.specs.List.{fold, suffix_len}
use Rattle.std.specs.Option.{unwrap_or}
use Rattle.memchr.specs.Find.{IsLastByte, is_byte}
use Rattle.rules.specs.Reader.{the, but, all, empty, prefix, same, bytes}
use Rattle.rules.specs.Bytes.{blank, run_byte, prepend, split, is_segment, is_path, is_folder, holds, parent, trim, trim_end}
use Rattle.scan.specs.Sets.{Spans}
use Rattle.scan.specs.Laws.{not-empty}
use Rattle.paths.specs.declared.Segment.{Segment}
use Rattle.paths.specs.declared.Segment.TheVariants.{Empty, Dot, Dots, Good, Bad}

-- Behind one more `.`; behind another byte of a run; behind `/`.
abbrev pub dotted : Segment → Segment
dotted Empty = Dot
dotted Dot = Dots
dotted Dots = Good
dotted Good = Good
dotted Bad = Bad

abbrev pub named : Segment → Segment
named Empty = Good
named Dot = Good
named Dots = Good
named Good = Good
named Bad = Bad

abbrev pub ended : Segment → Segment
ended Empty = Bad
ended Dot = Bad
ended Dots = Bad
ended Good = Empty
ended Bad = Bad

abbrev pub whole : Segment → Bool
whole Empty = false
whole Dot = false
whole Dots = false
whole Good = true
whole Bad = false

-- Behind a byte that is no `/`; behind any byte.
unfoldable pub within : Segment → ℕ → Segment
within s x = elim (run_byte x) [ true ↦ elim (the "." x) [ true ↦ dotted s | false ↦ named s ] | false ↦ Bad ]

unfoldable pub step : Segment → ℕ → Segment
step s x = elim (the "/" x) [ true ↦ ended s | false ↦ within s x ]

-- Does a path end well that goes on with a text.
unfoldable pub ends : Segment → List ℕ → Bool
ends s [] = whole s
ends s (x ∷ xs) = ends (step s x) xs

-- A segment that is read on to its end.
unfoldable inside : Segment → List ℕ → Bool
inside s [] = whole s
inside s (x ∷ xs) = inside (within s x) xs

within_bad : (x : ℕ) (c d : Bool) → run_byte x ≡ c → the "." x ≡ d → within Bad x ≡ Bad
unfolding within
within_bad x false d p q = rw (p, within)
within_bad x true true p q = rw (p, q, within)
within_bad x true false p q = rw (p, q, within)

module _ (s : Segment) (x : ℕ) where
  within-no : run_byte x ≡ false → within s x ≡ Bad
  unfolding within
  within-no p = rw (p, within)

  within_dot : run_byte x ≡ true → the "." x ≡ true → within s x ≡ dotted s
  unfolding within
  within_dot p q = rw (p, q, within)

  within-name : run_byte x ≡ true → the "." x ≡ false → within s x ≡ named s
  unfolding within
  within-name p q = rw (p, q, within)

inside_bad : (w : List ℕ) → inside Bad w ≡ false
unfolding inside
inside_bad [] = refl
inside_bad (x ∷ xs) = rw (within_bad x (run_byte x) (the "." x) refl refl) (inside_bad xs)

inside-good : (w : List ℕ) → inside Good w ≡ all run_byte w
unfolding inside all
inside-good [] = refl
inside-good (x ∷ xs) = at (run_byte x) (the "." x) refl refl (inside-good xs)
  where
    at : (c d : Bool) → run_byte x ≡ c → the "." x ≡ d → inside Good xs ≡ all run_byte xs → inside (within Good x) xs ≡ (run_byte x && all run_byte xs)
    at false d p q ih = rw (within-no Good x p, p) (inside_bad xs)
    at true true p q ih = rw (within_dot Good x p q, p) ih
    at true false p q ih = rw (within-name Good x p q, p) ih

inside_dots : (w : List ℕ) → inside Dots w ≡ (all run_byte w && not (empty w))
unfolding inside all empty
inside_dots [] = refl
inside_dots (x ∷ xs) = at (run_byte x) (the "." x) refl refl
  where
    at : (c d : Bool) → run_byte x ≡ c → the "." x ≡ d → inside (within Dots x) xs ≡ (run_byte x && all run_byte xs && true)
    at false d p q = rw (within-no Dots x p, p) (inside_bad xs)
    at true true p q = rw (within_dot Dots x p q, p) (inside-good xs ∙ sym (and-true (all run_byte xs)))
    at true false p q = rw (within-name Dots x p q, p) (inside-good xs ∙ sym (and-true (all run_byte xs)))

inside_dot : (w : List ℕ) → inside Dot w ≡ (all run_byte w && not (empty w) && not (same w (bytes ".")))
unfolding inside all empty same prefix the
inside_dot [] = refl
inside_dot (x ∷ xs) = at (run_byte x) (the "." x) xs refl refl
  where
    at : (c d : Bool) (w : List ℕ) → run_byte x ≡ c → the "." x ≡ d → inside (within Dot x) w ≡ (run_byte x && all run_byte w && true && not (eqb (length (x ∷ w)) 1 && (the "." x && prefix w [])))
    at false d w p q = rw (within-no Dot x p, p) (inside_bad w)
    at true true [] p q = rw (within_dot Dot x p q, p, q) refl
    at true true (y ∷ ys) p q = rw (within_dot Dot x p q, p, q, and-false) (inside_dots (y ∷ ys) ∙ sym (and-true _))
    at true false w p q = rw (within-name Dot x p q, p, q, and-false) (inside-good w ∙ sym (and-true _ ∙ and-true _))

inside-empty : (w : List ℕ) → inside Empty w ≡ is_segment w
unfolding inside all empty same prefix the is_segment
inside-empty [] = refl
inside-empty (x ∷ xs) = at (run_byte x) (the "." x) xs refl refl
  where
    at : (c d : Bool) (w : List ℕ) → run_byte x ≡ c → the "." x ≡ d →
        inside (within Empty x) w ≡ (run_byte x && all run_byte w && true && not (eqb (length (x ∷ w)) 1 && (the "." x && prefix w [])) && not (eqb (length (x ∷ w)) 2 && (the "." x && prefix w (bytes "."))))
    at false d w p q = rw (within-no Empty x p, p) (inside_bad w)
    at true true [] p q = rw (within_dot Empty x p q, p, q) refl
    at true true (y ∷ ys) p q = rw (within_dot Empty x p q, p, q, and-false, eqb-suc-suc (length (y ∷ ys)) 1) (inside_dot (y ∷ ys) ∙ ap (λ z. z && not (same (y ∷ ys) (bytes "."))) (sym (and-true (all run_byte (y ∷ ys) && true))))
    at true false w p q = rw (within-name Empty x p q, p, q, and-false, and-false) (inside-good w ∙ sym (and-true _ ∙ and-true _ ∙ and-true _))

-- A path's segments, the first of them read in part.
abbrev froms : Segment → List (List ℕ) → Bool
froms s [] = true
froms s (p ∷ ps) = inside s p && all is_segment ps

froms-all : (l : List (List ℕ)) → froms Empty l ≡ all is_segment l
unfolding all
froms-all [] = refl
froms-all (p ∷ ps) = rw (inside-empty p)

froms-prepend : (s : Segment) (x : ℕ) (l : List (List ℕ)) → (l ≡ [] → ⊥) → froms s (prepend x l) ≡ froms (within s x) l
unfolding prepend inside all
froms-prepend s x [] h = absurd (h refl)
froms-prepend s x (p ∷ ps) h = refl

prepend-some : (x : ℕ) (l : List (List ℕ)) → prepend x l ≡ [] → ⊥
unfolding prepend
prepend-some x [] h = let z : ◌≡◌ {A = ℕ} 0 1 = cc in omega arith
prepend-some x (p ∷ ps) h = let z : ◌≡◌ {A = ℕ} 0 1 = cc in omega arith

split-some : (t : List ℕ) → split "/" t ≡ [] → ⊥
unfolding split
split-some [] h = let z : ◌≡◌ {A = ℕ} 0 1 = cc in omega arith
split-some (x ∷ xs) h = at (the "/" x) refl
  where
    at : (c : Bool) → the "/" x ≡ c → ⊥
    at true p = let k : [] ∷ split "/" xs ≡ [] = rw (p, split) at h in let z : ◌≡◌ {A = ℕ} 0 1 = cc in omega arith
    at false p = prepend-some x (split "/" xs) (rw (p, split) at h)

ends_bad : (t : List ℕ) → ends Bad t ≡ false
unfolding ends step
ends_bad [] = refl
ends_bad (x ∷ xs) = rw (step_bad x (the "/" x) refl) (ends_bad xs)
  where
    step_bad : (x : ℕ) (c : Bool) → the "/" x ≡ c → step Bad x ≡ Bad
    step_bad x true p = rw (p, step)
    step_bad x false p = rw (p, step) (within_bad x (run_byte x) (the "." x) refl refl)

ended-ends : (s : Segment) (t : List ℕ) → (whole s && ends Empty t) ≡ ends (ended s) t
ended-ends Empty t = sym (ends_bad t)
ended-ends Dot t = sym (ends_bad t)
ended-ends Dots t = sym (ends_bad t)
ended-ends Good t = refl
ended-ends Bad t = sym (ends_bad t)

froms-ends : (s : Segment) (t : List ℕ) → froms s (split "/" t) ≡ ends s t
unfolding split ends inside all step
froms-ends s [] = and-true (whole s)
froms-ends s (x ∷ xs) = at (the "/" x) refl (froms-ends Empty xs) (froms-ends (within s x) xs)
  where
    at : (c : Bool) → the "/" x ≡ c → froms Empty (split "/" xs) ≡ ends Empty xs → froms (within s x) (split "/" xs) ≡ ends (within s x) xs → froms s (split "/" (x ∷ xs)) ≡ ends (step s x) xs
    at true p e f = rw (p, split, step) (ap (λ z. whole s && z) (sym (froms-all (split "/" xs)) ∙ e) ∙ ended-ends s xs)
    at false p e f = rw (p, split, step) (froms-prepend s x (split "/" xs) (split-some xs) ∙ f)

pub path-long : (p : List ℕ) → 255 < length p → false ≡ is_path p
unfolding is_path
path-long p h = rw (lt-leb (length p) 255 h, and-false) refl

-- What one pass over a path has left to read.
path-ends : (p : List ℕ) → length p ≤ 255 → is_path p ≡ ends Empty p
unfolding is_path ends
path-ends p h = rw (le-leb (length p) 255 h) (at p)
  where
    at : (p : List ℕ) → (leb 1 (length p) && true && all is_segment (split "/" p)) ≡ ends Empty p
    at [] = refl
    at (x ∷ xs) = rw (le-leb 1 (length (x ∷ xs)) (omega arith)) (sym (froms-all (split "/" (x ∷ xs))) ∙ froms-ends Empty (x ∷ xs))

-- One pass over a path, by `fold`.
ends-fold : (s : Segment) (t : List ℕ) → whole (fold step s t) ≡ ends s t
unfolding ends
ends-fold s [] = refl
ends-fold s (x ∷ xs) = ends-fold (step s x) xs

pub path-fold : (p : List ℕ) → length p ≤ 255 → whole (fold step Empty p) ≡ is_path p
path-fold p h = ends-fold Empty p ∙ sym (path-ends p h)

pub folder-empty : (g : List ℕ) → length g ≡ 0 → true ≡ is_folder g
unfolding is_folder empty
folder-empty [] h = refl
folder-empty (x ∷ xs) h = absurd (omega arith)

pub folder-path : (g : List ℕ) → (length g ≡ 0 → ⊥) → is_path g ≡ is_folder g
unfolding is_folder empty
folder-path [] h = absurd (h refl)
folder-path (x ∷ xs) h = refl

-- The ways through a step.
module _ (s : Segment) (x : ℕ) where
  pub step-slash : x ≡ 47 → ended s ≡ step s x
  unfolding step the
  step-slash h = rw (eq-eqb x 47 h, step)

  module _ (n : x ≡ 47 → ⊥) where
    pub step-no : run_byte x ≡ false → Bad ≡ step s x
    unfolding step the
    step-no q = rw (ne_eqb x 47 n, step) (sym (within-no s x q))

    pub step_dot : run_byte x ≡ true → x ≡ 46 → dotted s ≡ step s x
    unfolding step the
    step_dot q h = rw (ne_eqb x 47 n, step) (sym (within_dot s x q (eq-eqb x 46 h)))

    pub step-name : run_byte x ≡ true → (x ≡ 46 → ⊥) → named s ≡ step s x
    unfolding step the
    step-name q h = rw (ne_eqb x 47 n, step) (sym (within-name s x q (ne_eqb x 46 h)))

-- A PATH'S FOLDER has n bytes.
pub record Parent (p : List ℕ) (n : ℕ) : Type 0 where
  pub inside : n ≤ length p
  pub text : take n p ≡ parent p

holds-slash : (x : ℕ) (xs : List ℕ) → x ≡ 47 → holds "/" (x ∷ xs) ≡ true
unfolding holds all but
holds-slash x xs h = rw (eq-eqb x 47 h) refl

holds-other : (x : ℕ) (xs : List ℕ) → (x ≡ 47 → ⊥) → holds "/" (x ∷ xs) ≡ holds "/" xs
unfolding holds all but
holds-other x xs h = rw (ne_eqb x 47 h) refl

-- No byte from k on is `/`.
abbrev NoSlash : List ℕ → ℕ → Type 0
NoSlash p k = (j : ℕ) → k ≤ j → j < length p → get_or p j 0 ≡ 47 → ⊥

no-slash : (p : List ℕ) → NoSlash p 0 → holds "/" p ≡ false
unfolding holds all
no-slash [] h = refl
no-slash (x ∷ xs) h = holds-other x xs (h 0 (omega arith) (omega arith)) ∙ no-slash xs (λ j a b. h (suc j) (omega arith) (omega arith))

some-slash : (p : List ℕ) (k : ℕ) → k < length p → get_or p k 0 ≡ 47 → holds "/" p ≡ true
some-slash [] k h e = absurd (omega arith)
some-slash (x ∷ xs) zero h e = holds-slash x xs e
some-slash (x ∷ xs) (suc k) h e = at (eqb x 47) refl (some-slash xs k (omega arith) e)
  where
    at : (c : Bool) → eqb x 47 ≡ c → holds "/" xs ≡ true → holds "/" (x ∷ xs) ≡ true
    at true q ih = holds-slash x xs (eqb-true x 47 q)
    at false q ih = holds-other x xs (eqb-false x 47 q) ∙ ih

parent-cons : (x : ℕ) (xs : List ℕ) (c : Bool) → holds "/" xs ≡ c → parent (x ∷ xs) ≡ elim c [ true ↦ x ∷ parent xs | false ↦ [] ]
unfolding parent
parent-cons x xs c q = rw (q, parent)

-- What stands before the last `/`, and where there is none.
last-slash : (p : List ℕ) (k : ℕ) → k < length p → get_or p k 0 ≡ 47 → NoSlash p (suc k) → take k p ≡ parent p
last-slash [] k h e n = absurd (omega arith)
last-slash (x ∷ xs) zero h e n = sym (parent-cons x xs false (no-slash xs (λ j a b. n (suc j) (omega arith) (omega arith))))
last-slash (x ∷ xs) (suc k) h e n =
    ap (λ z. x ∷ z) (last-slash xs k (omega arith) e (λ j a b. n (suc j) (omega arith) (omega arith)))
    ∙ sym (parent-cons x xs true (some-slash xs k (omega arith) e))

parent-last : {p : List ℕ} {k : ℕ} → k < length p → get_or p k 0 ≡ 47 → NoSlash p (suc k) → Parent p k
parent-last {p} {k} h e n = record { inside = omega arith; text = last-slash p k h e n }

parent-nil : parent [] ≡ []
unfolding parent
parent-nil = refl

parent-none : {p : List ℕ} → NoSlash p 0 → Parent p 0
parent-none {p} n = record { inside = omega arith; text = at p n }
  where
    at : (p : List ℕ) → NoSlash p 0 → [] ≡ parent p
    at [] n = sym parent-nil
    at (x ∷ xs) n = sym (parent-cons x xs false (no-slash xs (λ j a b. n (suc j) (omega arith) (omega arith))))

-- What `memrchr` finds.
pub parent-found : (p : List ℕ) (r : Option ℕ) {k : ℕ} → IsLastByte (is_byte 47) p r → k ≡ unwrap_or r 0 → Parent p k
parent-found p None f e = rw e (parent-none (λ j a b z. f j a b (eq-eqb _ _ z)))
parent-found p (Some k) f e = rw e (parent-last f.0.high (eqb-true _ _ f.1) (λ j a b z. f.0.after j (omega arith) b (eq-eqb _ _ z)))

-- TRIMMING. n bytes are left without the trailing blanks.
pub record TrimsEnd (t : List ℕ) (n : ℕ) : Type 0 where
  pub inside : n ≤ length t
  pub text : take n t ≡ trim_end t

-- Blanks behind a text are trimmed with its own; behind anything else the text stays whole.
trim_end-cons : (x : ℕ) (xs : List ℕ) (c : Bool) → (blank x && empty (trim_end xs)) ≡ c → trim_end (x ∷ xs) ≡ elim c [ true ↦ [] | false ↦ x ∷ trim_end xs ]
unfolding trim_end
trim_end-cons x xs c q = rw (q, trim_end)

pub trim-append : (v w : List ℕ) → trim_end w ≡ [] → trim_end (v ++ w) ≡ trim_end v
unfolding trim_end
trim-append [] w h = h
trim-append (x ∷ xs) w h =
    let e = trim-append xs w h in
    trim_end-cons x (xs ++ w) (blank x && empty (trim_end xs)) (ap (λ z. blank x && empty z) e) ∙ ap (λ z. elim (blank x && empty (trim_end xs)) [ true ↦ [] | false ↦ x ∷ z ]) e ∙ sym (trim_end-cons x xs (blank x && empty (trim_end xs)) refl)

pub trim-whole : (v w : List ℕ) → 0 < length (trim_end w) → trim_end (v ++ w) ≡ v ++ trim_end w
trim-whole [] w h = refl
trim-whole (x ∷ xs) w h =
    let e = trim-whole xs w h in
    let l = length-append xs (trim_end w) in
    trim_end-cons x (xs ++ w) false (rw (not-empty (trim_end (xs ++ w)) (λ z. absurd (omega (arith, ap length e))), and-false) refl) ∙ ap (λ z. x ∷ z) e

pub trim-first : (v : List ℕ) → take (length (trim_end v)) v ≡ trim_end v
unfolding trim_end
trim-first [] = refl
trim-first (x ∷ xs) = at (blank x && empty (trim_end xs)) refl (trim-first xs)
  where
    at : (c : Bool) → (blank x && empty (trim_end xs)) ≡ c → take (length (trim_end xs)) xs ≡ trim_end xs → take (length (trim_end (x ∷ xs))) (x ∷ xs) ≡ trim_end (x ∷ xs)
    at true e ih = let z = trim_end-cons x xs true e in ap (λ y. take (length y) (x ∷ xs)) z ∙ sym z
    at false e ih = let z = trim_end-cons x xs false e in ap (λ y. take (length y) (x ∷ xs)) z ∙ ap (λ y. x ∷ y) ih ∙ sym z

-- Behind n bytes there are blanks alone.
pub record Trimming (t : List ℕ) (n : ℕ) : Type 0 where
  pub inside : n ≤ length t
  pub rest : trim_end t ≡ trim_end (take n t)

pub trimming-start : (t : List ℕ) → Trimming t (length t)
trimming-start t = record { inside = omega arith; rest = ap trim_end (sym (take_all (length t) t (omega arith))) }

module _ {t : List ℕ} {n : ℕ} (k : Trimming t n) (h : 0 < n) where
  last : take n t ≡ take (n - 1) t ++ (get_or t (n - 1) 0 ∷ [])
  last = let e : n ≡ suc (n - 1) = omega arith in ap (λ z. take z t) e ∙ take-suc t (n - 1) 0 (omega (arith, k.inside))

  pub trimming-blank : blank (get_or t (n - 1) 0) ≡ true → Trimming t (n - 1)
  trimming-blank e = record { inside = omega (arith, k.inside); rest = k.rest ∙ ap trim_end last ∙ trim-append (take (n - 1) t) (get_or t (n - 1) 0 ∷ []) (trim_end-cons (get_or t (n - 1) 0) [] true (unfold trim_end empty in (rw e refl))) }

  pub trimming-stop : blank (get_or t (n - 1) 0) ≡ false → TrimsEnd t n
  trimming-stop e =
      let x = get_or t (n - 1) 0 in
      let y : trim_end (x ∷ []) ≡ x ∷ [] = trim_end-cons x [] false (rw e refl) ∙ (unfold trim_end in refl) in
      record { inside = k.inside; text = last ∙ sym (k.rest ∙ ap trim_end last ∙ trim-whole (take (n - 1) t) (x ∷ []) (omega (arith, ap length y)) ∙ ap (λ z. take (n - 1) t ++ z) y) }

pub trimming-none : {t : List ℕ} {n : ℕ} → Trimming t n → n ≤ 0 → TrimsEnd t n
trimming-none {t} {n} k h =
    let e : n ≡ 0 = omega arith in
    record { inside = k.inside; text = ap (λ z. take z t) e ∙ sym (k.rest ∙ ap (λ z. trim_end (take z t)) e ∙ (unfold trim_end in refl)) }

-- As many blanks as there are from the end.
module _ (t : List ℕ) where
  trims-from : (n : ℕ) → Trimming t n → TrimsEnd t (n - suffix_len blank (take n t))
  trims-from zero k = let e : 0 - suffix_len blank (take 0 t) ≡ 0 = omega arith in rw e (trimming-none k (omega arith))
  trims-from (suc n) k = at (blank (get_or t n 0)) refl (trims-from n)
    where
      z : suc n - 1 ≡ n
      z = omega arith

      at : (c : Bool) → blank (get_or t n 0) ≡ c → (Trimming t n → TrimsEnd t (n - suffix_len blank (take n t))) → TrimsEnd t (suc n - suffix_len blank (take (suc n) t))
      at true q ih =
          let w : suffix_len blank (take (suc n) t) ≡ 1 + suffix_len blank (take n t) = rw z at (suffix_len-take_yes blank t (suc n) 0 (omega arith) k.inside (rw z q)) in
          let e : suc n - suffix_len blank (take (suc n) t) ≡ n - suffix_len blank (take n t) = omega arith in
          rw e (ih (rw z at (trimming-blank k (omega arith) (rw z q))))
      at false q ih =
          let w = suffix_len-take_no blank t (suc n) 0 (omega arith) k.inside (rw z q) in
          let e : suc n - suffix_len blank (take (suc n) t) ≡ suc n = omega arith in
          rw e (trimming-stop k (omega arith) (rw z q))

  pub trims-end : TrimsEnd t (length t - suffix_len blank t)
  trims-end = let e = take_all (length t) t (omega arith) in rw e at (trims-from (length t) (trimming-start t))

-- Without the leading blanks, and then without the trailing ones.
pub trims : (t : List ℕ) (a : ℕ) → Spans blank t 0 a → trim_end (drop a t) ≡ trim t
unfolding trim
trims t a s = ap trim_end (sym s.rest)
