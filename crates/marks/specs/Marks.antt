-- Marks in a text: a stretch without marks is copied, and the stretch before a mark may comment it.
use Rattle.std.specs.Prelude.{◌≡◌, List, [], ◌∷◌, ◌++◌, Option, Some, None, Bool, not, ℕ, suc, ◌+◌, ◌-◌, ◌≤◌, ◌<◌, eqb, length, take, drop, get_or, reverse, take_while}
use Rattle.std.proofs.Math.Path.{refl}
use Rattle.std.proofs.Common.{sym, ap, ◌∙◌, true≢false, arith, drop_of_length-le, drop-cons, cond, length-append}
use Rattle.std.proofs.Math.Seq.{drop-append_seam}
use Rattle.std.proofs.lemmas.Grind.{reverse_onto}
use Rattle.std.proofs.lemmas.List.Sums.{take_while-cons}
use Rattle.std.proofs.lemmas.List.{reverse-reverse, reverse-append, length-reverse}
use Rattle.std.proofs.Math.Bool.{true, false}
use Rattle.std.proofs.Math.Decide.{dec_le}
use borrow.Author.Tests.{ne_eqb}
use Rattle.rules.specs.Reader.{bytes, the, span, prefix, if_r, ◌>>=◌}
use Rattle.rules.specs.Run.{Emit, put, run, emitted, all_whole, write}
use Rattle.rules.specs.Bytes.{blank}
use Rattle.rules.specs.Files.{View}
use Rattle.rules.specs.Includes.{include_step, copy_byte, commented}
use Rattle.scan.specs.Sets.{Spans, Starts, Stands, not_byte}
use Rattle.scan.specs.Laws.{mark_of, stands, tail-part}
use Rattle.scan.specs.Stretches.{spans-each}
use Rattle.marks.specs.declared.Mark.{Mark}
use Rattle.marks.specs.declared.Mark.TheVariants.{Include, SourceInclude}
use Rattle.buffers.specs.Emits.{guarded-emitted}
use Rattle.buffers.specs.Copies.{after_all, copied, copied-part}

-- A mark's bytes, and the mark that a text starts with.
abbrev pub mark_text : Mark → List ℕ
mark_text Include = bytes "#include"
mark_text SourceInclude = bytes "#source-include"

unfoldable pub mark_at : List ℕ → Option Mark
mark_at t = elim (prefix (mark_text Include) t) [ true ↦ Some Include | false ↦ elim (prefix (mark_text SourceInclude) t) [ true ↦ Some SourceInclude | false ↦ None ] ]

abbrev pub IsMark : Mark → List ℕ → Type 0
IsMark m t = Some m ≡ mark_at t

-- From i to j no mark stands.
pub record Unmarked (t : List ℕ) (i j : ℕ) : Type 0 where
  pub on : i ≤ j
  pub inside : j ≤ length t
  pub none : (k : ℕ) → i ≤ k → k < j → mark_at (drop k t) ≡ None

-- The next mark from i on stands at j; without one j is the end.
pub record NextMark (t : List ℕ) (i j : ℕ) (m : Option Mark) : Type 0 where
  pub before : Unmarked t i j
  pub there : m ≡ mark_at (drop j t)
  pub last : m ≡ None → j ≡ length t

-- The stretch behind h and a byte that is copied; and behind h and the bytes of a text.
unfoldable pub stretch_on : List ℕ → ℕ → List ℕ
stretch_on h x = elim (the "\n" x) [ true ↦ [] | false ↦ h ++ (x ∷ []) ]

abbrev pub stretch : List ℕ → List ℕ → List ℕ
stretch = after_all stretch_on

-- COPYING.
marked-no : {m : Mark} {f : Option Mark} {P : Type 0} → Some m ≡ f → f ≡ None → P
marked-no h k = absurd cc

other-mark : {m : Mark} {P : Type 0} → m ≡ Include → m ≡ SourceInclude → P
other-mark h k = absurd cc

same-mark : {m n : Mark} {f : Option Mark} → Some m ≡ f → f ≡ Some n → m ≡ n
same-mark h k = cc

no-mark : (t : List ℕ) (a b : Bool) → prefix (mark_text Include) t ≡ a → prefix (mark_text SourceInclude) t ≡ b → mark_at t ≡ None → (a ≡ false) × (b ≡ false)
unfolding mark_at
no-mark t true b p q h = marked-no {m = Include} (rw (p, mark_at) refl) h
no-mark t false true p q h = marked-no {m = SourceInclude} (rw (p, q, mark_at) refl) h
no-mark t false false p q h = (refl, refl)

module _ (v : View) (inside : List ℕ → List ℕ → Emit) (g : List ℕ) where
  copy_step_lem : (h t : List ℕ) → mark_at t ≡ None → include_step v inside g h t ≡ copy_byte h t
  unfolding include_step ◌>>=◌ if_r
  copy_step_lem h t m =
      let n = no-mark t (prefix (mark_text Include) t) (prefix (mark_text SourceInclude) t) refl refl m in
      rw (mark_of (mark_text Include) t false n.0, mark_of (mark_text SourceInclude) t false n.1) refl

  copies_at : (t h : List ℕ) (k : ℕ) → k < length t → mark_at (drop k t) ≡ None → include_step v inside g h (drop k t) ≡ (copied stretch_on h (get_or t k 0), drop (suc k) t)
  unfolding copy_byte copied stretch_on
  copies_at t h k l m = copy_step_lem h (drop k t) m ∙ rw (drop-cons t k 0 l) refl

  -- A stretch without marks: its bytes are one piece, and reading goes on behind it.
  pub record Plain (h t : List ℕ) (i j : ℕ) : Type 0 where
    pub writes : (full r : ℕ) → write full r (emitted (run (include_step v inside g) h 0 (drop i t))) ≡ write full r (put (take (j - i) (drop i t)) (emitted (run (include_step v inside g) (stretch h (take (j - i) (drop i t))) 0 (drop j t))))
    pub wholes : all_whole (run (include_step v inside g) h 0 (drop i t)) ≡ all_whole (run (include_step v inside g) (stretch h (take (j - i) (drop i t))) 0 (drop j t))

  pub plain : (h t : List ℕ) (i j : ℕ) → Unmarked t i j → Plain h t i j
  plain h t i j m =
      let f = include_step v inside g in
      let p = take (j - i) (drop i t) in
      let c = copied-part stretch_on f (λ h. 0) 0 (λ s x z. z) h t i j m.on m.inside refl (λ k s a b. copies_at t s k (omega (arith, m.inside)) (m.none k a b)) in
      record {
        writes = λ full r. ap (write full r) (sym (guarded-emitted (run f h 0 (drop i t)))) ∙ c.writes full r ∙ ap (λ z. write full r (put p z)) (guarded-emitted (run f (stretch h p) 0 (drop j t)));
        wholes = c.wholes;
      }

-- SEARCHING for a mark. A mark begins with `#`.
no-hash : (x : ℕ) → not_byte 35 x ≡ true → eqb 35 x ≡ false
no-hash x h = ne_eqb 35 x (λ e. absurd (true≢false (sym h ∙ ap (λ z. not (eqb z 35)) (sym e))))

other_byte : (x : ℕ) (xs : List ℕ) → not_byte 35 x ≡ true → mark_at (x ∷ xs) ≡ None
unfolding mark_at
other_byte x xs h = rw (first (bytes "include"), first (bytes "source-include"), mark_at) refl
  where
    first : (m : List ℕ) → prefix (35 ∷ m) (x ∷ xs) ≡ false
    first m = unfold prefix in (rw (no-hash x h) refl)

at-end : mark_at [] ≡ None
unfolding mark_at prefix
at-end = refl

module _ {t : List ℕ} {from i j : ℕ} (u : Unmarked t from i) (s : Spans (not_byte 35) t i j) where
  pub unmarked-on : Unmarked t from j
  unmarked-on = record { on = omega (arith, u.on, s.on); inside = s.inside; none = λ k a b. at k a b (dec_le i k) }
    where
      at : (k : ℕ) → from ≤ k → k < j → Dec (i ≤ k) → mark_at (drop k t) ≡ None
      at k a b (yes h) = rw (drop-cons t k 0 (omega (arith, s.inside))) (other_byte (get_or t k 0) (drop (suc k) t) (spans-each s k h b))
      at k a b (no h) = u.none k a (omega arith)

  pub mark-last : length t ≤ j → NextMark t from j None
  mark-last h = record { before = unmarked-on; there = sym (ap mark_at (drop_of_length-le t h) ∙ at-end); last = λ z. omega (arith, s.inside) }

  module _ {f : Option Mark} (m : f ≡ mark_at (drop j t)) (h : j < length t) where
    pub mark-found : {x : Mark} → f ≡ Some x → NextMark t from j f
    mark-found z = record { before = unmarked-on; there = m; last = λ y. marked-no (sym z) y }

    pub mark-again : f ≡ None → Unmarked t from (j + 1)
    mark-again z = record { on = omega (arith, unmarked-on.on); inside = omega arith; none = λ k a b. at k a b (dec_le j k) }
      where
        at : (k : ℕ) → from ≤ k → k < j + 1 → Dec (j ≤ k) → mark_at (drop k t) ≡ None
        at k a b (yes y) = let e : k ≡ j = omega arith in ap (λ x. mark_at (drop x t)) e ∙ sym m ∙ z
        at k a b (no y) = unmarked-on.none k a (omega arith)

pub unmarked-start : (t : List ℕ) (i : ℕ) → i ≤ length t → Unmarked t i i
unmarked-start t i h = record { on = omega arith; inside = h; none = λ k a b. absurd (omega arith) }

-- What the tests for the two marks say.
module _ {t : List ℕ} {i : ℕ} {a : Bool} (s : Starts (mark_text Include) t i a) where
  pub at_include : a ≡ true → IsMark Include (drop i t)
  unfolding mark_at
  at_include h = rw (s.says ∙ h, mark_at)

  module _ {c : Bool} (k : a ≡ false) (r : Starts (mark_text SourceInclude) t i c) where
    pub at_source : c ≡ true → IsMark SourceInclude (drop i t)
    unfolding mark_at
    at_source h = rw (s.says ∙ k, r.says ∙ h, mark_at)

    pub at_none : c ≡ false → None ≡ mark_at (drop i t)
    unfolding mark_at
    at_none h = rw (s.says ∙ k, r.says ∙ h, mark_at)

-- What a mark says of the tests.
module _ (u : List ℕ) where
  mark_tests : (a b : Bool) → prefix (mark_text Include) u ≡ a → prefix (mark_text SourceInclude) u ≡ b → {m : Mark} → IsMark m u → (prefix (mark_text m) u ≡ true) × (m ≡ SourceInclude → prefix (mark_text Include) u ≡ false)
  unfolding mark_at
  mark_tests true b p q {m} e = let z : m ≡ Include = same-mark e (rw (p, mark_at) refl) in (rw z p, λ h. other-mark z h)
  mark_tests false true p q {m} e = let z : m ≡ SourceInclude = same-mark e (rw (p, q, mark_at) refl) in (rw z q, λ h. p)
  mark_tests false false p q {m} e = marked-no e (rw (p, q, mark_at) refl)

  pub mark-is : {m : Mark} → IsMark m u → prefix (mark_text m) u ≡ true
  mark-is e = (mark_tests (prefix (mark_text Include) u) (prefix (mark_text SourceInclude) u) refl refl e).0

  pub mark-first : IsMark SourceInclude u → prefix (mark_text Include) u ≡ false
  mark-first e = (mark_tests (prefix (mark_text Include) u) (prefix (mark_text SourceInclude) u) refl refl e).1 refl

pub mark-stands : (t : List ℕ) (at : ℕ) → at ≤ length t → {m : Mark} → IsMark m (drop at t) → Stands (mark_text m) t at (at + length (mark_text m))
mark-stands t at l {m} e = stands (mark_text m) t at l (mark-is (drop at t) e)

-- The mark x, whose length is n.
pub mark-behind : (t : List ℕ) (at : ℕ) → at ≤ length t → {m x : Mark} → IsMark m (drop at t) → {n : ℕ} → n ≡ length (mark_text m) → m ≡ x → Stands (mark_text x) t at (at + n)
mark-behind t at l e z h = rw (z, h) (mark-stands t at l (rw h at e))

pub mark-some : (m : Mark) → 0 < length (mark_text m)
mark-some Include = omega arith
mark-some SourceInclude = omega arith

-- THE STRETCH before a mark is what stands behind the last newline: the bytes from the end on, up to a newline.
stretch-last : (h a : List ℕ) (x : ℕ) → stretch h (a ++ (x ∷ [])) ≡ stretch_on (stretch h a) x
unfolding after_all
stretch-last h [] x = refl
stretch-last h (y ∷ ys) x = stretch-last (stretch_on h y) ys x

stretch-reverse : (r : List ℕ) → stretch [] (reverse r) ≡ reverse (take_while (not_byte 10) r)
unfolding after_all stretch_on the
stretch-reverse [] = refl
stretch-reverse (x ∷ xs) = rw (reverse_onto xs x [], stretch-last [] (reverse xs) x, stretch-reverse xs, take_while-cons (not_byte 10) x xs) (at (the "\n" x))
  where
    at : (c : Bool) → elim c [ true ↦ [] | false ↦ reverse (take_while (not_byte 10) xs) ++ (x ∷ []) ] ≡ reverse (cond (not c) (x ∷ take_while (not_byte 10) xs) [])
    at true = refl
    at false = sym (reverse_onto (take_while (not_byte 10) xs) x [])

-- The bytes of the last line are the end of the text.
taken : (r : List ℕ) → (u : List ℕ) × (take_while (not_byte 10) r ++ u ≡ r)
taken [] = ([], refl)
taken (x ∷ xs) = at (not_byte 10 x) refl (taken xs)
  where
    at : (c : Bool) → not_byte 10 x ≡ c → ((u : List ℕ) × (take_while (not_byte 10) xs ++ u ≡ xs)) → (u : List ℕ) × (take_while (not_byte 10) (x ∷ xs) ++ u ≡ x ∷ xs)
    at true q h = (h.0, rw (take_while-cons (not_byte 10) x xs, q) (ap (λ z. x ∷ z) h.1))
    at false q h = (x ∷ xs, rw (take_while-cons (not_byte 10) x xs, q) refl)

pub last-line : (t : List ℕ) {n : ℕ} → n ≡ length (take_while (not_byte 10) (reverse t)) → take (length t - (length t - n)) (drop (length t - n) t) ≡ stretch [] t
last-line t {n} e =
    let w = take_while (not_byte 10) (reverse t) in
    let u = taken (reverse t) in
    let s : reverse u.0 ++ reverse w ≡ t = sym (reverse-append w u.0) ∙ ap reverse u.1 ∙ reverse-reverse t in
    let l : length t - n ≡ length (reverse u.0) = omega (arith, ap length s, length-append (reverse u.0) (reverse w), length-reverse w) in
    let d : drop (length t - n) t ≡ reverse w = ap (λ z. drop z t) l ∙ ap (drop (length (reverse u.0))) (sym s) ∙ drop-append_seam (reverse u.0) (reverse w) in
    tail-part t (length t - n) ∙ d ∙ sym (stretch-reverse (reverse t)) ∙ ap (stretch []) (reverse-reverse t)

-- Is a mark behind the text commented.
pub comment_says : (t : List ℕ) {n k : ℕ} {r : Bool} → n ≡ length (take_while (not_byte 10) (reverse t)) → Spans blank (take (length t - (length t - n)) (drop (length t - n) t)) 0 k → Starts (bytes "//") (take (length t - (length t - n)) (drop (length t - n) t)) k r →
    r ≡ commented (stretch [] t)
unfolding commented
comment_says t e b x = sym (ap (λ z. prefix (bytes "//") (span blank z).1) (sym (last-line t e)) ∙ ap (prefix (bytes "//")) b.rest ∙ x.says)
