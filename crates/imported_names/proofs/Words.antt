-- Laws of the words of an import, one round at a time.
use Rattle.std.specs.Prelude.{◌≡◌, Bool, true, false, not, List, [], ◌∷◌, ◌++◌, ℕ, zero, suc, ◌+◌, ◌-◌, ◌≤◌, ◌<◌, length, take, drop, eqb}
use Rattle.std.proofs.Math.Path.{refl, ap}
use Rattle.std.proofs.Common.{sym, ◌∙◌, true≢false, append-nil, append_assoc, arith, eqb-true}
use Rattle.std.proofs.Math.Nat.{sub-zero}
use Rattle.scan.specs.Stretches.{span-took}
use Rattle.rules.specs.Reader.{all, ret, if_r, ◌>>=◌, ◌>>◌, bytes, the, but, span, prefix, mark, loop, rounds, again, stop}
use Rattle.rules.specs.Bytes.{word}
use Rattle.rules.specs.Definitions.{Names, star, listed, listed_more, word_round, names}
use Rattle.rules.proofs.Laws.Entries.{word-moving}
use Rattle.rules.proofs.Laws.Enough.{rounds-again, rounds-stop}
use Rattle.scan.specs.Sets.{part, Spans, Starts}
use Rattle.scan.specs.Laws.{mark-yes, mark-no, mark_of, prefix-split, tail-part}
use Rattle.std.specs.Prelude.{Result, Ok, Err}
use Rattle.refusal.specs.declared.Refusal.{Refusal}
use Rattle.binding.specs.declared.sheet_buffer.SheetBuffer.{SheetBuffer}
use Rattle.binding.specs.Sheets.{SameSheet, sheet-refl, sheet-then}
use Rattle.imported_names.specs.Names.{IsWord, BindsNames}
use Rattle.imported_names.specs.Words.{words}
use Rattle.imported_names.proofs.Names.{names_as, none-bound, names-over, names-then}

-- LAWS. A round, by whether a `,` stands behind the spaces.
round-yes : (ws : List (List ℕ)) (t : List ℕ) → (mark (bytes ",") (span (the " ") t).1).0 ≡ true →
    word_round ws t ≡ (again (listed_more ws (span word (span (the " ") (mark (bytes ",") (span (the " ") t).1).1).1).0), (span word (span (the " ") (mark (bytes ",") (span (the " ") t).1).1).1).1)
unfolding word_round ◌>>=◌ ◌>>◌ if_r ret
round-yes ws t h = rw h refl

round-no : (ws : List (List ℕ)) (t : List ℕ) → (mark (bytes ",") (span (the " ") t).1).0 ≡ false → (word_round ws t).0 ≡ stop (listed ws)
unfolding word_round ◌>>=◌ ◌>>◌ if_r ret
round-no ws t h = rw h refl

-- What is read stands behind what was read before.
more_of : (ws : List (List ℕ)) (w : List ℕ) → listed_more ws w ≡ ws ++ listed_more [] w
unfolding listed_more
more_of ws [] = sym (append-nil ws)
more_of ws (x ∷ xs) = refl

record More (r : List (List ℕ) → Names) : Type 0 where
  more : List (List ℕ)
  is : (ws : List (List ℕ)) → r ws ≡ listed (ws ++ more)

loop-yes : (n : ℕ) (ws : List (List ℕ)) (t : List ℕ) (w : List ℕ × List ℕ) → word_round ws t ≡ (again (listed_more ws w.0), w.1) → loop word_round listed (suc n) ws t ≡ loop word_round listed n (listed_more ws w.0) w.1
unfolding loop
loop-yes n ws t w e = rw (ap (λ y. y.0) e, loop) (ap (λ y. loop word_round listed n (listed_more ws w.0) y.1) e)

loop-more : (n : ℕ) (t : List ℕ) → More (λ ws. (loop word_round listed n ws t).0)
unfolding loop
loop-more zero t = record { more = []; is = λ ws. ap listed (sym (append-nil ws)) }
loop-more (suc n) t = at (mark (bytes ",") (span (the " ") t).1).0 refl (loop-more n)
  where
    at : (c : Bool) → (mark (bytes ",") (span (the " ") t).1).0 ≡ c → ((u : List ℕ) → More (λ ws. (loop word_round listed n ws u).0)) → More (λ ws. (loop word_round listed (suc n) ws t).0)
    at true q ih =
        let w = span word (span (the " ") (mark (bytes ",") (span (the " ") t).1).1).1 in
        let k = ih w.1 in
        record {
          more = listed_more [] w.0 ++ k.more;
          is = λ ws. ap (λ y. y.0) (loop-yes n ws t w (round-yes ws t q)) ∙ k.is (listed_more ws w.0) ∙ ap listed (ap (λ y. y ++ k.more) (more_of ws w.0) ∙ append_assoc ws (listed_more [] w.0) k.more);
        }
    at false q ih = record { more = []; is = λ ws. rw (round-no ws t q, loop) (ap listed (sym (append-nil ws))) }

-- The words that the rounds over a text find.
pub later : List ℕ → List (List ℕ)
later t = (loop-more (suc (length t)) t).more

pub later-rounds : (ws : List (List ℕ)) (t : List ℕ) → (rounds word_round listed ws t).0 ≡ listed (ws ++ later t)
unfolding rounds later
later-rounds ws t = (loop-more (suc (length t)) t).is ws

-- ROUNDS. The words of t are bound, up to i.
pub record BindingMore (t z : List ℕ) (b c : SheetBuffer) (i : ℕ) : Type 0 where
  pub inside : i ≤ length t
  pub over : SameSheet b c
  pub goes : (d : SheetBuffer) (o : Result (Unit {0}) Refusal) → BindsNames (listed (later (drop i t))) z c d o → BindsNames (rounds word_round listed [] t).0 z b d o

pub more-start : (t z : List ℕ) (b : SheetBuffer) → BindingMore t z b b 0
more-start t z b = record { inside = omega arith; over = sheet-refl b; goes = λ d o w. names_as (sym (later-rounds [] t)) w }

-- The spaces behind i end at j.
module _ {t z : List ℕ} {b c : SheetBuffer} {i : ℕ} (k : BindingMore t z b c i) {j : ℕ} (x : Spans (the " ") t i j) {f : Bool} (m : Starts (bytes ",") t j f) where
  pub more-end : f ≡ false → {u : Unit {0}} → BindsNames (rounds word_round listed [] t).0 z b c (Ok u)
  more-end e =
      let u : (mark (bytes ",") (span (the " ") (drop i t)).1).0 ≡ false = rw x.rest (ap (λ q. q.0) (mark-no m e)) in
      let v : listed (later (drop i t)) ≡ listed [] = sym (later-rounds [] (drop i t)) ∙ ap (λ q. q.0) (rounds-stop word_round listed word-moving [] (listed []) (drop i t) (round-no [] (drop i t) u)) in
      k.goes c _ (names_as (sym v) (none-bound z c))

  module _ (h : f ≡ true) {a e : ℕ} (y : Spans (the " ") t (j + 1) a) (w : Spans word t a e) where
    round-on : word_round [] (drop i t) ≡ (again (listed_more [] (part t a e)), drop e t)
    unfolding word_round ◌>>=◌ ◌>>◌ if_r ret
    round-on = rw (x.rest, mark-yes m h, y.rest, w.took, w.rest) refl

    later-on : listed (listed_more [] (part t a e) ++ later (drop e t)) ≡ listed (later (drop i t))
    later-on =
        let ws = listed_more [] (part t a e) in
        let r = rounds-again word_round listed word-moving [] ws (drop i t) (ap (λ q. q.0) round-on) ∙ ap (λ q. rounds word_round listed ws q.1) round-on in
        sym (later-rounds ws (drop e t)) ∙ ap (λ q. q.0) (sym r) ∙ later-rounds [] (drop i t)

    module _ {d : SheetBuffer} {q : Result (Unit {0}) Refusal} (v : BindsNames (listed (listed_more [] (part t a e))) z c d q) where
      pub more-over : {n : Refusal} → q ≡ Err n → {o : Result (Unit {0}) Refusal} → o ≡ Err n → BindsNames (rounds word_round listed [] t).0 z b d o
      more-over g r = k.goes d _ (names_as later-on (names-over (later (drop e t)) v g r))

      pub more-on : {u : Unit {0}} → q ≡ Ok u → BindingMore t z b d e
      more-on g = record {
        inside = w.inside;
        over = sheet-then k.over v.over;
        goes = λ d' o r. k.goes d' o (names_as later-on (names-then (later (drop e t)) v g r));
      }

-- WORDS: the first, which ends at i, and those behind it.
module _ {t : List ℕ} {i : ℕ} (x : Spans word t 0 i) where
  first : (span word t).0 ≡ take i t
  first = x.took ∙ ap (λ n. take n t) (sub-zero i)

  pub first-word : IsWord (take i t)
  first-word = ap (all word) (sym first) ∙ span-took word t

  words_are : listed ((take i t ∷ []) ++ later (drop i t)) ≡ (words t).0
  unfolding words ◌>>=◌
  words_are = rw (first, x.rest) (sym (later-rounds (take i t ∷ []) (drop i t)))

  module _ {z : List ℕ} {b c : SheetBuffer} {q : Result (Unit {0}) Refusal} (w : BindsNames (listed (take i t ∷ [])) z b c q) where
    pub words-over : {k : Refusal} → q ≡ Err k → {o : Result (Unit {0}) Refusal} → o ≡ Err k → BindsNames (words t).0 z b c o
    words-over e y = names_as words_are (names-over (later (drop i t)) w e y)

    pub words-then : {u : Unit {0}} {d : SheetBuffer} {o : Result (Unit {0}) Refusal} → q ≡ Ok u → BindsNames (rounds word_round listed [] (take (length t - i) (drop i t))).0 z c d o → BindsNames (words t).0 z b d o
    words-then e v = names_as words_are (names-then (later (drop i t)) w e (names_as (later-rounds [] (drop i t)) (rw (tail-part t i) at v)))

-- NAMES: all or words.
module _ {t : List ℕ} {f : Bool} (m : Starts (bytes "*") t 0 f) where
  pub names-star : f ≡ true → star ≡ (names t).0
  unfolding names ◌>>=◌ if_r ret
  names-star e = rw (mark-yes m e) refl

  pub names-words : f ≡ false → (words t).0 ≡ (names t).0
  unfolding names words ◌>>=◌ if_r ret
  names-words e = rw (mark-no m e) refl

-- LINES. Behind a stretch without newline the line ends where it ended before.
not-newline : (q : ℕ → Bool) → q 10 ≡ false → (x : ℕ) → q x ≡ true → but "\n" x ≡ true
unfolding but
not-newline q h x e = at (eqb x 10) refl
  where
    at : (c : Bool) → eqb x 10 ≡ c → not (eqb x 10) ≡ true
    at true z = absurd (true≢false (sym e ∙ ap q (eqb-true x 10 z) ∙ h))
    at false z = rw z refl

past : (q : ℕ → Bool) → q 10 ≡ false → (t : List ℕ) → (span (but "\n") (span q t).1).1 ≡ (span (but "\n") t).1
unfolding span
past q h [] = refl
past q h (x ∷ xs) = at (q x) refl (past q h xs)
  where
    at : (c : Bool) → q x ≡ c → (span (but "\n") (span q xs).1).1 ≡ (span (but "\n") xs).1 → (span (but "\n") (span q (x ∷ xs)).1).1 ≡ (span (but "\n") (x ∷ xs)).1
    at true e ih =
        let a : (span q (x ∷ xs)).1 ≡ (span q xs).1 = rw (e, span) refl in
        let b : (span (but "\n") (x ∷ xs)).1 ≡ (span (but "\n") xs).1 = rw (not-newline q h x e, span) refl in
        ap (λ z. (span (but "\n") z).1) a ∙ ih ∙ sym b
    at false e ih =
        let a : (span q (x ∷ xs)).1 ≡ x ∷ xs = rw (e, span) refl in
        ap (λ z. (span (but "\n") z).1) a

word-newline : word 10 ≡ false
unfolding word the Rattle.rules.specs.Bytes.letter Rattle.rules.specs.Bytes.digit
word-newline = refl

-- A mark of one byte, which is no newline.
past-mark : (c : ℕ) → but "\n" c ≡ true → (t : List ℕ) → (span (but "\n") (mark (c ∷ []) t).1).1 ≡ (span (but "\n") t).1
unfolding span
past-mark c h t = at (prefix (c ∷ []) t) refl
  where
    at : (r : Bool) → prefix (c ∷ []) t ≡ r → (span (but "\n") (mark (c ∷ []) t).1).1 ≡ (span (but "\n") t).1
    at true e =
        let a : (span (but "\n") ((c ∷ []) ++ drop 1 t)).1 ≡ (span (but "\n") (drop 1 t)).1 = rw (h, span) refl in
        ap (λ z. (span (but "\n") z.1).1) (mark_of (c ∷ []) t true e) ∙ sym a ∙ ap (λ z. (span (but "\n") z).1) (sym (prefix-split (c ∷ []) t e))
    at false e = ap (λ z. (span (but "\n") z.1).1) (mark_of (c ∷ []) t false e)

-- A round of words, and all of them.
module _ (t : List ℕ) where
  comma_line : (span (but "\n") (mark (bytes ",") (span (the " ") t).1).1).1 ≡ (span (but "\n") t).1
  comma_line = unfold but the in (past-mark 44 refl (span (the " ") t).1 ∙ past (the " ") refl t)

  word_line : (span (but "\n") (span word (span (the " ") (mark (bytes ",") (span (the " ") t).1).1).1).1).1 ≡ (span (but "\n") t).1
  word_line = unfold the in (past word word-newline _ ∙ past (the " ") refl _ ∙ comma_line)

loop-line : (n : ℕ) (ws : List (List ℕ)) (t : List ℕ) → length t < n → (span (but "\n") (loop word_round listed n ws t).1).1 ≡ (span (but "\n") t).1
loop-line zero ws t h = absurd (omega arith)
loop-line (suc n) ws t h = at (mark (bytes ",") (span (the " ") t).1).0 refl (loop-line n)
  where
    at : (c : Bool) → (mark (bytes ",") (span (the " ") t).1).0 ≡ c → ((ws : List (List ℕ)) (u : List ℕ) → length u < n → (span (but "\n") (loop word_round listed n ws u).1).1 ≡ (span (but "\n") u).1) →
        (span (but "\n") (loop word_round listed (suc n) ws t).1).1 ≡ (span (but "\n") t).1
    at true q ih =
        let w = span word (span (the " ") (mark (bytes ",") (span (the " ") t).1).1).1 in
        let e = round-yes ws t q in
        let m = word-moving ws (listed_more ws w.0) t (ap (λ y. y.0) e) in
        let k : length w.1 < n = omega (arith, ap (λ y. length y.1) e, m) in
        ap (λ y. (span (but "\n") y.1).1) (loop-yes n ws t w e) ∙ ih (listed_more ws w.0) w.1 k ∙ word_line t
    at false q ih =
        let e : (loop word_round listed (suc n) ws t).1 ≡ (word_round ws t).1 = unfold loop in (rw (round-no ws t q, loop) refl) in
        let r : (word_round ws t).1 ≡ (mark (bytes ",") (span (the " ") t).1).1 = unfold word_round ◌>>=◌ ◌>>◌ if_r ret in (rw q refl) in
        ap (λ y. (span (but "\n") y).1) (e ∙ r) ∙ comma_line t

-- The names of an import stand in one line.
pub names-line : (t : List ℕ) → (span (but "\n") (names t).1).1 ≡ (span (but "\n") t).1
unfolding names ◌>>=◌ if_r ret
names-line t = at (mark (bytes "*") t).0 refl
  where
    star-line : (span (but "\n") (mark (bytes "*") t).1).1 ≡ (span (but "\n") t).1
    star-line = unfold but in past-mark 42 refl t

    at : (c : Bool) → (mark (bytes "*") t).0 ≡ c → (span (but "\n") (names t).1).1 ≡ (span (but "\n") t).1
    at true q = rw q star-line
    at false q =
        let u = (mark (bytes "*") t).1 in
        let w = span word u in
        let x : (span (but "\n") (rounds word_round listed (w.0 ∷ []) w.1).1).1 ≡ (span (but "\n") w.1).1 = unfold rounds in (loop-line (suc (length w.1)) (w.0 ∷ []) w.1 (omega arith)) in
        rw q (x ∙ past word word-newline u ∙ star-line)
