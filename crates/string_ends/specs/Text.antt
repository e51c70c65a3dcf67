-- Literals and expressions at a place of a text: what they come to from there, and where they end.
use Rattle.std.specs.Prelude.{◌≡◌, Bool, false, not, ◌&&◌, eqb, length, drop, get_or}
use Rattle.std.proofs.Math.Path.{refl, ap}
use Rattle.std.proofs.Common.{sym, subst, ◌∙◌, true≢false, arith, add-one, length-drop, drop-cons, drop-drop, eq-eqb, ne_eqb}
use mathlib.Core.List.{List, [], ◌∷◌, ◌++◌, append_assoc, append-nil}
use Rattle.std.proofs.Math.Bool.{true}
use Rattle.std.proofs.Math.Option.{none}
use Prim.Native.Char.{Char, code}
use Prim.Native.Nat.{ℕ, zero, suc, ◌+◌, ◌-◌, ◌≤◌, ◌<◌}
use Rattle.std.proofs.Math.Numerals.{add-two}
use Rattle.std.proofs.Math.ListN.{take, drop_of_length-le}
use Rattle.rules.specs.Reader.{ret, if_r, ◌>>=◌, ◌>>◌, the, but, either, span, prefix, same, Turn, loop, rounds, again, stop}
use Rattle.rules.proofs.Laws.Bool.{and_l, and_r, and_i}
use Rattle.rules.proofs.Laws.Sheet.{same_refl}
use Rattle.rules.proofs.Laws.Refusals.{Yields, yields_ret, yields_if, yields-bind, yields-then}
use Rattle.rules.specs.Bytes.{line_blank, letter, run_byte, underscored}
use Rattle.rules.specs.Sheet.{Lookup, text_of}
use Rattle.rules.specs.Strings.{escape, onto, literal_from, literal, reference, plus, expression_round, expression}
use Rattle.rules.proofs.Laws.Enough.{rounds-again, rounds-stop, expression-moving}
use Rattle.scan.specs.Laws.{seen, skip_at, tail-part, prefix-split}
use Rattle.scan.specs.Stretches.{span-stops}
use Rattle.scan.specs.Sets.{part, plain_byte, Spans, Sees}
use Rattle.scan.specs.declared.read.Read.{Read}
use Rattle.string_ends.specs.Ends.{Ends, Reads, Makes, IsRound, Begins, ReadsRound, ReadsExpression}
use Rattle.string_ends.specs.declared.RoundStart.{RoundStart}
use Rattle.string_ends.specs.declared.RoundStart.TheVariants.{Literal, Reference, Nothing}

-- LITERALS.
onto-onto : (a b : List ℕ) (r : List ℕ × List ℕ) → onto a (onto b r) ≡ onto (a ++ b) r
unfolding onto
onto-onto a b r = ap (λ z. (z, r.1)) (sym (append_assoc a b r.0))

-- Whether a byte is plain, by the two tests.
plain-is : (x : ℕ) (c d : Bool) → the "\"" x ≡ c → the "\\" x ≡ d → plain_byte x ≡ (not c && not d)
unfolding the but
plain-is x c d p q = rw (p, q) refl

-- A stretch of plain bytes is copied.
plain_at : (x : ℕ) (xs : List ℕ) (c d : Bool) → the "\"" x ≡ c → the "\\" x ≡ d → literal_from xs false ≡ onto (span plain_byte xs).0 (literal_from (span plain_byte xs).1 false) →
    literal_from (x ∷ xs) false ≡ onto (span plain_byte (x ∷ xs)).0 (literal_from (span plain_byte (x ∷ xs)).1 false)
unfolding span onto literal_from
plain_at x xs true d p q ih = rw (plain-is x true d p q, span)
plain_at x xs false true p q ih = rw (plain-is x false true p q, span)
plain_at x xs false false p q ih = rw (p, q, plain-is x false false p q, span, literal_from) (ap (onto (x ∷ [])) ih)

plain : (t : List ℕ) → literal_from t false ≡ onto (span plain_byte t).0 (literal_from (span plain_byte t).1 false)
unfolding span onto literal_from
plain [] = refl
plain (x ∷ xs) = plain_at x xs (the "\"" x) (the "\\" x) refl refl (plain xs)

-- The clauses of `literal_from`, by what its tests say.
from-quote : (x : ℕ) (xs : List ℕ) → the "\"" x ≡ true → literal_from (x ∷ xs) false ≡ ([], xs)
unfolding literal_from
from-quote x xs a = rw (a, literal_from) refl

from-slash : (x : ℕ) (xs : List ℕ) → the "\"" x ≡ false → the "\\" x ≡ true → literal_from (x ∷ xs) false ≡ literal_from xs true
unfolding literal_from
from-slash x xs a b = rw (a, b, literal_from) refl

pub is-yes : (c : Char) (x : ℕ) → x ≡ code c → the c x ≡ true
unfolding the
is-yes c x e = eq-eqb _ _ e

pub is-no : (c : Char) (x : ℕ) → (x ≡ code c → ⊥) → the c x ≡ false
unfolding the
is-no c x e = ne_eqb _ _ e

-- A byte behind a stretch of plain bytes is not plain: not a quote, it is a backslash.
plain-slash : (x : ℕ) (c d : Bool) → the "\"" x ≡ c → the "\\" x ≡ d → plain_byte x ≡ false → c ≡ false → d ≡ true
plain-slash x false true p q h e = refl
plain-slash x false false p q h e = absurd (true≢false (sym (plain-is x false false p q) ∙ h))
plain-slash x true d p q h e = absurd (true≢false e)

-- What a byte behind a backslash stands for.
pub escape-both : (x : ℕ) → (x ≡ 110 → ⊥) → (x ≡ 116 → ⊥) → (x ≡ 34 → ⊥) → (x ≡ 92 → ⊥) → escape x ≡ 92 ∷ x ∷ []
unfolding escape
escape-both x a b c d = rw (is-no "n" x a, is-no "t" x b, is-no "\"" x c, is-no "\\" x d, escape) refl

-- A literal is read up to i, no backslash open; v is its text so far.
pub record LiteralTo (t : List ℕ) (i : ℕ) (v : List ℕ) : Type 0 where
  pub inside : i ≤ length t
  pub left : literal t ≡ onto v (literal_from (drop i t) false)

pub literal-begun : (t : List ℕ) → LiteralTo t 0 []
unfolding literal onto
literal-begun t = record { inside = omega arith; left = refl }

-- Behind a stretch of plain bytes up to j.
module _ {t : List ℕ} {i : ℕ} {v : List ℕ} (s : LiteralTo t i v) {j : ℕ} (n : Spans plain_byte t i j) where
  passed : literal t ≡ onto (v ++ take (j - i) (drop i t)) (literal_from (drop j t) false)
  passed = s.left ∙ ap (onto v) (plain (drop i t) ∙ ap (λ z. onto z (literal_from (span plain_byte (drop i t)).1 false)) n.took ∙ ap (λ z. onto (take (j - i) (drop i t)) (literal_from z false)) n.rest) ∙ onto-onto v _ _

  done : {k : ℕ} (u : List ℕ) → k ≤ length t → literal_from (drop j t) false ≡ (u, drop k t) → Makes (literal t) t k ((v ++ take (j - i) (drop i t)) ++ u)
  unfolding onto
  done u h y =
      let z = passed ∙ ap (onto (v ++ take (j - i) (drop i t))) y in
      record { ends = record { inside = h; rest = ap (λ o. o.1) z }; text = ap (λ o. o.0) z }

  pub makes-end : length t ≤ j → Makes (literal t) t j ((v ++ take (j - i) (drop i t)) ++ [])
  unfolding literal_from
  makes-end h = done [] n.inside (rw (drop_of_length-le t h) refl)

  module _ (h : j < length t) where
    pub makes-quote : get_or t j 0 ≡ 34 → Makes (literal t) t (j + 1) ((v ++ take (j - i) (drop i t)) ++ [])
    makes-quote x = done [] (omega arith) (rw (add-one, drop-cons t j 0) (from-quote _ _ (is-yes "\"" _ x)))

    module _ (x : get_or t j 0 ≡ 34 → ⊥) where
      slash : literal_from (drop j t) false ≡ literal_from (drop (suc j) t) true
      slash =
          let a = is-no "\"" (get_or t j 0) x in
          let f = span-stops plain_byte (drop i t) (get_or t j 0) (drop (suc j) t) (n.rest ∙ drop-cons t j 0 h) in
          rw (drop-cons t j 0) (from-slash _ _ a (plain-slash _ _ _ refl refl f a))

      pub makes-last : length t - j ≡ 1 → Makes (literal t) t (j + 1) ((v ++ take (j - i) (drop i t)) ++ (92 ∷ []))
      unfolding literal_from
      makes-last y = done (92 ∷ []) (omega arith) (slash ∙ rw (drop_of_length-le t {i = suc j} (omega arith), drop_of_length-le t {i = j + 1} (omega arith)) refl)

      pub literal-on : (length t - j ≡ 1 → ⊥) → LiteralTo t (j + 2) ((v ++ take (j - i) (drop i t)) ++ escape (get_or t (j + 1) 0))
      unfolding literal_from
      literal-on y =
          let g : literal_from (drop (suc j) t) true ≡ onto (escape (get_or t (suc j) 0)) (literal_from (drop (suc (suc j)) t) false) = rw (drop-cons t (suc j) 0 (omega arith)) refl in
          record { inside = omega arith; left = rw (add-two, add-one) (passed ∙ ap (onto _) (slash ∙ g) ∙ onto-onto _ _ _) }

-- A text that was made, and is taken.
pub reads : {A : Type 0} {takes : A → List ℕ → A → Type 0} {r : List ℕ × List ℕ} {t : List ℕ} {a z : A} {k : ℕ} {v : List ℕ} → Makes r t k v → takes a v z → Reads takes r t a k z
reads {takes = takes} {a = a} {z} m s = record { ends = m.ends; text = subst (λ v. takes a v z) (sym m.text) s }

-- A literal is read up to i, no backslash open, and taken.
pub record LiteralAt {A : Type 0} (takes : A → List ℕ → A → Type 0) (t : List ℕ) (a z : A) (i : ℕ) : Type 0 where
  pub text : List ℕ
  pub to : LiteralTo t i text
  pub taken : takes a text z

pub literal_start : {A : Type 0} {takes : A → List ℕ → A → Type 0} {a : A} → takes a [] a → (t : List ℕ) → LiteralAt takes t a a 0
literal_start n t = record { text = []; to = literal-begun t; taken = n }

module _ {A : Type 0} {takes : A → List ℕ → A → Type 0} (more : (a b c : A) (v w : List ℕ) → takes a v b → takes b w c → takes a (v ++ w) c)
    {t : List ℕ} {a b c : A} {i : ℕ} (s : LiteralAt takes t a b i) {j : ℕ} (n : Spans plain_byte t i j) (u : takes b (take (j - i) (drop i t)) c) where
  pub literal_end : takes c [] c → length t ≤ j → Reads takes (literal t) t a j c
  literal_end z h = reads (makes-end s.to n h) (more _ _ _ _ _ (more _ _ _ _ _ s.taken u) z)

  module _ (h : j < length t) where
    pub literal_quote : takes c [] c → get_or t j 0 ≡ 34 → Reads takes (literal t) t a (j + 1) c
    literal_quote z x = reads (makes-quote s.to n h x) (more _ _ _ _ _ (more _ _ _ _ _ s.taken u) z)

    module _ (x : get_or t j 0 ≡ 34 → ⊥) {d : A} where
      pub literal_last : length t - j ≡ 1 → takes c (92 ∷ []) d → Reads takes (literal t) t a (j + 1) d
      literal_last y z = reads (makes-last s.to n h x y) (more _ _ _ _ _ (more _ _ _ _ _ s.taken u) z)

      pub literal_escape : (length t - j ≡ 1 → ⊥) → takes c (escape (get_or t (j + 1) 0)) d → LiteralAt takes t a d (j + 2)
      literal_escape y z = record { text = _; to = literal-on s.to n h x y; taken = more _ _ _ _ _ (more _ _ _ _ _ s.taken u) z }

-- EXPRESSIONS. A round of one, by what the scans said.
module _ (look : Lookup) (t : List ℕ) (i : ℕ) (l : Spans line_blank t 0 i) where
  round-literal : (k : ℕ) (a : List ℕ) → Sees (the "\"") t i true → (literal (drop (i + 1) t)).1 ≡ drop k t → expression_round look a t ≡ plus look (a ++ (literal (drop (i + 1) t)).0) (drop k t)
  unfolding expression_round ◌>>=◌ ◌>>◌ if_r
  round-literal k a q e = rw (l.rest, q.says, skip_at t i (q.there refl), e) refl

  round-reference : (k : ℕ) (a : List ℕ) → Sees (the "\"") t i false → Sees (either "_" letter) t i true → Spans run_byte t i k →
      expression_round look a t ≡ plus look (a ++ text_of (look (underscored (take (k - i) (drop i t))))) (drop k t)
  unfolding expression_round reference ◌>>=◌ ◌>>◌ if_r ret
  round-reference k a q n r = rw (l.rest, q.says, n.says, r.took, r.rest) refl

  round-stop : (a : List ℕ) → Sees (the "\"") t i false → Sees (either "_" letter) t i false → expression_round look a t ≡ (stop a, drop i t)
  unfolding expression_round ◌>>=◌ ◌>>◌ if_r ret
  round-stop a q n = rw (l.rest, q.says, n.says) refl

-- Behind a term.
module _ (look : Lookup) (t : List ℕ) (i j : ℕ) (l : Spans line_blank t i j) where
  plus-again : (a : List ℕ) → Sees (the "+") t j true → plus look a (drop i t) ≡ (again a, drop (j + 1) t)
  unfolding plus ◌>>=◌ ◌>>◌ if_r ret
  plus-again a q = rw (l.rest, q.says, skip_at t j (q.there refl)) refl

  plus-stop : (a : List ℕ) → Sees (the "+") t j false → plus look a (drop i t) ≡ (stop a, drop j t)
  unfolding plus ◌>>=◌ ◌>>◌ if_r ret
  plus-stop a q = rw (l.rest, q.says) refl

-- The ways through a round.
module _ (look : Lookup) {t : List ℕ} {i : ℕ} (l : Spans line_blank t 0 i) {f : Bool} (q : Sees (the "\"") t i f) where
  pub literal-round : {k : ℕ} → f ≡ true → Ends (literal (take (length t - (i + 1)) (drop (i + 1) t))) (take (length t - (i + 1)) (drop (i + 1) t)) k → IsRound look true t (i + 1 + k) (literal (take (length t - (i + 1)) (drop (i + 1) t))).0
  literal-round {k} e w =
      let h : i < length t = q.there e in
      let v : Ends (literal (drop (i + 1) t)) (drop (i + 1) t) k = rw tail-part at w in
      let z : (literal (drop (i + 1) t)).1 ≡ drop (i + 1 + k) t = v.rest ∙ drop-drop k (i + 1) t in
      rw tail-part (record {
        inside = omega (arith, simp length-drop at v.inside);
        goes = λ u y. round-literal look t i l (i + 1 + k) y (seen q e) z;
        stops = λ u y. absurd (true≢false u);
      })

  module _ {g : Bool} (e : f ≡ false) (n : Sees (either "_" letter) t i g) where
    pub reference-round : {k : ℕ} → g ≡ true → Spans run_byte t i k → IsRound look true t k (text_of (look (underscored (take (k - i) (drop i t)))))
    reference-round {k} d m = record {
      inside = m.inside;
      goes = λ v z. round-reference look t i l k z (seen q e) (seen n d) m;
      stops = λ v z. absurd (true≢false v);
    }

    pub no-round : g ≡ false → IsRound look false t i []
    no-round d = record {
      inside = l.inside;
      goes = λ v z. absurd (true≢false (sym v));
      stops = λ v z. rw append-nil (round-stop look t i l z (seen q e) (seen n d));
    }

-- By what it begins with: where it lies, and where it ends.
module _ (t : List ℕ) {s : RoundStart} (b : Begins t s) where
  pub literal-inside : {i : ℕ} → s ≡ Literal i → i ≤ length t
  unfolding Begins
  literal-inside e = (rw e at b).0

  pub reference-inside : {i k : ℕ} → s ≡ Reference i k → (i ≤ k) × (k ≤ length t)
  unfolding Begins
  reference-inside e = let c = rw e at b in (c.0, c.1)

  module _ (look : Lookup) where
    pub round-at-literal : {i k : ℕ} → s ≡ Literal i → Ends (literal (part t i (length t))) (part t i (length t)) k → IsRound look true t (i + k) (literal (part t i (length t))).0
    unfolding Begins
    round-at-literal {k = k} e w = (rw e at b).1 look k w

    pub round-at-reference : {i k : ℕ} → s ≡ Reference i k → IsRound look true t k (text_of (look (underscored (part t i k))))
    unfolding Begins
    round-at-reference e = (rw e at b).2 look

    pub round-at-nothing : {i : ℕ} → s ≡ Nothing i → IsRound look false t i []
    unfolding Begins
    round-at-nothing e = (rw e at b) look

-- A round is read, by what it begins with, and its text taken.
module _ (t : List ℕ) {s : RoundStart} (w : Begins t s) {A : Type 0} {takes : A → List ℕ → A → Type 0} {looks : A → Lookup → Type 0} {a : A} where
  pub literal-taken : {i k : ℕ} {z : A} → s ≡ Literal i → Reads takes (literal (part t i (length t))) (part t i (length t)) a k z → ReadsRound takes looks t (record { what = true; used = i + k }) a z
  literal-taken e r = record { text = λ look. _; round = λ look. round-at-literal t w look e r.ends; took = _; taken = r.text; says = λ look l. refl }

  pub reference-taken : {i k : ℕ} {z : A} → s ≡ Reference i k → ((v : List ℕ) × takes a v z × ((look : Lookup) → looks a look → text_of (look (underscored (part t i k))) ≡ v)) → ReadsRound takes looks t (record { what = true; used = k }) a z
  reference-taken e h = record { text = λ look. _; round = λ look. round-at-reference t w look e; took = h.0; taken = h.1; says = h.2 }

  pub nothing-taken : {i : ℕ} → s ≡ Nothing i → takes a [] a → ReadsRound takes looks t (record { what = false; used = i }) a a
  nothing-taken e n = record { text = λ look. []; round = λ look. round-at-nothing t w look e; took = []; taken = n; says = λ look l. refl }

-- An expression is read up to i; v is its text so far.
pub record ExpressionTo (look : Lookup) (t : List ℕ) (i : ℕ) (v : List ℕ) : Type 0 where
  pub inside : i ≤ length t
  pub left : expression look t ≡ rounds (expression_round look) (λ a. a) v (drop i t)

pub expression-begun : (look : Lookup) (t : List ℕ) → ExpressionTo look t 0 []
unfolding expression
expression-begun look t = record { inside = omega arith; left = refl }

-- A round of k bytes of the text from i on.
module _ {look : Lookup} {t : List ℕ} {i : ℕ} {v : List ℕ} (x : ExpressionTo look t i v) {f : Bool} {k : ℕ} {u : List ℕ} (M : IsRound look f (take (length t - i) (drop i t)) k u) where
  here : IsRound look f (drop i t) k u
  here = rw tail-part at M

  pub round-inside : i + k ≤ length t
  round-inside = omega (arith, simp length-drop at here.inside, x.inside)

  goes : f ≡ true → expression_round look v (drop i t) ≡ plus look (v ++ u) (drop (i + k) t)
  goes e = here.goes e v ∙ ap (plus look (v ++ u)) (drop-drop k i t)

  makes : {m : ℕ} → m ≤ length t → expression_round look v (drop i t) ≡ (stop (v ++ u), drop m t) → Makes (expression look t) t m (v ++ u)
  makes h e =
      let w = x.left ∙ rounds-stop (expression_round look) (λ a. a) (expression-moving look) v _ (drop i t) (ap (λ y. y.0) e) ∙ ap (λ y. (v ++ u, y.1)) e in
      record { ends = record { inside = h; rest = ap (λ y. y.1) w }; text = ap (λ y. y.0) w }

  pub makes_none : f ≡ false → Makes (expression look t) t (i + k) (v ++ u)
  makes_none e = makes round-inside (here.stops e v ∙ ap (λ z. (stop (v ++ u), z)) (drop-drop k i t))

  module _ {j : ℕ} (e : f ≡ true) (n : Spans line_blank t (i + k) j) where
    pub makes-plus : Sees (the "+") t j false → Makes (expression look t) t j (v ++ u)
    makes-plus w = makes n.inside (goes e ∙ plus-stop look t (i + k) j n _ w)

    pub expression-on : Sees (the "+") t j true → ExpressionTo look t (j + 1) (v ++ u)
    expression-on w =
        let g = goes e ∙ plus-again look t (i + k) j n _ w in
        let z = rounds-again (expression_round look) (λ a. a) (expression-moving look) v _ (drop i t) (ap (λ y. y.0) g) in
        record { inside = omega (arith, w.there refl); left = x.left ∙ z ∙ ap (λ y. rounds (expression_round look) (λ a. a) (v ++ u) y.1) g }

-- What an expression comes to begins with what was read of it.
prefix-more : (v u w : List ℕ) → prefix v u ≡ true → prefix v (u ++ w) ≡ true
unfolding prefix
prefix-more [] u w h = refl
prefix-more (x ∷ v) [] w h = absurd (true≢false (sym h))
prefix-more (x ∷ v) (y ∷ u) w h = and_i (eqb x y) (prefix v (u ++ w)) (and_l (eqb x y) (prefix v u) h) (prefix-more v u w (and_r (eqb x y) (prefix v u) h))

prefix_self : (v : List ℕ) → prefix v v ≡ true
unfolding same
prefix_self v = and_r (eqb (length v) (length v)) (prefix v v) (same_refl v)

module _ (look : Lookup) (v : List ℕ) where
  pub begins : Turn (List ℕ) (List ℕ) → Bool
  begins (again u) = prefix v u
  begins (stop u) = prefix v u

  pub plus-begins : (u : List ℕ) → prefix v u ≡ true → Yields begins (plus look u)
  unfolding plus begins
  plus-begins u h = search (yields_ret, yields_if, yields-bind, yields-then) depth 12

  round-begins : (u : List ℕ) → prefix v u ≡ true → Yields begins (expression_round look u)
  unfolding expression_round begins
  round-begins u h = search (yields_ret, yields_if, yields-bind, yields-then, plus-begins, prefix-more) depth 14

  pub loop-at : (n : ℕ) (u t : List ℕ) (r : Turn (List ℕ) (List ℕ)) → (expression_round look u t).0 ≡ r → begins r ≡ true → ((w s : List ℕ) → prefix v w ≡ true → prefix v (loop (expression_round look) (λ a. a) n w s).0 ≡ true) → prefix v (loop (expression_round look) (λ a. a) (suc n) u t).0 ≡ true
  unfolding loop begins
  loop-at n u t (again w) p h ih = rw (p, loop) (ih w _ h)
  loop-at n u t (stop w) p h ih = rw (p, loop) h

  pub loop-begins : (n : ℕ) (u t : List ℕ) → prefix v u ≡ true → prefix v (loop (expression_round look) (λ a. a) n u t).0 ≡ true
  unfolding loop
  loop-begins zero u t h = h
  loop-begins (suc n) u t h = loop-at n u t (expression_round look u t).0 refl ((round-begins u h).yields t) (loop-begins n)

begins-so : {look : Lookup} {t : List ℕ} {i : ℕ} {v : List ℕ} → ExpressionTo look t i v → (expression look t).0 ≡ v ++ drop (length v) (expression look t).0
unfolding rounds
begins-so {look} {t} {i} {v} x = prefix-split v (expression look t).0 (ap (λ r. prefix v r.0) x.left ∙ loop-begins look v _ v (drop i t) (prefix_self v))

-- An expression is read up to i, for every lookup, and a text taken.
pub record ExpressionAt {A : Type 0} (takes : A → List ℕ → A → Type 0) (looks : A → Lookup → Type 0) (t : List ℕ) (a z : A) (i : ℕ) : Type 0 where
  pub text : Lookup → List ℕ
  pub to : (look : Lookup) → ExpressionTo look t i (text look)
  pub took : List ℕ
  pub taken : takes a took z
  pub says : (look : Lookup) → looks a look → text look ≡ took

pub expression_start : {A : Type 0} {takes : A → List ℕ → A → Type 0} {looks : A → Lookup → Type 0} {a : A} → takes a [] a → (t : List ℕ) → ExpressionAt takes looks t a a 0
expression_start n t = record { text = λ look. []; to = λ look. expression-begun look t; took = []; taken = n; says = λ look l. refl }

module _ {A : Type 0} {takes : A → List ℕ → A → Type 0} {looks : A → Lookup → Type 0} {t : List ℕ} {a b c : A} {i : ℕ} (x : ExpressionAt takes looks t a b i) {r : Read Bool} (M : ReadsRound takes looks (take (length t - i) (drop i t)) r b c) where
  -- By a lookup that finds nothing: the round lies in the text.
  pub ends-inside : i + r.used ≤ length t
  ends-inside = round-inside (x.to (λ z. none)) (M.round (λ z. none))

  module _ (more : (a b c : A) (v w : List ℕ) → takes a v b → takes b w c → takes a (v ++ w) c) (kept : (a b : A) (v : List ℕ) (look : Lookup) → takes a v b → looks a look → looks b look) where
    both : (look : Lookup) → looks a look → (x.text look ++ M.text look) ≡ (x.took ++ M.took)
    both look l = rw (x.says look l, M.says look (kept _ _ _ look x.taken l)) refl

    made : {done : A → Type 0} {m : ℕ} → ((look : Lookup) → Makes (expression look t) t m (x.text look ++ M.text look)) → ReadsExpression takes looks done t a m c
    made h = record { ends = λ n look. (h look).ends; taken = λ look l. rw ((h look).text ∙ both look l) (more _ _ _ _ _ x.taken M.taken) }

    pub expression_none : {done : A → Type 0} → r.what ≡ false → ReadsExpression takes looks done t a (i + r.used) c
    expression_none e = made (λ look. makes_none (x.to look) (M.round look) e)

    module _ {j : ℕ} (e : r.what ≡ true) (n : Spans line_blank t (i + r.used) j) where
      pub expression_last : {done : A → Type 0} → Sees (the "+") t j false → ReadsExpression takes looks done t a j c
      expression_last w = made (λ look. makes-plus (x.to look) (M.round look) e n w)

      pub expression_again : Sees (the "+") t j true → ExpressionAt takes looks t a c (j + 1)
      expression_again w = record { text = λ look. _; to = λ look. expression-on (x.to look) (M.round look) e n w; took = _; taken = more _ _ _ _ _ x.taken M.taken; says = both }

-- Reading stops where the text behind does not matter.
pub expression_done : {A : Type 0} {takes : A → List ℕ → A → Type 0} {looks : A → Lookup → Type 0} {done : A → Type 0} {t : List ℕ} {a z : A} {i : ℕ} → ((a b : A) (v w : List ℕ) → takes a v b → done b → takes a (v ++ w) b) → ExpressionAt takes looks t a z i → done z → ReadsExpression takes looks done t a i z
expression_done past x d = record {
  ends = λ n look. absurd (n d);
  taken = λ look l. rw (begins-so (x.to look), x.says look l) (past _ _ _ _ x.taken d);
}
