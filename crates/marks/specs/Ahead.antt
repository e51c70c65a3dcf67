-- Searches: the next two quotes from a place on.
use Rattle.std.specs.Prelude.{◌≡◌, refl, List, Bool, ◌&&◌, Option, Some, None, ℕ, ◌+◌, ◌≤◌, ◌<◌, leb, length, drop, get_or}
use Rattle.std.proofs.Math.Path.{ap}
use Rattle.std.proofs.Common.{sym, ◌∙◌, subst, arith, leb-true}
use Rattle.std.proofs.Math.Bool.{true, false}
use Prim.Native.Char.{Char}
use Rattle.rules.specs.Reader.{skip, the, but, ◌>>=◌, ◌>>◌, ret}
use Rattle.rules.specs.Includes.{Quoted as Rule, unquoted, quoted, quoted_if, quote}
use Rattle.rules.proofs.Laws.Bool.{and_l, and_r}
use Rattle.scan.specs.Sets.{part, Spans, Skips, Sees}
use Rattle.scan.specs.Laws.{but-no, sees-is, sees-end, skips-at}
use Rattle.scan.specs.Stretches.{spans-later, spans-stop}
use Rattle.marks.specs.declared.ahead.Quoted.{Quoted}

-- What was found, as section 4 takes it.
abbrev pub quoted_text : Option Quoted → Rule
quoted_text None = unquoted
quoted_text (Some q) = quoted q.text.now

-- Reading goes on behind the quotes.
pub record Behind (t : List ℕ) (at : ℕ) (q : Quoted) : Type 0 where
  pub on : at ≤ q.next
  pub inside : q.next ≤ length t
  pub rest : (quote (drop at t)).1 ≡ drop q.next t

-- The next two quotes from a place on.
pub record Finds (t : List ℕ) (at : ℕ) (r : Option Quoted) : Type 0 where
  pub says : (quote (drop at t)).0 ≡ quoted_text r
  pub behind : (q : Quoted) → r ≡ Some q → Behind t at q

-- THE SEARCH. What is known answers it where it holds of the place.
pub known_stretch : {p : ℕ → Bool} {t : List ℕ} {from to at : ℕ} → (from ≤ to → Spans p t from to) → (leb from at && leb at to) ≡ true → Spans p t at to
known_stretch {from = from} {to} {at} s h =
    let a = leb-true from at (and_l (leb from at) (leb at to) h) in
    let b = leb-true at to (and_r (leb from at) (leb at to) h) in
    spans-later (s (omega arith)) a b

-- QUOTES. The byte at the end of a stretch without it.
pub sees-stop : (c : Char) {t : List ℕ} {i j : ℕ} → Spans (but c) t i j → j < length t → Sees (the c) t j true
sees-stop c {t} {i} {j} s h = sees-is (the c) t j h (sym (but-no c (get_or t j 0) (spans-stop s h)))

pub sees-none : (c : Char) {t : List ℕ} {j : ℕ} → length t ≤ j → Sees (the c) t j false
sees-none c {t} {j} h = sees-end (the c) t j h

-- The reading of the quotes, by what the searches gave.
module _ {t : List ℕ} {at a from to : ℕ} (x : Spans (but "\"") t at a) (k : Skips t a from) (y : Spans (but "\"") t from to) where
  quote-at : (e : Bool) → Sees (the "\"") t to e → quote (drop at t) ≡ (quoted_if e (part t from to), (skip (drop to t)).1)
  unfolding quote ◌>>=◌ ◌>>◌ ret
  quote-at e s = rw (x.rest, k.rest, y.took, y.rest, s.says) refl

  pub finds-quoted : to < length t → {q : Quoted} → q.text.now ≡ part t from to → q.next ≡ to + 1 → Finds t at (Some q)
  unfolding quoted_if
  finds-quoted h {q} e n =
      let z = quote-at true (sees-stop "\"" y h) in
      record {
        says = ap (λ z. z.0) z ∙ ap quoted (sym e);
        behind = λ o i. let e : q ≡ o = cc in subst (Behind t at) e (record { on = omega (arith, x.on, k.on, y.on); inside = omega arith; rest = ap (λ z. z.1) z ∙ (skips-at t to h).rest ∙ ap (λ i. drop i t) (sym n) });
      }

  pub finds-none : length t ≤ to → Finds t at None
  unfolding quoted_if
  finds-none h = record { says = ap (λ z. z.0) (quote-at false (sees-none "\"" h)); behind = λ q i. cc }
