-- Fields: what reading a length and so many bytes at a place promises.
use Rattle.std.specs.Prelude.{Option as Maybe, Some, None, true, false, ◌||◌, eqb, ltb, ◌≡◌, List, ℕ, not, ◌+◌, ◌-◌, ◌*◌, ◌≤◌, ◌<◌, length, drop, get_or}
use Rattle.std.proofs.Math.Option.{none, some}
use Rattle.std.proofs.Common.{ap, ◌∙◌}
use native.Mathlib.Omega.{arith}
use Rattle.std.proofs.Math.ListN.{length-drop}
use Rattle.std.proofs.Math.Seq.{drop-drop}
use Rattle.rules.specs.Reader.{empty}
use Rattle.rules.specs.Layout.{Parser, bind, ◌>>=◌, ◌>>◌, pure, broken, require, byte, word16, field, take_bytes}
use borrow.Author.Tests.{ltb-true, ltb-false, eqb-true, eqb-false}
use Rattle.rules.proofs.Laws.Bool.{or_elim, or-false-l, or-false-r}
use Rattle.rules.proofs.Laws.Layout.{byte_at, byte-end, word-at, word_end, takes, takes-short, take-some}
use Rattle.scan.specs.Sets.{part, Within}
use Rattle.scan.specs.declared.Range.{Range}

-- A field's bytes, once its length is read.
unfoldable pub field_bytes : ℕ → Parser (List ℕ)
field_bytes n = do
  t ← take_bytes n
  require (not (empty t))
  pure t

-- The parser p reads a part as a field at a place.
pub record IsField (t : List ℕ) (p : Parser (List ℕ)) (i : ℕ) (r : Range) : Type 0 where
  pub reads : p (drop i t) ≡ some (part t r.from r.to, drop r.to t)
  pub behind : i ≤ r.from
  pub within : Within t r

-- The field that the parser p reads at a place, or that it finds none.
abbrev pub FieldAt : List ℕ → Parser (List ℕ) → ℕ → Maybe Range → Type 0
FieldAt t p i (Some r) = IsField t p i r
FieldAt t p i None = p (drop i t) ≡ none

-- A number of 16 bits, by its bytes.
pub word_is : (t : List ℕ) (i n : ℕ) → i + 2 ≤ length t → n ≡ get_or t i 0 + get_or t (i + 1) 0 * 256 → word16 (drop i t) ≡ some (n, drop (i + 2) t)
word_is t i n h e = let z : get_or t i 0 + 256 * get_or t (i + 1) 0 ≡ n = omega arith in word-at t i (omega arith) ∙ ap (λ x. some (x, drop (i + 2) t)) z

-- A field's bytes.
module _ (t : List ℕ) (s n : ℕ) where
  body-empty : n ≡ 0 → field_bytes n (drop s t) ≡ none
  unfolding field_bytes ◌>>=◌ ◌>>◌ bind pure require broken take_bytes empty
  body-empty z = rw z

  module _ (h : s ≤ length t) where
    body-short : length t - s < n → field_bytes n (drop s t) ≡ none
    unfolding field_bytes ◌>>=◌ bind
    body-short k = rw (takes-short n (drop s t) (omega (arith, length-drop s t)))

    pub body-no : (eqb n 0 || ltb (length t - s) n) ≡ true → field_bytes n (drop s t) ≡ none
    body-no e = or_elim (eqb n 0) _ e (λ q. body-empty (eqb-true n 0 q)) (λ q. body-short (ltb-true (length t - s) n q))

    pub body_ok : (eqb n 0 || ltb (length t - s) n) ≡ false → IsField t (field_bytes n) s (record { from = s; to = s + n })
    unfolding field_bytes ◌>>=◌ ◌>>◌ bind pure require
    body_ok e =
        let z = eqb-false n 0 (or-false-l (eqb n 0) _ e) in
        let k = ltb-false (length t - s) n (or-false-r (eqb n 0) _ e) in
        let l : n ≤ length (drop s t) = omega (arith, length-drop s t) in
        let p : 0 < n = omega (arith, z) in
        let q : s + n - s ≡ n = omega arith in
        record { reads = rw (takes n (drop s t) l, take-some n (drop s t) p l, drop-drop n s t, q); behind = omega arith; within = record { order = omega arith; inside = omega arith } }

-- Behind its length.
module _ (t : List ℕ) (i : ℕ) where
  field_of : (len : Parser ℕ) (n s : ℕ) → len (drop i t) ≡ some (n, drop s t) → i ≤ s → (r : Maybe Range) → FieldAt t (field_bytes n) s r → FieldAt t (field len) i r
  unfolding field field_bytes ◌>>=◌ bind
  field_of len n s e h (Some r) k = record { reads = rw e k.reads; behind = omega (arith, k.behind); within = k.within }
  field_of len n s e h None k = rw e k

  pub short-of : i < length t → {n : ℕ} → n ≡ get_or t i 0 → (r : Maybe Range) → FieldAt t (field_bytes n) (i + 1) r → FieldAt t (field byte) i r
  short-of h {n} e r k = field_of byte (get_or t i 0) (i + 1) (byte_at t i h) (omega arith) r (rw e at k)

  pub long_of : {n : ℕ} → word16 (drop i t) ≡ some (n, drop (i + 2) t) → (r : Maybe Range) → FieldAt t (field_bytes n) (i + 2) r → FieldAt t (field word16) i r
  long_of {n} e r k = field_of word16 n (i + 2) e (omega arith) r k

  field_end : (len : Parser ℕ) → len (drop i t) ≡ none → field len (drop i t) ≡ none
  unfolding field ◌>>=◌ bind
  field_end len e = rw e

  pub short-end : length t ≤ i → field byte (drop i t) ≡ none
  short-end h = field_end byte (byte-end t i h)

  pub long-end : length t < i + 2 → field word16 (drop i t) ≡ none
  long-end h = field_end word16 (word_end t i h)
