-- Writing the opening of a record into a sheet's buffer.
use Rattle.std.specs.Prelude.{◌≡◌, cond, ℕ, zero, suc, ◌+◌, ◌/◌, ◌%◌, ◌≤◌, ◌<◌, eqb, set as put, drop, get_or, Option, Some, None}
use Rattle.std.proofs.Math.Path.{refl, ap}
use Rattle.std.proofs.Common.{sym, ◌∙◌, add-one, arith, length-append, drop_of_length-le, drop-cons, eq-eqb, ne_eqb}
use mathlib.Core.List.{List, [], ◌∷◌, ◌++◌, append-nil}
use Rattle.std.specs.Int.{w16, to_le_bytes}
use Rattle.std.specs.Int.Bits.{bit_or}
use Rattle.std.proofs.Math.ListN.{length}
use Rattle.std.proofs.Math.Seq.{sets}
use Rattle.buffers.specs.Laws.{sets-append}
use Rattle.rules.specs.Sheet.{word16_bytes, field_bytes, field_mask}
use Rattle.record_bytes.specs.declared.Lead.{Lead}
use Rattle.record_bytes.specs.declared.Lead.TheVariants.{Empty, Nothing, Text, Dictionary}

-- Bytes of a field of a length, with its length.
unfoldable pub wide : ℕ → ℕ
wide n = cond (eqb n 0) 0 (2 + n)

-- A value's bit of the map byte.
unfoldable pub lead_bit : Lead → ℕ
lead_bit Empty = 0
lead_bit Nothing = 8
lead_bit (Text n) = 2
lead_bit (Dictionary n) = 4

-- A text and a dictionary begin with a number: its length, its count.
unfoldable pub number_of : Lead → Option ℕ
number_of Empty = None
number_of Nothing = None
number_of (Text n) = Some n
number_of (Dictionary n) = Some n

unfoldable pub written_number : Option ℕ → List ℕ
written_number None = []
written_number (Some n) = word16_bytes n

-- A record of the name up to its value's own bytes, and how many that are.
unfoldable pub opening : List ℕ → Lead → List ℕ
opening n lead = (field_mask 1 n + lead_bit lead) ∷ (field_bytes n ++ written_number (number_of lead))

unfoldable pub open_len : ℕ → Lead → ℕ
open_len n lead = 1 + wide n + length (written_number (number_of lead))

-- A value's number is at most n.
unfoldable pub counted : Option ℕ → ℕ
counted None = 0
counted (Some n) = n

-- There is room for an opening.
pub record Opens (b : List ℕ) (at n : ℕ) (lead : Lead) : Type 0 where
  pub short : n ≤ 65535
  pub small : counted (number_of lead) ≤ 65535
  pub room : at + open_len n lead ≤ length b

-- The map byte of a name of n bytes.
unfoldable pub map_no : ℕ → Lead → ℕ
map_no n lead = cond (eqb n 0) 0 1 + lead_bit lead

pub wide-zero : (n : ℕ) → n ≡ 0 → wide n ≡ 0
unfolding wide
wide-zero n h = rw (eq-eqb n 0 h) refl

pub wide-some : (n : ℕ) → (n ≡ 0 → ⊥) → wide n ≡ 2 + n
unfolding wide
wide-some n h = rw (ne_eqb n 0 h) refl

pub wide-le : (n : ℕ) → n ≤ wide n
unfolding wide
wide-le zero = omega arith
wide-le (suc n) = rw (ne_eqb (suc n) 0 (λ e. omega arith)) (omega arith)

pub wide_ge : (n : ℕ) → wide n ≤ 2 + n
unfolding wide
wide_ge zero = omega arith
wide_ge (suc n) = rw (ne_eqb (suc n) 0 (λ e. omega arith)) (omega arith)

field-length : (t : List ℕ) → length (field_bytes t) ≡ wide (length t)
unfolding field_bytes word16_bytes
field-length [] = sym (wide-zero 0 refl)
field-length (x ∷ xs) = omega (arith, wide-some (suc (length xs)) (λ e. omega arith))

pub opening-length : (n : List ℕ) (lead : Lead) → length (opening n lead) ≡ open_len (length n) lead
unfolding opening open_len
opening-length n lead = omega (arith, length-append (field_bytes n) (written_number (number_of lead)), field-length n)

number-short : (x : Option ℕ) → length (written_number x) ≤ 2
unfolding written_number word16_bytes
number-short None = omega arith
number-short (Some n) = omega arith

pub open_le : (n : ℕ) (lead : Lead) → open_len n lead ≤ n + 5
unfolding open_len
open_le n lead = omega (arith, wide_ge n, number-short (number_of lead))

pub open_ge : (n : ℕ) (lead : Lead) → n ≤ open_len n lead
unfolding open_len
open_ge n lead = omega (arith, wide-le n)

pub open_wide : (n : ℕ) (lead : Lead) → 1 + wide n ≤ open_len n lead
unfolding open_len
open_wide n lead = omega arith

-- What `number` answers.
pub counted-some : (lead : Lead) {x : Option ℕ} {k : ℕ} → x ≡ number_of lead → x ≡ Some k → counted (number_of lead) ≡ k
unfolding counted
counted-some lead e f = rw (sym e ∙ f) refl

-- What `opening_len` computes.
module _ (name : ℕ) (lead : Lead) {n : ℕ} (h : n ≡ wide name) {x : Option ℕ} (e : x ≡ number_of lead) where
  pub open_plain : x ≡ None → n + 1 ≡ open_len name lead
  unfolding open_len written_number
  open_plain f = rw (sym e ∙ f) (omega arith)

  pub open_numbered : {k : ℕ} → x ≡ Some k → n + 3 ≡ open_len name lead
  unfolding open_len written_number word16_bytes
  open_numbered f = rw (sym e ∙ f) (omega arith)

-- WRITING.
-- The bytes of a 16-bit number, low byte first.
pub low_first : (k : ℕ) → k ≤ 65535 → to_le_bytes w16 k ≡ word16_bytes k
unfolding word16_bytes
low_first k h = let e : k / 256 % 256 ≡ k / 256 = omega arith in rw e refl

-- One byte more of a name.
pub name-step : (b : List ℕ) (at i : ℕ) (t : List ℕ) {x : ℕ} → i < length t → x ≡ get_or t i 0 → sets (put b (at + i) x) (at + (i + 1)) (drop (i + 1) t) ≡ sets b (at + i) (drop i t)
name-step b at i t h e =
    let u : at + (i + 1) ≡ suc (at + i) = omega arith in
    rw (u, add-one, drop-cons t i 0, e) refl

pub name-end : (b : List ℕ) (at i : ℕ) (t : List ℕ) → length t ≤ i → sets b at (drop i t) ≡ b
name-end b at i t h = rw (drop_of_length-le t {i = i} h) refl

field-empty : (t : List ℕ) → length t ≡ 0 → field_bytes t ≡ []
unfolding field_bytes
field-empty [] h = refl
field-empty (x ∷ xs) h = absurd (omega arith)

field-full : (t : List ℕ) → (length t ≡ 0 → ⊥) → field_bytes t ≡ word16_bytes (length t) ++ t
unfolding field_bytes
field-full [] h = absurd (h refl)
field-full (x ∷ xs) h = refl

pub field-none : (b : List ℕ) (at : ℕ) (t : List ℕ) → length t ≡ 0 → b ≡ sets b at (field_bytes t)
field-none b at t h = rw (field-empty t h) refl

pub field-some : (b : List ℕ) (at : ℕ) (t : List ℕ) {c d : List ℕ} → (length t ≡ 0 → ⊥) → c ≡ sets b at (word16_bytes (length t)) → d ≡ sets c (at + 2) t → d ≡ sets b at (field_bytes t)
unfolding word16_bytes
field-some b at t {c} {d} h p q = q ∙ ap (λ z. sets z (at + 2) t) p ∙ sets-append b at (word16_bytes (length t)) t ∙ ap (sets b at) (sym (field-full t h))

pub map-plain : (n : ℕ) (lead : Lead) → n ≡ 0 → lead_bit lead ≡ map_no n lead
unfolding map_no
map-plain n lead h = rw (eq-eqb n 0 h) (omega arith)

named-bit : (lead : Lead) → bit_or (lead_bit lead) 1 ≡ 1 + lead_bit lead
unfolding lead_bit
named-bit Empty = refl
named-bit Nothing = refl
named-bit (Text n) = refl
named-bit (Dictionary n) = refl

pub map-named : (n : ℕ) (lead : Lead) → (n ≡ 0 → ⊥) → bit_or (lead_bit lead) 1 ≡ map_no n lead
unfolding map_no
map-named n lead h = rw (ne_eqb n 0 h) (named-bit lead)

-- The map byte, the name and the number, one behind the other.
map-no : (n : List ℕ) (lead : Lead) → map_no (length n) lead ≡ field_mask 1 n + lead_bit lead
unfolding map_no field_mask
map-no [] lead = refl
map-no (x ∷ xs) lead = rw (ne_eqb (suc (length xs)) 0 (λ e. omega arith)) refl

module _ (b : List ℕ) (at : ℕ) (t : List ℕ) (lead : Lead) {m : ℕ} {c : List ℕ} (e : m ≡ map_no (length t) lead) (p : c ≡ sets (put b at m) (at + 1) (field_bytes t)) {x : Option ℕ} (f : x ≡ number_of lead) where
  begun : c ≡ sets b at ((field_mask 1 t + lead_bit lead) ∷ field_bytes t)
  begun = p ∙ ap (λ z. sets (put b at z) (at + 1) (field_bytes t)) (e ∙ map-no t lead) ∙ rw add-one refl

  pub opening-plain : x ≡ None → c ≡ sets b at (opening t lead)
  unfolding opening written_number
  opening-plain h = begun ∙ rw (sym f ∙ h, append-nil (field_bytes t)) refl

  pub opening-numbered : {count : ℕ} → x ≡ Some count → {k : ℕ} {d : List ℕ} → k ≡ wide (length t) → d ≡ sets c (at + 1 + k) (word16_bytes count) → d ≡ sets b at (opening t lead)
  unfolding opening written_number
  opening-numbered {count} h {k} {d} w q =
      let x = (field_mask 1 t + lead_bit lead) ∷ field_bytes t in
      let l : at + 1 + k ≡ at + length x = omega (arith, field-length t) in
      q ∙ ap (λ z. sets c z (word16_bytes count)) l ∙ ap (λ z. sets z (at + length x) (word16_bytes count)) begun ∙ sets-append b at x (word16_bytes count) ∙ rw (sym f ∙ h) refl
