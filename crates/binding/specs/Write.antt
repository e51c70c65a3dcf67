-- A value by its bytes, and how long its record is.
use Rattle.std.specs.Prelude.{◌≡◌, Bool, true, false, List, [], ◌∷◌, ◌++◌, ℕ, ◌+◌, ◌-◌, ◌≤◌}
use Rattle.std.proofs.Math.Path.{refl}
use Rattle.std.proofs.Common.{append_assoc, arith, length-append, length-drop, length-take-le}
use Rattle.std.proofs.Math.ListN.{length}
use Rattle.scan.specs.Sets.{part}
use Rattle.rules.specs.Bytes.{less}
use Rattle.rules.proofs.Laws.Sheet.{count-le}
use Rattle.rules.specs.Sheet.{Value, text, nothing, dictionary, Records, end, rec, encode, count, field_bytes, field_mask, value_bytes, value_mask, set}
use Rattle.sheet.specs.Parts.{part_slice}
use Rattle.sheet.specs.Find.{Tells}
use Rattle.places.specs.Place.{Placed, one, one-rec}
use Rattle.scan.specs.declared.Range.{Range}
use Rattle.record_bytes.specs.declared.Lead.{Lead}
use Rattle.binding.specs.declared.Source.{Source}
use Rattle.sheet.specs.declared.lookup.Found.{Found}
use Rattle.sheet.specs.declared.lookup.Found.TheVariants.{Nothing as OfNothing, Text as OfText, Dictionary as OfDictionary}
use Rattle.record_bytes.specs.declared.Lead.TheVariants.{Empty, Nothing, Text, Dictionary}
use Rattle.record_bytes.specs.Opening.{lead_bit, number_of, written_number, counted, opening, open_len, opening-length}

-- The value v has this lead and these bytes of its own.
pub record IsSource (v : Value) (lead : Lead) (own : List ℕ) : Type 0 where
  pub sort : value_mask v ≡ lead_bit lead
  pub bytes : value_bytes v ≡ written_number (number_of lead) ++ own
  pub small : counted (number_of lead) ≤ length own

-- There is such a value, and a found one.
pub record HasSource (lead : Lead) (own : List ℕ) : Type 0 where
  pub v : Value
  pub is : IsSource v lead own

pub record IsThere (s : List ℕ) (f : Found) : Type 0 where
  pub v : Value
  pub tells : Tells s v f

-- The source o tells of the value v by places of s.
pub record Sources (s : List ℕ) (v : Value) (o : Source) : Type 0 where
  pub on : o.own.from ≤ o.own.to
  pub inside : o.own.to ≤ length s
  pub is : IsSource v o.lead (part s o.own.from o.own.to)

-- LAWS. One record is its opening and the value's own bytes.
pub one-opening : (n : List ℕ) (v : Value) (lead : Lead) (own : List ℕ) → IsSource v lead own → one n v ≡ opening n lead ++ own
unfolding one opening
one-opening n v lead own s = rw (s.sort, s.bytes) (simp append_assoc)

-- How long the sheet becomes.
module _ {s : List ℕ} {r : Records} {name : List ℕ} {i j : ℕ} (p : Placed s r name i j) (v : Value) {lead : Lead} {own : List ℕ} (w : IsSource v lead own) where
  pub set-length : length (encode (set r name v)) ≡ i + open_len (length name) lead + length own + (length s - j)
  set-length =
      rw (p.is v, one-opening name v lead own w)
      (simp length-append (omega (arith, opening-length name lead, length-drop j s, length-take-le i s (omega (arith, p.on, p.inside)))))

-- A binding is no shorter than its record.
set-size-at : (n m : List ℕ) (v w : Value) (r : Records) (c d : Bool) → less n m ≡ c → less m n ≡ d → length (one n v) ≤ length (encode (set r n v)) → length (one n v) ≤ length (encode (set (rec m w r) n v))
unfolding set
set-size-at n m v w r true d p q h = rw (p, set, one-rec n v (rec m w r), length-append) (omega arith)
set-size-at n m v w r false true p q h = rw (p, q, set, one-rec m w (set r n v), length-append) (omega arith)
set-size-at n m v w r false false p q h = rw (p, q, set, one-rec n v r, length-append) (omega arith)

pub set-size : (r : Records) (n : List ℕ) (v : Value) → length (one n v) ≤ length (encode (set r n v))
unfolding set
set-size end n v = rw (one-rec n v end, length-append) (omega arith)
set-size (rec m w r) n v = set-size-at n m v w r (less n m) (less m n) refl refl (set-size r n v)

-- What a lookup found.
pub text-empty : (t : List ℕ) → length t ≡ 0 → IsSource (text t) Empty t
unfolding value_mask value_bytes field_mask field_bytes lead_bit number_of written_number counted
text-empty [] h = record { sort = refl; bytes = refl; small = omega arith }
text-empty (x ∷ xs) h = absurd (omega arith)

pub text-full : (t : List ℕ) → (length t ≡ 0 → ⊥) → IsSource (text t) (Text (length t)) t
unfolding value_mask value_bytes field_mask field_bytes lead_bit number_of written_number counted
text-full [] h = absurd (h refl)
text-full (x ∷ xs) h = record { sort = refl; bytes = refl; small = omega arith }

pub none-source : IsSource nothing Nothing []
unfolding value_mask value_bytes lead_bit number_of written_number counted
none-source = record { sort = refl; bytes = refl; small = omega arith }

pub dictionary-source : (d : Records) {n : ℕ} → count d ≡ n → IsSource (dictionary d) (Dictionary n) (encode d)
unfolding value_mask value_bytes lead_bit number_of written_number counted
dictionary-source d e = record { sort = refl; bytes = rw (← e) refl; small = omega (arith, count-le d) }

-- What `source_of` answers.
pub source-none : (s : List ℕ) (v : Value) {f : Found} → f ≡ OfNothing → Tells s v f → Sources s v (record { lead = Nothing; own = record { from = 0; to = 0 } })
unfolding Tells
source-none s v h w = let g : v ≡ nothing = rw h at w in record { on = omega arith; inside = omega arith; is = rw g none-source }

module _ (s : List ℕ) (v : Value) {f : Found} (w : Tells s v f) where
  pub source-text : {p : Range} → f ≡ OfText p → {l : Lead} → ((t : List ℕ) → length t ≡ p.to - p.from → IsSource (text t) l t) → Sources s v (record { lead = l; own = p })
  unfolding Tells
  source-text {p} h {l} k =
      let g : Tells s v (OfText p) = rw h at w in
      record { on = omega (arith, g.2.ends); inside = g.2.inside; is = rw (g.1, part_slice g.2) (k g.0 (omega (arith, g.2.ends))) }

  pub source-dictionary : {p : Range} {n : ℕ} → f ≡ OfDictionary p n → Sources s v (record { lead = Dictionary n; own = p })
  unfolding Tells
  source-dictionary {p} {n} h =
      let g : Tells s v (OfDictionary p n) = rw h at w in
      record { on = omega (arith, g.2.ends); inside = g.2.inside; is = rw (g.1, part_slice g.2) (dictionary-source g.0 g.3) }
