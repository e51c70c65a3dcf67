-- The records of a sheet's bytes. Bytes that keep the layout are these records, written. How many bytes they may be is asked where a call takes them.
use Rattle.std.specs.Prelude.{◌≡◌, Bool, true, false, List, ℕ, ◌<◌, get_or}
use Rattle.std.proofs.Common.{sym, ap, ◌∙◌}
use Rattle.std.proofs.Math.Path.{refl}
use Rattle.std.proofs.Math.Option.{Option, none, some}
use Rattle.rules.specs.Answer.{is_some}
use Rattle.rules.specs.Bytes.{word}
use Rattle.rules.specs.Sheet.{Records, end, encode, decode, good_records, sheet_of}
use Rattle.rules.proofs.Laws.Bool.{true-some}
use Rattle.rules.proofs.Laws.Sheet.{decode-encode, sheet-good, sheet_canonical}
use Rattle.sheet.specs.Bytes.{all-bytes}

unfoldable pub read_records : Option Records → Records
read_records none = end
read_records (some r) = elim (good_records r word 6) [ true ↦ r | false ↦ end ]

-- The records of a sheet; none of them where the bytes break the layout.
unfoldable pub records_of : List ℕ → Records
records_of s = read_records (decode s)

-- The bytes keep a sheet's layout: they are its records, written.
pub record KeepsLayout (s : List ℕ) : Type 0 where
  pub written : s ≡ encode (records_of s)

-- And they are at most 65,535, as a call's argument has to be.
pub record Checked (s : List ℕ) : Type 0 where
  pub layout : is_some (sheet_of s) ≡ true
  pub written : s ≡ encode (records_of s)

-- LAWS. The records are good: where the bytes break the layout, there are none.
pub records-good : (s : List ℕ) → good_records (records_of s) word 6 ≡ true
unfolding records_of read_records good_records
records-good s = at (decode s)
  where
    kept : (r : Records) (c : Bool) → good_records r word 6 ≡ c → good_records (elim c [ true ↦ r | false ↦ end ]) word 6 ≡ true
    kept r true e = e
    kept r false e = refl

    at : (x : Option Records) → good_records (read_records x) word 6 ≡ true
    at none = refl
    at (some r) = kept r (good_records r word 6) refl

-- The bytes of good records.
module _ {s : List ℕ} (r : Records) (e : s ≡ encode r) (g : good_records r word 6 ≡ true) where
  pub good-records_of : records_of s ≡ r
  unfolding records_of read_records
  good-records_of = rw (e, decode-encode r word g) (rw (g, read_records) refl)

  pub good-keeps : KeepsLayout s
  good-keeps = record { written = e ∙ ap encode (sym good-records_of) }

-- A sheet of the rules.
pub records-some : (s : List ℕ) {r : Records} → sheet_of s ≡ some r → records_of s ≡ r
unfolding records_of read_records
records-some s {r} e = let g = sheet-good s r e in rw g.decoded (rw (g.good, read_records) refl)

module _ (s : List ℕ) (h : is_some (sheet_of s) ≡ true) where
  pub sheet-some : sheet_of s ≡ some (records_of s)
  sheet-some = let x = true-some (sheet_of s) h in x.1 ∙ ap some (sym (records-some s x.1))

  pub checked-keeps : ((i : ℕ) → get_or s i 0 < 256) → Checked s
  checked-keeps b = record { layout = h; written = sym (sheet_canonical s (records_of s) (all-bytes s b) sheet-some) }

pub sheet-keeps : {s : List ℕ} → Checked s → KeepsLayout s
sheet-keeps x = record { written = x.written }
