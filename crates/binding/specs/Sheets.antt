-- A sheet in a lent buffer, and what a step leaves of it.
use Rattle.std.specs.Prelude.{◌≡◌, List, true, ℕ, ◌≤◌, ◌<◌, length, Result, Ok, Err}
use Rattle.std.proofs.Math.Path.{refl, sym, ap}
use Rattle.std.proofs.Common.{◌∙◌, arith, le-leb}
use Rattle.std.proofs.lemmas.Bool.{lt-leb}
use Rattle.refusal.specs.declared.Refusal.{Refusal}
use Rattle.refusal.specs.declared.Refusal.TheVariants.{Limit}
use Rattle.refusal.specs.Numbers.{number}
use Rattle.rules.specs.Answer.{Answer, refused, accepted, ◌>>=◌, ◌>>◌, check}
use Rattle.rules.specs.Reader.{all}
use Rattle.rules.specs.Bytes.{word}
use Rattle.rules.specs.Sheet.{Value, Records, encode, sheet_length, good_records, good_value, set}
use Rattle.rules.specs.Imports.{bind_one}
use Rattle.rules.proofs.Laws.Sheet.{set-good}
use Rattle.sheet.specs.Records.{KeepsLayout, records_of, records-good, good-keeps, good-records_of}
use Rattle.binding.specs.declared.buffer.RecordBuffer.{RecordBuffer}
use Rattle.binding.specs.declared.sheet_buffer.SheetBuffer.{SheetBuffer}
use Rattle.places.specs.Mark.{good-ascending}
use Rattle.binding.specs.Buffer.{bytes_in, SameBuffer, InOrder, same-refl, same-then, held, Binds, Leaves}

-- The records of the sheet.
abbrev pub sheet_in : SheetBuffer → Records
sheet_in b = records_of (bytes_in b.records.now)

-- c is over the same buffer as b.
pub record SameSheet (b c : SheetBuffer) : Type 0 where
  pub same : c.records.ghost_name ≡ b.records.ghost_name
  pub over : SameBuffer b.records.now c.records.now

-- A step that comes to a leaves c with the records of a, or is refused as a is.
unfoldable pub ComesTo : {A : Type 0} → Answer Records → SheetBuffer → Result A Refusal → Type 0
ComesTo a c (Ok x) = a ≡ accepted (sheet_in c)
ComesTo a c (Err e) = a ≡ refused (number e)

-- LAWS. The names of a sheet ascend.
pub sheet-order : (b : SheetBuffer) → InOrder b.records.now
sheet-order b = record { r = sheet_in b; bytes = b.sheet.written; order = λ _. good-ascending (sheet_in b) word 6 (records-good (bytes_in b.records.now)) }

-- The sheet in a buffer is within its limit.
pub sheet-within : (b : SheetBuffer) → sheet_length (sheet_in b) ≤ b.records.now.limit
unfolding sheet_length
sheet-within b = let r = b.records.now in omega (arith, ap length b.sheet.written, held r, b.within)

-- One buffer.
pub sheet-refl : (b : SheetBuffer) → SameSheet b b
sheet-refl b = record { same = refl; over = same-refl b.records.now }

pub sheet-then : {b c d : SheetBuffer} → SameSheet b c → SameSheet c d → SameSheet b d
sheet-then s t = record { same = t.same ∙ s.same; over = same-then s.over t.over }

-- One step behind another: it goes on from what the first left, unless that was refused.
module _ {A B : Type 0} (a : Answer Records) (f : Records → Answer Records) (c d : SheetBuffer) {q : Result A Refusal} (o : Result B Refusal) (x : ComesTo a c q) where
  pub comes-then : {y : A} → q ≡ Ok y → ComesTo (f (sheet_in c)) d o → ComesTo (a >>= f) d o
  unfolding ComesTo ◌>>=◌
  comes-then e w = let g : a ≡ accepted (sheet_in c) = rw e at x in rw g w

  pub comes-no : {k : Refusal} → q ≡ Err k → o ≡ Err k → ComesTo (a >>= f) d o
  unfolding ComesTo ◌>>=◌
  comes-no {k} e y = let g : a ≡ refused (number k) = rw e at x in rw (g, y) refl

-- A good name is bound to a good value.
module _ (b : SheetBuffer) {A : Type 0} {name : List ℕ} {v : Value} {w : RecordBuffer} {o : Result A Refusal} (x : Binds b.records.now name v w o) (n : all word name ≡ true) (g : good_value v 6 ≡ true) where
  abbrev r : Records
  r = sheet_in b

  good : good_records (set r name v) word 6 ≡ true
  good = set-good r word 6 name v (records-good (bytes_in b.records.now)) n g

  -- What is left is a sheet.
  pub still-sheet : KeepsLayout (bytes_in w)
  unfolding Leaves
  still-sheet = at o (x.leaves r b.sheet.written)
    where
      at : (o : Result A Refusal) → Leaves b.records.now (encode (set r name v)) w o → KeepsLayout (bytes_in w)
      at (Ok a) h = good-keeps (set r name v) h.0 good
      at (Err e) h = rw h.2 b.sheet

  pub still-within : w.len ≤ w.limit
  unfolding Leaves
  still-within = at o (x.leaves r b.sheet.written)
    where
      at : (o : Result A Refusal) → Leaves b.records.now (encode (set r name v)) w o → w.len ≤ w.limit
      at (Ok a) h = omega (arith, ap length h.0, h.1, held w, x.over.limit)
      at (Err e) h = omega (arith, ap length h.2, held w, held b.records.now, x.over.limit, b.within)

  pub sheet-yes : {a : A} → o ≡ Ok a → (records_of (bytes_in w) ≡ set r name v) × (sheet_length (set r name v) ≤ b.records.now.limit)
  unfolding Leaves sheet_length
  sheet-yes {a} e =
      let h : Leaves b.records.now (encode (set r name v)) w (Ok a) = rw e at (x.leaves r b.sheet.written) in
      (good-records_of (set r name v) h.0 good, h.1)

  pub sheet-no : {k : Refusal} → o ≡ Err k → (k ≡ Limit) × (b.records.now.limit < sheet_length (set r name v))
  unfolding Leaves sheet_length
  sheet-no {k} e =
      let h : Leaves {A = A} b.records.now (encode (set r name v)) w (Err k) = rw e at (x.leaves r b.sheet.written) in
      (h.0, h.1)

  pub bound-one : (c : SheetBuffer) → bytes_in c.records.now ≡ bytes_in w → ComesTo (bind_one b.records.now.limit (sheet_in b) name v) c o
  unfolding ComesTo bind_one check ◌>>◌
  bound-one c e = at o refl
    where
      at : (q : Result A Refusal) → o ≡ q → ComesTo (bind_one b.records.now.limit (sheet_in b) name v) c q
      at (Ok a) y = let h = sheet-yes y in rw (le-leb (sheet_length (set r name v)) b.records.now.limit h.1) (ap accepted (sym (ap records_of e ∙ h.0)))
      at (Err k) y = let h = sheet-no y in rw (h.0, lt-leb (sheet_length (set r name v)) b.records.now.limit h.1) refl
