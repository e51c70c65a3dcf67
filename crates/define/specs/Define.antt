-- The definitions call: the ways through it, before its buffers are cleared.
use Rattle.std.specs.Prelude.{◌≡◌, List, Bool, true, false, ℕ, zero, suc, ◌+◌, ◌*◌, ◌-◌, ◌≤◌, ◌<◌, length, take, Result, Ok, Err, IfOk}
use Rattle.std.proofs.Math.Path.{refl, sym, ap}
use Rattle.std.proofs.Common.{◌∙◌, arith, add-zero, le-leb}
use Rattle.std.proofs.lemmas.Bool.{lt-leb}
use Rattle.refusal.specs.declared.Refusal.{Refusal}
use Rattle.refusal.specs.Numbers.{number}
use Rattle.rules.specs.Answer.{Answer, refused, accepted, ◌>>=◌, ◌>>◌, check, or_refuse, is_some}
use Rattle.rules.specs.Reader.{all}
use Rattle.rules.specs.Bytes.{ascii, parent}
use Rattle.rules.specs.Bundle.{bundle_of}
use Rattle.rules.specs.Files.{View, view, fetch, plain, opened}
use Rattle.rules.specs.Sheet.{Records, encode}
use Rattle.rules.specs.Imports.{file_sheet, imported_sheet, definitions}
use Rattle.rules.specs.Calls.{limit, parse_definitions_result}
use Rattle.rules.proofs.Laws.Answer.{accepted-same, bind_inv, check_inv}
use Rattle.rules.proofs.Laws.Bool.{true-some, false-some}
use Rattle.bundle.specs.Find.{entries_of, entries-some}
use Rattle.values.specs.Slots.{slots, Room}
use Rattle.binding.specs.declared.sheet_buffer.SheetBuffer.{SheetBuffer}
use Rattle.binding.specs.Sheets.{sheet_in, ComesTo}
use Rattle.arguments.specs.Given.{limit-le}

-- The answer a has a sheet, which stands in the first bytes of the buffer c; or it is refused.
abbrev pub HasSheet : Answer Records → List ℕ → Result ℕ Refusal → Type 0
HasSheet a c (Ok n) = (s : Records) × (a ≡ accepted s) × (take n c ≡ encode s)
HasSheet a c (Err refusal) = a ≡ refused (number refusal)

-- What the call leaves in its buffers, which are not cleared.
pub record Defines (a : Answer Records) (left left₂ work work₂ : List ℕ) (r : Result ℕ Refusal) : Type 0 where
  pub left-size : length left₂ ≡ length left
  pub work-size : length work₂ ≡ length work
  pub fits : IfOk r (λ n. n ≤ length left)
  pub is : HasSheet a left₂ r

pub defines-refused : {a : Answer Records} {l l₂ w w₂ : List ℕ} {k : Refusal} {r : Result ℕ Refusal} → r ≡ Err k → length l₂ ≡ length l → length w₂ ≡ length w → a ≡ refused (number k) → Defines a l l₂ w w₂ r
defines-refused e x y h = rw e (record { left-size = x; work-size = y; fits = tt; is = h })

-- What the limit of a buffer is at most.
pub limit-small : (n : ℕ) {r : ℕ} → r ≡ limit n → r ≤ 65535
unfolding limit
limit-small n e = omega arith

pub limit-within : (n : ℕ) {r : ℕ} → r ≡ limit n → r ≤ n
limit-within n e = omega (arith, limit-le n)

-- 16 × L has room for the slots of 15 levels, of imports and of dictionaries.
more-slots : (L k d : ℕ) → slots L k ≤ slots L (k + d)
unfolding slots
more-slots L k zero = rw add-zero (omega arith)
more-slots L k (suc d) = let e : k + suc d ≡ suc (k + d) = omega arith in rw e (omega (arith, more-slots L k d))

pub define_room : {w : List ℕ} (k L : ℕ) → k ≤ 15 → L ≤ 65535 → 16 * L ≤ length w → Room w L k
unfolding slots
define_room k L h i j =
    let e : k + (15 - k) ≡ 15 = omega arith in
    let f : slots L k ≤ slots L 15 = rw e at (more-slots L k (15 - k)) in
    record { fits = omega arith; most = i }

-- A file that is fetched and read is the same as one that is opened and read: both tell 6 of a byte from 128.
module _ (L : ℕ) (v : View) (g : List ℕ) where
  plain-is : (t : List ℕ) → all ascii t ≡ true → plain t ≡ accepted t
  unfolding plain check ◌>>◌
  plain-is t q = rw q refl

  read-plain : (t : List ℕ) (c : Bool) → all ascii t ≡ c → definitions L v g t ≡ (plain t >>= definitions L v g)
  unfolding plain definitions file_sheet check ◌>>◌ ◌>>=◌
  read-plain t true q = sym (ap (λ a. a >>= definitions L v g) (plain-is t q))
  read-plain t false q = rw q refl

  read-opened : (a : Answer (List ℕ)) → (a >>= definitions L v g) ≡ (a >>= plain >>= definitions L v g)
  unfolding ◌>>=◌
  read-opened (refused k) = refl
  read-opened (accepted t) = read-plain t (all ascii t) refl

-- THE ARGUMENTS: 1, 2, then its file: 4, 5, 6.
module _ (b p : List ℕ) (l w : ℕ) where
  pub definitions-one : w < 16 * limit l → parse_definitions_result b p l w ≡ refused 1
  unfolding parse_definitions_result check ◌>>◌
  definitions-one h = rw (lt-leb (16 * limit l) w h)

  module _ (h : 16 * limit l ≤ w) where
    pub definitions-two : is_some (bundle_of b) ≡ false → parse_definitions_result b p l w ≡ refused 2
    unfolding parse_definitions_result check or_refuse ◌>>◌ ◌>>=◌
    definitions-two e = rw (le-leb (16 * limit l) w h, false-some (bundle_of b) e)

    module _ (e : is_some (bundle_of b) ≡ true) where
      in-bundle : parse_definitions_result b p l w ≡ (opened (view (entries_of b)) p >>= definitions (limit l) (view (entries_of b)) (parent p))
      unfolding parse_definitions_result opened check or_refuse ◌>>◌ ◌>>=◌
      in-bundle =
          let x = true-some (bundle_of b) e in
          let y = entries-some b x.0 x.1 in
          rw (le-leb (16 * limit l) w h, x.1) (ap (λ es. fetch (view es) p >>= definitions (limit l) (view es) (parent p)) (sym y) ∙ read-opened (limit l) (view (entries_of b)) (parent p) (fetch (view (entries_of b)) p))

      pub definitions-no : {k : ℕ} → opened (view (entries_of b)) p ≡ refused k → parse_definitions_result b p l w ≡ refused k
      unfolding ◌>>=◌
      definitions-no f = in-bundle ∙ ap (λ a. a >>= definitions (limit l) (view (entries_of b)) (parent p)) f

      -- Its sheet, in a buffer with the limit L.
      pub definitions-file : {t : List ℕ} → opened (view (entries_of b)) p ≡ accepted t → {L : ℕ} → L ≡ limit l → {g : List ℕ} → g ≡ parent p → parse_definitions_result b p l w ≡ file_sheet L (view (entries_of b)) (imported_sheet L (view (entries_of b)) 6) g t
      unfolding definitions ◌>>=◌
      definitions-file f q x = rw (q, x) (in-bundle ∙ ap (λ a. a >>= definitions (limit l) (view (entries_of b)) (parent p)) f)

-- An opened file has no byte from 128.
pub opened-ascii : (v : View) (p : List ℕ) {t : List ℕ} → opened v p ≡ accepted t → all ascii t ≡ true
unfolding opened plain
opened-ascii v p f =
    let y = bind_inv (fetch v p) plain f in
    let z = check_inv 6 (all ascii y.0) (accepted y.0) y.2 in
    rw (accepted-same z.1) at z.0

-- READ: what is left in the buffer of the sheet S.
module _ {a d : Answer Records} (same : a ≡ d) (S : SheetBuffer) {A : Type 0} {r : Result A Refusal} (z : ComesTo d S r) {l w w₂ : List ℕ} (long : length S.records.now.bytes.now ≡ length l) (y : length w₂ ≡ length w) where
  pub defines-no : {k : Refusal} → r ≡ Err k → {o : Result ℕ Refusal} → o ≡ Err k → {c : List ℕ} → length c ≡ length l → Defines a l c w w₂ o
  unfolding ComesTo
  defines-no e x left = defines-refused x left y (same ∙ (rw e at z))

  pub defines-sheet : {x : A} → r ≡ Ok x → (c : List ℕ) (n : ℕ) → c ≡ S.records.now.bytes.now → n ≡ S.records.now.len → Defines a l c w w₂ (Ok n)
  unfolding ComesTo
  defines-sheet e c n left m =
      let fits : n ≤ length l = omega (arith, m, S.records.now.fits, long) in
      record { left-size = ap length left ∙ long; work-size = y; fits = fits; is = (sheet_in S, same ∙ (rw e at z), (λ i. take (m i) (left i)) ∙ S.sheet.written) }
