-- The arguments of the include call, of the expansion call and of a pass.
use Rattle.std.specs.Prelude.{◌≡◌, refl, List, Bool, true, false, ℕ, ◌≤◌, ◌<◌, leb, length, Result, Ok, Err}
use Rattle.std.proofs.Math.Path.{sym}
use Rattle.std.proofs.Math.Option.{Option, none, some}
use Rattle.std.proofs.Common.{arith}
use borrow.Author.Tests.{le-leb, lt-leb}
use Rattle.refusal.specs.declared.Refusal.{Refusal}
use Rattle.refusal.specs.declared.Refusal.TheVariants.{Bundle, Sheet, Path, Byte, Limit}
use Rattle.refusal.specs.Numbers.{number}
use Rattle.rules.specs.Answer.{Answer, refused, accepted, ◌>>=◌, ◌>>◌, check, or_refuse, is_some}
use Rattle.rules.specs.Reader.{all}
use Rattle.rules.specs.Bytes.{ascii, is_folder}
use Rattle.rules.specs.Bundle.{Entry, bundle_of}
use Rattle.rules.specs.Sheet.{Records, sheet_length, sheet_of}
use Rattle.rules.specs.Calls.{limit}
use Rattle.rules.proofs.Laws.Bool.{true-some, false-some}
use Rattle.bundle.specs.Find.{entries_of, entries-some}
use Rattle.sheet.specs.Records.{Checked, records_of, sheet-some}
use Rattle.arguments.specs.declared.Given.{Given}

-- The bundle's entries and the sheet's records, or the refusal: 2, 3, 4, 6, 9.
unfoldable pub given : List ℕ → List ℕ → List ℕ → List ℕ → ℕ → Answer (List Entry × Records)
given bundle folder text sheet L = do
  es ← or_refuse 2 (bundle_of bundle)
  s ← or_refuse 3 (sheet_of sheet)
  check 4 (is_folder folder)
  check 6 (all ascii text)
  check 9 (leb (sheet_length s) L)
  accepted (es, s)

-- The arguments keep the rules.
pub record GoodArguments (bundle folder text sheet : List ℕ) (L : ℕ) : Type 0 where
  pub bundles : is_some (bundle_of bundle) ≡ true
  pub sheets : Checked sheet
  pub folders : is_folder folder ≡ true
  pub texts : all ascii text ≡ true
  pub fits : length sheet ≤ L

-- The arguments keep the rules, and the bundle and the sheet are theirs; or they are refused.
abbrev pub Judges : List ℕ → List ℕ → List ℕ → List ℕ → ℕ → Result Given Refusal → Type 0
Judges bundle folder text sheet L (Ok x) = (x.bundle ≡ bundle) × (x.sheet ≡ sheet) × GoodArguments bundle folder text sheet L
Judges bundle folder text sheet L (Err e) = given bundle folder text sheet L ≡ refused (number e)

pub good-given : {bundle folder text sheet : List ℕ} {L : ℕ} (f : GoodArguments bundle folder text sheet L) → given bundle folder text sheet L ≡ accepted (entries_of bundle, records_of sheet)
unfolding given or_refuse check ◌>>=◌ ◌>>◌ sheet_length
good-given {bundle} {folder} {text} {sheet} {L} f =
    let x = true-some (bundle_of bundle) f.bundles in
    rw (x.1, sheet-some sheet f.sheets.layout, f.folders, f.texts, sym f.sheets.written, le-leb (length sheet) L f.fits, entries-some bundle x.0 x.1) refl

-- What follows the arguments.
pub given-then : {A : Type 0} (bundle folder text sheet : List ℕ) (L : ℕ) (k : List Entry × Records → Answer A) →
    (or_refuse 2 (bundle_of bundle) >>= λ es. or_refuse 3 (sheet_of sheet) >>= λ s. check 4 (is_folder folder) >> (check 6 (all ascii text) >> (check 9 (leb (sheet_length s) L) >> k (es, s)))) ≡ (given bundle folder text sheet L >>= k)
unfolding given or_refuse check ◌>>=◌ ◌>>◌
given-then bundle folder text sheet L k = at (bundle_of bundle) (sheet_of sheet) (is_folder folder) (all ascii text)
  where
    both : List Entry → Records → Answer (List Entry × Records)
    both es s = accepted (es, s)

    go : (es : List Entry) (s : Records) (c : Bool) → (check 9 c >> k (es, s)) ≡ (check 9 c >> both es s >>= k)
    go es s true = refl
    go es s false = refl

    at : (x : Option (List Entry)) (y : Option Records) (f a : Bool) →
        (or_refuse 2 x >>= λ es. or_refuse 3 y >>= λ s. check 4 f >> (check 6 a >> (check 9 (leb (sheet_length s) L) >> k (es, s))))
        ≡ (or_refuse 2 x >>= (λ es. or_refuse 3 y >>= λ s. check 4 f >> (check 6 a >> (check 9 (leb (sheet_length s) L) >> both es s))) >>= k)
    at none y f a = refl
    at (some es) none f a = refl
    at (some es) (some s) false a = refl
    at (some es) (some s) true false = refl
    at (some es) (some s) true true = go es s (leb (sheet_length s) L)

module _ (bundle folder text sheet : List ℕ) (L : ℕ) where
  pub judges-two : is_some (bundle_of bundle) ≡ false → Judges bundle folder text sheet L (Err Bundle)
  unfolding given or_refuse ◌>>=◌
  judges-two h = rw (false-some (bundle_of bundle) h) refl

  module _ (h : is_some (bundle_of bundle) ≡ true) where
    pub judges-three : is_some (sheet_of sheet) ≡ false → Judges bundle folder text sheet L (Err Sheet)
    unfolding given or_refuse ◌>>=◌
    judges-three q = rw ((true-some (bundle_of bundle) h).1, false-some (sheet_of sheet) q) refl

    module _ (k : Checked sheet) where
      pub judges-four : is_folder folder ≡ false → Judges bundle folder text sheet L (Err Path)
      unfolding given or_refuse check ◌>>=◌ ◌>>◌
      judges-four g = rw ((true-some (bundle_of bundle) h).1, sheet-some sheet k.layout, g) refl

      module _ (g : is_folder folder ≡ true) where
        pub judges-six : all ascii text ≡ false → Judges bundle folder text sheet L (Err Byte)
        unfolding given or_refuse check ◌>>=◌ ◌>>◌
        judges-six a = rw ((true-some (bundle_of bundle) h).1, sheet-some sheet k.layout, g, a) refl

        module _ (a : all ascii text ≡ true) where
          pub judges_nine : L < length sheet → Judges bundle folder text sheet L (Err Limit)
          unfolding given or_refuse check ◌>>=◌ ◌>>◌ sheet_length
          judges_nine l = rw ((true-some (bundle_of bundle) h).1, sheet-some sheet k.layout, g, a, sym k.written, lt-leb (length sheet) L l) refl

          pub judges-none : length sheet ≤ L → GoodArguments bundle folder text sheet L
          judges-none l = record { bundles = h; sheets = k; folders = g; texts = a; fits = l }

-- The limit of a buffer.
pub limit-le : (n : ℕ) → limit n ≤ n
unfolding limit
limit-le n = omega arith
