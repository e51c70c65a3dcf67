-- References that are looked up in a sheet.
use Rattle.std.specs.Prelude.{◌≡◌, List, ℕ}
use Rattle.rules.specs.Sheet.{Lookup, resolve}
use Rattle.sheet.specs.Records.{records_of}
use Rattle.strings.specs.declared.looked.Looked.{Looked}

-- A text is taken, in the same place with the same sheet.
abbrev pub TakesLooked : {A : Type 0} → (A → List ℕ → A → Type 0) → Looked A → List ℕ → Looked A → Type 0
TakesLooked takes a v b = (b.sheet.now ≡ a.sheet.now) × (b.to.ghost_name ≡ a.to.ghost_name) × takes a.to.now v b.to.now

-- What references are looked up by.
abbrev pub LooksIn : {A : Type 0} → Looked A → Lookup → Type 0
LooksIn l look = look ≡ resolve (records_of l.sheet.now)

-- The lookup of a sheet stays where the sheet does.
pub looks-kept : {a b : List ℕ} {look : Lookup} → b ≡ a → look ≡ resolve (records_of a) → look ≡ resolve (records_of b)
looks-kept e l = rw e l
