-- Binding the names of an import.
use Rattle.std.specs.Prelude.{◌≡◌, List, ℕ, Result, MatchResult}
use Rattle.std.proofs.Math.Bool.{true}
use Rattle.rules.specs.Reader.{all}
use Rattle.rules.specs.Bytes.{word}
use Rattle.rules.specs.Sheet.{Value, good_value}
use Rattle.rules.specs.Definitions.{Names}
use Rattle.rules.specs.Imports.{bind_one, bind_names}
use Rattle.refusal.specs.declared.Refusal.{Refusal}
use Rattle.refusal.specs.declared.Refusal.TheVariants.{Limit}
use Rattle.sheet.specs.Records.{records_of}
use Rattle.sheet.specs.Find.{Tells}
use Rattle.sheet.specs.declared.lookup.Found.{Found}
use Rattle.binding.specs.declared.sheet_buffer.SheetBuffer.{SheetBuffer}
use Rattle.binding.specs.Sheets.{sheet_in, SameSheet, ComesTo}

-- A word: letters, digits and `_`.
abbrev pub IsWord : List ℕ → Type 0
IsWord w = all word w ≡ true

-- What is found is a good value.
pub record IsGood (z : List ℕ) (f : Found) : Type 0 where
  pub v : Value
  pub tells : Tells z v f
  pub good : good_value v 6 ≡ true

-- A refusal is that of the limit.
abbrev pub LimitOnly : {A : Type 0} → Result A Refusal → Type 0
LimitOnly o = MatchResult o (λ _. Unit {0}) (λ e. e ≡ Limit)

-- The name is bound to v in the sheet of b, which leaves c.
pub record BindsOne {A : Type 0} (name : List ℕ) (v : Value) (b c : SheetBuffer) (o : Result A Refusal) : Type 0 where
  pub over : SameSheet b c
  pub only : LimitOnly o
  pub comes : ComesTo (bind_one b.records.now.limit (sheet_in b) name v) c o

-- The names that the sheet z has are bound in the sheet of b, which leaves c.
pub record BindsNames {A : Type 0} (names : Names) (z : List ℕ) (b c : SheetBuffer) (o : Result A Refusal) : Type 0 where
  pub over : SameSheet b c
  pub only : LimitOnly o
  pub comes : ComesTo (bind_names b.records.now.limit (sheet_in b) (records_of z) names) c o
