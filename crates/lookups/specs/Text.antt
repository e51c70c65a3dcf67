-- What the lookup of a text in a sheet promises.
use Rattle.std.specs.Prelude.{◌≡◌, List, ℕ, ◌-◌, ◌≤◌, length, take, Result, Ok, Err, IfOk, Option as RustOption, Some, None}
use Rattle.std.proofs.Math.Option.{Option}
use Rattle.rules.specs.Answer.{Answer, refused, accepted}
use Rattle.rules.specs.Sheet.{Value, kind_of, text_of}
use Rattle.rules.specs.Calls.{resolve_result}
use Rattle.refusal.specs.declared.Refusal.{Refusal}
use Rattle.refusal.specs.Numbers.{number}
use Rattle.sheet.specs.declared.lookup.Found.{Found}
use Rattle.sheet.specs.declared.lookup.Found.TheVariants.{Nothing, Text, Dictionary}
use Rattle.sheet.specs.Find.{found_kind}

-- How long the text of what was found is; only a text has one.
unfoldable pub text_len : RustOption Found → ℕ
text_len None = 0
text_len (Some Nothing) = 0
text_len (Some (Text p)) = p.to - p.from
text_len (Some (Dictionary p n)) = 0

-- What was found tells the kind of x, and its text stands at the start of the buffer c.
pub record IsLooked (x : Option Value) (c : List ℕ) (found : RustOption Found) : Type 0 where
  pub kind : found_kind found ≡ kind_of x
  pub text : take (text_len found) c ≡ text_of x

-- The rules' answer a: what was looked up, or the refusal.
abbrev pub Looks : Answer (Option Value) → List ℕ → Result (RustOption Found) Refusal → Type 0
Looks a c (Ok found) = (x : Option Value) × (a ≡ accepted x) × IsLooked x c found
Looks a c (Err refusal) = a ≡ refused (number refusal)

-- What p is looked up as in the sheet s, its text at the start of a buffer, b before and c after; or the refusal.
pub record Resolves (s p b c : List ℕ) (r : Result (RustOption Found) Refusal) : Type 0 where
  pub size : length c ≡ length b
  pub fits : IfOk r (λ found. text_len found ≤ length b)
  pub is : Looks (resolve_result s p (length b)) c r
