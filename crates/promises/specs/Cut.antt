-- DEMAND 3: what a manual cut into closed parts comes to. The words are those of 01, section 6, defined in the rules' `Parts`.
use Rattle.std.specs.Prelude.{◌≡◌, List, true, ℕ}
use Rattle.rules.specs.Calls.{Setting, pass_of}
use Rattle.rules.specs.Parts.{passes, joined, all_accepted, outputs, output_of, last_sheet, sheet_left}

-- The passes over the parts p, ps from a sheet, beside one pass over the joined text.
pub record Agree (k : Setting) (sheet p : List ℕ) (ps : List (List ℕ)) : Type 0 where
  pub accepted : all_accepted (passes k sheet p ps) ≡ true
  pub same-output : outputs (passes k sheet p ps) ≡ output_of (pass_of k sheet (joined p ps))
  pub same-sheet : last_sheet (passes k sheet p ps) ≡ sheet_left (pass_of k sheet (joined p ps))
