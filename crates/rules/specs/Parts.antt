-- Lists of passes (01, section 6, for demand 3): one pass after another, each from the sheet that the one before it left.
use Rattle.std.specs.Prelude.{Bool, true, ◌&&◌, List, [], ◌∷◌, ◌++◌, ℕ, eqb, take}
use Rattle.rules.specs.Reader.{all}
use Rattle.rules.specs.Calls.{Setting, Passed, closed_of, pass_of}

-- What a pass wrote, and the sheet that it leaves: the start of its buffer, as long as its answer says; refused, both are empty.
unfoldable pub output_of : Passed → List ℕ
output_of r = take r.len r.out

unfoldable pub sheet_left : Passed → List ℕ
sheet_left r = take r.sheet_len r.left

-- All passes of a list have one setting.
module _ (k : Setting) where
  -- The passes over the parts p, ps: one part or more.
  unfoldable pub passes : List ℕ → List ℕ → List (List ℕ) → List Passed
  passes s p [] = pass_of k s p ∷ []
  passes s p (q ∷ qs) = pass_of k s p ∷ passes (sheet_left (pass_of k s p)) q qs

  -- Is each part but the last closed, for the sheet that its pass starts from.
  unfoldable pub closed_parts : List ℕ → List ℕ → List (List ℕ) → Bool
  closed_parts s p [] = true
  closed_parts s p (q ∷ qs) = closed_of k s p && closed_parts (sheet_left (pass_of k s p)) q qs

unfoldable pub joined : List ℕ → List (List ℕ) → List ℕ
joined p [] = p
joined p (q ∷ qs) = p ++ joined q qs

-- Of a list of answers: are all accepted; their outputs joined; the last sheet left.
unfoldable pub all_accepted : List Passed → Bool
all_accepted rs = all (λ r. eqb r.number 0) rs

unfoldable pub outputs : List Passed → List ℕ
outputs [] = []
outputs (r ∷ rs) = output_of r ++ outputs rs

unfoldable pub last_sheet : List Passed → List ℕ
last_sheet [] = []
last_sheet (r ∷ []) = sheet_left r
last_sheet (r ∷ q ∷ rs) = last_sheet (q ∷ rs)
