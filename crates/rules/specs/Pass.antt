-- The pass (01, section 6): its unlimited run, and the closed text.
use Rattle.std.specs.Prelude.{Bool, ◌&&◌, List, ℕ}
use Rattle.rules.specs.Answer.{Answer, ◌>>=◌}
use Rattle.rules.specs.Run.{all_whole, written, limited, ends_in_newline}
use Rattle.rules.specs.Files.{View}
use Rattle.rules.specs.Sheet.{Records, sheet_length}
use Rattle.rules.specs.Includes.{includes}
use Rattle.rules.specs.Expansion.{expansion}

module _ (v : View) where
  -- Includes, into m bytes of room; a short buffer is refusal `full` (10 in a pass, 11 in the include call).
  unfoldable pub middle_text : ℕ → ℕ → List ℕ → List ℕ → Answer (List ℕ × List ℕ)
  middle_text full m g t = limited (λ h. 0) 0 full m (includes v g t)

  -- Expansion, into n bytes of room, with sheets of at most L bytes.
  unfoldable pub expanded : ℕ → ℕ → Records → List ℕ → Answer (List ℕ × Records)
  expanded L n s t = limited sheet_length L 11 n (expansion v s t)

  -- Includes into a middle buffer, then expansion.
  unfoldable pub passed : ℕ → ℕ → ℕ → List ℕ → Records → List ℕ → Answer (List ℕ × Records)
  passed L m n g s t = do
    x ← middle_text 10 m g t
    expanded L n s x.0

  -- Closed: empty or ending in newline, with every mark of its own and every call met in expanding its middle text whole.
  -- Both runs know no limit, so the only refusals that they meet are 4 to 8, and 9 to 11 play no part. 3, and 4 and 6 of the
  -- arguments, are put in `Calls.closed_in`.
  unfoldable pub closed : List ℕ → Records → List ℕ → Bool
  closed g s t = let i = includes v g t in ends_in_newline t && all_whole i && all_whole (expansion v s (written i))
