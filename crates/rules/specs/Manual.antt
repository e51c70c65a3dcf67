-- The program `manual` (01, section 10), from standard input to what it writes.
use Rattle.std.specs.Prelude.{true, false, List, [], ◌∷◌, ◌++◌, ℕ, zero, suc, ◌+◌, ◌*◌, ◌/◌, ◌%◌, leb, ltb, length, take}
use Rattle.rules.specs.Answer.{Answer, refused, accepted, ◌>>=◌, ◌>>◌, check, or_refuse}
use Rattle.rules.specs.Reader.{bytes}
use Rattle.rules.specs.Bundle.{bundle_of}
use Rattle.rules.specs.Files.{view, fetch}
use Rattle.rules.specs.Calls.{padded, Defined, Setting, Passed, parse_definitions_of, pass_of}

-- The numbers of section 8 in decimal: below 100.
unfoldable pub decimal : ℕ → List ℕ
decimal k = elim (ltb k 10) [ true ↦ (48 + k) ∷ [] | false ↦ (48 + k / 10) ∷ (48 + k % 10) ∷ [] ]

-- What a call answers: its number, or what it leaves.
unfoldable pub answered : ℕ → List ℕ → Answer (List ℕ)
answered zero r = accepted r
answered (suc k) r = refused (suc k)

unfoldable pub sheet_from : Defined → Answer (List ℕ)
sheet_from d = answered d.number (take d.sheet_len d.left)

unfoldable pub output_from : Passed → Answer (List ℕ)
output_from p = answered p.number (take p.len p.out)

-- The setting of its pass: folder empty; middle and output 32,768, L 1,024.
abbrev pub setting : List ℕ → Setting
setting b = record { bundle = b; folder = []; middle_len = 32768; out_len = 32768; left_len = 1024 }

-- The definitions of `defs.typ`, L 1,024; then a pass over `main.typ`.
unfoldable pub built : List ℕ → Answer (List ℕ)
built b = do
  check 2 (leb (length b) 16384)
  s ← sheet_from (parse_definitions_of b (bytes "defs.typ") 1024 (16 * 1024))
  es ← or_refuse 2 (bundle_of b)
  t ← fetch (view es) (bytes "main.typ")
  output_from (pass_of (setting b) s t)

-- The output, or `refused N` and newline.
unfoldable pub shown : Answer (List ℕ) → List ℕ
shown (refused k) = bytes "refused " ++ (decimal k ++ bytes "\n")
shown (accepted o) = o

unfoldable pub manual : List ℕ → List ℕ
manual b = shown (built b)

-- What the function behind the program answers: the length of that text, and its buffer, which holds the text and zero behind it.
pub record ManualText : Type 0 where
  pub len : ℕ
  pub out : List ℕ

unfoldable pub manual_of : List ℕ → ManualText
manual_of b = record { len = length (manual b); out = padded 32768 (manual b) }
