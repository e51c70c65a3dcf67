-- Files of definitions and their imports (01, sections 7 and 8).
use Rattle.std.specs.Prelude.{List, [], ◌∷◌, ℕ, zero, suc, leb}
use Rattle.std.proofs.Math.Option.{Option, none, some}
use Rattle.rules.specs.Answer.{Answer, refused, accepted, ◌>>=◌, ◌>>◌, check}
use Rattle.rules.specs.Reader.{all}
use Rattle.rules.specs.Run.{run, limited}
use Rattle.rules.specs.Bytes.{ascii, is_path, join, parent}
use Rattle.rules.specs.Files.{View, File, absent, folder, file}
use Rattle.rules.specs.Sheet.{Value, Records, end, rec, Lookup, resolve, set, sheet_length}
use Rattle.rules.specs.Definitions.{Names, star, listed, definition_step}

-- A binding, measured after it.
unfoldable pub bind_one : ℕ → Records → List ℕ → Value → Answer Records
bind_one L s n w = do
  check 9 (leb (sheet_length (set s n w)) L)
  accepted (set s n w)

unfoldable pub bind_if : ℕ → Records → List ℕ → Option Value → Answer Records
bind_if L s n none = accepted s
bind_if L s n (some w) = bind_one L s n w

-- All records of r, in name order; the names that the lookup finds, in the order given (E1).
unfoldable pub bind_all : ℕ → Records → Records → Answer Records
bind_all L s end = accepted s
bind_all L s (rec n w r) = bind_one L s n w >>= λ s'. bind_all L s' r

unfoldable pub bind_listed : ℕ → Records → Lookup → List (List ℕ) → Answer Records
bind_listed L s look [] = accepted s
bind_listed L s look (n ∷ ns) = bind_if L s n (look n) >>= λ s'. bind_listed L s' look ns

unfoldable pub bind_names : ℕ → Records → Records → Names → Answer Records
bind_names L s r star = bind_all L s r
bind_names L s r (listed ns) = bind_listed L s (resolve r) ns

module _ (L : ℕ) (v : View) where
  -- An imported path: absent is passed over, a folder is 5. inside: the sheet of a file with its folder and content.
  unfoldable pub import_file : (List ℕ → List ℕ → Answer Records) → List ℕ → File → Records → Names → Answer Records
  import_file inside q absent s n = accepted s
  import_file inside q folder s n = refused 5
  import_file inside q (file c) s n = inside (parent q) c >>= λ r. bind_names L s r n

  -- The path is joined to the folder g of the file that imports.
  unfoldable pub imported : (List ℕ → List ℕ → Answer Records) → List ℕ → Records → List ℕ → Names → Answer Records
  imported inside g s p n = let q = join g p in check 4 (is_path q) >> import_file inside q (v q) s n

  -- The sheet of a file: 6, then its steps, each binding measured (9). Nothing is written, so no room is needed.
  unfoldable pub file_sheet : (List ℕ → List ℕ → Answer Records) → List ℕ → List ℕ → Answer Records
  file_sheet inside g c = do
    check 6 (all ascii c)
    x ← limited sheet_length L 11 0 (run (definition_step L (imported inside g)) end 0 c)
    accepted x.1

  -- An imported file, l levels left: 7 before 6.
  unfoldable pub imported_sheet : ℕ → List ℕ → List ℕ → Answer Records
  imported_sheet zero g c = refused 7
  imported_sheet (suc l) g c = file_sheet (imported_sheet l) g c

  -- A definitions file with its folder and content: six import levels.
  unfoldable pub definitions : List ℕ → List ℕ → Answer Records
  definitions g c = file_sheet (imported_sheet 6) g c
