-- The public calls (01, section 8). Each is one total function of its arguments and of the lengths of its buffers:
-- the answer, and the whole final contents of every writable buffer, accepted and refused alike.
use Rattle.std.specs.Prelude.{◌≡◌, Bool, true, false, ◌&&◌, List, ◌++◌, ℕ, ◌*◌, ◌-◌, ◌≤◌, min, leb, length, drop, replicate}
use Rattle.std.proofs.Math.Option.{Option, none, some}
use Rattle.rules.specs.Answer.{Answer, refused, accepted, ◌>>=◌, ◌>>◌, check, or_refuse}
use Rattle.rules.specs.Reader.{all}
use Rattle.rules.specs.Bytes.{ascii, is_path, is_folder, parent}
use Rattle.rules.specs.Bundle.{Entry, bundle_of}
use Rattle.rules.specs.Files.{entry_at, is_folder_of, view, fetch}
use Rattle.rules.specs.Sheet.{Value, Records, encode, sheet_length, sheet_of, resolve, kind_of, text_of}
use Rattle.rules.specs.Pass.{middle_text, expanded, passed, closed}
use Rattle.rules.specs.Imports.{definitions}
use Rattle.rules.specs.Load.{load, list_of}

-- L: the sheet buffer's length; a longer one counts as 65,535. A sheet has one form only, so `sheet_length` of a given sheet's
-- records is the length of its bytes.
unfoldable pub limit : ℕ → ℕ
limit l = min l 65535

-- A buffer of n bytes: all zero; or a result, and zero behind it.
unfoldable pub zeros : ℕ → List ℕ
zeros n = replicate n 0

unfoldable pub padded : ℕ → List ℕ → List ℕ
padded n t = t ++ zeros (n - length t)

-- A buffer of n bytes that holds a result of len bytes, and zero behind it.
pub record Holds (n len : ℕ) (buffer : List ℕ) : Type 0 where
  pub size : length buffer ≡ n
  pub fits : len ≤ n
  pub behind : drop len buffer ≡ zeros (n - len)

-- LOOKUP (E1): 3, 6, then 11 where a text is too long. It answers missing, none, a dictionary, or a text with its length and bytes.
-- n: the length of `out`.
pub record Looked : Type 0 where
  pub number : ℕ
  pub kind : ℕ
  pub len : ℕ
  pub out : List ℕ

unfoldable pub looked_answer : ℕ → Answer (Option Value) → Looked
looked_answer n (refused k) = record { number = k; kind = 0; len = 0; out = zeros n }
looked_answer n (accepted v) = record { number = 0; kind = kind_of v; len = length (text_of v); out = padded n (text_of v) }

unfoldable pub resolve_result : List ℕ → List ℕ → ℕ → Answer (Option Value)
resolve_result sheet path n = do
  s ← or_refuse 3 (sheet_of sheet)
  check 6 (all ascii path)
  check 11 (leb (length (text_of (resolve s path))) n)
  accepted (resolve s path)

unfoldable pub resolve_of : List ℕ → List ℕ → ℕ → Looked
resolve_of sheet path n = looked_answer n (resolve_result sheet path n)

-- FIND A FILE (not in 01: `manual` needs it): 2, 4. Kind: 0 absent, 1 folder, 2 file; a file's content stands at `start` in the bundle.
pub record Found : Type 0 where
  pub number : ℕ
  pub kind : ℕ
  pub start : ℕ
  pub len : ℕ

unfoldable pub found_entry : Option Entry → Bool → Found
found_entry (some e) f = record { number = 0; kind = 2; start = e.start; len = length e.content }
found_entry none true = record { number = 0; kind = 1; start = 0; len = 0 }
found_entry none false = record { number = 0; kind = 0; start = 0; len = 0 }

unfoldable pub found_answer : Answer Found → Found
found_answer (refused k) = record { number = k; kind = 0; start = 0; len = 0 }
found_answer (accepted f) = f

unfoldable pub find_file_result : List ℕ → List ℕ → Answer Found
find_file_result bundle path = do
  es ← or_refuse 2 (bundle_of bundle)
  check 4 (is_path path)
  accepted (found_entry (entry_at es path) (is_folder_of es path))

unfoldable pub find_file_of : List ℕ → List ℕ → Found
find_file_of bundle path = found_answer (find_file_result bundle path)

-- INCLUDES alone: 2, 4, 6, then in reading; a short output is 11. n: the length of `out`.
pub record Output : Type 0 where
  pub number : ℕ
  pub len : ℕ
  pub out : List ℕ

unfoldable pub output_answer : ℕ → Answer (List ℕ) → Output
output_answer n (refused k) = record { number = k; len = 0; out = zeros n }
output_answer n (accepted o) = record { number = 0; len = length o; out = padded n o }

unfoldable pub resolve_includes_result : List ℕ → List ℕ → List ℕ → ℕ → Answer (List ℕ)
resolve_includes_result bundle folder text n = do
  es ← or_refuse 2 (bundle_of bundle)
  check 4 (is_folder folder)
  check 6 (all ascii text)
  x ← middle_text (view es) 11 n folder text
  accepted x.0

unfoldable pub resolve_includes_of : List ℕ → List ℕ → List ℕ → ℕ → Output
resolve_includes_of bundle folder text n = output_answer n (resolve_includes_result bundle folder text n)

-- TEST LOAD (E2): the load of a seed, from the list of definition pieces where `definitions` is true, else from that of document pieces; a short output is 11.
unfoldable pub test_load_result : ℕ → Bool → ℕ → Answer (List ℕ)
test_load_result seed definitions n = do
  check 11 (leb (length (load (list_of definitions) seed)) n)
  accepted (load (list_of definitions) seed)

unfoldable pub test_load_of : ℕ → Bool → ℕ → Output
test_load_of seed definitions n = output_answer n (test_load_result seed definitions n)

-- An expansion's answer, with the output and the sheet that is left in buffers of n and l bytes.
pub record Expanded : Type 0 where
  pub number : ℕ
  pub len : ℕ
  pub sheet_len : ℕ
  pub out : List ℕ
  pub left : List ℕ

unfoldable pub expanded_answer : ℕ → ℕ → Answer (List ℕ × Records) → Expanded
expanded_answer n l (refused k) = record { number = k; len = 0; sheet_len = 0; out = zeros n; left = zeros l }
expanded_answer n l (accepted x) = record { number = 0; len = length x.0; sheet_len = length (encode x.1); out = padded n x.0; left = padded l (encode x.1) }

-- EXPANSION alone: 2, 3, 6, then 9 for the sheet given, then in reading.
unfoldable pub preprocess_typst_result : List ℕ → List ℕ → List ℕ → ℕ → ℕ → Answer (List ℕ × Records)
preprocess_typst_result bundle text sheet n l = do
  es ← or_refuse 2 (bundle_of bundle)
  s ← or_refuse 3 (sheet_of sheet)
  check 6 (all ascii text)
  check 9 (leb (sheet_length s) (limit l))
  expanded (view es) (limit l) n s text

unfoldable pub preprocess_typst_of : List ℕ → List ℕ → List ℕ → ℕ → ℕ → Expanded
preprocess_typst_of bundle text sheet n l = expanded_answer n l (preprocess_typst_result bundle text sheet n l)

-- DEFINITIONS: 1, 2, 4, then 5, 6 for its own file, then in reading. l, w: the lengths of `left` and `work`.
pub record Defined : Type 0 where
  pub number : ℕ
  pub sheet_len : ℕ
  pub left : List ℕ
  pub work : List ℕ

unfoldable pub defined_answer : ℕ → ℕ → Answer Records → Defined
defined_answer l w (refused k) = record { number = k; sheet_len = 0; left = zeros l; work = zeros w }
defined_answer l w (accepted s) = record { number = 0; sheet_len = length (encode s); left = padded l (encode s); work = zeros w }

unfoldable pub parse_definitions_result : List ℕ → List ℕ → ℕ → ℕ → Answer Records
parse_definitions_result bundle path l w = do
  check 1 (leb (16 * limit l) w)
  es ← or_refuse 2 (bundle_of bundle)
  c ← fetch (view es) path
  definitions (limit l) (view es) (parent path) c

unfoldable pub parse_definitions_of : List ℕ → List ℕ → ℕ → ℕ → Defined
parse_definitions_of bundle path l w = defined_answer l w (parse_definitions_result bundle path l w)

-- THE PASS: 2, 3, 4, 6, then 9 for the sheet given, then in reading.
-- What it is given beside its sheet and its text: bundle, folder, the lengths of its middle, output and sheet buffers.
pub record Setting : Type 0 where
  pub bundle : List ℕ
  pub folder : List ℕ
  pub middle_len : ℕ
  pub out_len : ℕ
  pub left_len : ℕ

pub record Passed : Type 0 where
  pub number : ℕ
  pub len : ℕ
  pub sheet_len : ℕ
  pub closed : Bool
  pub middle : List ℕ
  pub out : List ℕ
  pub left : List ℕ

-- Is the text closed, for a bundle, folder and sheet: none of 3, 4 and 6 for the arguments, and closed as section 6 says.
-- A broken bundle is 2, not one of 3 to 8; nothing is closed for it.
unfoldable pub closed_in : Option (List Entry) → List ℕ → Option Records → List ℕ → Bool
closed_in none folder s text = false
closed_in (some es) folder none text = false
closed_in (some es) folder (some s) text = is_folder folder && all ascii text && closed (view es) folder s text

module _ (k : Setting) where
  unfoldable pub closed_of : List ℕ → List ℕ → Bool
  closed_of sheet text = closed_in (bundle_of k.bundle) k.folder (sheet_of sheet) text

  -- c: is the text closed.
  unfoldable pub passed_answer : Bool → Answer (List ℕ × Records) → Passed
  passed_answer c (refused n) = record { number = n; len = 0; sheet_len = 0; closed = false; middle = zeros k.middle_len; out = zeros k.out_len; left = zeros k.left_len }
  passed_answer c (accepted x) = record { number = 0; len = length x.0; sheet_len = length (encode x.1); closed = c; middle = zeros k.middle_len; out = padded k.out_len x.0; left = padded k.left_len (encode x.1) }

  unfoldable pub pass_result : List ℕ → List ℕ → Answer (List ℕ × Records)
  pass_result sheet text = do
    es ← or_refuse 2 (bundle_of k.bundle)
    s ← or_refuse 3 (sheet_of sheet)
    check 4 (is_folder k.folder)
    check 6 (all ascii text)
    check 9 (leb (sheet_length s) (limit k.left_len))
    passed (view es) (limit k.left_len) k.middle_len k.out_len k.folder s text

  unfoldable pub pass_of : List ℕ → List ℕ → Passed
  pass_of sheet text = passed_answer (closed_of sheet text) (pass_result sheet text)
