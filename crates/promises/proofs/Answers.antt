-- What every answer of a public call says (01, sections 6 and 8).
use Rattle.std.specs.Prelude.{◌≡◌, refl, ◌≢◌, ◌↔◌, ◌⊎◌, List, [], ◌∷◌, Bool, true, false, ◌||◌, ℕ, ◌+◌, ◌*◌, ◌≤◌, ◌<◌, leb, eqb, length, take, drop}
use Rattle.std.proofs.Common.{sym, ap, ◌∙◌, arith, take_all, length-take-le}
use Rattle.std.proofs.Math.Option.{some}
use Rattle.std.proofs.Math.Decide.{dec_le}
use Rattle.std.proofs.lemmas.Bool.{lt-leb}
use Rattle.rules.specs.Answer.{refused, accepted, is_refusal, ◌>>◌, check, is_some, first_broken}
use Rattle.rules.specs.Reader.{bytes, all}
use Rattle.rules.specs.Run.{ok, put, fail, and_then, unrefused}
use Rattle.rules.specs.Bytes.{ascii, is_path, is_folder, parent}
use Rattle.rules.specs.Bundle.{Entry, bundle_of}
use Rattle.rules.specs.Calls.{Setting, limit, zeros, padded, Holds, resolve_result, resolve_of, looked_answer, output_answer, find_file_of, found_answer, resolve_includes_result, resolve_includes_of, test_load_result, test_load_of, preprocess_typst_result, preprocess_typst_of, expanded_answer, parse_definitions_result, parse_definitions_of, defined_answer, pass_result, pass_of, passed_answer, closed_of}
use Rattle.rules.specs.Files.{View, view, fetch, opened}
use Rattle.rules.specs.Sheet.{Records, sheet_of}
use Rattle.rules.specs.Includes.{include_step, inside_file}
use Rattle.rules.specs.Expansion.{expansion_step}
use Rattle.rules.specs.Manual.{built, shown, manual, manual_of}
use Rattle.rules.specs.Parts.{sheet_left}
use Rattle.rules.proofs.Laws.Calls.{refused_form, number_form, parse_definitions_holds, parse_definitions_work, parse_definitions_sheet, resolve-numbered, resolve_includes_numbered, test_load_numbered, preprocess_typst_numbered, parse_definitions_numbered, resolve-holds, resolve_includes_holds, test_load_holds, preprocess_typst_holds, preprocess_typst_sheet, pass_holds, pass_middle, pass_closed, find_refused, find_known, pass_sheet}
use Rattle.rules.proofs.Laws.Found.{found-there, found_inside}
use Rattle.rules.proofs.Laws.Manual.{manual-holds}
use Rattle.rules.proofs.Laws.Parts.{result_numbered}
use Rattle.rules.proofs.Laws.Order.{resolve-order, find_file_order, resolve_includes_order, preprocess_typst_order, parse_definitions_order, pass_order}
use Rattle.rules.proofs.Laws.Once.{refused_alone, expansion-once, include_step-whole}

-- CLOSED. The answer says closed exactly when the pass is accepted and the text is closed.
pub closed_exactly : (k : Setting) (sheet text : List ℕ) → ((pass_of k sheet text).closed ≡ true) ↔ (((pass_of k sheet text).number ≡ 0) × (closed_of k sheet text ≡ true))
closed_exactly k sheet text = pass_closed k sheet text

-- REFUSED: the number, every length zero, kind missing, not closed, every writable buffer zero.
pub resolve-refused : (sheet path : List ℕ) (n : ℕ) → let r = resolve_of sheet path n in r.number ≢ 0 → r ≡ record { number = r.number; kind = 0; len = 0; out = zeros n }
unfolding resolve_of looked_answer
resolve-refused sheet path n h = refused_form (looked_answer n) (λ r. r.number) (λ k. refl) (λ a. refl) (resolve_result sheet path n) h

pub resolve-includes-refused : (bundle folder text : List ℕ) (n : ℕ) → let r = resolve_includes_of bundle folder text n in r.number ≢ 0 → r ≡ record { number = r.number; len = 0; out = zeros n }
unfolding resolve_includes_of output_answer
resolve-includes-refused bundle folder text n h = refused_form (output_answer n) (λ r. r.number) (λ k. refl) (λ a. refl) (resolve_includes_result bundle folder text n) h

pub test_load-refused : (seed : ℕ) (definitions : Bool) (n : ℕ) → let r = test_load_of seed definitions n in r.number ≢ 0 → r ≡ record { number = r.number; len = 0; out = zeros n }
unfolding test_load_of output_answer
test_load-refused seed definitions n h = refused_form (output_answer n) (λ r. r.number) (λ k. refl) (λ a. refl) (test_load_result seed definitions n) h

pub preprocess_typst_refused : (bundle text sheet : List ℕ) (n l : ℕ) → let r = preprocess_typst_of bundle text sheet n l in
    r.number ≢ 0 → r ≡ record { number = r.number; len = 0; sheet_len = 0; out = zeros n; left = zeros l }
unfolding preprocess_typst_of expanded_answer
preprocess_typst_refused bundle text sheet n l h = refused_form (expanded_answer n l) (λ r. r.number) (λ k. refl) (λ a. refl) (preprocess_typst_result bundle text sheet n l) h

pub parse_definitions-refused : (bundle path : List ℕ) (l w : ℕ) → let r = parse_definitions_of bundle path l w in
    r.number ≢ 0 → r ≡ record { number = r.number; sheet_len = 0; left = zeros l; work = zeros w }
unfolding parse_definitions_of defined_answer
parse_definitions-refused bundle path l w h = refused_form (defined_answer l w) (λ r. r.number) (λ k. refl) (λ a. refl) (parse_definitions_result bundle path l w) h

pub pass_refused : (k : Setting) (sheet text : List ℕ) → let r = pass_of k sheet text in
    r.number ≢ 0 → r ≡ record { number = r.number; len = 0; sheet_len = 0; closed = false; middle = zeros k.middle_len; out = zeros k.out_len; left = zeros k.left_len }
unfolding pass_of passed_answer
pass_refused k sheet text h = refused_form (passed_answer k (closed_of k sheet text)) (λ r. r.number) (λ n. refl) (λ a. refl) (pass_result k sheet text) h

pub find_file-refused : (bundle path : List ℕ) → let r = find_file_of bundle path in r.number ≢ 0 → r ≡ record { number = r.number; kind = 0; start = 0; len = 0 }
unfolding find_file_of
find_file-refused bundle path h = find_refused bundle path h

-- FOUND: a file that `find_file` finds is what opening it gives, and lies in the bundle.
pub find_file-there : (bundle path : List ℕ) (es : List Entry) → bundle_of bundle ≡ some es → let r = find_file_of bundle path in r.number ≡ 0 → r.kind ≡ 2 →
    (fetch (view es) path ≡ accepted (take r.len (drop r.start bundle))) × (r.start + r.len ≤ length bundle)
find_file-there bundle path es h e k = (found-there bundle path es h e k, found_inside bundle path)

-- WRITTEN: each buffer holds what the answer's length says, and zero behind it; refused, the length is zero.
pub resolve-written : (sheet path : List ℕ) (n : ℕ) → let r = resolve_of sheet path n in Holds n r.len r.out
resolve-written sheet path n = resolve-holds sheet path n

pub resolve-includes-written : (bundle folder text : List ℕ) (n : ℕ) → let r = resolve_includes_of bundle folder text n in Holds n r.len r.out
resolve-includes-written bundle folder text n = resolve_includes_holds bundle folder text n

pub test_load-written : (seed : ℕ) (definitions : Bool) (n : ℕ) → let r = test_load_of seed definitions n in Holds n r.len r.out
test_load-written seed definitions n = test_load_holds seed definitions n

pub preprocess_typst_written : (bundle text sheet : List ℕ) (n l : ℕ) → let r = preprocess_typst_of bundle text sheet n l in Holds n r.len r.out × Holds l r.sheet_len r.left
preprocess_typst_written bundle text sheet n l = let h = preprocess_typst_holds bundle text sheet n l in (h.output, h.sheet)

pub pass_written : (k : Setting) (sheet text : List ℕ) → let r = pass_of k sheet text in Holds k.out_len r.len r.out × Holds k.left_len r.sheet_len r.left × (r.middle ≡ zeros k.middle_len)
pass_written k sheet text = let h = pass_holds k sheet text in (h.output, h.sheet, pass_middle k sheet text)

pub parse_definitions-written : (bundle path : List ℕ) (l w : ℕ) → let r = parse_definitions_of bundle path l w in Holds l r.sheet_len r.left × (r.work ≡ zeros w)
parse_definitions-written bundle path l w = (parse_definitions_holds bundle path l w, parse_definitions_work bundle path l w)

-- LEFT: the sheet that an accepted call leaves keeps the layout and L, so a pass can start from it.
pub pass_leaves : (k : Setting) (sheet text : List ℕ) → let r = pass_of k sheet text in r.number ≡ 0 → (s : Records) × (sheet_of (sheet_left r) ≡ some s) × (length (sheet_left r) ≤ limit k.left_len)
pass_leaves k sheet text h = let s = pass_sheet k sheet text h in (s.records, s.keeps-layout, s.fits)

pub preprocess_typst_leaves : (bundle text sheet : List ℕ) (n l : ℕ) → let r = preprocess_typst_of bundle text sheet n l in
    r.number ≡ 0 → (s : Records) × (sheet_of (take r.sheet_len r.left) ≡ some s) × (length (take r.sheet_len r.left) ≤ limit l)
preprocess_typst_leaves bundle text sheet n l h = let s = preprocess_typst_sheet bundle text sheet n l h in (s.records, s.keeps-layout, s.fits)

pub parse_definitions-leaves : (bundle path : List ℕ) (l w : ℕ) → let r = parse_definitions_of bundle path l w in
    r.number ≡ 0 → (s : Records) × (sheet_of (take r.sheet_len r.left) ≡ some s) × (length (take r.sheet_len r.left) ≤ limit l)
parse_definitions-leaves bundle path l w h = let s = parse_definitions_sheet bundle path l w h in (s.records, s.keeps-layout, s.fits)

-- NUMBERS: every answer has the number 0 or one of section 8.
unfoldable pub known : ℕ → Bool
known n = eqb n 0 || is_refusal n

pub numbers :
    ((sheet path : List ℕ) (n : ℕ) → known (resolve_of sheet path n).number ≡ true)
    × ((bundle folder text : List ℕ) (n : ℕ) → known (resolve_includes_of bundle folder text n).number ≡ true)
    × ((seed : ℕ) (definitions : Bool) (n : ℕ) → known (test_load_of seed definitions n).number ≡ true)
    × ((bundle text sheet : List ℕ) (n l : ℕ) → known (preprocess_typst_of bundle text sheet n l).number ≡ true)
    × ((bundle path : List ℕ) (l w : ℕ) → known (parse_definitions_of bundle path l w).number ≡ true)
    × ((k : Setting) (sheet text : List ℕ) → known (pass_of k sheet text).number ≡ true)
    × ((bundle path : List ℕ) → known (find_file_of bundle path).number ≡ true)
unfolding known resolve_of looked_answer output_answer resolve_includes_of test_load_of preprocess_typst_of expanded_answer parse_definitions_of defined_answer pass_of passed_answer
numbers = (
  λ s p n. number_form (looked_answer n) (λ r. r.number) (λ k. refl) (λ a. refl) (resolve_result s p n) (resolve-numbered s p n),
  λ b g t n. number_form (output_answer n) (λ r. r.number) (λ k. refl) (λ a. refl) (resolve_includes_result b g t n) (resolve_includes_numbered b g t n),
  λ s d n. number_form (output_answer n) (λ r. r.number) (λ k. refl) (λ a. refl) (test_load_result s d n) (test_load_numbered s d n),
  λ b t s n l. number_form (expanded_answer n l) (λ r. r.number) (λ k. refl) (λ a. refl) (preprocess_typst_result b t s n l) (preprocess_typst_numbered b t s n l),
  λ b p l w. number_form (defined_answer l w) (λ r. r.number) (λ k. refl) (λ a. refl) (parse_definitions_result b p l w) (parse_definitions_numbered b p l w),
  λ k s t. number_form (passed_answer k (closed_of k s t)) (λ r. r.number) (λ n. refl) (λ a. refl) (pass_result k s t) (result_numbered k s t),
  find_known,
)

-- ARGUMENTS FIRST: 1, 2, 3, 4, 6, then 9 for the sheet given. A call whose arguments break a rule has the number of the first that is broken, in the
-- order listed. For the definitions call 5 and 6 of its own file follow, as `find_file` finds it.
abbrev pub First : ℕ → List (ℕ × Bool) → Type 0
First number rules = let k = first_broken rules in k ≢ 0 → number ≡ k

pub resolve-first : (sheet path : List ℕ) (n : ℕ) → First (resolve_of sheet path n).number
    ((3, is_some (sheet_of sheet)) ∷ (6, all ascii path) ∷ [])
unfolding resolve_of looked_answer
resolve-first sheet path n h = rw ((resolve-order sheet path n).first h)

pub find_file-first : (bundle path : List ℕ) → First (find_file_of bundle path).number
    ((2, is_some (bundle_of bundle)) ∷ (4, is_path path) ∷ [])
unfolding find_file_of found_answer
find_file-first bundle path h = rw ((find_file_order bundle path).first h)

pub resolve-includes-first : (bundle folder text : List ℕ) (n : ℕ) → First (resolve_includes_of bundle folder text n).number
    ((2, is_some (bundle_of bundle)) ∷ (4, is_folder folder) ∷ (6, all ascii text) ∷ [])
unfolding resolve_includes_of output_answer
resolve-includes-first bundle folder text n h = rw ((resolve_includes_order bundle folder text n).first h)

pub preprocess_typst_first : (bundle text sheet : List ℕ) (n l : ℕ) → First (preprocess_typst_of bundle text sheet n l).number
    ((2, is_some (bundle_of bundle)) ∷ (3, is_some (sheet_of sheet)) ∷ (6, all ascii text) ∷ (9, leb (length sheet) (limit l)) ∷ [])
unfolding preprocess_typst_of expanded_answer
preprocess_typst_first bundle text sheet n l h = rw ((preprocess_typst_order bundle text sheet n l).first h)

pub parse_definitions-first : (bundle path : List ℕ) (l w : ℕ) → let f = find_file_of bundle path in First (parse_definitions_of bundle path l w).number
    ((1, leb (16 * limit l) w) ∷ (2, is_some (bundle_of bundle)) ∷ (4, is_path path) ∷ (5, eqb f.kind 2) ∷ (6, all ascii (take f.len (drop f.start bundle))) ∷ [])
unfolding parse_definitions_of defined_answer
parse_definitions-first bundle path l w h = rw ((parse_definitions_order bundle path l w).first h)

pub pass_first : (k : Setting) (sheet text : List ℕ) → First (pass_of k sheet text).number
    ((2, is_some (bundle_of k.bundle)) ∷ (3, is_some (sheet_of sheet)) ∷ (4, is_folder k.folder) ∷ (6, all ascii text) ∷ (9, leb (length sheet) (limit k.left_len)) ∷ [])
unfolding pass_of passed_answer
pass_first k sheet text h = rw ((pass_order k sheet text).first h)

-- READ WHOLE: a call or include mark is read whole, its file opened, before its first byte is output.
-- A refused step of the expansion is nothing but the refusal. So is one of the includes; or a file p was opened with the text c, a level being left,
-- and the refusal is one inside it: the step is what that text comes to, then a newline. (Of its steps, with a level less, the same holds.)
pub calls-read-whole : (v : View) (s : Records) (text : List ℕ) → let e = (expansion_step v s text).0.emit in
    unrefused e ≡ false → (k : ℕ) × (e ≡ fail k)
calls-read-whole v s text h = refused_alone (expansion_step v s text).0.emit (expansion-once v s text) h

pub marks-read-whole : (v : View) (l : ℕ) (folder stretch text : List ℕ) → let e = (include_step v (inside_file v l) folder stretch text).0.emit in
    unrefused e ≡ false → ((k : ℕ) × (e ≡ fail k))
    ⊎ ((p : List ℕ) × (c : List ℕ) × (opened v p ≡ accepted c) × (l ≢ 0) × (e ≡ and_then (inside_file v l (parent p) c) (put (bytes "\n") ok)))
marks-read-whole v l folder stretch text h = include_step-whole v l folder stretch text h

-- MANUAL. Its text fits the buffer, and zero stands behind it.
pub manual-written : (input : List ℕ) → let r = manual_of input in Holds 32768 r.len r.out
manual-written input = manual-holds input

-- What it answers is decided by the first 16,385 bytes of its input, and it reads no more.
pub manual-cut : (input : List ℕ) → manual_of (take 16385 input) ≡ manual_of input
unfolding manual_of manual built check ◌>>◌
manual-cut input = ap (λ t. record { len = length t; out = padded 32768 t }) (go (dec_le (length input) 16385))
  where
    long : (b : List ℕ) → 16384 < length b → manual b ≡ shown (refused 2)
    long b h = rw (lt-leb (length b) 16384 h) refl

    go : Dec (length input ≤ 16385) → manual (take 16385 input) ≡ manual input
    go (yes h) = ap manual (take_all 16385 input h)
    go (no h) = long (take 16385 input) (omega (arith, length-take-le 16385 input (omega arith))) ∙ sym (long input (omega arith))
