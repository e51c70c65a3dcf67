-- The public calls: what a refused one answers, what each buffer holds, the sheet that is left, closed.
use Rattle.std.specs.Prelude.{◌≡◌, ◌≢◌, ◌↔◌, List, Bool, true, ◌||◌, ℕ, ◌-◌, ◌*◌, ◌≤◌, leb, eqb, length, take, replicate}
use Rattle.std.proofs.Math.Path.{refl}
use Rattle.std.proofs.Common.{sym, ap, ◌∙◌, true≢false, arith, length-append}
use Rattle.std.proofs.Math.Option.{Option, some}
use Rattle.std.proofs.Math.Nat.{sub-zero}
use Rattle.std.proofs.lemmas.List.{length-replicate}
use Rattle.std.proofs.Math.Seq.{take-append_seam, drop-append_seam}
use Rattle.rules.specs.Answer.{Answer, refused, accepted, is_refusal, or_refuse}
use Rattle.rules.specs.Reader.{all}
use Rattle.rules.specs.Bytes.{ascii, is_path, is_folder, parent}
use Rattle.rules.specs.Bundle.{bundle_of}
use Rattle.rules.specs.Files.{View, entry_at, is_folder_of, view, fetch}
use Rattle.rules.specs.Sheet.{Value, Records, encode, sheet_length, sheet_of, resolve, text_of}
use Rattle.rules.specs.Includes.{includes}
use Rattle.rules.specs.Expansion.{expansion}
use Rattle.rules.specs.Pass.{middle_text, expanded, passed}
use Rattle.rules.specs.Calls.{Setting, limit, zeros, padded, Holds, Found, found_answer, find_file_result, find_file_of, output_answer, looked_answer, resolve_result, resolve_of, resolve_includes_result, resolve_includes_of, test_load_result, test_load_of, expanded_answer, preprocess_typst_result, preprocess_typst_of, defined_answer, parse_definitions_result, parse_definitions_of, passed_answer, closed_of, pass_result, pass_of}
use Rattle.rules.specs.Load.{load, list_of}
use Rattle.rules.specs.Parts.{sheet_left}
use Rattle.rules.proofs.Laws.Bool.{or-i-r, true-leb}
use Rattle.rules.proofs.Laws.Answer.{accepted-same, check_inv, bind_inv, or_refuse_inv}
use Rattle.rules.proofs.Laws.Limit.{limited-fits}
use Rattle.rules.proofs.Laws.Sheet.{sheet-good, Kept}
use Rattle.rules.proofs.Laws.Numbers.{numbered, numbered-accepted, numbered-check, numbered-or_refuse, numbered-then, numbered-bind, limited-numbered, numbered-fetch, zero-accepted}
use Rattle.rules.proofs.Laws.Refusals.{includes-numbered, expansion-numbered}
use Rattle.rules.proofs.Laws.Definitions.{definitions-numbered, definitions-kept}
use Rattle.rules.proofs.Laws.Found.{entry-number}
use Rattle.rules.proofs.Laws.Parts.{kept-sheet, expanded-kept, ran_inv, ran-kept, answers, result_numbered}

-- FORMS. `form` makes a call's answer of its result: a number other than 0 is a refusal, and 0 is an acceptance.
module _ {A R : Type 0} (form : Answer A → R) (number : R → ℕ) (of-refused : (k : ℕ) → number (form (refused k)) ≡ k) (of-accepted : (a : A) → number (form (accepted a)) ≡ 0) where
  pub refused_form : (x : Answer A) → number (form x) ≢ 0 → form x ≡ form (refused (number (form x)))
  refused_form (refused k) h = ap (λ z. form (refused z)) (sym (of-refused k))
  refused_form (accepted a) h = absurd (h (of-accepted a))

  pub accepted_form : (x : Answer A) → numbered x ≡ true → number (form x) ≡ 0 → (a : A) × (x ≡ accepted a)
  accepted_form (refused k) n h = absurd (zero-accepted (refused k) n (ap refused (sym (of-refused k) ∙ h)))
  accepted_form (accepted a) n h = (a, refl)

  -- The number is 0 or one of section 8.
  pub number_form : (x : Answer A) → numbered x ≡ true → (eqb (number (form x)) 0 || is_refusal (number (form x))) ≡ true
  unfolding numbered
  number_form (refused k) n = rw (of-refused k) (or-i-r (eqb k 0) (is_refusal k) n)
  number_form (accepted a) n = rw (of-accepted a) refl

-- BUFFERS. A padded result, and an empty one.
pub holds-padded : (n : ℕ) (o : List ℕ) → length o ≤ n → Holds n (length o) (padded n o)
unfolding padded zeros
holds-padded n o h = record {
  size = simp (length-append, length-replicate) (omega arith);
  fits = h;
  behind = drop-append_seam o (replicate (n - length o) 0);
}

holds-zeros : (n : ℕ) → Holds n 0 (zeros n)
unfolding zeros
holds-zeros n = record { size = length-replicate n 0; fits = omega arith; behind = rw sub-zero }

holds-output : (n : ℕ) (x : Answer (List ℕ)) → ((o : List ℕ) → x ≡ accepted o → length o ≤ n) → Holds n (output_answer n x).len (output_answer n x).out
unfolding output_answer
holds-output n (refused k) h = holds-zeros n
holds-output n (accepted o) h = holds-padded n o (h o refl)

-- Bytes that keep the sheet's layout, at most L of them.
pub record Sheet (L : ℕ) (bytes : List ℕ) : Type 0 where
  pub records : Records
  pub keeps-layout : sheet_of bytes ≡ some records
  pub fits : length bytes ≤ L

-- What the sheet buffer's length says of L.
limit-le : (l : ℕ) → limit l ≤ l
unfolding limit
limit-le l = omega arith

kept-fits : (l : ℕ) (s : Records) → Kept (limit l) s → length (encode s) ≤ l
unfolding sheet_length
kept-fits l s k = omega (arith, true-leb (sheet_length s) (limit l) k.small, limit-le l)

-- FIND A FILE.
found-refused : (x : Answer Found) → ((f : Found) → x ≡ accepted f → f.number ≡ 0) → (found_answer x).number ≢ 0 → found_answer x ≡ record { number = (found_answer x).number; kind = 0; start = 0; len = 0 }
unfolding found_answer
found-refused (refused k) z h = refl
found-refused (accepted f) z h = absurd (h (z f refl))

find_number : (bundle path : List ℕ) (f : Found) → find_file_result bundle path ≡ accepted f → f.number ≡ 0
unfolding find_file_result
find_number bundle path f q =
    let i = bind_inv (or_refuse 2 (bundle_of bundle)) _ q in
    let j = check_inv 4 (is_path path) _ i.2 in
    ap (λ z. z.number) (sym (accepted-same j.1)) ∙ entry-number (entry_at i.0 path) (is_folder_of i.0 path)

pub find_refused : (bundle path : List ℕ) → let r = find_file_of bundle path in r.number ≢ 0 → r ≡ record { number = r.number; kind = 0; start = 0; len = 0 }
unfolding find_file_of
find_refused bundle path h = found-refused (find_file_result bundle path) (find_number bundle path) h

found-known : (x : Answer Found) → numbered x ≡ true → ((f : Found) → x ≡ accepted f → f.number ≡ 0) → (eqb (found_answer x).number 0 || is_refusal (found_answer x).number) ≡ true
unfolding found_answer numbered
found-known (refused k) n z = or-i-r (eqb k 0) (is_refusal k) n
found-known (accepted f) n z = rw (z f refl) refl

pub find_known : (bundle path : List ℕ) → let k = (find_file_of bundle path).number in (eqb k 0 || is_refusal k) ≡ true
unfolding find_file_of find_file_result is_refusal
find_known bundle path = found-known (find_file_result bundle path) (search (numbered-bind, numbered-then, numbered-check, numbered-or_refuse, numbered-accepted) depth 12) (find_number bundle path)

-- LOOKUP.
resolve-fits : (sheet path : List ℕ) (n : ℕ) (v : Option Value) → resolve_result sheet path n ≡ accepted v → length (text_of v) ≤ n
unfolding resolve_result
resolve-fits sheet path n v q =
    let i = bind_inv (or_refuse 3 (sheet_of sheet)) _ q in
    let j = check_inv 6 (all ascii path) _ i.2 in
    let m = check_inv 11 (leb (length (text_of (resolve i.0 path))) n) _ j.1 in
    let e : length (text_of (resolve i.0 path)) ≡ length (text_of v) = ap (λ x. length (text_of x)) (accepted-same m.1) in
    omega (arith, true-leb (length (text_of (resolve i.0 path))) n m.0)

holds-looked : (n : ℕ) (x : Answer (Option Value)) → ((v : Option Value) → x ≡ accepted v → length (text_of v) ≤ n) → Holds n (looked_answer n x).len (looked_answer n x).out
unfolding looked_answer
holds-looked n (refused k) h = holds-zeros n
holds-looked n (accepted v) h = holds-padded n (text_of v) (h v refl)

pub resolve-holds : (sheet path : List ℕ) (n : ℕ) → Holds n (resolve_of sheet path n).len (resolve_of sheet path n).out
unfolding resolve_of
resolve-holds sheet path n = holds-looked n (resolve_result sheet path n) (resolve-fits sheet path n)

-- INCLUDES.
resolve_includes_fits : (bundle folder text : List ℕ) (n : ℕ) (o : List ℕ) → resolve_includes_result bundle folder text n ≡ accepted o → length o ≤ n
unfolding resolve_includes_result middle_text
resolve_includes_fits bundle folder text n o q =
    let i = bind_inv (or_refuse 2 (bundle_of bundle)) _ q in
    let j = check_inv 4 (is_folder folder) _ i.2 in
    let m = check_inv 6 (all ascii text) _ j.1 in
    let x = bind_inv (middle_text (view i.0) 11 n folder text) _ m.1 in
    let e : length x.0.0 ≡ length o = ap length (accepted-same x.2) in
    omega (arith, limited-fits (λ h. 0) 0 11 (includes (view i.0) folder text) n x.1)

pub resolve_includes_holds : (bundle folder text : List ℕ) (n : ℕ) → Holds n (resolve_includes_of bundle folder text n).len (resolve_includes_of bundle folder text n).out
unfolding resolve_includes_of
resolve_includes_holds bundle folder text n = holds-output n (resolve_includes_result bundle folder text n) (resolve_includes_fits bundle folder text n)

-- TEST LOAD.
test_load_fits : (seed : ℕ) (definitions : Bool) (n : ℕ) (o : List ℕ) → test_load_result seed definitions n ≡ accepted o → length o ≤ n
unfolding test_load_result
test_load_fits seed definitions n o q =
    let t = load (list_of definitions) seed in
    let i = check_inv 11 (leb (length t) n) (accepted t) q in
    omega (arith, true-leb (length t) n i.0, ap length (accepted-same i.1))

pub test_load_holds : (seed : ℕ) (definitions : Bool) (n : ℕ) → Holds n (test_load_of seed definitions n).len (test_load_of seed definitions n).out
unfolding test_load_of
test_load_holds seed definitions n = holds-output n (test_load_result seed definitions n) (test_load_fits seed definitions n)

-- EXPANSION. An accepted one: its output fits, and the sheet left keeps the layout and L.
expanded-fits : (v : View) (L n : ℕ) (s : Records) (t : List ℕ) (y : List ℕ × Records) → expanded v L n s t ≡ accepted y → length y.0 ≤ n
unfolding expanded
expanded-fits v L n s t y q = limited-fits sheet_length L 11 (expansion v s t) n q

record Ready (n l : ℕ) (y : List ℕ × Records) : Type 0 where
  output : length y.0 ≤ n
  sheet : Kept (limit l) y.1

preprocess_typst_ready : (bundle text sheet : List ℕ) (n l : ℕ) (y : List ℕ × Records) → preprocess_typst_result bundle text sheet n l ≡ accepted y → Ready n l y
unfolding preprocess_typst_result
preprocess_typst_ready bundle text sheet n l y q =
    let i = bind_inv (or_refuse 2 (bundle_of bundle)) _ q in
    let j = bind_inv (or_refuse 3 (sheet_of sheet)) _ i.2 in
    let m = check_inv 6 (all ascii text) _ j.2 in
    let w = check_inv 9 (leb (sheet_length j.0) (limit l)) _ m.1 in
    let g = sheet-good sheet j.0 (or_refuse_inv 3 (sheet_of sheet) j.1) in
    record {
      output = expanded-fits (view i.0) (limit l) n j.0 text y w.1;
      sheet = expanded-kept (view i.0) (limit l) n j.0 text y m.0 (record { good = g.good; small = w.0 }) w.1;
    }

-- Both buffers of an expansion.
pub record HoldsBoth (n l len sheet_len : ℕ) (out left : List ℕ) : Type 0 where
  pub output : Holds n len out
  pub sheet : Holds l sheet_len left

expanded-holds : (n l : ℕ) (x : Answer (List ℕ × Records)) → ((y : List ℕ × Records) → x ≡ accepted y → Ready n l y) →
    HoldsBoth n l (expanded_answer n l x).len (expanded_answer n l x).sheet_len (expanded_answer n l x).out (expanded_answer n l x).left
unfolding expanded_answer
expanded-holds n l (refused k) h = record { output = holds-zeros n; sheet = holds-zeros l }
expanded-holds n l (accepted y) h = let r = h y refl in record { output = holds-padded n y.0 r.output; sheet = holds-padded l (encode y.1) (kept-fits l y.1 r.sheet) }

pub preprocess_typst_holds : (bundle text sheet : List ℕ) (n l : ℕ) → let r = preprocess_typst_of bundle text sheet n l in HoldsBoth n l r.len r.sheet_len r.out r.left
unfolding preprocess_typst_of
preprocess_typst_holds bundle text sheet n l = expanded-holds n l (preprocess_typst_result bundle text sheet n l) (preprocess_typst_ready bundle text sheet n l)

-- DEFINITIONS. An accepted one leaves a sheet that keeps the layout and L.
parse_definitions_kept : (bundle path : List ℕ) (l w : ℕ) (s : Records) → parse_definitions_result bundle path l w ≡ accepted s → Kept (limit l) s
unfolding parse_definitions_result
parse_definitions_kept bundle path l w s q =
    let i = check_inv 1 (leb (16 * limit l) w) _ q in
    let j = bind_inv (or_refuse 2 (bundle_of bundle)) _ i.1 in
    let c = bind_inv (fetch (view j.0) path) _ j.2 in
    definitions-kept (limit l) (view j.0) (parent path) c.0 s c.2

defined-holds : (l w : ℕ) (x : Answer Records) → ((s : Records) → x ≡ accepted s → Kept (limit l) s) → Holds l (defined_answer l w x).sheet_len (defined_answer l w x).left
unfolding defined_answer
defined-holds l w (refused k) h = holds-zeros l
defined-holds l w (accepted s) h = holds-padded l (encode s) (kept-fits l s (h s refl))

pub parse_definitions_holds : (bundle path : List ℕ) (l w : ℕ) → Holds l (parse_definitions_of bundle path l w).sheet_len (parse_definitions_of bundle path l w).left
unfolding parse_definitions_of
parse_definitions_holds bundle path l w = defined-holds l w (parse_definitions_result bundle path l w) (parse_definitions_kept bundle path l w)

defined-work : (l w : ℕ) (x : Answer Records) → (defined_answer l w x).work ≡ zeros w
unfolding defined_answer
defined-work l w (refused k) = refl
defined-work l w (accepted s) = refl

pub parse_definitions_work : (bundle path : List ℕ) (l w : ℕ) → (parse_definitions_of bundle path l w).work ≡ zeros w
unfolding parse_definitions_of
parse_definitions_work bundle path l w = defined-work l w (parse_definitions_result bundle path l w)

pub parse_definitions_numbered : (bundle path : List ℕ) (l w : ℕ) → numbered (parse_definitions_result bundle path l w) ≡ true
unfolding parse_definitions_result is_refusal
parse_definitions_numbered bundle path l w = search (numbered-bind, numbered-then, numbered-check, numbered-or_refuse, numbered-fetch, definitions-numbered) depth 20

pub parse_definitions_sheet : (bundle path : List ℕ) (l w : ℕ) → let r = parse_definitions_of bundle path l w in r.number ≡ 0 → Sheet (limit l) (take r.sheet_len r.left)
unfolding parse_definitions_of defined_answer padded sheet_length
parse_definitions_sheet bundle path l w h =
    let y = accepted_form (defined_answer l w) (λ r. r.number) (λ k. refl) (λ s. refl) (parse_definitions_result bundle path l w) (parse_definitions_numbered bundle path l w) h in
    let p = parse_definitions_kept bundle path l w y.0 y.1 in
    rw (y.1, take-append_seam (encode y.0) (zeros (l - length (encode y.0)))) (record { records = y.0; keeps-layout = kept-sheet l y.0 p; fits = true-leb _ _ p.small })

-- NUMBERS of the other calls.
pub resolve-numbered : (sheet path : List ℕ) (n : ℕ) → numbered (resolve_result sheet path n) ≡ true
unfolding resolve_result is_refusal
resolve-numbered sheet path n = search (numbered-bind, numbered-then, numbered-check, numbered-or_refuse, numbered-accepted) depth 12

pub test_load_numbered : (seed : ℕ) (definitions : Bool) (n : ℕ) → numbered (test_load_result seed definitions n) ≡ true
unfolding test_load_result is_refusal
test_load_numbered seed definitions n = search (numbered-then, numbered-check, numbered-accepted) depth 6

pub resolve_includes_numbered : (bundle folder text : List ℕ) (n : ℕ) → numbered (resolve_includes_result bundle folder text n) ≡ true
unfolding resolve_includes_result middle_text is_refusal
resolve_includes_numbered bundle folder text n = search (numbered-bind, numbered-then, numbered-check, numbered-or_refuse, numbered-accepted, limited-numbered, includes-numbered) depth 20

pub preprocess_typst_numbered : (bundle text sheet : List ℕ) (n l : ℕ) → numbered (preprocess_typst_result bundle text sheet n l) ≡ true
unfolding preprocess_typst_result expanded is_refusal
preprocess_typst_numbered bundle text sheet n l = search (numbered-bind, numbered-then, numbered-check, numbered-or_refuse, limited-numbered, expansion-numbered) depth 20

-- The sheet that an accepted expansion leaves.
pub preprocess_typst_sheet : (bundle text sheet : List ℕ) (n l : ℕ) → let r = preprocess_typst_of bundle text sheet n l in r.number ≡ 0 → Sheet (limit l) (take r.sheet_len r.left)
unfolding preprocess_typst_of expanded_answer padded sheet_length
preprocess_typst_sheet bundle text sheet n l h =
    let y = accepted_form (expanded_answer n l) (λ r. r.number) (λ k. refl) (λ x. refl) (preprocess_typst_result bundle text sheet n l) (preprocess_typst_numbered bundle text sheet n l) h in
    let s = y.0.1 in
    let p = (preprocess_typst_ready bundle text sheet n l y.0 y.1).sheet in
    rw (y.1, take-append_seam (encode s) (zeros (l - length (encode s)))) (record { records = s; keeps-layout = kept-sheet l s p; fits = true-leb _ _ p.small })

-- THE PASS.
module _ (k : Setting) where
  pass_ready : (sheet t : List ℕ) (y : List ℕ × Records) → pass_result k sheet t ≡ accepted y → Ready k.out_len k.left_len y
  unfolding passed
  pass_ready sheet t y q =
      let r = ran_inv k sheet t y q in
      let i = bind_inv (middle_text (view r.entries) 10 k.middle_len k.folder t) _ r.ran in
      record { output = expanded-fits (view r.entries) (limit k.left_len) k.out_len r.records i.0.0 y i.2; sheet = ran-kept k sheet t y r }

  passed-holds : (c : Bool) (x : Answer (List ℕ × Records)) → ((y : List ℕ × Records) → x ≡ accepted y → Ready k.out_len k.left_len y) →
      let r = passed_answer k c x in HoldsBoth k.out_len k.left_len r.len r.sheet_len r.out r.left
  unfolding passed_answer
  passed-holds c (refused n) h = record { output = holds-zeros k.out_len; sheet = holds-zeros k.left_len }
  passed-holds c (accepted y) h = let r = h y refl in record { output = holds-padded k.out_len y.0 r.output; sheet = holds-padded k.left_len (encode y.1) (kept-fits k.left_len y.1 r.sheet) }

  pub pass_holds : (sheet t : List ℕ) → HoldsBoth k.out_len k.left_len (pass_of k sheet t).len (pass_of k sheet t).sheet_len (pass_of k sheet t).out (pass_of k sheet t).left
  unfolding pass_of
  pass_holds sheet t = passed-holds (closed_of k sheet t) (pass_result k sheet t) (pass_ready sheet t)

  -- The middle buffer is zero, accepted and refused.
  passed-middle : (c : Bool) (x : Answer (List ℕ × Records)) → (passed_answer k c x).middle ≡ zeros k.middle_len
  unfolding passed_answer
  passed-middle c (refused n) = refl
  passed-middle c (accepted y) = refl

  pub pass_middle : (sheet t : List ℕ) → (pass_of k sheet t).middle ≡ zeros k.middle_len
  unfolding pass_of
  pass_middle sheet t = passed-middle (closed_of k sheet t) (pass_result k sheet t)

  -- A number 0 is an acceptance.
  pub pass_accepted : (sheet t : List ℕ) → (pass_of k sheet t).number ≡ 0 → (y : List ℕ × Records) × (pass_result k sheet t ≡ accepted y)
  unfolding pass_of passed_answer
  pass_accepted sheet t h =
      accepted_form (passed_answer k (closed_of k sheet t)) (λ r. r.number) (λ n. refl) (λ y. refl) (pass_result k sheet t) (result_numbered k sheet t) h

  -- Closed: accepted, and the text is closed.
  closed_at : (c : Bool) (x : Answer (List ℕ × Records)) → numbered x ≡ true → let r = passed_answer k c x in (r.closed ≡ true) ↔ ((r.number ≡ 0) × (c ≡ true))
  unfolding passed_answer
  closed_at c (refused n) m = (λ h. absurd (true≢false (sym h)), λ h. absurd (zero-accepted (refused n) m (ap refused h.0)))
  closed_at c (accepted y) m = (λ h. (refl, h), λ h. h.1)

  pub pass_closed : (sheet t : List ℕ) → ((pass_of k sheet t).closed ≡ true) ↔ (((pass_of k sheet t).number ≡ 0) × (closed_of k sheet t ≡ true))
  unfolding pass_of
  pass_closed sheet t = closed_at (closed_of k sheet t) (pass_result k sheet t) (result_numbered k sheet t)

  -- The sheet that an accepted pass leaves is a sheet of at most L bytes.
  pub pass_sheet : (sheet t : List ℕ) → (pass_of k sheet t).number ≡ 0 → Sheet (limit k.left_len) (sheet_left (pass_of k sheet t))
  unfolding sheet_length
  pass_sheet sheet t h =
      let y = pass_accepted sheet t h in
      let p = ran-kept k sheet t y.0 (ran_inv k sheet t y.0 y.1) in
      rw (answers k sheet t y.0 y.1).leaves (record { records = y.0.1; keeps-layout = kept-sheet k.left_len y.0.1 p; fits = true-leb _ _ p.small })
