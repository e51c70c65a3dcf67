-- A list of passes beside one pass (01, demand 3).
use Rattle.std.specs.Prelude.{◌≡◌, ◌&&◌, ℕ, ◌-◌, ◌≤◌, leb}
use Rattle.std.proofs.Math.Path.{refl}
use Rattle.std.proofs.Common.{sym, ap, ◌∙◌, arith}
use mathlib.Core.List.{List, [], ◌∷◌, ◌++◌, append-nil}
use Rattle.std.proofs.Math.Bool.{true}
use Rattle.std.proofs.Math.Option.{Option, none, some}
use Rattle.std.proofs.Math.ListN.{length}
use Rattle.std.proofs.Math.Seq.{take-append_seam}
use Rattle.rules.specs.Answer.{accepted, is_refusal, ◌>>=◌, ◌>>◌, check, or_refuse}
use Rattle.rules.specs.Reader.{all}
use Rattle.rules.specs.Bytes.{ascii, word, is_folder}
use Rattle.rules.specs.Bundle.{Entry, bundle_of}
use Rattle.rules.specs.Files.{View, view}
use Rattle.rules.specs.Sheet.{Value, Records, encode, sheet_length, sheet_of, good_value, good_records, resolve}
use Rattle.rules.specs.Includes.{includes}
use Rattle.rules.specs.Expansion.{let_value}
use Rattle.rules.specs.Pass.{middle_text, expanded, passed, closed}
use Rattle.rules.specs.Calls.{Setting, limit, zeros, padded, Passed, passed_answer, closed_in, closed_of, pass_result, pass_of}
use Rattle.rules.specs.Parts.{output_of, sheet_left, passes, closed_parts, joined, all_accepted, outputs, last_sheet}
use Rattle.rules.proofs.Laws.Bool.{and_l, and_r, true-leb, true-some}
use Rattle.rules.proofs.Laws.Answer.{bind_inv}
use Rattle.rules.proofs.Laws.Limit.{limited-text}
use Rattle.rules.proofs.Laws.Texts.{all_left, all_right}
use Rattle.rules.proofs.Laws.Middle.{middle-plain}
use Rattle.rules.proofs.Laws.Keep.{expansion-keeps}
use Rattle.rules.proofs.Laws.Sheet.{set-good, resolve-good, sheet-encode, sheet-good, sheet-size, Kept}
use Rattle.rules.proofs.Laws.Order.{pass_order, none-broken, first-kept}
use Rattle.rules.proofs.Laws.Pass.{passed-split}
use Rattle.rules.proofs.Laws.Numbers.{numbered, numbered-check, numbered-or_refuse, numbered-then, numbered-bind, limited-numbered}
use Rattle.rules.proofs.Laws.Refusals.{includes-numbered, expansion-numbered}

-- THE SHEET THAT IS LEFT keeps the layout.
pub let-good : (s : Records) (t : List ℕ) (x : Option Value) → resolve s t ≡ x → good_records s word 6 ≡ true → all ascii t ≡ true → good_value (let_value t x) 6 ≡ true
unfolding let_value good_value
let-good s t none q h e = e
let-good s t (some w) q h e = resolve-good s word 6 t w h q

pub expanded-kept : (v : View) (L n : ℕ) (s : Records) (t : List ℕ) (y : List ℕ × Records) → all ascii t ≡ true → Kept L s → expanded v L n s t ≡ accepted y → Kept L y.1
unfolding expanded
expanded-kept v L n s t y e p a =
    expansion-keeps v sheet_length L n (Kept L)
    (λ z m u k w h l. record { good = set-good z word 6 m _ k.good w (let-good z u (resolve z u) refl k.good h); small = l }) s t y e p a

included-plain : (v : View) (full m : ℕ) (g t : List ℕ) (x : List ℕ × List ℕ) → all ascii t ≡ true → middle_text v full m g t ≡ accepted x → all ascii x.0 ≡ true
unfolding middle_text
included-plain v full m g t x e a = ap (λ z. all ascii z.0) (limited-text (λ h. 0) 0 full (includes v g t) m a) ∙ middle-plain v g t e

passed-kept : (v : View) (L m n : ℕ) (g : List ℕ) (s : Records) (t : List ℕ) (y : List ℕ × Records) → all ascii t ≡ true → Kept L s → passed v L m n g s t ≡ accepted y → Kept L y.1
unfolding passed
passed-kept v L m n g s t y e p a =
    let i = bind_inv (middle_text v 10 m g t) _ a in
    expanded-kept v L n s i.0.0 y (included-plain v 10 m g t i.0 e i.1) p i.2

limit-le : (l : ℕ) → limit l ≤ 65535
unfolding limit
limit-le l = omega arith

-- Such records, as bytes, are a sheet.
pub kept-sheet : (l : ℕ) (s : Records) → Kept (limit l) s → sheet_of (encode s) ≡ some s
unfolding sheet_length
kept-sheet l s k = sheet-encode s k.good (omega (arith, true-leb (sheet_length s) (limit l) k.small, limit-le l))

-- THE ARGUMENTS of an accepted pass.
module _ (k : Setting) where
  pub record Ran (sheet t : List ℕ) (y : List ℕ × Records) : Type 0 where
    pub entries : List Entry
    pub records : Records
    pub bundle-is : bundle_of k.bundle ≡ some entries
    pub sheet-is : sheet_of sheet ≡ some records
    pub folder-good : is_folder k.folder ≡ true
    pub text-good : all ascii t ≡ true
    pub small : leb (sheet_length records) (limit k.left_len) ≡ true
    pub ran : passed (view entries) (limit k.left_len) k.middle_len k.out_len k.folder records t ≡ accepted y

  -- With good arguments the result is that of the pass.
  good_result : (sheet t : List ℕ) (es : List Entry) (s : Records) → bundle_of k.bundle ≡ some es → sheet_of sheet ≡ some s → is_folder k.folder ≡ true → all ascii t ≡ true → leb (sheet_length s) (limit k.left_len) ≡ true →
      pass_result k sheet t ≡ passed (view es) (limit k.left_len) k.middle_len k.out_len k.folder s t
  unfolding pass_result or_refuse check ◌>>=◌ ◌>>◌
  good_result sheet t es s b p f a l = rw (b, p, f, a, l)

  pub ran_inv : (sheet t : List ℕ) (y : List ℕ × Records) → pass_result k sheet t ≡ accepted y → Ran sheet t y
  ran_inv sheet t y q =
      let i₁ = first-kept _ _ _ (none-broken (pass_order k sheet t) q) in
      let i₂ = first-kept _ _ _ i₁.1 in
      let i₃ = first-kept _ _ _ i₂.1 in
      let i₄ = first-kept _ _ _ i₃.1 in
      let i₅ = first-kept _ _ _ i₄.1 in
      let b = true-some (bundle_of k.bundle) i₁.0 in
      let s = true-some (sheet_of sheet) i₂.0 in
      let l : leb (sheet_length s.0) (limit k.left_len) ≡ true = rw (sheet-size sheet s.0 s.1) i₅.0 in
      record {
        entries = b.0;
        records = s.0;
        bundle-is = b.1;
        sheet-is = s.1;
        folder-good = i₃.0;
        text-good = i₄.0;
        small = l;
        ran = sym (good_result sheet t b.0 s.0 b.1 s.1 i₃.0 i₄.0 l) ∙ q;
      }

  pub ran_intro : (sheet t : List ℕ) (y : List ℕ × Records) → Ran sheet t y → pass_result k sheet t ≡ accepted y
  ran_intro sheet t y r = good_result sheet t r.entries r.records r.bundle-is r.sheet-is r.folder-good r.text-good r.small ∙ r.ran

  pub ran-kept : (sheet t : List ℕ) (y : List ℕ × Records) → Ran sheet t y → Kept (limit k.left_len) y.1
  ran-kept sheet t y r =
      passed-kept (view r.entries) (limit k.left_len) k.middle_len k.out_len k.folder r.records t y r.text-good
      (record { good = (sheet-good sheet r.records r.sheet-is).good; small = r.small }) r.ran

  -- A closed text is closed for the records.
  closed_inv : (sheet t : List ℕ) (es : List Entry) (s : Records) → bundle_of k.bundle ≡ some es → sheet_of sheet ≡ some s → closed_of k sheet t ≡ true → closed (view es) k.folder s t ≡ true
  unfolding closed_of closed_in
  closed_inv sheet t es s p q h =
      let h₁ : (is_folder k.folder && all ascii t && closed (view es) k.folder s t) ≡ true = rw (p, q) at h in
      and_r (is_folder k.folder && all ascii t) _ h₁

  -- One pass over a ++ c is two passes, the second from the sheet that the first leaves.
  record Two (sheet a c : List ℕ) (y : List ℕ × Records) : Type 0 where
    first : List ℕ
    records : Records
    second : List ℕ × Records
    result_first : pass_result k sheet a ≡ accepted (first, records)
    result_second : pass_result k (encode records) c ≡ accepted second
    both : y ≡ (first ++ second.0, second.1)

  two-passes : (sheet a c : List ℕ) (y : List ℕ × Records) → closed_of k sheet a ≡ true → pass_result k sheet (a ++ c) ≡ accepted y → Two sheet a c y
  two-passes sheet a c y h q =
      let r = ran_inv sheet (a ++ c) y q in
      let x = passed-split (view r.entries) (limit k.left_len) k.middle_len k.out_len k.folder r.records a c y
      (closed_inv sheet a r.entries r.records r.bundle-is r.sheet-is h) r.ran in
      let r₁ : Ran sheet a (x.first, x.sheet) = record { entries = r.entries; records = r.records; bundle-is = r.bundle-is; sheet-is = r.sheet-is; folder-good = r.folder-good; text-good = all_left ascii a c r.text-good; small = r.small; ran = x.passed_first } in
      let p = ran-kept sheet a (x.first, x.sheet) r₁ in
      record {
        first = x.first;
        records = x.sheet;
        second = x.second;
        result_first = ran_intro sheet a (x.first, x.sheet) r₁;
        result_second = ran_intro (encode x.sheet) c x.second (record { entries = r.entries; records = x.sheet; bundle-is = r.bundle-is; sheet-is = kept-sheet k.left_len x.sheet p; folder-good = r.folder-good; text-good = all_right ascii a c r.text-good; small = p.small; ran = x.passed-second });
        both = x.both;
      }

  -- THE ANSWER of a pass whose result is accepted.
  pub record Answers (sheet t : List ℕ) (y : List ℕ × Records) : Type 0 where
    pub number : (pass_of k sheet t).number ≡ 0
    pub output : output_of (pass_of k sheet t) ≡ y.0
    pub leaves : sheet_left (pass_of k sheet t) ≡ encode y.1

  pub answers : (sheet t : List ℕ) (y : List ℕ × Records) → pass_result k sheet t ≡ accepted y → Answers sheet t y
  unfolding pass_of passed_answer output_of sheet_left padded
  answers sheet t y q = record {
    number = rw q refl;
    output = rw q (take-append_seam y.0 (zeros (k.out_len - length y.0)));
    leaves = rw q (take-append_seam (encode y.1) (zeros (k.left_len - length (encode y.1))));
  }

  -- A list of answers: all accepted, with this output and this last sheet.
  pub record Same (rs : List Passed) (o s : List ℕ) : Type 0 where
    pub accepts : all_accepted rs ≡ true
    pub output : outputs rs ≡ o
    pub sheet : last_sheet rs ≡ s

  same-one : (sheet p : List ℕ) (y : List ℕ × Records) → pass_result k sheet p ≡ accepted y → Same (passes k sheet p []) y.0 (encode y.1)
  unfolding passes all_accepted outputs last_sheet all
  same-one sheet p y q =
      let a = answers sheet p y q in
      record { accepts = rw a.number refl; output = append-nil _ ∙ a.output; sheet = a.leaves }

  last_more : (r : Passed) (sheet q : List ℕ) (qs : List (List ℕ)) → last_sheet (r ∷ passes k sheet q qs) ≡ last_sheet (passes k sheet q qs)
  unfolding passes last_sheet
  last_more r sheet q [] = refl
  last_more r sheet q (u ∷ us) = refl

  same_more : (sheet p q : List ℕ) (qs : List (List ℕ)) (o : List ℕ) (s : Records) (y : List ℕ × Records) → pass_result k sheet p ≡ accepted (o, s) → Same (passes k (encode s) q qs) y.0 (encode y.1) →
      Same (passes k sheet p (q ∷ qs)) (o ++ y.0) (encode y.1)
  unfolding passes all_accepted outputs all
  same_more sheet p q qs o s y h r =
      let a = answers sheet p (o, s) h in
      rw a.leaves (record {
        accepts = rw a.number r.accepts;
        output = rw (a.output, r.output);
        sheet = last_more (pass_of k sheet p) (encode s) q qs ∙ r.sheet;
      })

  pub one-is_many : (qs : List (List ℕ)) (sheet p : List ℕ) (y : List ℕ × Records) → pass_result k sheet (joined p qs) ≡ accepted y → closed_parts k sheet p qs ≡ true → Same (passes k sheet p qs) y.0 (encode y.1)
  unfolding joined closed_parts
  one-is_many [] sheet p y q c = same-one sheet p y q
  one-is_many (r ∷ qs) sheet p y q c =
      let x = two-passes sheet p (joined r qs) y (and_l (closed_of k sheet p) _ c) q in
      let s = (answers sheet p (x.first, x.records) x.result_first).leaves in
      let c' : closed_parts k (encode x.records) r qs ≡ true = rw s at (and_r (closed_of k sheet p) _ c) in
      rw x.both (same_more sheet p r qs x.first x.records x.second x.result_first (one-is_many qs (encode x.records) r x.second x.result_second c'))

  -- THE NUMBER says whether the result is accepted.
  pub result_numbered : (sheet t : List ℕ) → numbered (pass_result k sheet t) ≡ true
  unfolding pass_result passed middle_text expanded is_refusal
  result_numbered sheet t =
      search (numbered-bind, numbered-then, numbered-check, numbered-or_refuse, limited-numbered, includes-numbered, expansion-numbered) depth 20
