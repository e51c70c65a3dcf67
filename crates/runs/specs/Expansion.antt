-- An expansion from a sheet given, and the expansion call: the ways through it.
use Rattle.std.specs.Borrow.{MutBor}
use Rattle.std.specs.Prelude.{◌≡◌, Bool, ℕ, ◌≤◌, take, Result, Ok, Err, MatchResult}
use Rattle.std.proofs.Math.Path.{refl, sym, ap}
use Rattle.std.proofs.Common.{◌∙◌, arith}
use mathlib.Core.List.{List, []}
use Rattle.std.proofs.Math.ListN.{length}
use Rattle.refusal.specs.declared.Refusal.{Refusal}
use Rattle.refusal.specs.declared.Refusal.TheVariants.{Output}
use Rattle.refusal.specs.Numbers.{number}
use Rattle.rules.specs.Answer.{Answer, refused, accepted, ◌>>=◌, ◌>>◌, check}
use Rattle.rules.specs.Reader.{empty}
use Rattle.rules.specs.Run.{Trace as Steps, all_whole, write, final}
use Rattle.rules.specs.Bytes.{is_folder}
use Rattle.rules.specs.Bundle.{Entry}
use Rattle.rules.specs.Files.{View, view}
use Rattle.rules.specs.Sheet.{Records, encode, sheet_length}
use Rattle.rules.specs.Expansion.{expansion}
use Rattle.rules.specs.Pass.{expanded}
use Rattle.rules.specs.Calls.{limit, preprocess_typst_result}
use Rattle.bundle.specs.Find.{entries_of}
use Rattle.buffers.specs.declared.writer.Writer.{Writer}
use Rattle.buffers.specs.Emits.{guarded, limited-guarded}
use Rattle.buffers.specs.Wrote.{Begins, Stands, first_bytes, stands-ok, stands-no}
use Rattle.sheet.specs.Records.{records_of}
use Rattle.binding.specs.declared.sheet_buffer.SheetBuffer.{SheetBuffer}
use Rattle.binding.specs.Buffer.{bytes_in}
use Rattle.binding.specs.Sheets.{sheet_in}
use Rattle.expansion.specs.Run.{Expands}
use Rattle.runs.specs.Sheets.{Stored}
use Rattle.runs.specs.declared.expansion_call.Expanded.{Expanded}
use Rattle.arguments.specs.Given.{given, given-then, GoodArguments, good-given}

-- A call with the result a leaves a text and a sheet at the starts of its buffers c and m.
pub record Results (a : Answer (List ℕ × Records)) (c m : List ℕ) (len sheet : ℕ) : Type 0 where
  pub records : Records
  pub says : a ≡ accepted (take len c, records)
  pub sheet-is : take sheet m ≡ encode records
  pub fits : len ≤ length c
  pub sheet-fits : sheet ≤ length m

-- The text t is expanded for the sheet z: the results stand at the starts of the buffers, and each step is whole or not; or it is refused.
pub record ExpandsFrom (v : View) (t z out out₂ left left₂ : List ℕ) (r : Result Expanded Refusal) : Type 0 where
  pub out-size : length out₂ ≡ length out
  pub left-size : length left₂ ≡ length left
  pub is : MatchResult r (λ e. Results (expanded v (limit (length left)) (length out) (records_of z) t) out₂ left₂ e.len e.sheet × (all_whole (expansion v (records_of z) t) ≡ e.whole)) (λ k. expanded v (limit (length left)) (length out) (records_of z) t ≡ refused (number k))

-- LAWS. The ways through it. The writer begins at the start of its buffer, and the sheet stands at the start of its own; c, m: the buffers, when they are let go.
module _ {v : View} {t : List ℕ} {out : MutBor (List ℕ)} {w w₂ : Writer} (b : Begins out Output w) {s s₂ : SheetBuffer} {r : Result Bool Refusal} (E : Expands v t w w₂ s s₂ r) (q : s.records.now.limit ≡ limit (length s.records.now.bytes.now)) {c m : List ℕ} (o : c ≡ w₂.out.now) (l : m ≡ s₂.records.now.bytes.now) where
  abbrev left : List ℕ
  left = s.records.now.bytes.now

  abbrev Trace : Steps Records
  Trace = expansion v (sheet_in s) t

  abbrev Later : Answer (List ℕ) → Answer (List ℕ × Records)
  Later a = ◌>>=◌ {B = List ℕ × Records} a (λ o. accepted (o, final Trace))

  abbrev Writing : Answer (List ℕ)
  Writing = write 11 (length out.now) (guarded sheet_length s.records.now.limit Trace)

  in_writing : expanded v (limit (length left)) (length out.now) (sheet_in s) t ≡ Later Writing
  unfolding expanded
  in_writing = ap (λ k. expanded v k (length out.now) (sheet_in s) t) (sym q) ∙ limited-guarded sheet_length s.records.now.limit 11 Trace (length out.now)

  out_size : length c ≡ length out.now
  out_size = ap length o ∙ E.wrote.emits.size ∙ ap (λ x. length x.now) b.same

  left_size : length m ≡ length left
  left_size = ap length l ∙ E.over.over.long

  pub from-stopped : {k : Refusal} → r ≡ Err k → {p : Result Expanded Refusal} → p ≡ Err k → ExpandsFrom v t (bytes_in s.records.now) out.now c left m p
  unfolding first_bytes ◌>>=◌
  from-stopped {k} e h =
      let d : Stands 11 (length out.now) (guarded sheet_length s.records.now.limit Trace) w₂.out.now (Err k) = stands-no b E.wrote refl e refl in
      rw h (record { out-size = out_size; left-size = left_size; is = in_writing ∙ ap Later d.is })

  -- n: the sheet's length.
  pub from-done : {x : Bool} → r ≡ Ok x → {n : ℕ} → n ≡ s₂.records.now.len → ExpandsFrom v t (bytes_in s.records.now) out.now c left m (Ok (record { len = w₂.at; sheet = n; whole = x }))
  unfolding first_bytes ◌>>=◌
  from-done {x} e {n} j =
      let d : Stands 11 (length out.now) (guarded sheet_length s.records.now.limit Trace) c (Ok w₂.at) = stands-ok b E.wrote o e in
      let g : (all_whole Trace ≡ x) × (sheet_in s₂ ≡ final Trace) = rw e at E.goes in
      let k = s₂.records.now in
      record {
        out-size = out_size;
        left-size = left_size;
        is = (
          record {
            records = final Trace;
            says = in_writing ∙ ap Later d.is;
            sheet-is = ap (take n) l ∙ ap (λ x. take x k.bytes.now) j ∙ s₂.sheet.written ∙ ap encode g.1;
            fits = omega (arith, d.fits, d.size);
            sheet-fits = omega (arith, j, k.fits, ap length l);
          },
          g.0,
        );
      }

-- What is expanded for a sheet that was stored is expanded for that sheet.
pub from-stored : {v : View} {t z out out₂ l m left₂ : List ℕ} {n k : ℕ} {r : Result Expanded Refusal} → Stored l m z n → k ≡ n → ExpandsFrom v t (take k m) out out₂ m left₂ r → ExpandsFrom v t z out out₂ l left₂ r
from-stored S e E = record { out-size = E.out-size; left-size = E.left-size ∙ S.long; is = rw (e, S.is, S.long) at E.is }

-- THE CALL, before its buffers are cleared: the results stand at their starts, or it is refused.
pub record ExpandsText (bundle text sheet out out₂ left left₂ : List ℕ) (r : Result Expanded Refusal) : Type 0 where
  pub out-size : length out₂ ≡ length out
  pub left-size : length left₂ ≡ length left
  pub is : MatchResult r (λ e. Results (preprocess_typst_result bundle text sheet (length out) (length left)) out₂ left₂ e.len e.sheet) (λ k. preprocess_typst_result bundle text sheet (length out) (length left) ≡ refused (number k))

module _ (b t z : List ℕ) (n l : ℕ) where
  -- What follows the arguments. There is no folder: the empty one keeps the rules.
  abbrev Then : List Entry × Records → Answer (List ℕ × Records)
  Then x = expanded (view x.0) (limit l) n x.1 t

  as_given : preprocess_typst_result b t z n l ≡ (given b [] t z (limit l) >>= Then)
  unfolding preprocess_typst_result is_folder empty check ◌>>◌
  as_given = given-then b [] t z (limit l) Then

  judged : {k : ℕ} → given b [] t z (limit l) ≡ refused k → preprocess_typst_result b t z n l ≡ refused k
  unfolding ◌>>=◌
  judged h = as_given ∙ ap (λ x. x >>= Then) h

  in-reading : GoodArguments b [] t z (limit l) → preprocess_typst_result b t z n l ≡ expanded (view (entries_of b)) (limit l) n (records_of z) t
  unfolding ◌>>=◌
  in-reading f = as_given ∙ ap (λ x. x >>= Then) (good-given f)

pub expansion-refused : {b t z o l : List ℕ} {k : Refusal} → given b [] t z (limit (length l)) ≡ refused (number k) → {r : Result Expanded Refusal} → r ≡ Err k → ExpandsText b t z o o l l r
expansion-refused {b} {t} {z} {o} {l} h e = rw e (record { out-size = refl; left-size = refl; is = judged b t z (length o) (length l) h })

pub expansion-run : {b t z o c l m : List ℕ} → GoodArguments b [] t z (limit (length l)) → {r : Result Expanded Refusal} → ExpandsFrom (view (entries_of b)) t z o c l m r → ExpandsText b t z o c l m r
expansion-run {b} {t} {z} {o} {c} {l} {m} f {r} E = record { out-size = E.out-size; left-size = E.left-size; is = at r E.is }
  where
    a : Answer (List ℕ × Records)
    a = expanded (view (entries_of b)) (limit (length l)) (length o) (records_of z) t

    says : preprocess_typst_result b t z (length o) (length l) ≡ a
    says = in-reading b t z (length o) (length l) f

    at : (r : Result Expanded Refusal) → MatchResult r (λ e. Results a c m e.len e.sheet × (all_whole (expansion (view (entries_of b)) (records_of z) t) ≡ e.whole)) (λ k. a ≡ refused (number k)) → MatchResult r (λ e. Results (preprocess_typst_result b t z (length o) (length l)) c m e.len e.sheet) (λ k. preprocess_typst_result b t z (length o) (length l) ≡ refused (number k))
    at (Ok e) h = rw says h.0
    at (Err k) h = says ∙ h
