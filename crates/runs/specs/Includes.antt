-- The includes of a text, and the include call: the ways through it.
use Rattle.std.specs.Borrow.{MutBor}
use Rattle.std.specs.Prelude.{◌≡◌, Bool, ℕ, ◌≤◌, take, Result, Ok, Err, IfOk}
use Rattle.std.proofs.Math.Path.{refl, ap}
use Rattle.std.proofs.Common.{◌∙◌}
use mathlib.Core.List.{List, []}
use Rattle.std.proofs.Math.ListN.{length}
use Rattle.refusal.specs.declared.Refusal.{Refusal}
use Rattle.refusal.specs.Numbers.{number}
use Rattle.rules.specs.Answer.{Answer, refused, accepted, ◌>>=◌, ◌>>◌, check, or_refuse}
use Rattle.rules.specs.Run.{run, emitted, written, final, all_whole, write}
use Rattle.rules.specs.Layout.{bind}
use Rattle.rules.specs.Bundle.{Entry}
use Rattle.rules.specs.Sheet.{Records, encode, sheet_length, decode, all_records, good_records, sheet_of}
use Rattle.rules.specs.Files.{View, view}
use Rattle.rules.specs.Includes.{inside_file, include_step, includes}
use Rattle.rules.specs.Pass.{middle_text}
use Rattle.rules.specs.Calls.{resolve_includes_result}
use Rattle.bundle.specs.Find.{entries_of}
use Rattle.rules.proofs.Laws.Limit.{limited-text}
use Rattle.buffers.specs.declared.writer.Writer.{Writer}
use Rattle.buffers.specs.Emits.{limited-guarded, guarded-emitted}
use Rattle.buffers.specs.Wrote.{Begins, Stands, first_bytes, stands-ok, stands-no}
use Rattle.includes.specs.Resolve.{Resolves}
use Rattle.arguments.specs.Given.{given, given-then, GoodArguments, good-given}

-- The middle text of t: the first q bytes of c, which a buffer of n bytes holds; x: is each mark whole.
pub record Middle (v : View) (full n : ℕ) (g t c : List ℕ) (q : ℕ) (x : Bool) : Type 0 where
  pub says : middle_text v full n g t ≡ accepted (take q c, final (includes v g t))
  pub is : take q c ≡ written (includes v g t)
  pub fits : q ≤ n
  pub wholes : all_whole (includes v g t) ≡ x

-- What the resolver comes to whose writer begins at the start of a buffer. c: the buffer, when the writer is let go.
module _ (v : View) (g t : List ℕ) {out : MutBor (List ℕ)} {k : Refusal} {w w₂ : Writer} {r : Result Bool Refusal} (b : Begins out k w) (R : Resolves (run (include_step v (inside_file v 6) g) [] 0 t) w w₂ r) where
  abbrev Later : Answer (List ℕ) → Answer (List ℕ × List ℕ)
  Later a = ◌>>=◌ {B = List ℕ × List ℕ} a (λ o. accepted (o, final (includes v g t)))

  in_writing : middle_text v (number k) (length out.now) g t ≡ Later (write (number k) (length out.now) (emitted (includes v g t)))
  unfolding middle_text
  in_writing = limited-guarded (λ h. 0) 0 (number k) (includes v g t) (length out.now) ∙ ap (λ e. Later (write (number k) (length out.now) e)) (guarded-emitted (includes v g t))

  pub included-stops : {j : Refusal} → r ≡ Err j → middle_text v (number k) (length out.now) g t ≡ refused (number j)
  unfolding includes first_bytes ◌>>=◌
  included-stops {j} e =
      let s : Stands (number k) (length out.now) (emitted (includes v g t)) w₂.out.now (Err j) = stands-no b R.wrote refl e refl in
      in_writing ∙ ap Later s.is

  module _ {c : List ℕ} (left : c ≡ w₂.out.now) where
    pub included-size : length c ≡ length out.now
    included-size = ap length left ∙ R.wrote.emits.size ∙ ap (λ x. length x.now) b.same

    pub included-goes : {x : Bool} → r ≡ Ok x → Middle v (number k) (length out.now) g t c w₂.at x
    unfolding includes middle_text first_bytes ◌>>=◌
    included-goes {x} e =
        let s : Stands (number k) (length out.now) (emitted (includes v g t)) c (Ok w₂.at) = stands-ok b R.wrote left e in
        let u = in_writing ∙ ap Later s.is in
        record {
          says = u;
          is = ap (λ x. x.0) (limited-text (λ h. 0) 0 (number k) (includes v g t) (length out.now) u);
          fits = s.fits;
          wholes = rw e at R.wholes;
        }

-- THE CALL, before its buffer is cleared: the text stands at its start, or it is refused.
pub record ResolvesText (bundle folder text out out₂ : List ℕ) (r : Result ℕ Refusal) : Type 0 where
  pub size : length out₂ ≡ length out
  pub fits : IfOk r (λ n. n ≤ length out)
  pub is : resolve_includes_result bundle folder text (length out) ≡ first_bytes out₂ r

module _ (b g t : List ℕ) (n : ℕ) where
  abbrev First : Answer (List ℕ × List ℕ) → Answer (List ℕ)
  First a = a >>= λ y. accepted y.0

  -- What follows the arguments. There is no sheet: the empty one keeps the rules.
  abbrev Then : List Entry × Records → Answer (List ℕ)
  Then x = First (middle_text (view x.0) 11 n g t)

  as_given : resolve_includes_result b g t n ≡ (given b g t [] 0 >>= Then)
  unfolding resolve_includes_result sheet_of decode all_records bind good_records sheet_length encode or_refuse check ◌>>=◌ ◌>>◌
  as_given = given-then b g t [] 0 Then

  judged : {k : ℕ} → given b g t [] 0 ≡ refused k → resolve_includes_result b g t n ≡ refused k
  unfolding ◌>>=◌
  judged h = as_given ∙ ap (λ x. x >>= Then) h

  in-reading : GoodArguments b g t [] 0 → resolve_includes_result b g t n ≡ First (middle_text (view (entries_of b)) 11 n g t)
  unfolding ◌>>=◌
  in-reading f = as_given ∙ ap (λ x. x >>= Then) (good-given f)

pub text-refused : {b g t o : List ℕ} {k : Refusal} → given b g t [] 0 ≡ refused (number k) → {r : Result ℕ Refusal} → r ≡ Err k → ResolvesText b g t o o r
unfolding first_bytes
text-refused {b} {g} {t} {o} h e = rw e (record { size = refl; fits = tt; is = judged b g t (length o) h })

module _ {b g t : List ℕ} (f : GoodArguments b g t [] 0) {o c : List ℕ} (l : length c ≡ length o) where
  pub text-stopped : {k : Refusal} → middle_text (view (entries_of b)) 11 (length o) g t ≡ refused (number k) → {r : Result ℕ Refusal} → r ≡ Err k → ResolvesText b g t o c r
  unfolding first_bytes ◌>>=◌
  text-stopped h e = rw e (record { size = l; fits = tt; is = in-reading b g t (length o) f ∙ ap (First b g t (length o)) h })

  pub text-done : {q : ℕ} {x : Bool} → Middle (view (entries_of b)) 11 (length o) g t c q x → ResolvesText b g t o c (Ok q)
  unfolding first_bytes ◌>>=◌
  text-done m = record { size = l; fits = m.fits; is = in-reading b g t (length o) f ∙ ap (First b g t (length o)) m.says }
