-- The pass: the ways through it.
use Rattle.std.specs.Borrow.{Bor, MutBor}
use Rattle.std.specs.Prelude.{◌≡◌, List, [], ◌∷◌, Bool, true, ◌&&◌, ℕ, ◌-◌, eqb, length, take, get_or, Option, Some, None, Result, Ok, Err, slice_get}
use Rattle.std.specs.Option.{option_copied}
use Rattle.std.proofs.lemmas.Option.{none-some, slice_get-get_or, get_or_from_slice_get}
use Rattle.std.proofs.lemmas.Result.{MatchResult-at_ok, MatchResult-at_err}
use Rattle.std.proofs.Math.Path.{refl, sym, ap}
use Rattle.std.proofs.Common.{◌∙◌, arith}
use Rattle.refusal.specs.declared.Refusal.{Refusal}
use Rattle.refusal.specs.declared.Refusal.TheVariants.{Middle as NoMiddle}
use Rattle.refusal.specs.Numbers.{number}
use Rattle.rules.specs.Answer.{Answer, refused, ◌>>=◌}
use Rattle.rules.specs.Reader.{all}
use Rattle.rules.specs.Run.{run, ends_in_newline, all_whole}
use Rattle.rules.specs.Includes.{inside_file, include_step}
use Rattle.rules.specs.Bytes.{ascii}
use Rattle.rules.specs.Bundle.{Entry, bundle_of}
use Rattle.rules.specs.Files.{View, view}
use Rattle.rules.specs.Sheet.{Records}
use Rattle.rules.specs.Expansion.{expansion}
use Rattle.rules.specs.Pass.{middle_text, expanded, passed, closed}
use Rattle.rules.specs.Calls.{Setting, limit, closed_in, closed_of, pass_result}
use Rattle.rules.proofs.Laws.Bool.{true-some}
use Rattle.rules.proofs.Laws.Middle.{middle-plain}
use Rattle.bundle.specs.Find.{entries_of, entries-some}
use Rattle.scan.specs.Laws.{ends_last}
use Rattle.buffers.specs.declared.writer.Writer.{Writer}
use Rattle.buffers.specs.Wrote.{Begins}
use Rattle.includes.specs.Resolve.{Resolves}
use Rattle.sheet.specs.Records.{records_of, sheet-some}
use Rattle.arguments.specs.Given.{given, given-then, GoodArguments, good-given}
use Rattle.runs.specs.declared.pass_call.Passed.{Passed}
use Rattle.runs.specs.declared.expansion_call.Expanded.{Expanded}
use Rattle.runs.specs.Includes.{Middle, included-size, included-stops, included-goes}
use Rattle.runs.specs.Expansion.{Results, ExpandsFrom}

-- The setting of a pass with buffers of m, n and l bytes.
abbrev pub setting_of : List ℕ → List ℕ → ℕ → ℕ → ℕ → Setting
setting_of bundle folder m n l = record { bundle = bundle; folder = folder; middle_len = m; out_len = n; left_len = l }

-- The text and the sheet stand at the starts of the buffers c and m, and the text is closed or not; or the pass is refused.
abbrev pub Came : Setting → List ℕ → List ℕ → List ℕ → List ℕ → Result Passed Refusal → Type 0
Came k sheet text c m (Ok p) = Results (pass_result k sheet text) c m p.len p.sheet × (closed_of k sheet text ≡ p.closed)
Came k sheet text c m (Err e) = pass_result k sheet text ≡ refused (number e)

-- What a pass came to, before its buffers are cleared.
pub record Passes (bundle folder text sheet middle middle₂ out out₂ left left₂ : List ℕ) (r : Result Passed Refusal) : Type 0 where
  pub middle-size : length middle₂ ≡ length middle
  pub out-size : length out₂ ≡ length out
  pub left-size : length left₂ ≡ length left
  pub is : Came (setting_of bundle folder (length middle) (length out) (length left)) sheet text out₂ left₂ r

module _ (b g t z : List ℕ) (m n l : ℕ) where
  -- What follows the arguments.
  abbrev Then : List Entry × Records → Answer (List ℕ × Records)
  Then x = passed (view x.0) (limit l) m n g x.1 t

  as_given : pass_result (setting_of b g m n l) z t ≡ (given b g t z (limit l) >>= Then)
  unfolding pass_result
  as_given = given-then b g t z (limit l) Then

  judged : {k : ℕ} → given b g t z (limit l) ≡ refused k → pass_result (setting_of b g m n l) z t ≡ refused k
  unfolding ◌>>=◌
  judged h = as_given ∙ ap (λ x. x >>= Then) h

  in-reading : (f : GoodArguments b g t z (limit l)) → pass_result (setting_of b g m n l) z t ≡ passed (view (entries_of b)) (limit l) m n g (records_of z) t
  unfolding ◌>>=◌
  in-reading f = as_given ∙ ap (λ x. x >>= Then) (good-given f)

  -- Closed, for such arguments.
  closed-good : (f : GoodArguments b g t z (limit l)) → closed_of (setting_of b g m n l) z t ≡ closed (view (entries_of b)) g (records_of z) t
  unfolding closed_of closed_in
  closed-good f =
      let x = true-some (bundle_of b) f.bundles in
      rw (x.1, sheet-some z f.sheets.layout, f.folders, f.texts, entries-some b x.0 x.1) refl

-- THE ARGUMENTS are refused.
pub passes-refused : {b g t z m o l : List ℕ} {k : Refusal} → given b g t z (limit (length l)) ≡ refused (number k) → {r : Result Passed Refusal} → r ≡ Err k → Passes b g t z m m o o l l r
passes-refused {b} {g} {t} {z} {m} {o} {l} h e = rw e (record { middle-size = refl; out-size = refl; left-size = refl; is = judged b g t z (length m) (length o) (length l) h })

-- THE RUNS: the includes, whose writer begins at the start of the middle buffer, and the expansion of what they wrote. c: the middle buffer, when the writer is let go.
module _ {b g t z : List ℕ} (o l : List ℕ) (G : GoodArguments b g t z (limit (length l))) {middle : MutBor (List ℕ)} {w w₂ : Writer} (B : Begins middle NoMiddle w) {r : Result Bool Refusal}
    (R : Resolves (run (include_step (view (entries_of b)) (inside_file (view (entries_of b)) 6) g) [] 0 t) w w₂ r) {c : List ℕ} (left : c ≡ w₂.out.now) where
  abbrev v : View
  v = view (entries_of b)

  abbrev Expansion : Answer (List ℕ × List ℕ) → Answer (List ℕ × Records)
  Expansion a = a >>= λ x. expanded v (limit (length l)) (length o) (records_of z) x.0

  size : length c ≡ length middle.now
  size = included-size v g t B R left

  then_expanded : {a : Answer (List ℕ × List ℕ)} → middle_text v 10 (length middle.now) g t ≡ a → pass_result (setting_of b g (length middle.now) (length o) (length l)) z t ≡ Expansion a
  unfolding passed
  then_expanded h = in-reading b g t z (length middle.now) (length o) (length l) G ∙ ap Expansion h

  pub run-stopped : {k : Refusal} → r ≡ Err k → {p : Result Passed Refusal} → p ≡ Err k → Passes b g t z middle.now c o o l l p
  unfolding ◌>>=◌
  run-stopped h e = rw e (record { middle-size = size; out-size = refl; left-size = refl; is = then_expanded (included-stops v g t B R h) })

  module _ {x : Bool} (h : r ≡ Ok x) where
    M : Middle v 10 (length middle.now) g t c w₂.at x
    M = included-goes v g t B R left h

    pub run-ascii : all ascii (take w₂.at c) ≡ true
    run-ascii = rw M.is (middle-plain v g t G.texts)

    module _ {o₂ l₂ : List ℕ} {q : Result Expanded Refusal} (E : ExpandsFrom v (take w₂.at c) z o o₂ l l₂ q) where
      says : pass_result (setting_of b g (length middle.now) (length o) (length l)) z t ≡ expanded v (limit (length l)) (length o) (records_of z) (take w₂.at c)
      unfolding ◌>>=◌
      says = then_expanded M.says

      pub run-refused : {k : Refusal} → q ≡ Err k → {p : Result Passed Refusal} → p ≡ Err k → Passes b g t z middle.now c o o₂ l l₂ p
      run-refused y u = rw u (record { middle-size = size; out-size = E.out-size; left-size = E.left-size; is = says ∙ MatchResult-at_err _ _ _ y E.is })

      pub run-done : {e : Expanded} → q ≡ Ok e → {n : Bool} → n ≡ ends_in_newline t → Passes b g t z middle.now c o o₂ l l₂ (Ok (record { len = e.len; sheet = e.sheet; closed = n && x && e.whole }))
      unfolding closed
      run-done {e} y {n} u =
          let h = MatchResult-at_ok _ _ e y E.is in
          record {
            middle-size = size;
            out-size = E.out-size;
            left-size = E.left-size;
            is = (
              rw says h.0,
              closed-good b g t z (length middle.now) (length o) (length l) G ∙ (λ i. sym u i && M.wholes i && all_whole (expansion v (records_of z) (sym M.is i))) ∙ ap (λ f. n && x && f) h.1,
            );
          }

-- THE LAST BYTE.
pub ends-none : (t : List ℕ) (o : Option (Bor ℕ)) → option_copied o ≡ slice_get t (length t - 1) → o ≡ None → true ≡ ends_in_newline t
unfolding ends_in_newline
ends-none [] o v e = refl
ends-none (x ∷ xs) o v e = absurd (none-some _ (sym (ap option_copied e) ∙ v ∙ slice_get-get_or (x ∷ xs) (length (x ∷ xs) - 1) 0 (omega arith)))

pub ends-byte : (t : List ℕ) (o : Option (Bor ℕ)) → option_copied o ≡ slice_get t (length t - 1) → {b : Bor ℕ} → o ≡ Some b → eqb b.now 10 ≡ ends_in_newline t
ends-byte [] o v e = absurd (none-some _ (sym v ∙ ap option_copied e))
ends-byte (x ∷ xs) o v {b} e =
    let g : get_or (x ∷ xs) (length (x ∷ xs) - 1) 0 ≡ b.now = get_or_from_slice_get (x ∷ xs) (length (x ∷ xs) - 1) b.now 0 (sym v ∙ ap option_copied e) in
    ap (λ z. eqb z 10) (sym g) ∙ sym (ends_last (x ∷ xs) (omega arith))
