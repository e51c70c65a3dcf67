-- The run: plain text in spans between the `#` marks, and the step at each.
use Rattle.std.specs.Prelude.{◌≡◌, Bool, true, ◌&&◌, ℕ, suc, ◌+◌, ◌-◌, ◌≤◌, ◌<◌, eqb, length, get_or, Result, Ok, Err, IfOk}
use Rattle.std.proofs.Math.Path.{refl, ap}
use Rattle.std.proofs.Common.{sym, ◌∙◌, true≢false, drop-cons, drop-drop, length-drop}
use mathlib.Core.List.{List, [], ◌∷◌}
use Rattle.std.proofs.Math.Bool.{false, not, and-true}
use native.Mathlib.Omega.{arith}
use Rattle.std.proofs.Math.ListN.{drop, drop_of_length-le}
use borrow.Author.Tests.{le-leb, ne_eqb, eq-eqb, eqb-true}
use Rattle.refusal.specs.declared.Refusal.{Refusal}
use Rattle.refusal.specs.Numbers.{number}
use Rattle.rules.specs.Reader.{bytes, prefix, mark, if_r, ◌>>=◌}
use Rattle.rules.specs.Run.{Emit, ok, put, and_then, unrefused, Did, Trace, step, run, all_whole, final, write}
use Rattle.rules.specs.Files.{View}
use Rattle.rules.specs.Sheet.{Records, sheet_length}
use Rattle.rules.specs.Expansion.{writes, copy_step, expansion_step, expansion}
use Rattle.rules.proofs.Laws.Bool.{and-three}
use Rattle.rules.proofs.Laws.Limit.{written-unrefused}
use Rattle.rules.proofs.Laws.Enough.{run_at, run-first}
use Rattle.scan.specs.Sets.{part, Spans, Starts, not_byte}
use Rattle.scan.specs.Laws.{mark_of}
use Rattle.scan.specs.Stretches.{spans-each, spans-stop}
use Rattle.buffers.specs.declared.writer.Writer.{Writer}
use Rattle.buffers.specs.Emits.{guard, guarded}
use Rattle.buffers.specs.Wrote.{Puts, Wrote, Writing, puts-wrote, writing-start, writing-same, writing-on, writing-no, writing-end}
use Rattle.buffers.specs.Copies.{after_all, copied, Copied, copied-part, after_all-same}
use Rattle.scan.specs.declared.read.Read.{Read}
use Rattle.expansion_steps.specs.Call.{Goes}
use Rattle.expansion_steps.specs.Step.{Steps, within-limit}
use Rattle.binding.specs.declared.sheet_buffer.SheetBuffer.{SheetBuffer}
use Rattle.binding.specs.Sheets.{sheet_in, SameSheet, sheet-refl, sheet-then, sheet-within}

-- The text t is expanded, for the sheet in b: what is written, or 9; and, if all is written, whether each step is whole, and that c holds the sheet.
pub record Expands (v : View) (t : List ℕ) (w w₂ : Writer) (b c : SheetBuffer) (r : Result Bool Refusal) : Type 0 where
  pub over : SameSheet b c
  pub wrote : Wrote (guarded sheet_length b.records.now.limit (expansion v (sheet_in b) t)) w w₂ r
  pub goes : IfOk r (λ x. (all_whole (expansion v (sheet_in b) t) ≡ x) × (sheet_in c ≡ final (expansion v (sheet_in b) t)))

-- PLAIN TEXT. Another byte than `#` is copied.
module _ (v : View) where
  other : (x : ℕ) (xs m : List ℕ) → not_byte 35 x ≡ true → prefix (35 ∷ m) (x ∷ xs) ≡ false
  unfolding prefix
  other x xs m h = rw (ne_eqb 35 x (λ e. absurd (true≢false (sym h ∙ ap (λ z. not (eqb z 35)) (sym e))))) refl

  copy_byte_lem : (s : Records) (x : ℕ) (xs : List ℕ) → not_byte 35 x ≡ true → expansion_step v s (x ∷ xs) ≡ (copied (λ s x. s) s x, xs)
  unfolding expansion_step copy_step copied writes ◌>>=◌ if_r
  copy_byte_lem s x xs h = rw (none (bytes "import"), none (bytes "let"), none (bytes "raw"), none (bytes "link"), none []) refl
    where
      none : (m : List ℕ) → mark (35 ∷ m) (x ∷ xs) ≡ (false, x ∷ xs)
      none m = mark_of (35 ∷ m) (x ∷ xs) false (other x xs m h)

  -- Text without `#`, from i to j, is one piece, and the records stay.
  plain : (b : SheetBuffer) {limit : ℕ} → b.records.now.limit ≡ limit → (t : List ℕ) (i j : ℕ) → Spans (not_byte 35) t i j → Copied (λ s x. s) (expansion_step v) sheet_length limit (sheet_in b) t i j
  plain b {limit} l t i j x = copied-part (λ s x. s) (expansion_step v) sheet_length limit (λ s x z. z) (sheet_in b) t i j x.on x.inside (le-leb _ limit (omega (arith, sheet-within b))) each
    where
      each : (k : ℕ) (s : Records) → i ≤ k → k < j → expansion_step v s (drop k t) ≡ (copied (λ s x. s) s (get_or t k 0), drop (suc k) t)
      each k s a b = ap (expansion_step v s) (drop-cons t k 0 (omega (arith, x.inside))) ∙ copy_byte_lem s (get_or t k 0) (drop (suc k) t) (spans-each x k a b)

-- LAWS. The byte at which a stretch without c ends.
is_byte : (x c : ℕ) → not_byte c x ≡ false → x ≡ c
is_byte x c h = at (eqb x c) refl h
  where
    at : (y : Bool) → eqb x c ≡ y → not y ≡ false → x ≡ c
    at true e z = eqb-true x c e
    at false e z = absurd (true≢false z)

-- THE LOOP. t: the text, expanded up to i. a, w: the sheet's buffer and the writer before.
module _ (v : View) (t : List ℕ) (a : SheetBuffer) (w : Writer) where
  abbrev Left : Records → ℕ → Trace Records
  Left s i = run (expansion_step v) s 0 (drop i t)

  abbrev Emitted : Trace Records → Emit
  Emitted = guarded sheet_length a.records.now.limit

  abbrev Whole : Trace Records
  Whole = expansion v (sheet_in a) t

  -- Of the run on the text up to i is written, and b holds the sheet.
  pub record Expanding (b : SheetBuffer) (w₁ : Writer) (i : ℕ) (x : Bool) : Type 0 where
    pub inside : i ≤ length t
    pub over : SameSheet a b
    pub writing : Writing (Emitted Whole) w w₁ (Emitted (Left (sheet_in b) i))
    pub wholes : all_whole Whole ≡ (x && all_whole (Left (sheet_in b) i))
    pub finals : final Whole ≡ final (Left (sheet_in b) i)

  pub expanding-start : Expanding a w 0 true
  unfolding expansion
  expanding-start = record { inside = omega arith; over = sheet-refl a; writing = writing-start (Emitted Whole) w; wholes = refl; finals = refl }

  module _ {b : SheetBuffer} {w₁ : Writer} {i : ℕ} {x : Bool} (E : Expanding b w₁ i x) {j : ℕ} (X : Spans (not_byte 35) t i j) {w₂ : Writer} {p : Result (Unit {0}) Refusal} (P : Puts (part t i j) w₁ w₂ p) where
    -- The text before the `#` is one piece.
    piece : Copied (λ s x. s) (expansion_step v) sheet_length a.records.now.limit (sheet_in b) t i j
    piece = plain v b E.over.over.limit t i j X

    behind : (A : Type 0) (f : Trace Records → A) → f (run (expansion_step v) (after_all (λ s x. s) (sheet_in b) (part t i j)) 0 (drop j t)) ≡ f (Left (sheet_in b) j)
    behind A f = ap (λ z. f (run (expansion_step v) z 0 (drop j t))) (after_all-same (λ s x. s) (λ s x. refl) (sheet_in b) (part t i j))

    before-hash : Writing (Emitted Whole) w w₁ (and_then (put (part t i j) ok) (Emitted (Left (sheet_in b) j)))
    unfolding and_then
    before-hash = writing-same (λ full r. piece.writes full r ∙ behind _ (λ z. write full r (put (part t i j) (Emitted z)))) E.writing

    pub expanding-full : {k : Refusal} → p ≡ Err k → {r : Result Bool Refusal} → r ≡ Err k → Expands v t w w₂ a b r
    expanding-full y z = record { over = E.over; wrote = writing-no (put (part t i j) ok) (Emitted (Left (sheet_in b) j)) before-hash y (puts-wrote P) z; goes = rw z tt }

    module _ {u : Unit {0}} (z : p ≡ Ok u) where
      at-hash : Writing (Emitted Whole) w w₂ (Emitted (Left (sheet_in b) j))
      at-hash = writing-on (put (part t i j) ok) (Emitted (Left (sheet_in b) j)) before-hash z (puts-wrote P)

      whole-hash : all_whole Whole ≡ (x && all_whole (Left (sheet_in b) j))
      whole-hash = E.wholes ∙ ap (λ y. x && y) (piece.wholes ∙ behind _ all_whole)

      final-hash : final Whole ≡ final (Left (sheet_in b) j)
      final-hash = E.finals ∙ piece.finals ∙ behind _ final

      pub expanding-end : length t ≤ j → Expands v t w w₂ a b (Ok x)
      unfolding run guarded all_whole final
      expanding-end e = record {
        over = E.over;
        wrote = writing-end (writing-same (λ full r. ap (λ y. write full r (Emitted (run (expansion_step v) (sheet_in b) 0 y))) none) at-hash);
        goes = (
          whole-hash ∙ ap (λ y. x && all_whole (run (expansion_step v) (sheet_in b) 0 y)) none ∙ and-true x,
          sym (final-hash ∙ ap (λ y. final (run (expansion_step v) (sheet_in b) 0 y)) none),
        );
      }
        where
          none : drop j t ≡ []
          none = drop_of_length-le t {i = j} e

      -- The `#` at j, and the step there, on what is left.
      module _ (y : j < length t) {left : List ℕ} (tail : left ≡ drop j t) where
        pub hash : Starts (bytes "#") left 0 true
        unfolding prefix
        hash = rw tail (record { says = rw (drop-cons t j 0 y, eq-eqb 35 (get_or t j 0) (sym (is_byte (get_or t j 0) 35 (spans-stop X y)))) refl; there = λ e. omega (arith, length-drop j t) })

        module _ {w₃ : Writer} {c : SheetBuffer} {k : Result (Read Bool) Refusal} (S : Steps v left w₂ w₃ b c k) where
          T : Steps v (drop j t) w₂ w₃ b c k
          T = rw tail at S

          abbrev did : Did Records
          did = (expansion_step v (sheet_in b) (drop j t)).0

          wrote-step : Wrote (guard sheet_length a.records.now.limit did) w₂ w₃ k
          wrote-step = rw E.over.over.limit at T.wrote

          over-both : SameSheet a c
          over-both = sheet-then E.over T.over

          pub expanding-refused : {e : Refusal} → k ≡ Err e → {r : Result Bool Refusal} → r ≡ Err e → Expands v t w w₃ a c r
          unfolding guarded
          expanding-refused h q =
              let f = run-first (expansion_step v) (sheet_in b) t j y in
              record { over = over-both; wrote = writing-no (guard sheet_length a.records.now.limit did) (Emitted f.0) (writing-same (λ full r. ap (λ o. write full r (Emitted o)) f.1) at-hash) h wrote-step q; goes = rw q tt }

          module _ {d : Read Bool} (e : k ≡ Ok d) where
            stepped : Goes 1 (expansion_step v (sheet_in b) (drop j t)) (drop j t) d × (sheet_in c ≡ did.state)
            stepped = rw e at T.goes

            on : j < j + d.used
            on = let o = stepped.0.on in omega arith

            pub expanding-inside : j + d.used ≤ length t
            expanding-inside = let o = stepped.0.inside in omega (arith, length-drop j t)

            pub expanding-smaller : length t - (j + d.used) < length t - i
            expanding-smaller = omega (arith, on, X.on)

            more : (a b o : Bool) → a ≡ d.what → b ≡ true → (x && (a && b && o)) ≡ ((x && d.what) && o)
            more a true o f z = ap (λ f. x && (f && true && o)) f ∙ and-three x d.what o
            more a false o f z = absurd (true≢false (sym z))

            one-step : Left (sheet_in b) j ≡ step did (Left (sheet_in c) (j + d.used))
            one-step = run_at (expansion_step v) t (sheet_in b) j (j + d.used) on expanding-inside (stepped.0.rest ∙ drop-drop d.used j t) ∙ ap (λ s. step did (Left s (j + d.used))) (sym stepped.1)

            pub expanding-on : Expanding c w₃ (j + d.used) (x && d.what)
            unfolding guarded all_whole final
            expanding-on = record {
              inside = expanding-inside;
              over = over-both;
              writing = writing-on (guard sheet_length a.records.now.limit did) (Emitted (Left (sheet_in c) (j + d.used))) (writing-same (λ full r. ap (λ f. write full r (Emitted f)) one-step) at-hash) e wrote-step;
              wholes = whole-hash ∙ ap (λ f. x && all_whole f) one-step
                  ∙ more did.whole (unrefused did.emit) (all_whole (Left (sheet_in c) (j + d.used))) stepped.0.whole (written-unrefused (number w₂.full) did.emit (w₂.room - w₂.at) (rw (within-limit did c over-both.over.limit stepped.1) at ((rw e at wrote-step.emits).goes refl).says));
              finals = final-hash ∙ ap final one-step;
            }
