-- The resolver: its loop over the marks of a text.
use Rattle.std.specs.Prelude.{◌≡◌, refl, Option, None, Bool, ◌&&◌, ℕ, ◌+◌, ◌-◌, ◌≤◌, length, Result, Ok, Err, IfOk}
use Rattle.std.proofs.Common.{sym, ◌∙◌, true≢false, arith}
use Rattle.std.proofs.Math.Path.{ap}
use mathlib.Core.List.{List, []}
use Rattle.std.proofs.Math.Bool.{true, false, and-true}
use Rattle.std.proofs.Math.ListN.{drop, drop_of_length-le}
use Rattle.rules.specs.Run.{Emit, ok, put, and_then, unrefused, Trace, step, run, emitted, all_whole, write}
use Rattle.rules.specs.Files.{View}
use Rattle.rules.specs.Includes.{include_step, wrote}
use Rattle.rules.proofs.Laws.Bool.{and-three}
use Rattle.rules.proofs.Laws.Limit.{written-unrefused}
use Rattle.rules.proofs.Laws.Enough.{run_at}
use Rattle.refusal.specs.declared.Refusal.{Refusal}
use Rattle.refusal.specs.Numbers.{number}
use Rattle.buffers.specs.declared.writer.Writer.{Writer}
use Rattle.buffers.specs.Wrote.{Puts, Wrote, Writing, puts-wrote, writing-start, writing-same, writing-on, writing-no, writing-end}
use Rattle.marks.specs.declared.Mark.{Mark}
use Rattle.marks.specs.declared.read.Read.{Read}
use Rattle.scan.specs.Sets.{part}
use Rattle.marks.specs.Marks.{NextMark, mark_text, mark-some, stretch, plain}
use Rattle.marks.specs.Read.{emit_of, Reads}

-- A run's text is written, and the answer is whether each of its steps is whole; or it is refused.
pub record Resolves (t : Trace (List ℕ)) (w w₂ : Writer) (r : Result Bool Refusal) : Type 0 where
  pub wrote : Wrote (emitted t) w w₂ r
  pub wholes : IfOk r (λ x. all_whole t ≡ x)

-- THE LOOP. v: the bundle; f: how an included file is resolved; g: the folder; t: the text, resolved up to i.
module _ (v : View) (f : List ℕ → List ℕ → Emit) (g t : List ℕ) where
  abbrev Whole : Trace (List ℕ)
  Whole = run (include_step v f g) [] 0 t

  abbrev Left : ℕ → Trace (List ℕ)
  Left i = run (include_step v f g) [] 0 (drop i t)

  pub record Resolving (w w₁ : Writer) (i : ℕ) (x : Bool) : Type 0 where
    pub inside : i ≤ length t
    pub going : Writing (emitted Whole) w w₁ (emitted (Left i))
    pub wholes : all_whole Whole ≡ (x && all_whole (Left i))

  pub resolving-start : (w : Writer) → Resolving w w 0 true
  resolving-start w = record { inside = omega arith; going = writing-start (emitted Whole) w; wholes = refl }

  module _ {w w₁ : Writer} {i : ℕ} {x : Bool} (R : Resolving w w₁ i x) {j : ℕ} {a : Option Mark} (M : NextMark t i j a) {w₂ : Writer} {p : Result (Unit {0}) Refusal} (P : Puts (part t i j) w₁ w₂ p) where
    abbrev FromMark : Trace (List ℕ)
    FromMark = run (include_step v f g) (stretch [] (part t i j)) 0 (drop j t)

    -- The text before the mark is one piece.
    before-mark : Writing (emitted Whole) w w₁ (and_then (put (part t i j) ok) (emitted FromMark))
    unfolding and_then
    before-mark = writing-same (λ full n. (plain v f g [] t i j M.before).writes full n) R.going

    pub resolving-full : {k : Refusal} → p ≡ Err k → {r : Result Bool Refusal} → r ≡ Err k → Resolves Whole w w₂ r
    resolving-full h e = record { wrote = writing-no (put (part t i j) ok) (emitted FromMark) before-mark h (puts-wrote P) e; wholes = rw e tt }

    module _ {u : Unit {0}} (z : p ≡ Ok u) where
      at_mark : Writing (emitted Whole) w w₂ (emitted FromMark)
      at_mark = writing-on (put (part t i j) ok) (emitted FromMark) before-mark z (puts-wrote P)

      whole-mark : all_whole Whole ≡ (x && all_whole FromMark)
      whole-mark = R.wholes ∙ ap (λ y. x && y) (plain v f g [] t i j M.before).wholes

      pub resolving-end : a ≡ None → Resolves Whole w w₂ (Ok x)
      unfolding run emitted all_whole
      resolving-end e =
          let s : drop j t ≡ [] = drop_of_length-le t {i = j} (omega (arith, M.last e)) in
          record {
            wrote = writing-end (writing-same (λ full n. ap (λ z. write full n (emitted (run (include_step v f g) (stretch [] (part t i j)) 0 z))) s) at_mark);
            wholes = whole-mark ∙ ap (λ z. x && all_whole (run (include_step v f g) (stretch [] (part t i j)) 0 z)) s ∙ and-true x;
          }

      -- The mark is read, and done.
      module _ (y : Mark) {m : Read} (S : Reads (λ v f g. include_step v f g (stretch [] (part t i j))) t j (j + length (mark_text y)) m) {w₃ : Writer} {q : Result (Unit {0}) Refusal} (E : Wrote (emit_of v f g m.what) w₂ w₃ q) where
        one-step : FromMark ≡ step (wrote m.whole (emit_of v f g m.what)) (Left m.next)
        unfolding wrote
        one-step =
            let e = S.does v f g in
            run_at (include_step v f g) t (stretch [] (part t i j)) j m.next (omega (arith, S.on, mark-some y)) S.inside (ap (λ z. z.1) e)
            ∙ ap (λ z. step z.0 (run (include_step v f g) z.0.state 0 (drop m.next t))) e

        next-mark : Writing (emitted Whole) w w₂ (and_then (emit_of v f g m.what) (emitted (Left m.next)))
        unfolding emitted wrote
        next-mark = writing-same (λ full n. ap (λ z. write full n (emitted z)) one-step) at_mark

        pub resolving-refused : {k : Refusal} → q ≡ Err k → {r : Result Bool Refusal} → r ≡ Err k → Resolves Whole w w₃ r
        resolving-refused h e = record { wrote = writing-no (emit_of v f g m.what) (emitted (Left m.next)) next-mark h E e; wholes = rw e tt }

        pub resolving-on : {u : Unit {0}} → q ≡ Ok u → Resolving w w₃ m.next (x && m.whole)
        unfolding all_whole wrote
        resolving-on h = record {
          inside = S.inside;
          going = writing-on (emit_of v f g m.what) (emitted (Left m.next)) next-mark h E;
          wholes = whole-mark ∙ ap (λ z. x && all_whole z) one-step ∙ more (unrefused (emit_of v f g m.what)) (written-unrefused (number w₂.full) (emit_of v f g m.what) (w₂.room - w₂.at) ((rw h at E.emits).goes refl).says);
        }
          where
            more : (a : Bool) → a ≡ true → (x && (m.whole && a && all_whole (Left m.next))) ≡ (x && m.whole && all_whole (Left m.next))
            more true e = and-three x m.whole (all_whole (Left m.next))
            more false e = absurd (true≢false (sym e))
