-- Laws of the test load's code: the loop that puts the pieces, and what the call comes to.
use Rattle.std.specs.Prelude.{◌≡◌, ℕ, suc, ◌+◌, ◌-◌, ◌<◌, Bool, List, [], Ok, Err, Result, length, slice_index_or}
use Rattle.std.proofs.Math.Path.{sym}
use Rattle.std.proofs.Common.{◌∙◌}
use native.Mathlib.Omega.{arith}
use Rattle.rules.specs.Run.{Emit, put, ok, and_then}
use Rattle.rules.specs.Load.{next, draw, piece_count, concat, pieces_from, pieces, load, list_of}
use Rattle.rules.specs.Calls.{test_load_result}
use Rattle.refusal.specs.declared.Refusal.{Refusal}
use Rattle.buffers.specs.declared.writer.Writer.{Writer}
use Rattle.buffers.specs.Emits.{write-join, write-none, write-one}
use Rattle.buffers.specs.Wrote.{Puts, Wrote, Stands, puts-wrote, Writing, writing-start, writing-same, writing-on, writing-no, writing-end}
use Rattle.test_load.specs.Load.{Loads}

-- THE LOOP: the pieces still to come, `left` of them, complete the load.
module _ (list : List (List ℕ)) (seed : ℕ) (w : Writer) where
  abbrev Whole : Emit
  Whole = put (load list seed) ok

  pub record Loading (left state : ℕ) (w₁ : Writer) : Type 0 where
    pub writing : Writing Whole w w₁ (put (concat (pieces_from list left state)) ok)

  pub loading-starts : {n d state : ℕ} → n ≡ d + 1 → d ≡ draw 32 seed → state ≡ next seed → Loading n state w
  unfolding load pieces piece_count
  loading-starts h e f = record { writing = rw (h, e, f) (writing-start Whole w) }

  -- Piece i of n.
  module _ {n i state k new : ℕ} {t : List ℕ} {w₁ w₂ : Writer} {q : Result (Unit {0}) Refusal} (L : Loading (n - i) state w₁) (h : i < n) (x : k ≡ draw 8 state) (z : slice_index_or list k [] ≡ t) (y : new ≡ next state) (P : Puts t w₁ w₂ q) where
    here : Writing Whole w w₁ (and_then (put t ok) (put (concat (pieces_from list (n - (i + 1)) new)) ok))
    unfolding pieces_from concat and_then
    here =
        let s : n - i ≡ suc (n - (i + 1)) = omega arith in
        writing-same (λ full r. sym (write-join full r t _ ok)) (rw (← z, x, y) (rw s at L.writing))

    pub loading-goes : {u : Unit {0}} → q ≡ Ok u → Loading (n - (i + 1)) new w₂
    loading-goes e = record { writing = writing-on (put t ok) _ here e (puts-wrote P) }

    pub loading-no : {j : Refusal} → q ≡ Err j → {r : Result (Unit {0}) Refusal} → r ≡ Err j → Wrote Whole w w₂ r
    loading-no e f = writing-no (put t ok) _ here e (puts-wrote P) f

  pub loading-ends : {left state : ℕ} {w₁ : Writer} {u : Unit {0}} → Loading left state w₁ → left ≡ 0 → Wrote Whole w w₁ (Ok u)
  unfolding pieces_from concat
  loading-ends L h = writing-end (writing-same (λ full r. write-none full r ok) (rw h at L.writing))

-- THE CALL.
pub loads : (seed : ℕ) (definitions : Bool) (b c : List ℕ) (r : Result ℕ Refusal) → Stands 11 (length b) (put (load (list_of definitions) seed) ok) c r → Loads seed definitions b c r
unfolding test_load_result
loads seed definitions b c r s = record { size = s.size; fits = s.fits; is = sym (write-one 11 (length b) (load (list_of definitions) seed)) ∙ s.is }
