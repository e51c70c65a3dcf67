-- Runs that copy: steps that each copy one byte write the bytes as one piece.
use Rattle.std.specs.Prelude.{◌≡◌, true, leb, length, take, drop, get_or}
use Rattle.std.proofs.Math.Path.{refl, sym, ap}
use Rattle.std.proofs.Common.{◌∙◌, arith, length-drop, drop-drop, get_or-drop}
use mathlib.Core.List.{List, [], ◌∷◌}
use Prim.Native.Nat.{ℕ, zero, suc, ◌+◌, ◌-◌, ◌≤◌, ◌<◌}
use Rattle.rules.specs.Run.{ok, put, and_then, unrefused, Did, Step, Trace, step, run, all_whole, final, write}
use Rattle.rules.proofs.Laws.Enough.{run_step}
use Rattle.scan.specs.Sets.{part}
use Rattle.buffers.specs.Emits.{write-none, write_same, write-join, guarded, guard-yes}

-- `after s x`: the state behind the byte x, that is copied in the state s.
module _ {S : Type 0} (after : S → ℕ → S) where
  unfoldable pub after_all : S → List ℕ → S
  after_all s [] = s
  after_all s (x ∷ xs) = after_all (after s x) xs

  unfoldable pub copied : S → ℕ → Did S
  copied s x = record { whole = true; emit = put (x ∷ []) ok; state = after s x }

  -- The bytes of a text are copied, and then comes u.
  unfoldable copies : S → List ℕ → Trace S → Trace S
  copies s [] u = u
  copies s (x ∷ xs) u = step (copied s x) (copies (after s x) xs u)

  module _ (f : Step S) where
    run-copies : (t : List ℕ) (s : S) (n : ℕ) → n ≤ length t → ((k : ℕ) (s : S) → k < n → f s (drop k t) ≡ (copied s (get_or t k 0), drop (suc k) t)) →
        run f s 0 t ≡ copies s (take n t) (run f (after_all s (take n t)) 0 (drop n t))
    unfolding copies after_all copied
    run-copies t s zero l q = refl
    run-copies [] s (suc n) l q = absurd (omega arith)
    run-copies (x ∷ xs) s (suc n) l q =
        let c = q 0 s (omega arith) in
        run_step f s x xs 0 (omega arith) (ap (λ z. z.1) c)
        ∙ ap (λ z. step z.0 (run f z.0.state 0 xs)) c
        ∙ ap (step (copied s x)) (run-copies xs (after s x) n (omega arith) (λ k u z. q (suc k) u (omega arith)))

  module _ (size : S → ℕ) (L : ℕ) (keeps : (s : S) (x : ℕ) → leb (size s) L ≡ true → leb (size (after s x)) L ≡ true) where
    copies-write : (full : ℕ) (p : List ℕ) (s : S) (u : Trace S) (r : ℕ) → leb (size s) L ≡ true → write full r (guarded size L (copies s p u)) ≡ write full r (put p (guarded size L u))
    unfolding copies guarded and_then copied
    copies-write full [] s u r h = sym (write-none full r (guarded size L u))
    copies-write full (x ∷ xs) s u r h =
        ap (λ z. write full r (and_then z (guarded size L (copies (after s x) xs u)))) (guard-yes size L (copied s x) (keeps s x h))
        ∙ write_same full r (x ∷ []) _ (put xs (guarded size L u)) (copies-write full xs (after s x) u (r - 1) (keeps s x h)) ∙ write-join full r (x ∷ []) xs (guarded size L u)

  copies_whole : (p : List ℕ) (s : S) (u : Trace S) → all_whole (copies s p u) ≡ all_whole u
  unfolding copies all_whole copied unrefused
  copies_whole [] s u = refl
  copies_whole (x ∷ xs) s u = copies_whole xs (after s x) u

  copies-final : (p : List ℕ) (s : S) (u : Trace S) → final (copies s p u) ≡ final u
  unfolding copies final
  copies-final [] s u = refl
  copies-final (x ∷ xs) s u = copies-final xs (after s x) u

  -- Copying that keeps the state.
  pub after_all-same : ((s : S) (x : ℕ) → after s x ≡ s) → (s : S) (p : List ℕ) → after_all s p ≡ s
  unfolding after_all
  after_all-same h s [] = refl
  after_all-same h s (x ∷ xs) = after_all-same h (after s x) xs ∙ h s x

  -- A part of t that is copied from the state s on: what is written is one piece, and the run goes on behind it.
  pub record Copied (f : Step S) (size : S → ℕ) (L : ℕ) (s : S) (t : List ℕ) (i j : ℕ) : Type 0 where
    pub writes : (full r : ℕ) → write full r (guarded size L (run f s 0 (drop i t))) ≡ write full r (put (part t i j) (guarded size L (run f (after_all s (part t i j)) 0 (drop j t))))
    pub wholes : all_whole (run f s 0 (drop i t)) ≡ all_whole (run f (after_all s (part t i j)) 0 (drop j t))
    pub finals : final (run f s 0 (drop i t)) ≡ final (run f (after_all s (part t i j)) 0 (drop j t))

  pub copied-part : (f : Step S) (size : S → ℕ) (L : ℕ) → ((s : S) (x : ℕ) → leb (size s) L ≡ true → leb (size (after s x)) L ≡ true) → (s : S) (t : List ℕ) (i j : ℕ) → i ≤ j → j ≤ length t → leb (size s) L ≡ true →
      ((k : ℕ) (s : S) → i ≤ k → k < j → f s (drop k t) ≡ (copied s (get_or t k 0), drop (suc k) t)) → Copied f size L s t i j
  copied-part f size L keeps s t i j a b h q =
      let p = part t i j in
      let u = run f (after_all s p) 0 (drop j t) in
      let c : i + (j - i) ≡ j = omega arith in
      let d : drop (j - i) (drop i t) ≡ drop j t = drop-drop (j - i) i t ∙ ap (λ z. drop z t) c in
      let e : run f s 0 (drop i t) ≡ copies s p u = run-copies f (drop i t) s (j - i) (omega (arith, length-drop i t)) each ∙ ap (λ z. copies s p (run f (after_all s p) 0 z)) d in
      record {
        writes = λ full r. ap (λ z. write full r (guarded size L z)) e ∙ copies-write size L keeps full p s u r h;
        wholes = ap all_whole e ∙ copies_whole p s u;
        finals = ap final e ∙ copies-final p s u;
      }
    where
      each : (k : ℕ) (s : S) → k < j - i → f s (drop k (drop i t)) ≡ (copied s (get_or (drop i t) k 0), drop (suc k) (drop i t))
      each k s z =
          let y : i + suc k ≡ suc (i + k) = omega arith in
          ap (f s) (drop-drop k i t) ∙ q (i + k) s (omega arith) (omega arith) ∙ λ m. (copied s (sym (get_or-drop i t k 0) m), (ap (λ x. drop x t) (sym y) ∙ sym (drop-drop (suc k) i t)) m)
