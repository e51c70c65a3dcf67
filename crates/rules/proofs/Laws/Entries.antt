-- Definitions (01, section 7): a value and a dictionary leave no more text than there was, and a round that goes on moves.
use Rattle.std.specs.Prelude.{◌≡◌, Bool, drop}
use Rattle.std.proofs.Math.Path.{refl}
use Rattle.std.proofs.Common.{sym, ap, ◌∙◌, true≢false, length-drop}
use mathlib.Core.List.{List, [], ◌∷◌}
use Rattle.std.proofs.Math.Bool.{true, false}
use Rattle.std.proofs.lemmas.Bool.{false≢true}
use Prim.Native.Char.{code}
use Prim.Native.Nat.{ℕ, zero, suc, ◌≤◌, ◌<◌}
use native.Mathlib.Omega.{arith}
use Rattle.std.proofs.Math.ListN.{length}
use Rattle.rules.specs.Answer.{Answer, refused, accepted}
use Rattle.rules.specs.Reader.{Reader, if_r, ◌>>=◌, ◌>>◌, the, but, either, prefix, span, sees, skip, mark, loop, rounds, Turn, again, stop}
use Rattle.rules.specs.Bytes.{blank, line_blank, letter, digit, word, name_byte, run_byte}
use Rattle.rules.specs.Sheet.{Value, nothing, dictionary, Records, end, Lookup}
use Rattle.rules.specs.Strings.{reference, plus, expression_round, expression}
use Rattle.rules.specs.Definitions.{text_value, value, entry_round, dictionary_value, listed, word_round}
use Rattle.rules.proofs.Laws.Bool.{or_elim, or-false-r, true-eqb}
use Rattle.rules.proofs.Laws.Enough.{Moving, Shrinks, Moves, moves-stop, moves-then, shrinks-ret, shrinks-span, shrinks-skip, shrinks-reference, shrink}

-- READERS leave no more text than there was
shrinks-mark-at : (m t : List ℕ) (c : Bool) → prefix m t ≡ c → length (mark m t).1 ≤ length t
unfolding mark
shrinks-mark-at m t true q = rw (q, mark) (omega (arith, length-drop (length m) t))
shrinks-mark-at m t false q = rw (q, mark) (omega arith)

shrinks-mark : (m : List ℕ) → Shrinks (mark m)
shrinks-mark m = record { shrinks = λ t. shrinks-mark-at m t (prefix m t) refl }

module _ {S A : Type 0} (f : S → Reader (Turn S A)) (d : S → A) (F : (s : S) → Shrinks (f s)) where
  first-at : (n : ℕ) (s : S) (t : List ℕ) (v : Turn S A) → (f s t).0 ≡ v → ((s' : S) → length (loop f d n s' (f s t).1).1 ≤ length (f s t).1) → length (loop f d (suc n) s t).1 ≤ length (f s t).1
  unfolding loop
  first-at n s t (again s') p ih = rw (p, loop) (ih s')
  first-at n s t (stop a) p ih = rw (p, loop) (omega arith)

  shrinks-loop : (n : ℕ) (s : S) (t : List ℕ) → length (loop f d n s t).1 ≤ length t
  unfolding loop
  shrinks-loop zero s t = omega arith
  shrinks-loop (suc n) s t = omega (arith, first-at n s t (f s t).0 refl (λ s'. shrinks-loop n s' (f s t).1), (F s).shrinks t)

  -- Rounds leave no more than the first of them
  rounds-first : (s : S) (t : List ℕ) → length (rounds f d s t).1 ≤ length (f s t).1
  unfolding rounds
  rounds-first s t = first-at (length t) s t (f s t).0 refl (λ s'. shrinks-loop (length t) s' (f s t).1)

  pub shrinks-rounds : (s : S) → Shrinks (rounds f d s)
  shrinks-rounds s = record { shrinks = λ t. omega (arith, rounds-first s t, (F s).shrinks t) }

module _ (look : Lookup) where
  shrinks-plus : (a : List ℕ) → Shrinks (plus look a)
  unfolding plus
  shrinks-plus a = search shrink depth 12

  shrinks-expression_round : (a : List ℕ) → Shrinks (expression_round look a)
  unfolding expression_round
  shrinks-expression_round a = search (shrink, shrinks-reference, shrinks-plus) depth 12

  shrinks-expression : Shrinks (expression look)
  unfolding expression
  shrinks-expression = shrinks-rounds (expression_round look) (λ a. a) shrinks-expression_round []

module _ (L : ℕ) (look : Lookup) where
  shrinks-text_value : Shrinks (text_value L look)
  unfolding text_value
  shrinks-text_value = search (shrink, shrinks-expression)

  pub shrinks-value : (inner : Reader (Answer Value)) → Shrinks inner → Shrinks (value L look inner)
  unfolding value
  shrinks-value inner I = search (shrink, shrinks-mark, shrinks-text_value) depth 20

  shrinks-entry_round : (inner : Reader (Answer Value)) → Shrinks inner → (d : Records) → Shrinks (entry_round L look inner d)
  unfolding entry_round
  shrinks-entry_round inner I d = search (shrink, shrinks-value) depth 20

  pub shrinks-dictionary : (l : ℕ) → Shrinks (dictionary_value L look l)
  unfolding dictionary_value
  shrinks-dictionary zero = shrinks-ret (refused 7)
  shrinks-dictionary (suc l) = shrinks-rounds (entry_round L look (dictionary_value L look l)) (λ d. accepted (dictionary d)) (shrinks-entry_round (dictionary_value L look l) (shrinks-dictionary l)) end

-- READERS at the byte x read it
record Takes (x : ℕ) {A : Type 0} (r : Reader A) : Type 0 where
  takes : (xs : List ℕ) → length (r (x ∷ xs)).1 < suc (length xs)

-- Behind a mark that stands here there is less text
past-mark : (y : ℕ) (m t : List ℕ) → prefix (y ∷ m) t ≡ true → length (drop (suc (length m)) t) < length t
unfolding prefix
past-mark y m [] h = absurd (false≢true h)
past-mark y m (x ∷ xs) h = omega (arith, length-drop (length m) xs)

module _ {x : ℕ} {A : Type 0} where
  takes-bind : {C : Type 0} {m : Reader C} {f : C → Reader A} → Takes x m → ((a : C) → Shrinks (f a)) → Takes x (m >>= f)
  unfolding ◌>>=◌
  takes-bind {m} {f} M F = record { takes = λ xs. omega (arith, M.takes xs, (F (m (x ∷ xs)).0).shrinks (m (x ∷ xs)).1) }

  takes_skip : {r : Reader A} → Shrinks r → Takes x (skip >> r)
  unfolding ◌>>◌ skip
  takes_skip R = record { takes = λ xs. omega (arith, R.shrinks xs) }

  -- A span takes the byte, or leaves it to what follows
  takes-span : (p : ℕ → Bool) {f : List ℕ → Reader A} → ((k : List ℕ) → Shrinks (f k)) → (p x ≡ false → Takes x (f [])) → Takes x (span p >>= f)
  unfolding span ◌>>=◌
  takes-span p {f} F n = record { takes = λ xs. at xs (p x) refl }
    where
      at : (xs : List ℕ) (c : Bool) → p x ≡ c → length (f (span p (x ∷ xs)).0 (span p (x ∷ xs)).1).1 < suc (length xs)
      at xs true q = rw (q, span) (omega (arith, (F (x ∷ (span p xs).0)).shrinks (span p xs).1, (shrinks-span p).shrinks xs))
      at xs false q = rw (q, span) ((n q).takes xs)

  takes-past : (p : ℕ → Bool) {r : Reader A} → Shrinks r → (p x ≡ false → Takes x r) → Takes x (span p >> r)
  unfolding ◌>>◌ ◌>>=◌
  takes-past p {r} R n = takes-span p {f = λ k. r} (λ k. R) n

  takes-sees : (p : ℕ → Bool) {r q : Reader A} → (p x ≡ true → Takes x r) → (p x ≡ false → Takes x q) → Takes x (sees p >>= λ c. if_r c r q)
  unfolding sees ◌>>=◌ if_r
  takes-sees p {r} {q} R Q = record { takes = λ xs. at xs (p x) refl }
    where
      at : (xs : List ℕ) (c : Bool) → p x ≡ c → length (if_r (p x) r q (x ∷ xs)).1 < suc (length xs)
      at xs true e = rw (e, if_r) ((R e).takes xs)
      at xs false e = rw (e, if_r) ((Q e).takes xs)

  takes-mark : (y : ℕ) (m : List ℕ) {r q : Reader A} → Shrinks r → Takes x q → Takes x (mark (y ∷ m) >>= λ c. if_r c r q)
  unfolding mark ◌>>=◌ if_r
  takes-mark y m {r} {q} R Q = record { takes = λ xs. at xs (prefix (y ∷ m) (x ∷ xs)) refl }
    where
      at : (xs : List ℕ) (c : Bool) → prefix (y ∷ m) (x ∷ xs) ≡ c → length (if_r (mark (y ∷ m) (x ∷ xs)).0 r q (mark (y ∷ m) (x ∷ xs)).1).1 < suc (length xs)
      at xs true e = rw (e, mark) (omega (arith, R.shrinks (drop (length m) xs), past-mark y m (x ∷ xs) e))
      at xs false e = rw (e, mark) (Q.takes xs)

  takes-rounds : {S : Type 0} (f : S → Reader (Turn S A)) (d : S → A) (s : S) → ((s : S) → Shrinks (f s)) → Takes x (f s) → Takes x (rounds f d s)
  takes-rounds f d s F T = record { takes = λ xs. omega (arith, rounds-first f d F s (x ∷ xs), T.takes xs) }

-- ROUNDS that go on move
module _ {S A : Type 0} where
  -- There is a byte, and what follows reads it
  moves-sees : (p : ℕ → Bool) {r q : Reader (Turn S A)} → ((x : ℕ) → Takes x r) → Moves q → Moves (sees p >>= λ c. if_r c r q)
  unfolding sees ◌>>=◌ if_r
  moves-sees p {r} {q} R Q = record { moves = go }
    where
      at : (s : S) (x : ℕ) (xs : List ℕ) (c : Bool) → (if_r c r q (x ∷ xs)).0 ≡ again s → length (if_r c r q (x ∷ xs)).1 < suc (length xs)
      at s x xs true h = (R x).takes xs
      at s x xs false h = Q.moves s (x ∷ xs) h

      go : (s : S) (t : List ℕ) → (if_r (sees p t).0 r q (sees p t).1).0 ≡ again s → length (if_r (sees p t).0 r q (sees p t).1).1 < length t
      go s [] h = Q.moves s [] h
      go s (x ∷ xs) h = at s x xs (p x) h

  -- A mark was read
  moves-mark : (y : ℕ) (m : List ℕ) {r q : Reader (Turn S A)} → Shrinks r → Moves q → Moves (mark (y ∷ m) >>= λ c. if_r c r q)
  unfolding mark ◌>>=◌ if_r
  moves-mark y m {r} {q} R Q = record { moves = λ s t h. at s t (prefix (y ∷ m) t) refl h }
    where
      at : (s : S) (t : List ℕ) (c : Bool) → prefix (y ∷ m) t ≡ c → (if_r (mark (y ∷ m) t).0 r q (mark (y ∷ m) t).1).0 ≡ again s →
          length (if_r (mark (y ∷ m) t).0 r q (mark (y ∷ m) t).1).1 < length t
      at s t true e h = rw (e, mark) (omega (arith, R.shrinks (drop (suc (length m)) t), past-mark y m t e))
      at s t false e h = rw (e, mark) (Q.moves s t (rw (e, mark) at h))

moves-word : (ws : List (List ℕ)) → Moves (word_round ws)
unfolding word_round
moves-word ws = moves-then (shrinks-span (the " ")) (moves-mark _ [] (search shrink) (moves-stop (listed ws)))

-- A word more: a `,` was read
pub word-moving : Moving word_round listed
word-moving ws ws' t h = (moves-word ws).moves ws' t h

-- The first byte of a reference is one of its run
begins-run : (x : ℕ) → either "_" letter x ≡ true → run_byte x ≡ true
unfolding either run_byte name_byte word letter digit the
begins-run x h = or_elim (the "_" x) (letter x) h (λ e. ap run_byte (true-eqb x (code "_") e)) (λ l. rw l refl)

module _ {x : ℕ} (look : Lookup) where
  takes-reference : either "_" letter x ≡ true → Takes x (reference look)
  unfolding reference
  takes-reference l = takes-span run_byte (λ k. shrinks-ret _) (λ n. absurd (true≢false (sym (begins-run x l) ∙ n)))

  -- At a `"`, a letter or `_` an expression reads it
  takes-expression : (the "\"" x ≡ false → either "_" letter x ≡ true) → Takes x (expression look)
  unfolding expression expression_round
  takes-expression h =
      takes-rounds (expression_round look) (λ a. a) [] (shrinks-expression_round look)
      (takes-past line_blank (search (shrink, shrinks-reference, shrinks-plus) depth 12)
      (λ b. takes-sees (the "\"") (λ q. takes_skip (search (shrink, shrinks-plus)))
      (λ q. takes-sees (either "_" letter) (λ l. takes-bind (takes-reference l) (λ v. shrinks-plus look v)) (λ n. absurd (true≢false (sym (h q) ∙ n))))))

-- A newline is a blank
no-newline : (x : ℕ) (c : Bool) → the "\n" x ≡ c → blank x ≡ false → but "\n" x ≡ true
unfolding blank but the
no-newline x true q h = absurd (true≢false (sym (ap blank (true-eqb x (code "\n") q)) ∙ h))
no-newline x false q h = rw q refl

module _ (L : ℕ) (look : Lookup) where
  takes-text : {x : ℕ} → (the "\"" x ≡ false → either "_" letter x ≡ true) → Takes x (text_value L look)
  unfolding text_value
  takes-text h = takes-bind (takes-expression look h) (λ t. shrinks-ret _)

  -- At a byte that is no blank a value reads it
  takes-value : (inner : Reader (Answer Value)) → Shrinks inner → (x : ℕ) → blank x ≡ false → Takes x (value L look inner)
  unfolding value
  takes-value inner I x h =
      takes-past line_blank (search (shrink, shrinks-mark, shrinks-text_value) depth 20)
      (λ b. takes-sees (the "\"") (λ q. takes-text (λ n. absurd (true≢false (sym q ∙ n))))
      (λ q. takes-mark _ _ I (takes-mark _ _ (shrinks-ret (accepted nothing))
      (takes-sees (either "_" letter) (λ l. takes-text (λ n. l))
      (λ l. takes-past (but "\n") (shrinks-ret (accepted nothing)) (λ n. absurd (true≢false (sym (no-newline x (the "\n" x) refl h) ∙ n))))))))

  -- The key takes the byte, or the skip behind it, or the value
  moves-entry : (inner : Reader (Answer Value)) → Shrinks inner → (d : Records) → Moves (entry_round L look inner d)
  unfolding entry_round either the
  moves-entry inner I d =
      moves-then (shrinks-span (either "," blank))
      (moves-sees (but ")")
      (λ x. takes-span name_byte (λ k. search (shrink, shrinks-value))
      (λ n. takes-past (either ":" blank) (search (shrink, shrinks-value))
      (λ c. takes-bind (takes-value inner I x (or-false-r (the ":" x) (blank x) c)) (λ v. shrinks-ret _))))
      (moves-then shrinks-skip (moves-stop (accepted (dictionary d)))))

  -- An entry more: a byte was read
  pub entry-moving : (inner : Reader (Answer Value)) → Shrinks inner → Moving (entry_round L look inner) (λ d. accepted (dictionary d))
  entry-moving inner I d d' t h = (moves-entry inner I d).moves d' t h
