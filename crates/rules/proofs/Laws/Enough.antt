-- The counters are enough: a run and rounds go on one step at a time, with no counter. A round that goes on moves.
use Rattle.std.proofs.Math.Path.{◌≡◌, refl, ap}
use Rattle.std.proofs.Common.{sym, ◌∙◌, length-append, length-drop, drop-cons, drop-drop}
use mathlib.Core.List.{List, [], ◌∷◌, ◌++◌}
use Rattle.std.specs.Prelude.{Bool, not, ◌&&◌, drop, get_or}
use Rattle.std.proofs.Math.Bool.{true, false}
use Prim.Native.Nat.{ℕ, zero, suc, ◌+◌, ◌-◌, ◌≤◌, ◌<◌}
use native.Mathlib.Omega.{arith}
use Rattle.std.proofs.Math.ListN.{length}
use Rattle.rules.specs.Reader.{Reader, ret, if_r, ◌>>=◌, ◌>>◌, the, but, either, empty, same, span, sees, skip, loop, rounds, Turn, again, stop}
use Rattle.rules.specs.Run.{Step, Trace, step, run}
use Rattle.rules.specs.Bytes.{blank, line_blank, word}
use Rattle.rules.specs.Sheet.{Lookup}
use Rattle.rules.specs.Strings.{onto, literal_from, literal, reference, plus, expression_round}
use Rattle.rules.specs.Expansion.{lang_value, block_value, argument_value, argument_round, arguments}

module _ {S : Type 0} (f : Step S) where
  pub run-skip : (t : List ℕ) (k : ℕ) (s : S) → run f s k t ≡ run f s 0 (drop k t)
  unfolding run
  run-skip [] zero s = refl
  run-skip [] (suc k) s = refl
  run-skip (x ∷ xs) zero s = refl
  run-skip (x ∷ xs) (suc k) s = run-skip xs k s

  -- One step: j bytes more than one are read.
  pub run_step : (s : S) (x : ℕ) (xs : List ℕ) (j : ℕ) → j ≤ length xs → (f s (x ∷ xs)).1 ≡ drop j xs →
      run f s 0 (x ∷ xs) ≡ step (f s (x ∷ xs)).0 (run f (f s (x ∷ xs)).0.state 0 (drop j xs))
  unfolding run
  run_step s x xs j l h =
      let d = (f s (x ∷ xs)).0 in
      let k : length xs - length (f s (x ∷ xs)).1 ≡ j = rw (h, length-drop) (omega arith) in
      ap (step d) (ap (λ z. run f d.state z xs) k ∙ run-skip xs j d.state)

  on-drop : (t : List ℕ) (i j : ℕ) → i < j → drop j t ≡ drop (j - suc i) (drop (suc i) t)
  on-drop t i j h = let e : suc i + (j - suc i) ≡ j = omega arith in sym (drop-drop (j - suc i) (suc i) t ∙ ap (λ z. drop z t) e)

  -- One step at the place i of a text: reading goes on at j.
  pub run_at : (t : List ℕ) (s : S) (i j : ℕ) → i < j → j ≤ length t → (f s (drop i t)).1 ≡ drop j t →
      run f s 0 (drop i t) ≡ step (f s (drop i t)).0 (run f (f s (drop i t)).0.state 0 (drop j t))
  run_at t s i j h k r =
      let c : drop i t ≡ get_or t i 0 ∷ drop (suc i) t = drop-cons t i 0 (omega arith) in
      let d = on-drop t i j h in
      let l : j - suc i ≤ length (drop (suc i) t) = rw length-drop (omega arith) in
      let q : (f s (get_or t i 0 ∷ drop (suc i) t)).1 ≡ drop (j - suc i) (drop (suc i) t) = ap (λ z. (f s z).1) (sym c) ∙ r ∙ d in
      rw (c, d) (run_step s (get_or t i 0) (drop (suc i) t) (j - suc i) l q)

-- The first step of a run, wherever it goes on.
pub run-first : {S : Type 0} (f : Step S) (s : S) (t : List ℕ) (i : ℕ) → i < length t → (u : Trace S) × (run f s 0 (drop i t) ≡ step (f s (drop i t)).0 u)
unfolding run
run-first f s t i h =
    let c : drop i t ≡ get_or t i 0 ∷ drop (suc i) t = drop-cons t i 0 h in
    rw c (_, refl)

module _ {S A : Type 0} (f : S → Reader (Turn S A)) (d : S → A) where
  -- A round that goes on moves
  abbrev pub Moving : Type 0
  Moving = (s s' : S) (t : List ℕ) → (f s t).0 ≡ again s' → length (f s t).1 < length t

module _ {S A : Type 0} (f : S → Reader (Turn S A)) (d : S → A) (M : Moving f d) where
  enough-at : (n m : ℕ) (s : S) (t : List ℕ) (v : Turn S A) → (f s t).0 ≡ v →
      ((s' : S) → (f s t).0 ≡ again s' → loop f d n s' (f s t).1 ≡ loop f d m s' (f s t).1) → loop f d (suc n) s t ≡ loop f d (suc m) s t
  unfolding loop
  enough-at n m s t (again s') p ih = rw (p, loop) (ih s' p)
  enough-at n m s t (stop a) p ih = rw (p, loop)

  enough : (n m : ℕ) (s : S) (t : List ℕ) → length t < n → length t < m → loop f d n s t ≡ loop f d m s t
  enough zero m s t h k = absurd (omega arith)
  enough (suc n) zero s t h k = absurd (omega arith)
  enough (suc n) (suc m) s t h k =
      enough-at n m s t (f s t).0 refl (λ s' p. enough n m s' (f s t).1 (omega (arith, M s s' t p)) (omega (arith, M s s' t p)))

  pub rounds-again : (s s' : S) (t : List ℕ) → (f s t).0 ≡ again s' → rounds f d s t ≡ rounds f d s' (f s t).1
  unfolding rounds loop
  rounds-again s s' t p = rw (p, loop) (enough (length t) (suc (length (f s t).1)) s' (f s t).1 (M s s' t p) (omega arith))

  pub rounds-stop : (s : S) (a : A) (t : List ℕ) → (f s t).0 ≡ stop a → rounds f d s t ≡ (a, (f s t).1)
  unfolding rounds loop
  rounds-stop s a t p = rw (p, loop)

-- A reader's rest is no longer than the text
pub record Shrinks {A : Type 0} (r : Reader A) : Type 0 where
  pub shrinks : (t : List ℕ) → length (r t).1 ≤ length t

-- Where a round goes on, its rest is shorter
pub record Moves {S A : Type 0} (r : Reader (Turn S A)) : Type 0 where
  pub moves : (s : S) (t : List ℕ) → (r t).0 ≡ again s → length (r t).1 < length t

module _ {A : Type 0} where
  pub shrinks-ret : (a : A) → Shrinks (ret a)
  unfolding ret
  shrinks-ret a = record { shrinks = λ t. omega arith }

  pub shrinks_if : (c : Bool) {r q : Reader A} → Shrinks r → Shrinks q → Shrinks (if_r c r q)
  unfolding if_r
  shrinks_if true g k = g
  shrinks_if false g k = k

module _ {A B : Type 0} where
  pub shrinks-bind : {m : Reader A} {f : A → Reader B} → Shrinks m → ((a : A) → Shrinks (f a)) → Shrinks (m >>= f)
  unfolding ◌>>=◌
  shrinks-bind {m} {f} M F = record { shrinks = λ t. omega (arith, M.shrinks t, (F (m t).0).shrinks (m t).1) }

  pub shrinks-then : {m : Reader A} {f : Reader B} → Shrinks m → Shrinks f → Shrinks (m >> f)
  unfolding ◌>>◌
  shrinks-then {m} {f} M F = record { shrinks = λ t. omega (arith, M.shrinks t, F.shrinks (m t).1) }

-- What a span takes and what it leaves are the text
span-split-at : (p : ℕ → Bool) (x : ℕ) (xs : List ℕ) (c : Bool) → p x ≡ c → xs ≡ (span p xs).0 ++ (span p xs).1 → x ∷ xs ≡ (span p (x ∷ xs)).0 ++ (span p (x ∷ xs)).1
unfolding span
span-split-at p x xs true q ih = rw (q, span) (ap (λ z. x ∷ z) ih)
span-split-at p x xs false q ih = rw (q, span) refl

pub span-split : (p : ℕ → Bool) (t : List ℕ) → t ≡ (span p t).0 ++ (span p t).1
unfolding span
span-split p [] = refl
span-split p (x ∷ xs) = span-split-at p x xs (p x) refl (span-split p xs)

span-length : (p : ℕ → Bool) (t : List ℕ) → length t ≡ length (span p t).0 + length (span p t).1
span-length p t = ap length (span-split p t) ∙ length-append (span p t).0 (span p t).1

pub shrinks-span : (p : ℕ → Bool) → Shrinks (span p)
shrinks-span p = record { shrinks = λ t. omega (arith, span-length p t) }

pub shrinks-sees : (p : ℕ → Bool) → Shrinks (sees p)
unfolding sees
shrinks-sees p = record { shrinks = go }
  where
    go : (t : List ℕ) → length (sees p t).1 ≤ length t
    go [] = omega arith
    go (x ∷ xs) = omega arith

pub shrinks-skip : Shrinks skip
unfolding skip
shrinks-skip = record { shrinks = go }
  where
    go : (t : List ℕ) → length (skip t).1 ≤ length t
    go [] = omega arith
    go (x ∷ xs) = omega arith

literal-shrinks-at : (x : ℕ) (xs : List ℕ) (c e : Bool) → the "\"" x ≡ c → the "\\" x ≡ e → ((v : Bool) → length (literal_from xs v).1 ≤ length xs) → length (literal_from (x ∷ xs) false).1 ≤ suc (length xs)
unfolding literal_from onto
literal-shrinks-at x xs true e p q ih = rw (p, literal_from) (omega arith)
literal-shrinks-at x xs false true p q ih = rw (p, q, literal_from) (omega (arith, ih true))
literal-shrinks-at x xs false false p q ih = rw (p, q, literal_from) (omega (arith, ih false))

literal-shrinks : (t : List ℕ) (v : Bool) → length (literal_from t v).1 ≤ length t
unfolding literal_from onto
literal-shrinks [] true = omega arith
literal-shrinks [] false = omega arith
literal-shrinks (x ∷ xs) true = omega (arith, literal-shrinks xs false)
literal-shrinks (x ∷ xs) false = literal-shrinks-at x xs (the "\"" x) (the "\\" x) refl refl (literal-shrinks xs)

pub shrinks-literal : Shrinks literal
unfolding literal
shrinks-literal = record { shrinks = λ t. literal-shrinks t false }

pub ruleset shrink = (shrinks-bind, shrinks-then, shrinks_if, shrinks-ret, shrinks-span, shrinks-sees, shrinks-skip, shrinks-literal)

module _ {S A : Type 0} where
  pub moves-stop : (a : A) → Moves (ret {A = Turn S A} (stop a))
  unfolding ret
  moves-stop a = record { moves = λ s t h. let z : ◌≡◌ {A = ℕ} 0 1 = cc in absurd (omega arith) }

  moves_if : (c : Bool) {r q : Reader (Turn S A)} → Moves r → Moves q → Moves (if_r c r q)
  unfolding if_r
  moves_if true g k = g
  moves_if false g k = k

  moves-bind : {C : Type 0} {m : Reader C} {f : C → Reader (Turn S A)} → Shrinks m → ((a : C) → Moves (f a)) → Moves (m >>= f)
  unfolding ◌>>=◌
  moves-bind {m} {f} M F = record { moves = λ s t h. omega (arith, M.shrinks t, (F (m t).0).moves s (m t).1 h) }

  pub moves-then : {C : Type 0} {m : Reader C} {f : Reader (Turn S A)} → Shrinks m → Moves f → Moves (m >> f)
  unfolding ◌>>◌
  moves-then {m} {f} M F = record { moves = λ s t h. omega (arith, M.shrinks t, F.moves s (m t).1 h) }

  -- A byte was seen and is stepped over
  moves-seen : (p : ℕ → Bool) (r q : Reader (Turn S A)) → Shrinks r → Moves q → Moves (sees p >>= (λ c. if_r c (skip >> r) q))
  unfolding ◌>>=◌ ◌>>◌ sees skip
  moves-seen p r q R Q = record { moves = go }
    where
      at : (s : S) (x : ℕ) (xs : List ℕ) (c : Bool) → (if_r c (skip >> r) q (x ∷ xs)).0 ≡ again s → length (if_r c (skip >> r) q (x ∷ xs)).1 < suc (length xs)
      at s x xs true h = unfold if_r in (omega (arith, R.shrinks xs))
      at s x xs false h = unfold if_r in (Q.moves s (x ∷ xs) h)

      go : (s : S) (t : List ℕ) → (if_r (sees p t).0 (skip >> r) q (sees p t).1).0 ≡ again s → length (if_r (sees p t).0 (skip >> r) q (sees p t).1).1 < length t
      go s [] h = unfold if_r in (Q.moves s [] h)
      go s (x ∷ xs) h = at s x xs (p x) h

module _ (look : Lookup) where
  pub shrinks-reference : Shrinks (reference look)
  unfolding reference
  shrinks-reference = search shrink

  moves-plus : (a : List ℕ) → Moves (plus look a)
  unfolding plus
  moves-plus a = moves-then (shrinks-span line_blank) (moves-seen (the "+") _ _ (shrinks-ret (again a)) (moves-stop a))

  moves-expression : (a : List ℕ) → Moves (expression_round look a)
  unfolding expression_round
  moves-expression a = search (moves-then, moves-bind, moves_if, moves-stop, moves-plus, shrink, shrinks-reference) depth 12

  -- So an expression reads round by round
  pub expression-moving : Moving (expression_round look) (λ a. a)
  expression-moving a a' t h = (moves-expression a).moves a' t h

  shrinks-argument_value : (a : List ℕ × Bool) (n : List ℕ) (m : Bool) → Shrinks (argument_value look a n m)
  unfolding argument_value lang_value block_value
  shrinks-argument_value a n m = search (shrink, shrinks-reference) depth 12

  -- A round that goes on has read something
  has-read : (a a' : List ℕ × Bool) (g n c t : List ℕ) → (argument_value look a n (not (empty g && empty n && empty c)) t).0 ≡ again a' → 0 < length g + length n + length c
  unfolding argument_value same empty if_r ret
  has-read a a' g (x ∷ xs) c t h = omega arith
  has-read a a' (x ∷ xs) [] c t h = omega arith
  has-read a a' [] [] (x ∷ xs) t h = omega arith
  has-read a a' [] [] [] t h = let z : ◌≡◌ {A = ℕ} 0 1 = cc in omega arith

  moves-named : (a a' : List ℕ × Bool) (t t₁ : List ℕ) (g : List ℕ) → length t ≡ length g + length t₁ →
      ((span word >>= λ n. span (either ":" blank) >>= λ c. argument_value look a n (not (empty g && empty n && empty c))) t₁).0 ≡ again a' →
      length ((span word >>= λ n. span (either ":" blank) >>= λ c. argument_value look a n (not (empty g && empty n && empty c))) t₁).1 < length t
  unfolding ◌>>=◌
  moves-named a a' t t₁ g e h =
      let n = (span word t₁).0 in
      let t₂ = (span word t₁).1 in
      let c = (span (either ":" blank) t₂).0 in
      let t₃ = (span (either ":" blank) t₂).1 in
      omega (arith, span-length word t₁, span-length (either ":" blank) t₂, has-read a a' g n c t₃ h, (shrinks-argument_value a n (not (empty g && empty n && empty c))).shrinks t₃)

  moves_argument_at : (a a' : List ℕ × Bool) (t u g : List ℕ) (m : Bool) → length t ≡ length g + length u →
      (if_r m (span word >>= λ n. span (either ":" blank) >>= λ c. argument_value look a n (not (empty g && empty n && empty c))) (ret (stop (arguments a.0 a.1))) u).0 ≡ again a' →
      length (if_r m (span word >>= λ n. span (either ":" blank) >>= λ c. argument_value look a n (not (empty g && empty n && empty c))) (ret (stop (arguments a.0 a.1))) u).1 < length t
  unfolding if_r ret
  moves_argument_at a a' t u g true e h = moves-named a a' t u g e h
  moves_argument_at a a' t u g false e h = let z : ◌≡◌ {A = ℕ} 0 1 = cc in absurd (omega arith)

  sees-rest : (p : ℕ → Bool) (u : List ℕ) → (sees p u).1 ≡ u
  unfolding sees
  sees-rest p [] = refl
  sees-rest p (x ∷ xs) = refl

  pub argument_moving : Moving (argument_round look) (λ a. arguments a.0 a.1)
  unfolding argument_round ◌>>=◌
  argument_moving a a' t h =
      let g = (span (either "," blank) t).0 in
      let u = (span (either "," blank) t).1 in
      moves_argument_at a a' t (sees (but ")") u).1 g (sees (but ")") u).0 (rw sees-rest (span-length (either "," blank) t)) h
