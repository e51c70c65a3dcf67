-- Steps: a whole, unrefused step over a text that ends in newline is the same with more text behind; so a run over a ++ b is
-- the run over a, then the run over b.
use Rattle.std.proofs.Math.Path.{◌≡◌, refl}
use Rattle.std.proofs.Common.{sym, ap, ◌∙◌, true≢false, arith, eqb→eq}
use mathlib.Core.List.{List, [], ◌∷◌, ◌++◌}
use Rattle.std.specs.Prelude.{Bool, not, ◌&&◌}
use Rattle.std.proofs.Math.Bool.{true, false}
use Prim.Native.Char.{Char}
use Prim.Native.Nat.{ℕ, zero, suc, ◌-◌, ◌≤◌}
use Rattle.std.proofs.Math.ListN.{length, length-append}
use Rattle.rules.specs.Reader.{Reader, ret, if_r, ◌>>=◌, ◌>>◌, the, empty, sees, skip, mark}
use Rattle.rules.specs.Run.{unrefused, Did, Step, step, run, all_whole, ends_in_newline}
use Rattle.rules.proofs.Laws.Bool.{and_l, and_r}
use Rattle.rules.proofs.Laws.Limit.{join_runs}
use Rattle.rules.proofs.Laws.Read.{Some, newline-tail, Good, Line, good-ret, good_if, good-bind, good-then, good-skip, good-span, good-literal, line-sees, line-mark, inline}

pub good-sees : (p : ℕ → Bool) → Good (sees p)
good-sees p = (line-sees p).good

pub good-mark : (m : List ℕ) → inline m ≡ true → Good (mark m)
good-mark m i = (line-mark m i).good

pub ruleset goods = (good-bind, good-then, good_if, good-ret, good-skip, good-span, good-sees, good-literal)

-- THE LAW of a step.
pub record Steps {S : Type 0} (r : Reader (Did S)) : Type 0 where
  pub steps : (t b : List ℕ) → ends_in_newline t ≡ true → Some t → (r t).0.whole ≡ true → unrefused (r t).0.emit ≡ true → r (t ++ b) ≡ ((r t).0, (r t).1 ++ b)

module _ {S : Type 0} where
  pub steps-ret : (d : Did S) → Steps (ret d)
  unfolding ret
  steps-ret d = record { steps = λ t b e k w o. refl }

  pub steps-skip : (d : Did S) → Steps (skip >> ret d)
  unfolding ret ◌>>◌ skip
  steps-skip d = record { steps = go }
    where
      go : (t b : List ℕ) → ends_in_newline t ≡ true → Some t → d.whole ≡ true → unrefused d.emit ≡ true → ◌≡◌ {A = Did S × List ℕ} (d, (skip (t ++ b)).1) (d, (skip t).1 ++ b)
      go [] b e k w o = absurd k
      go (x ∷ xs) b e k w o = refl

  pub steps_if : (c : Bool) {r q : Reader (Did S)} → Steps r → Steps q → Steps (if_r c r q)
  unfolding if_r
  steps_if true g k = g
  steps_if false g k = k

  pub steps-bind : {A : Type 0} {m : Reader A} {f : A → Reader (Did S)} → Line m → ((a : A) → Steps (f a)) → Steps (m >>= f)
  unfolding ◌>>=◌
  steps-bind {m} {f} M F = record {
    steps = λ t b e k w o.
        rw (M.good.local t b e (M.some t e k)) ((F (m t).0).steps (m t).1 b (M.good.ends t e) (M.some t e k) w o);
  }

  pub steps_then : {A : Type 0} {m : Reader A} {f : Reader (Did S)} → Line m → Steps f → Steps (m >> f)
  unfolding ◌>>◌
  steps_then {m} {f} M F = record {
    steps = λ t b e k w o.
        rw (M.good.local t b e (M.some t e k)) (F.steps (m t).1 b (M.good.ends t e) (M.some t e k) w o);
  }

-- A run over a ++ b.
module _ {S : Type 0} (f : Step S) (local : (s : S) → Steps (f s)) where
  pub run-append : (a b : List ℕ) (s : S) (k : ℕ) → k ≤ length a → ends_in_newline a ≡ true → all_whole (run f s k a) ≡ true →
      run f s k (a ++ b) ≡ join_runs (run f s k a) (λ s'. run f s' 0 b)
  unfolding run join_runs all_whole
  run-append [] b s zero h e c = refl
  run-append [] b s (suc k) h e c = absurd (omega arith)
  run-append (x ∷ xs) b s (suc k) h e c = run-append xs b s k (omega arith) (newline-tail x xs e) c
  run-append (x ∷ xs) b s zero h e c =
      let d = (f s (x ∷ xs)).0 in
      let r = (f s (x ∷ xs)).1 in
      let t = run f d.state (length xs - length r) xs in
      let wo : (d.whole && unrefused d.emit) ≡ true = and_l _ (all_whole t) c in
      let w : d.whole ≡ true = and_l _ (unrefused d.emit) wo in
      let o : unrefused d.emit ≡ true = and_r d.whole _ wo in
      let k' : length (xs ++ b) - length (r ++ b) ≡ length xs - length r = simp length-append (omega arith) in
      let ih = run-append xs b d.state (length xs - length r) (omega arith) (newline-tail x xs e) (and_r (d.whole && unrefused d.emit) _ c) in
      rw ((local s).steps (x ∷ xs) b e tt w o) (rw k' (ap (step d) ih))

-- Behind a byte that is no newline, in a text that ends in newline, there is something.
pub behind : (c : Char) (x : ℕ) (xs : List ℕ) → the c 10 ≡ false → ends_in_newline (x ∷ xs) ≡ true → the c x ≡ true → Some xs
unfolding ends_in_newline
behind c x [] n e h =
    let u : x ≡ 10 = eqb→eq x 10 (rw e tt) in
    let v : the c 10 ≡ true = ap (the c) (sym u) ∙ h in
    absurd (true≢false (sym v ∙ n))
behind c x (y ∷ ys) n e h = tt

-- Where q holds of what was read, something is left; the same for a text with something in it.
pub record Sure {A : Type 0} (q : A → Bool) (r : Reader A) : Type 0 where
  pub sure : (t : List ℕ) → ends_in_newline t ≡ true → q (r t).0 ≡ true → Some (r t).1

pub record SureIn {A : Type 0} (q : A → Bool) (r : Reader A) : Type 0 where
  pub sure : (t : List ℕ) → ends_in_newline t ≡ true → Some t → q (r t).0 ≡ true → Some (r t).1

module _ {A : Type 0} (q : A → Bool) where
  pub sure-no : (a : A) → q a ≡ false → Sure q (ret a)
  unfolding ret
  sure-no a h = record { sure = λ t e k. absurd (true≢false (sym k ∙ h)) }

  pub sure_if : (c : Bool) {r p : Reader A} → Sure q r → Sure q p → Sure q (if_r c r p)
  unfolding if_r
  sure_if true g k = g
  sure_if false g k = k

  pub sure-bind : {C : Type 0} {m : Reader C} {f : C → Reader A} → Good m → ((a : C) → Sure q (f a)) → Sure q (m >>= f)
  unfolding ◌>>=◌
  sure-bind {m} M F = record { sure = λ t e h. (F (m t).0).sure (m t).1 (M.ends t e) h }

  pub sure-then : {C : Type 0} {m : Reader C} {f : Reader A} → Good m → Sure q f → Sure q (m >> f)
  unfolding ◌>>◌
  sure-then {m} M F = record { sure = λ t e h. F.sure (m t).1 (M.ends t e) h }

  pub sure-map : {C : Type 0} (p : C → Bool) {m : Reader C} (f : C → A) → ((c : C) → q (f c) ≡ true → p c ≡ true) → Sure p m → Sure q (m >>= (λ c. ret (f c)))
  unfolding ◌>>=◌ ret
  sure-map p {m} f h M = record { sure = λ t e k. M.sure t e (h (m t).0 k) }

  -- Reading ends on its own byte c.
  pub sure_close : (c : Char) (f : Bool → A) → the c 10 ≡ false → q (f false) ≡ false → Sure q (sees (the c) >>= (λ e. skip >> ret (f e)))
  unfolding ◌>>=◌ ◌>>◌ ret sees skip
  sure_close c f n z = record { sure = go }
    where
      at : (x : ℕ) (xs : List ℕ) (v : Bool) → the c x ≡ v → ends_in_newline (x ∷ xs) ≡ true → q (f v) ≡ true → Some xs
      at x xs true p e h = behind c x xs n e p
      at x xs false p e h = absurd (true≢false (sym h ∙ z))

      go : (t : List ℕ) → ends_in_newline t ≡ true → q (f (sees (the c) t).0) ≡ true → Some (skip (sees (the c) t).1).1
      go [] e h = absurd (true≢false (sym h ∙ z))
      go (x ∷ xs) e h = at x xs (the c x) refl e h

  pub surein-sure : {r : Reader A} → Sure q r → SureIn q r
  surein-sure R = record { sure = λ t e k h. R.sure t e h }

  pub surein-ret : (a : A) → SureIn q (ret a)
  unfolding ret
  surein-ret a = record { sure = λ t e k h. k }

  pub surein_if : (c : Bool) {r p : Reader A} → SureIn q r → SureIn q p → SureIn q (if_r c r p)
  unfolding if_r
  surein_if true g k = g
  surein_if false g k = k

  pub surein-bind : {C : Type 0} {m : Reader C} {f : C → Reader A} → Line m → ((a : C) → SureIn q (f a)) → SureIn q (m >>= f)
  unfolding ◌>>=◌
  surein-bind {m} {f} M F = record { sure = λ t e k h. (F (m t).0).sure (m t).1 (M.good.ends t e) (M.some t e k) h }

  pub surein-then : {C : Type 0} {m : Reader C} {f : Reader A} → Line m → SureIn q f → SureIn q (m >> f)
  unfolding ◌>>◌
  surein-then {m} {f} M F = record { sure = λ t e k h. F.sure (m t).1 (M.good.ends t e) (M.some t e k) h }

  -- Over the byte c, if it is there.
  pub sure-over : (c : Char) (r p : Reader A) → the c 10 ≡ false → SureIn q r → Sure q p → Sure q (sees (the c) >>= (λ e. if_r e (skip >> r) p))
  unfolding ◌>>=◌ ◌>>◌ sees skip
  sure-over c r p n R P = record { sure = go }
    where
      at : (x : ℕ) (xs : List ℕ) (v : Bool) → the c x ≡ v → ends_in_newline (x ∷ xs) ≡ true → q (if_r v (skip >> r) p (x ∷ xs)).0 ≡ true → Some (if_r v (skip >> r) p (x ∷ xs)).1
      at x xs true w e h = unfold if_r in (R.sure xs (newline-tail x xs e) (behind c x xs n e w) h)
      at x xs false w e h = unfold if_r in (P.sure (x ∷ xs) e h)

      go : (t : List ℕ) → ends_in_newline t ≡ true → q (if_r (sees (the c) t).0 (skip >> r) p (sees (the c) t).1).0 ≡ true → Some (if_r (sees (the c) t).0 (skip >> r) p (sees (the c) t).1).1
      go [] e h = unfold if_r in (P.sure [] e h)
      go (x ∷ xs) e h = at x xs (the c x) refl e h

pub some-not : (u : List ℕ) → not (empty u) ≡ true → Some u
unfolding empty
some-not [] h = true≢false (sym h)
some-not (x ∷ xs) h = tt

pub empty-append : (u b : List ℕ) → Some u → empty (u ++ b) ≡ empty u
unfolding empty
empty-append [] b h = absurd h
empty-append (x ∷ xs) b h = refl
