-- Readers: what a reader finds inside a text that ends in newline it also finds with more text behind.
use Rattle.std.specs.Prelude.{◌≡◌, Bool, not, ◌&&◌, length, drop, eqb}
use Rattle.std.proofs.Math.Path.{refl, sym, ap}
use Rattle.std.proofs.Common.{◌∙◌, true≢false, arith, length-append}
use mathlib.Core.List.{List, [], ◌∷◌, ◌++◌}
use Rattle.std.proofs.Math.Bool.{true, false}
use Prim.Native.Nat.{ℕ, zero, suc, ◌≤◌}
use Rattle.std.proofs.Math.Dec.{eqb→eq}
use Rattle.rules.specs.Reader.{Reader, ret, if_r, ◌>>=◌, ◌>>◌, the, span, sees, skip, prefix, mark, Turn, again, stop, loop, rounds}
use Rattle.rules.specs.Run.{ends_in_newline}
use Rattle.rules.specs.Strings.{escape, onto, literal_from, literal}
use Rattle.rules.proofs.Laws.Bool.{and_l, and_r}

-- There is a byte.
abbrev pub Some : List ℕ → Type 0
Some [] = ⊥
Some (x ∷ xs) = Unit {0}

pub newline-tail : (x : ℕ) (xs : List ℕ) → ends_in_newline (x ∷ xs) ≡ true → ends_in_newline xs ≡ true
unfolding ends_in_newline
newline-tail x [] h = refl
newline-tail x (y ∷ ys) h = h

-- THE LAW of a reader
pub record Good {A : Type 0} (r : Reader A) : Type 0 where
  pub local : (t b : List ℕ) → ends_in_newline t ≡ true → Some (r t).1 → r (t ++ b) ≡ ((r t).0, (r t).1 ++ b)
  pub ends : (t : List ℕ) → ends_in_newline t ≡ true → ends_in_newline (r t).1 ≡ true
  pub nil : (r []).1 ≡ []

-- the law of a reader that stays within the line
pub record Line {A : Type 0} (r : Reader A) : Type 0 where
  pub good : Good r
  pub some : (t : List ℕ) → ends_in_newline t ≡ true → Some t → Some (r t).1

some_back : {B : Type 0} (g : Reader B) → Good g → (u : List ℕ) → Some (g u).1 → Some u
some_back g G [] h = rw G.nil at h
some_back g G (x ∷ xs) h = tt

module _ {A : Type 0} where
  pub good-ret : (a : A) → Good (ret a)
  unfolding ret
  good-ret a = record { local = λ t b e h. refl; ends = λ t e. e; nil = refl }

  pub good_if : (c : Bool) {r q : Reader A} → Good r → Good q → Good (if_r c r q)
  unfolding if_r
  good_if true g k = g
  good_if false g k = k

module _ {A B : Type 0} where
  pub good-bind : {m : Reader A} {f : A → Reader B} → Good m → ((a : A) → Good (f a)) → Good (m >>= f)
  unfolding ◌>>=◌
  good-bind {m} {f} M F = record {
    local = λ t b e h.
        let u = some_back (f (m t).0) (F (m t).0) (m t).1 h in
        rw (M.local t b e u) ((F (m t).0).local (m t).1 b (M.ends t e) h);
    ends = λ t e. (F (m t).0).ends (m t).1 (M.ends t e);
    nil = ap (λ (u : List ℕ). (f (m []).0 u).1) M.nil ∙ (F (m []).0).nil;
  }

  pub good-then : {m : Reader A} {f : Reader B} → Good m → Good f → Good (m >> f)
  unfolding ◌>>◌
  good-then {m} {f} M F = record {
    local = λ t b e h.
        let u = some_back f F (m t).1 h in
        rw (M.local t b e u) (F.local (m t).1 b (M.ends t e) h);
    ends = λ t e. F.ends (m t).1 (M.ends t e);
    nil = ap (λ (u : List ℕ). (f u).1) M.nil ∙ F.nil;
  }

module _ (p : ℕ → Bool) where
  span-ends-at : (x : ℕ) (xs : List ℕ) (c : Bool) → p x ≡ c → ends_in_newline (span p xs).1 ≡ true → ends_in_newline (x ∷ xs) ≡ true → ends_in_newline (span p (x ∷ xs)).1 ≡ true
  unfolding span
  span-ends-at x xs true q h e = rw (q, span) h
  span-ends-at x xs false q h e = rw (q, span) e

  span-ends : (t : List ℕ) → ends_in_newline t ≡ true → ends_in_newline (span p t).1 ≡ true
  unfolding span
  span-ends [] e = e
  span-ends (x ∷ xs) e = span-ends-at x xs (p x) refl (span-ends xs (newline-tail x xs e)) e

  span-local-at : (x : ℕ) (xs b : List ℕ) (c : Bool) → p x ≡ c → (Some (span p xs).1 → span p (xs ++ b) ≡ ((span p xs).0, (span p xs).1 ++ b)) → Some (span p (x ∷ xs)).1 →
      span p (x ∷ (xs ++ b)) ≡ ((span p (x ∷ xs)).0, (span p (x ∷ xs)).1 ++ b)
  unfolding span
  span-local-at x xs b true q ih h = rw (q, span) (rw (ih (rw (q, span) at h)) refl)
  span-local-at x xs b false q ih h = rw (q, span) refl

  span-local : (t b : List ℕ) → ends_in_newline t ≡ true → Some (span p t).1 → span p (t ++ b) ≡ ((span p t).0, (span p t).1 ++ b)
  unfolding span
  span-local [] b e h = absurd h
  span-local (x ∷ xs) b e h = span-local-at x xs b (p x) refl (span-local xs b (newline-tail x xs e)) h

  pub good-span : Good (span p)
  unfolding span
  good-span = record { local = span-local; ends = span-ends; nil = refl }

  span-some-at : (x : ℕ) (xs : List ℕ) (c : Bool) → p x ≡ c → (Some xs → Some (span p xs).1) → p 10 ≡ false → ends_in_newline (x ∷ xs) ≡ true → Some (span p (x ∷ xs)).1
  unfolding span ends_in_newline
  span-some-at x [] true q ih n e =
      let h : x ≡ 10 = eqb→eq x 10 (rw e tt) in
      let z : true ≡ false = sym q ∙ ap p h ∙ n in
      absurd (true≢false z)
  span-some-at x (y ∷ ys) true q ih n e = rw (q, span) (ih tt)
  span-some-at x xs false q ih n e = rw (q, span) tt

  span-some : p 10 ≡ false → (t : List ℕ) → ends_in_newline t ≡ true → Some t → Some (span p t).1
  span-some n (x ∷ []) e h = span-some-at x [] (p x) refl (λ k. absurd k) n e
  span-some n (x ∷ y ∷ ys) e h = span-some-at x (y ∷ ys) (p x) refl (λ k. span-some n (y ∷ ys) (newline-tail x (y ∷ ys) e) k) n e
  span-some n [] e h = absurd h

  pub line-span : p 10 ≡ false → Line (span p)
  line-span n = record { good = good-span; some = span-some n }

  pub line-sees : Line (sees p)
  unfolding sees
  line-sees = record { good = record { local = loc; ends = en; nil = refl }; some = so }
    where
      loc : (t b : List ℕ) → ends_in_newline t ≡ true → Some (sees p t).1 → sees p (t ++ b) ≡ ((sees p t).0, (sees p t).1 ++ b)
      loc [] b e h = absurd h
      loc (x ∷ xs) b e h = refl

      en : (t : List ℕ) → ends_in_newline t ≡ true → ends_in_newline (sees p t).1 ≡ true
      en [] e = e
      en (x ∷ xs) e = e

      so : (t : List ℕ) → ends_in_newline t ≡ true → Some t → Some (sees p t).1
      so [] e h = absurd h
      so (x ∷ xs) e h = tt

pub good-skip : Good skip
unfolding skip
good-skip = record { local = loc; ends = en; nil = refl }
  where
    loc : (t b : List ℕ) → ends_in_newline t ≡ true → Some (skip t).1 → skip (t ++ b) ≡ ((skip t).0, (skip t).1 ++ b)
    loc [] b e h = absurd h
    loc (x ∷ xs) b e h = refl

    en : (t : List ℕ) → ends_in_newline t ≡ true → ends_in_newline (skip t).1 ≡ true
    en [] e = e
    en (x ∷ xs) e = newline-tail x xs e

newline-drop : (n : ℕ) (t : List ℕ) → ends_in_newline t ≡ true → ends_in_newline (drop n t) ≡ true
newline-drop zero t e = e
newline-drop (suc n) [] e = e
newline-drop (suc n) (x ∷ xs) e = newline-drop n xs (newline-tail x xs e)

-- a mark holds no newline
unfoldable pub inline : List ℕ → Bool
inline [] = true
inline (c ∷ m) = not (eqb c 10) && inline m

-- a mark without a newline is found, or not found, inside a text that ends in newline
prefix-local : (m : List ℕ) (x : ℕ) (xs b : List ℕ) → inline m ≡ true → ends_in_newline (x ∷ xs) ≡ true → prefix m (x ∷ (xs ++ b)) ≡ prefix m (x ∷ xs)
unfolding prefix inline ends_in_newline
prefix-local [] x xs b i e = refl
prefix-local (c ∷ m) x (y ∷ ys) b i e = ap (λ (z : Bool). eqb c x && z) (prefix-local m y ys b (and_r (not (eqb c 10)) (inline m) i) e)
prefix-local (c ∷ []) x [] b i e = refl
prefix-local (c ∷ d ∷ m) x [] b i e =
    let h : x ≡ 10 = eqb→eq x 10 (rw e tt) in
    let z : not (eqb c 10) ≡ true = and_l (not (eqb c 10)) (inline (d ∷ m)) i in
    rw h (go (eqb c 10) z)
  where
    go : (v : Bool) → not v ≡ true → (v && prefix (d ∷ m) b) ≡ (v && false)
    go true k = absurd (true≢false (sym k))
    go false k = refl

past-local : (m t b : List ℕ) → prefix m t ≡ true → drop (length m) (t ++ b) ≡ drop (length m) t ++ b
unfolding prefix
past-local [] t b h = refl
past-local (c ∷ m) [] b h = absurd (true≢false (sym h))
past-local (c ∷ m) (x ∷ xs) b h = past-local m xs b (and_r (eqb c x) (prefix m xs) h)

past-some : (m t : List ℕ) → prefix m t ≡ true → inline m ≡ true → ends_in_newline t ≡ true → Some t → Some (drop (length m) t)
unfolding prefix inline ends_in_newline
past-some [] t h i e k = k
past-some (c ∷ m) [] h i e k = absurd k
past-some (c ∷ m) (x ∷ y ∷ ys) h i e k = past-some m (y ∷ ys) (and_r (eqb c x) (prefix m (y ∷ ys)) h) (and_r (not (eqb c 10)) (inline m) i) e tt
past-some (c ∷ m) (x ∷ []) h i e k =
    let u : x ≡ 10 = eqb→eq x 10 (rw e tt) in
    let v : c ≡ x = eqb→eq c x (rw (and_l (eqb c x) (prefix m []) h) tt) in
    let w : not (eqb c 10) ≡ true = and_l (not (eqb c 10)) (inline m) i in
    absurd (true≢false (sym w ∙ ap (λ (z : ℕ). not (eqb z 10)) (v ∙ u)))

module _ (m : List ℕ) (i : inline m ≡ true) where
  mark-local-at : (t b : List ℕ) (c : Bool) → prefix m t ≡ c → prefix m (t ++ b) ≡ c → mark m (t ++ b) ≡ ((mark m t).0, (mark m t).1 ++ b)
  unfolding mark
  mark-local-at t b true p q = rw (p, q, mark) (ap (λ (u : List ℕ). (true, u)) (past-local m t b p))
  mark-local-at t b false p q = rw (p, q, mark)

  mark-local : (t b : List ℕ) → ends_in_newline t ≡ true → Some t → mark m (t ++ b) ≡ ((mark m t).0, (mark m t).1 ++ b)
  mark-local [] b e h = absurd h
  mark-local (x ∷ xs) b e h = mark-local-at (x ∷ xs) b (prefix m (x ∷ xs)) refl (prefix-local m x xs b i e)

  mark-rest : (t : List ℕ) (P : List ℕ → Type 0) (c : Bool) → prefix m t ≡ c → (prefix m t ≡ true → P (drop (length m) t)) → P t → P (mark m t).1
  unfolding mark
  mark-rest t P true p h k = rw (p, mark) (h p)
  mark-rest t P false p h k = rw (p, mark) k

  mark-some-back : (t : List ℕ) → Some (mark m t).1 → Some t
  unfolding mark prefix
  mark-some-back [] h = go (prefix m []) refl
    where
      go : (c : Bool) → prefix m [] ≡ c → ⊥
      go true p = drop-nil (length m) (rw (p, mark) at h)
        where
          drop-nil : (n : ℕ) → Some (drop n []) → ⊥
          drop-nil zero k = k
          drop-nil (suc n) k = k
      go false p = rw (p, mark) at h
  mark-some-back (x ∷ xs) h = tt

  drop-nil : (n : ℕ) → drop {A = ℕ} n [] ≡ []
  drop-nil zero = refl
  drop-nil (suc n) = refl

  pub line-mark : Line (mark m)
  line-mark = record {
    good = record {
      local = λ t b e h. mark-local t b e (mark-some-back t h);
      ends = λ t e. mark-rest t (λ u. ends_in_newline u ≡ true) (prefix m t) refl (λ h. newline-drop (length m) t e) e;
      nil = mark-rest [] (λ u. u ≡ []) (prefix m []) refl (λ h. drop-nil (length m)) refl;
    };
    some = λ t e h. mark-rest t Some (prefix m t) refl (λ p. past-some m t p i e h) h;
  }

literal-local-at : (x : ℕ) (xs b : List ℕ) (c d : Bool) → the "\"" x ≡ c → the "\\" x ≡ d →
    ((v : Bool) → Some (literal_from xs v).1 → literal_from (xs ++ b) v ≡ ((literal_from xs v).0, (literal_from xs v).1 ++ b)) →
    Some (literal_from (x ∷ xs) false).1 → literal_from (x ∷ (xs ++ b)) false ≡ ((literal_from (x ∷ xs) false).0, (literal_from (x ∷ xs) false).1 ++ b)
unfolding literal_from onto
literal-local-at x xs b true d p q ih h = rw (p, literal_from)
literal-local-at x xs b false true p q ih h = rw (p, q, literal_from) (ih true (rw (p, q, literal_from) at h))
literal-local-at x xs b false false p q ih h = rw (p, q, literal_from) (ap (onto (x ∷ [])) (ih false (rw (p, q, literal_from) at h)))

literal-local : (t b : List ℕ) (v : Bool) → Some (literal_from t v).1 → literal_from (t ++ b) v ≡ ((literal_from t v).0, (literal_from t v).1 ++ b)
unfolding literal_from onto
literal-local [] b true h = absurd h
literal-local [] b false h = absurd h
literal-local (x ∷ xs) b true h = ap (onto (escape x)) (literal-local xs b false h)
literal-local (x ∷ xs) b false h = literal-local-at x xs b (the "\"" x) (the "\\" x) refl refl (λ v. literal-local xs b v) h

literal-ends-at : (x : ℕ) (xs : List ℕ) (c d : Bool) → the "\"" x ≡ c → the "\\" x ≡ d → ends_in_newline xs ≡ true → ((v : Bool) → ends_in_newline (literal_from xs v).1 ≡ true) → ends_in_newline (literal_from (x ∷ xs) false).1 ≡ true
unfolding literal_from onto
literal-ends-at x xs true d p q e ih = rw (p, literal_from) e
literal-ends-at x xs false true p q e ih = rw (p, q, literal_from) (ih true)
literal-ends-at x xs false false p q e ih = rw (p, q, literal_from) (ih false)

literal-ends : (t : List ℕ) (v : Bool) → ends_in_newline t ≡ true → ends_in_newline (literal_from t v).1 ≡ true
unfolding literal_from onto
literal-ends [] true e = e
literal-ends [] false e = e
literal-ends (x ∷ xs) true e = literal-ends xs false (newline-tail x xs e)
literal-ends (x ∷ xs) false e = literal-ends-at x xs (the "\"" x) (the "\\" x) refl refl (newline-tail x xs e) (λ v. literal-ends xs v (newline-tail x xs e))

pub good-literal : Good literal
unfolding literal literal_from
good-literal = record { local = λ t b e h. literal-local t b false h; ends = λ t e. literal-ends t false e; nil = refl }

module _ {S A : Type 0} (f : S → Reader (Turn S A)) (d : S → A) (F : (s : S) → Good (f s)) where
  loop-nil-at : (n : ℕ) (s : S) (v : Turn S A) → (f s []).0 ≡ v → ((s' : S) → (loop f d n s' []).1 ≡ []) → (loop f d (suc n) s []).1 ≡ []
  unfolding loop
  loop-nil-at n s (again s') p ih = rw (p, loop) (ap (λ (u : List ℕ). (loop f d n s' u).1) (F s).nil ∙ ih s')
  loop-nil-at n s (stop a) p ih = rw (p, loop) (F s).nil

  loop-nil : (n : ℕ) (s : S) → (loop f d n s []).1 ≡ []
  unfolding loop
  loop-nil zero s = refl
  loop-nil (suc n) s = loop-nil-at n s (f s []).0 refl (loop-nil n)

  loop-ends-at : (n : ℕ) (s : S) (t : List ℕ) (v : Turn S A) → (f s t).0 ≡ v → ((s' : S) → ends_in_newline (loop f d n s' (f s t).1).1 ≡ true) → ends_in_newline (f s t).1 ≡ true → ends_in_newline (loop f d (suc n) s t).1 ≡ true
  unfolding loop
  loop-ends-at n s t (again s') p ih e = rw (p, loop) (ih s')
  loop-ends-at n s t (stop a) p ih e = rw (p, loop) e

  loop-ends : (n : ℕ) (s : S) (t : List ℕ) → ends_in_newline t ≡ true → ends_in_newline (loop f d n s t).1 ≡ true
  unfolding loop ends_in_newline
  loop-ends zero s t e = refl
  loop-ends (suc n) s t e = loop-ends-at n s t (f s t).0 refl (λ s'. loop-ends n s' (f s t).1 ((F s).ends t e)) ((F s).ends t e)

  loop-some : (n : ℕ) (s : S) (u : List ℕ) → Some (loop f d n s u).1 → Some u
  loop-some n s [] h = rw (loop-nil n s) at h
  loop-some n s (x ∷ xs) h = tt

  pub loop-again : (n : ℕ) (s s' : S) (t : List ℕ) → (f s t).0 ≡ again s' → loop f d (suc n) s t ≡ loop f d n s' (f s t).1
  unfolding loop
  loop-again n s s' t p = rw (p, loop)

  pub loop-stop : (n : ℕ) (s : S) (a : A) (t : List ℕ) → (f s t).0 ≡ stop a → loop f d (suc n) s t ≡ (a, (f s t).1)
  unfolding loop
  loop-stop n s a t p = rw (p, loop)

  -- more fuel and more text: the same
  loop-local-at : (n m : ℕ) (s : S) (t b : List ℕ) (v : Turn S A) → (f s t).0 ≡ v → ends_in_newline t ≡ true →
      ((s' : S) → Some (loop f d n s' (f s t).1).1 → loop f d m s' ((f s t).1 ++ b) ≡ ((loop f d n s' (f s t).1).0, (loop f d n s' (f s t).1).1 ++ b)) →
      Some (loop f d (suc n) s t).1 → loop f d (suc m) s (t ++ b) ≡ ((loop f d (suc n) s t).0, (loop f d (suc n) s t).1 ++ b)
  loop-local-at n m s t b (again s') p e ih h =
      let k : Some (loop f d n s' (f s t).1).1 = rw (loop-again n s s' t p) at h in
      let l = (F s).local t b e (loop-some n s' (f s t).1 k) in
      loop-again m s s' (t ++ b) (ap (λ z. z.0) l ∙ p) ∙ ap (λ z. loop f d m s' z.1) l ∙ ih s' k ∙ rw (loop-again n s s' t p) refl
  loop-local-at n m s t b (stop a) p e ih h =
      let l = (F s).local t b e (rw (loop-stop n s a t p) at h) in
      loop-stop m s a (t ++ b) (ap (λ z. z.0) l ∙ p) ∙ ap (λ z. (a, z.1)) l ∙ rw (loop-stop n s a t p) refl

  loop-local : (n m : ℕ) (s : S) (t b : List ℕ) → n ≤ m → ends_in_newline t ≡ true → Some (loop f d n s t).1 → loop f d m s (t ++ b) ≡ ((loop f d n s t).0, (loop f d n s t).1 ++ b)
  unfolding loop
  loop-local zero m s t b le e h = absurd h
  loop-local (suc n) zero s t b le e h = absurd (omega arith)
  loop-local (suc n) (suc m) s t b le e h =
      loop-local-at n m s t b (f s t).0 refl e (λ s' k. loop-local n m s' (f s t).1 b (omega arith) ((F s).ends t e) k) h

  more_room : (t b : List ℕ) → suc (length t) ≤ suc (length (t ++ b))
  more_room t b = rw length-append (omega arith)

  pub good-rounds : (s : S) → Good (rounds f d s)
  unfolding rounds
  good-rounds s = record {
    local = λ t b e h. loop-local (suc (length t)) (suc (length (t ++ b))) s t b (more_room t b) e h;
    ends = λ t e. loop-ends (suc (length t)) s t e;
    nil = loop-nil 1 s;
  }
