-- Every step of the includes obeys the law of steps; the middle text of a closed text is empty or ends in newline, and the run
-- over a closed text ends where a new stretch begins.
use Rattle.std.specs.Prelude.{◌≡◌, Bool, false, ◌&&◌}
use Rattle.std.proofs.Math.Path.{refl, ap}
use Rattle.std.proofs.Common.{sym, ◌∙◌, true≢false, arith, eqb→eq}
use mathlib.Core.List.{List, [], ◌∷◌, ◌++◌, append-nil}
use Rattle.std.proofs.Math.Bool.{true}
use Prim.Native.Nat.{ℕ, zero, suc, ◌-◌, ◌≤◌, ◌<◌}
use Rattle.std.proofs.Math.Decide.{dec_le}
use Rattle.std.proofs.Math.ListN.{length}
use Rattle.rules.specs.Answer.{Answer, refused, accepted}
use Rattle.rules.specs.Reader.{Reader, ret, if_r, ◌>>=◌, bytes, the, but, prefix, mark}
use Rattle.rules.specs.Run.{Emit, unrefused, pieces, Did, Step, run, all_whole, written, final, ends_in_newline}
use Rattle.rules.specs.Bytes.{blank}
use Rattle.rules.specs.Files.{View}
use Rattle.rules.specs.Includes.{Quoted, unquoted, quoted, quoted_if, quote, Source, no_paren, no_path, no_language, source, with_language, with_path, source_arguments, over_paren, to_newline, behind_source, last_newline, fenced, wrote, copy_byte, include_of, include_mark, source_text, source_of, source_mark, include_step, inside_file, includes}
use Rattle.rules.proofs.Laws.Bool.{and_l, and_r}
use Rattle.rules.proofs.Laws.Limit.{join_runs}
use Rattle.rules.proofs.Laws.Read.{Some, newline-tail, Good, Line, good-skip, good-span, line-mark, inline}
use Rattle.rules.proofs.Laws.Steps.{goods, good-sees, Steps, steps-ret, steps_if, steps-bind, run-append, Sure, sure-no, sure_if, sure-bind, sure-then, sure-map, sure_close, some-not, empty-append}

unfoldable is_quoted : Quoted → Bool
is_quoted unquoted = false
is_quoted (quoted p) = true

unfoldable is_source : Source → Bool
is_source no_paren = false
is_source no_path = false
is_source (no_language p) = false
is_source (source p l) = true

good-quote : Good quote
unfolding quote
good-quote = search goods depth 12

sure-quote : Sure is_quoted quote
unfolding quote is_quoted quoted_if the
sure-quote = sure-then is_quoted (good-span (but "\"")) (sure-then is_quoted good-skip (sure-bind is_quoted (good-span (but "\"")) (λ p. sure_close is_quoted "\"" (λ e. quoted_if e p) refl refl)))

sure-quoted : (t q : List ℕ) → ends_in_newline t ≡ true → (quote t).0 ≡ quoted q → Some (quote t).1
sure-quoted t q e p = sure-quote.sure t e (ap is_quoted p ∙ (unfold is_quoted in refl))

good-with_path : (p : Quoted) → Good (with_path p)
unfolding with_path
good-with_path unquoted = search goods
good-with_path (quoted p) = search (goods, good-quote)

good-source_arguments : Good source_arguments
unfolding source_arguments
good-source_arguments = search (goods, good-quote, good-with_path) depth 12

sure-with_path : (p : Quoted) → Sure is_source (with_path p)
unfolding with_path is_source
sure-with_path unquoted = sure-no is_source no_path refl
sure-with_path (quoted p) = sure-map is_source is_quoted (with_language p) both sure-quote
  where
    both : (c : Quoted) → is_source (with_language p c) ≡ true → is_quoted c ≡ true
    both unquoted h = absurd (true≢false (sym (unfold is_source with_language in h)))
    both (quoted l) h = unfold is_quoted in refl

sure-source_arguments : Sure is_source source_arguments
unfolding source_arguments is_source
sure-source_arguments = sure-then is_source (good-span blank) (sure-bind is_source (good-sees (the "(")) (λ c. sure_if is_source c (sure-then is_source good-skip (sure-bind is_source good-quote sure-with_path)) (sure-no is_source no_paren refl)))

good-to_newline : Good to_newline
unfolding to_newline over_paren
good-to_newline = search goods

behind-append : (u t b : List ℕ) → Some u → behind_source (u ++ b) (t ++ b) ≡ behind_source u t ++ b
unfolding behind_source
behind-append [] t b h = absurd h
behind-append (x ∷ xs) t b h = refl

steps-copy_byte : (h : List ℕ) → Steps (copy_byte h)
unfolding copy_byte
steps-copy_byte h = record { steps = go }
  where
    go : (t b : List ℕ) → ends_in_newline t ≡ true → Some t → (copy_byte h t).0.whole ≡ true → unrefused (copy_byte h t).0.emit ≡ true → copy_byte h (t ++ b) ≡ ((copy_byte h t).0, (copy_byte h t).1 ++ b)
    go [] b e k w o = absurd k
    go (x ∷ xs) b e k w o = refl

module _ (v : View) (inside : List ℕ → List ℕ → Emit) (g : List ℕ) where
  include_at : (t b : List ℕ) (c : Quoted) → (quote t).0 ≡ c → ends_in_newline t ≡ true → (include_of v inside g c (quote t).1 t).0.whole ≡ true →
      include_of v inside g (quote (t ++ b)).0 (quote (t ++ b)).1 (t ++ b) ≡ ((include_of v inside g c (quote t).1 t).0, (include_of v inside g c (quote t).1 t).1 ++ b)
  unfolding include_of wrote
  include_at t b unquoted p e w = absurd (true≢false (sym w))
  include_at t b (quoted q) p e w = rw (good-quote.local t b e (sure-quoted t q e p), p)

  steps_include : Steps (include_mark v inside g)
  unfolding include_mark
  steps_include = record { steps = λ t b e k w o. include_at t b (quote t).0 refl e w }

  source-at : (t b : List ℕ) (c : Source) → (source_arguments t).0 ≡ c → ends_in_newline t ≡ true → (source_of v inside g c (source_arguments t).1 (to_newline t).1 t).0.whole ≡ true →
      source_of v inside g (source_arguments (t ++ b)).0 (source_arguments (t ++ b)).1 (to_newline (t ++ b)).1 (t ++ b) ≡ ((source_of v inside g c (source_arguments t).1 (to_newline t).1 t).0, (source_of v inside g c (source_arguments t).1 (to_newline t).1 t).1 ++ b)
  unfolding source_of wrote
  source-at t b no_paren p e w =
      let k = some-not (source_arguments t).1 w in
      rw (good-source_arguments.local t b e k, p, empty-append (source_arguments t).1 b k)
  source-at t b no_path p e w = absurd (true≢false (sym w))
  source-at t b (no_language q) p e w = absurd (true≢false (sym w))
  source-at t b (source q l) p e w =
      let k = sure-source_arguments.sure t e (ap is_source p ∙ (unfold is_source in refl)) in
      let n = some-not (to_newline t).1 w in
      rw (good-source_arguments.local t b e k, good-to_newline.local t b e n, p, empty-append (to_newline t).1 b n, behind-append (to_newline t).1 t b n)

  steps-source : Steps (source_mark v inside g)
  unfolding source_mark
  steps-source = record { steps = λ t b e k w o. source-at t b (source_arguments t).0 refl e w }

  pub steps-includes : (h : List ℕ) → Steps (include_step v inside g h)
  unfolding include_step inline
  steps-includes h = search (steps-bind, steps_if, steps-ret, line-mark, steps_include, steps-source, steps-copy_byte) depth 12

-- The includes of a ++ b.
pub includes-append : (v : View) (g a b : List ℕ) → ends_in_newline a ≡ true → all_whole (includes v g a) ≡ true →
    includes v g (a ++ b) ≡ join_runs (includes v g a) (λ h. run (include_step v (inside_file v 6) g) h 0 b)
unfolding includes
includes-append v g a b e c = run-append (include_step v (inside_file v 6) g) (steps-includes v (inside_file v 6) g) a b [] 0 (omega arith) e c

-- THE LAST STEP of a closed text.
pub newline-append : (o u : List ℕ) → Some u → ends_in_newline (o ++ u) ≡ ends_in_newline u
unfolding ends_in_newline
newline-append [] u h = refl
newline-append (x ∷ []) (y ∷ ys) h = refl
newline-append (x ∷ z ∷ zs) u h = newline-append (z ∷ zs) u h
newline-append (x ∷ []) [] h = absurd h

some-append : (o u : List ℕ) → Some u → Some (o ++ u)
some-append [] u h = h
some-append (x ∷ xs) u h = tt

nil-length : (u : List ℕ) → length u ≤ 0 → u ≡ []
nil-length [] h = refl
nil-length (x ∷ xs) h = absurd (omega arith)

-- What a step that goes to the end of the text writes and leaves.
record Last (e : Emit) (h : List ℕ) : Type 0 where
  newline : ends_in_newline (pieces e) ≡ true
  something : Some (pieces e)
  clear : h ≡ []

module _ (f : Step (List ℕ)) (alone : (h : List ℕ) → (f h (10 ∷ [])).1 ≡ [])
    (close : (h : List ℕ) (x : ℕ) (xs : List ℕ) → ends_in_newline (x ∷ xs) ≡ true → (f h (x ∷ xs)).0.whole ≡ true → unrefused (f h (x ∷ xs)).0.emit ≡ true → (f h (x ∷ xs)).1 ≡ [] → Last (f h (x ∷ xs)).0.emit (f h (x ∷ xs)).0.state) where
  all_gone : (h : List ℕ) (x : ℕ) (xs : List ℕ) → ends_in_newline (x ∷ xs) ≡ true → length xs ≤ length xs - length (f h (x ∷ xs)).1 → (f h (x ∷ xs)).1 ≡ []
  unfolding ends_in_newline
  all_gone h x [] e l = ap (λ (z : ℕ). (f h (z ∷ [])).1) (eqb→eq x 10 (rw e tt)) ∙ alone h
  all_gone h x (y ∷ ys) e l = nil-length (f h (x ∷ y ∷ ys)).1 (omega arith)

  -- k bytes belong to the step made.
  record Sealed (h : List ℕ) (k : ℕ) (a : List ℕ) : Type 0 where
    newline : ends_in_newline (written (run f h k a)) ≡ true
    something : k < length a → Some (written (run f h k a))
    nothing : length a ≤ k → written (run f h k a) ≡ []
    clear : final (run f h k a) ≡ []

  seal_step : (h : List ℕ) (x : ℕ) (xs : List ℕ) → ends_in_newline (x ∷ xs) ≡ true → (f h (x ∷ xs)).0.whole ≡ true → unrefused (f h (x ∷ xs)).0.emit ≡ true →
      Sealed (f h (x ∷ xs)).0.state (length xs - length (f h (x ∷ xs)).1) xs → Dec (length xs ≤ length xs - length (f h (x ∷ xs)).1) → Sealed h 0 (x ∷ xs)
  unfolding run written final
  seal_step h x xs e w o s (yes l) =
      let c = close h x xs e w o (all_gone h x xs e l) in
      record {
        newline = rw (s.nothing l, append-nil) c.newline;
        something = λ _. rw (s.nothing l, append-nil) c.something;
        nothing = λ z. absurd (omega arith);
        clear = s.clear;
      }
  seal_step h x xs e w o s (no l) =
      let k = s.something (omega arith) in
      record {
        newline = newline-append (pieces (f h (x ∷ xs)).0.emit) _ k ∙ s.newline;
        something = λ _. some-append (pieces (f h (x ∷ xs)).0.emit) _ k;
        nothing = λ z. absurd (omega arith);
        clear = s.clear;
      }

  sealed : (a h : List ℕ) (k : ℕ) → k ≤ length a → ends_in_newline a ≡ true → all_whole (run f h k a) ≡ true → (length a ≤ k → h ≡ []) → Sealed h k a
  unfolding run written final all_whole ends_in_newline
  sealed [] h k l e c z = record { newline = refl; something = λ q. absurd (omega arith); nothing = λ q. refl; clear = z (omega arith) }
  sealed (x ∷ xs) h (suc k) l e c z =
      let s = sealed xs h k (omega arith) (newline-tail x xs e) c (λ q. z (omega arith)) in
      record { newline = s.newline; something = λ q. s.something (omega arith); nothing = λ q. s.nothing (omega arith); clear = s.clear }
  sealed (x ∷ xs) h zero l e c z =
      let d = (f h (x ∷ xs)).0 in
      let r = (f h (x ∷ xs)).1 in
      let t = run f d.state (length xs - length r) xs in
      let wo : (d.whole && unrefused d.emit) ≡ true = and_l _ (all_whole t) c in
      let w : d.whole ≡ true = and_l _ (unrefused d.emit) wo in
      let o : unrefused d.emit ≡ true = and_r d.whole _ wo in
      seal_step h x xs e w o
      (sealed xs d.state (length xs - length r) (omega arith) (newline-tail x xs e) (and_r (d.whole && unrefused d.emit) _ c) (λ q. (close h x xs e w o (all_gone h x xs e q)).clear))
      (dec_le (length xs) (length xs - length r))

-- The law of a step that goes to the end.
record Closes (r : Reader (Did (List ℕ))) : Type 0 where
  closes : (t : List ℕ) → ends_in_newline t ≡ true → Some t → (r t).0.whole ≡ true → unrefused (r t).0.emit ≡ true → (r t).1 ≡ [] → Last (r t).0.emit (r t).0.state

some-nil : {P : Type 0} (u : List ℕ) → Some u → u ≡ [] → P
some-nil [] h z = absurd h
some-nil (x ∷ xs) h z = let q : ◌≡◌ {A = ℕ} 0 1 = cc in absurd (omega arith)

closes-ret : (d : Did (List ℕ)) → Closes (ret d)
unfolding ret
closes-ret d = record { closes = λ t e k w o z. some-nil t k z }

closes_if : (c : Bool) {r q : Reader (Did (List ℕ))} → Closes r → Closes q → Closes (if_r c r q)
unfolding if_r
closes_if true g k = g
closes_if false g k = k

closes-bind : {A : Type 0} {m : Reader A} {f : A → Reader (Did (List ℕ))} → Line m → ((a : A) → Closes (f a)) → Closes (m >>= f)
unfolding ◌>>=◌
closes-bind {m} M F = record { closes = λ t e k w o z. (F (m t).0).closes (m t).1 (M.good.ends t e) (M.some t e k) w o z }

-- A fence ends in newline.
fenced-last : (l : List ℕ) (p : Answer (List ℕ)) → unrefused (fenced l p) ≡ true → Last (fenced l p) []
unfolding fenced unrefused pieces ends_in_newline
fenced-last l (refused k) o = absurd (true≢false (sym o))
fenced-last l (accepted c) o =
    let n = last_newline c ++ bytes "```\n" in
    let k : Some n = some-append (last_newline c) (bytes "```\n") tt in
    let m : Some (bytes "\n" ++ (c ++ n)) = tt in
    let e : ends_in_newline (bytes "```" ++ (l ++ (bytes "\n" ++ (c ++ n)))) ≡ true =
    newline-append (bytes "```") (l ++ (bytes "\n" ++ (c ++ n))) (some-append l _ m) ∙ newline-append l (bytes "\n" ++ (c ++ n)) m
    ∙ newline-append (bytes "\n") (c ++ n) (some-append c n k) ∙ newline-append c n k ∙ newline-append (last_newline c) (bytes "```\n") tt in
    record { newline = rw append-nil e; something = tt; clear = refl }

closes-copy_byte : (h : List ℕ) → Closes (copy_byte h)
unfolding copy_byte ends_in_newline pieces the
closes-copy_byte h = record { closes = go }
  where
    go : (t : List ℕ) → ends_in_newline t ≡ true → Some t → (copy_byte h t).0.whole ≡ true → unrefused (copy_byte h t).0.emit ≡ true → (copy_byte h t).1 ≡ [] → Last (copy_byte h t).0.emit (copy_byte h t).0.state
    go [] e k w o z = absurd k
    go (x ∷ []) e k w o z =
        let q : x ≡ 10 = eqb→eq x 10 (rw e tt) in
        rw q (record { newline = refl; something = tt; clear = refl })
    go (x ∷ y ∷ ys) e k w o z = some-nil (y ∷ ys) tt z

module _ (v : View) (inside : List ℕ → List ℕ → Emit) (g : List ℕ) where
  include_last : (t : List ℕ) (c : Quoted) → (quote t).0 ≡ c → ends_in_newline t ≡ true → Some t → (include_of v inside g c (quote t).1 t).0.whole ≡ true → (include_of v inside g c (quote t).1 t).1 ≡ [] →
      Last (include_of v inside g c (quote t).1 t).0.emit (include_of v inside g c (quote t).1 t).0.state
  unfolding include_of wrote
  include_last t unquoted p e k w z = absurd (true≢false (sym w))
  include_last t (quoted q) p e k w z = some-nil (quote t).1 (sure-quoted t q e p) z

  closes_include : Closes (include_mark v inside g)
  unfolding include_mark
  closes_include = record { closes = λ t e k w o z. include_last t (quote t).0 refl e k w z }

  source-last : (t : List ℕ) (c : Source) → Some t → (source_of v inside g c (source_arguments t).1 (to_newline t).1 t).0.whole ≡ true → unrefused (source_of v inside g c (source_arguments t).1 (to_newline t).1 t).0.emit ≡ true → (source_of v inside g c (source_arguments t).1 (to_newline t).1 t).1 ≡ [] →
      Last (source_of v inside g c (source_arguments t).1 (to_newline t).1 t).0.emit (source_of v inside g c (source_arguments t).1 (to_newline t).1 t).0.state
  unfolding source_of wrote
  source-last t no_paren k w o z = some-nil t k z
  source-last t no_path k w o z = absurd (true≢false (sym w))
  source-last t (no_language q) k w o z = absurd (true≢false (sym w))
  source-last t (source q l) k w o z = fenced-last l (source_text v inside g q) o

  closes-source : Closes (source_mark v inside g)
  unfolding source_mark
  closes-source = record { closes = λ t e k w o z. source-last t (source_arguments t).0 k w o z }

  closes-includes : (h : List ℕ) → Closes (include_step v inside g h)
  unfolding include_step inline
  closes-includes h = search (closes-bind, closes_if, closes-ret, line-mark, closes_include, closes-source, closes-copy_byte) depth 12

  include_alone : (h : List ℕ) → (include_step v inside g h (10 ∷ [])).1 ≡ []
  unfolding include_step mark prefix ◌>>=◌ if_r copy_byte
  include_alone h = refl

  run-sealed : (a : List ℕ) → ends_in_newline a ≡ true → all_whole (run (include_step v inside g) [] 0 a) ≡ true →
      (ends_in_newline (written (run (include_step v inside g) [] 0 a)) ≡ true) × (final (run (include_step v inside g) [] 0 a) ≡ [])
  run-sealed a e c =
      let s = sealed (include_step v inside g) include_alone (λ h x xs e₁ w o z. (closes-includes h).closes (x ∷ xs) e₁ tt w o z) a [] 0 (omega arith) e c (λ z. refl) in
      (s.newline, s.clear)

-- A closed text's middle text is empty or ends in newline, and its run ends where a new stretch begins.
pub includes-sealed : (v : View) (g a : List ℕ) → ends_in_newline a ≡ true → all_whole (includes v g a) ≡ true →
    (ends_in_newline (written (includes v g a)) ≡ true) × (final (includes v g a) ≡ [])
unfolding includes
includes-sealed v g a e c = run-sealed v (inside_file v 6) g a e c
