-- Every refusal has a number of section 8: answers, limits and files.
use Rattle.std.specs.Prelude.{◌≡◌, Bool, true, false, ◌&&◌, leb}
use Rattle.std.proofs.Math.Path.{refl, ap}
use Rattle.std.proofs.Common.{sym, ◌∙◌}
use mathlib.Core.List.{List, [], ◌∷◌}
use Rattle.std.proofs.Math.Bool.{true≢false}
use Rattle.std.proofs.Math.Option.{Option, none, some}
use Prim.Native.Nat.{ℕ, zero, suc, ◌-◌}
use Rattle.std.proofs.Math.ListN.{length}
use Rattle.rules.specs.Answer.{Answer, refused, accepted, is_refusal, ◌>>=◌, ◌>>◌, check, or_refuse}
use Rattle.rules.specs.Reader.{all}
use Rattle.rules.specs.Run.{Emit, ok, put, fail, and_then, Step, Trace, fin, step, run, emitted, write, limited}
use Rattle.rules.specs.Bytes.{ascii, is_path}
use Rattle.rules.specs.Files.{View, File, absent, folder, file, content_of, fetch, plain, opened}
use Rattle.rules.proofs.Laws.Bool.{and_l, and_r, and_i}

module _ {A : Type 0} where
  unfoldable pub numbered : Answer A → Bool
  numbered (refused k) = is_refusal k
  numbered (accepted a) = true

  pub numbered-accepted : (a : A) → numbered (accepted a) ≡ true
  unfolding numbered
  numbered-accepted a = refl

  pub numbered-or_refuse : (k : ℕ) (x : Option A) → is_refusal k ≡ true → numbered (or_refuse k x) ≡ true
  unfolding or_refuse numbered
  numbered-or_refuse k none h = h
  numbered-or_refuse k (some a) h = refl

  -- An answer with the number 0 is accepted.
  pub zero-accepted : (x : Answer A) → numbered x ≡ true → x ≡ refused 0 → ⊥
  unfolding numbered is_refusal
  zero-accepted x n h = true≢false (sym n ∙ ap numbered h)

pub numbered-check : (k : ℕ) (c : Bool) → is_refusal k ≡ true → numbered (check k c) ≡ true
unfolding check numbered
numbered-check k true h = refl
numbered-check k false h = h

module _ {A B : Type 0} where
  pub numbered-then : (x : Answer A) (y : Answer B) → numbered x ≡ true → numbered y ≡ true → numbered (x >> y) ≡ true
  unfolding ◌>>◌ numbered
  numbered-then (refused k) y n m = n
  numbered-then (accepted a) y n m = m

  pub numbered-bind : (x : Answer A) (f : A → Answer B) → numbered x ≡ true → ((a : A) → numbered (f a) ≡ true) → numbered (x >>= f) ≡ true
  unfolding ◌>>=◌ numbered
  numbered-bind (refused k) f n m = n
  numbered-bind (accepted a) f n m = m a

unfoldable pub numbered_e : Emit → Bool
numbered_e ok = true
numbered_e (put o e) = numbered_e e
numbered_e (fail k) = is_refusal k

pub numbered_e-and_then : (e f : Emit) → numbered_e e ≡ true → numbered_e f ≡ true → numbered_e (and_then e f) ≡ true
unfolding numbered_e and_then
numbered_e-and_then ok f p q = q
numbered_e-and_then (put o e) f p q = numbered_e-and_then e f p q
numbered_e-and_then (fail k) f p q = p

module _ {S : Type 0} where
  unfoldable pub numbered_t : Trace S → Bool
  numbered_t (fin s) = true
  numbered_t (step d t) = numbered_e d.emit && numbered_t t

  numbered_e-emitted : (t : Trace S) → numbered_t t ≡ true → numbered_e (emitted t) ≡ true
  unfolding numbered_t emitted numbered_e
  numbered_e-emitted (fin s) h = refl
  numbered_e-emitted (step d t) h = numbered_e-and_then d.emit (emitted t) (and_l (numbered_e d.emit) (numbered_t t) h) (numbered_e-emitted t (and_r (numbered_e d.emit) (numbered_t t) h))

  pub run-numbered : (f : Step S) → ((s : S) (t : List ℕ) → numbered_e (f s t).0.emit ≡ true) → (t : List ℕ) (s : S) (k : ℕ) → numbered_t (run f s k t) ≡ true
  unfolding run numbered_t
  run-numbered f h [] s k = refl
  run-numbered f h (x ∷ xs) s (suc k) = run-numbered f h xs s k
  run-numbered f h (x ∷ xs) s zero = and_i _ _ (h s (x ∷ xs)) (run-numbered f h xs (f s (x ∷ xs)).0.state (length xs - length (f s (x ∷ xs)).1))

  pub emitted-numbered : (f : Step S) → ((s : S) (t : List ℕ) → numbered_e (f s t).0.emit ≡ true) → (t : List ℕ) (s : S) (k : ℕ) → numbered_e (emitted (run f s k t)) ≡ true
  emitted-numbered f h t s k = numbered_e-emitted (run f s k t) (run-numbered f h t s k)

write-numbered : (full : ℕ) → is_refusal full ≡ true → (e : Emit) (r : ℕ) → numbered_e e ≡ true → numbered (write full r e) ≡ true
unfolding write numbered_e numbered
write-numbered full q ok r h = refl
write-numbered full q (put o e) r h = numbered-then _ _ (numbered-check full (leb (length o) r) q) (numbered-bind (write full (r - length o) e) _ (write-numbered full q e (r - length o) h) (λ p. refl))
write-numbered full q (fail k) r h = h

pub limited-numbered : {S : Type 0} (size : S → ℕ) (L full : ℕ) → is_refusal full ≡ true → (t : Trace S) (r : ℕ) → numbered_t t ≡ true → numbered (limited size L full r t) ≡ true
unfolding limited numbered_t numbered is_refusal
limited-numbered size L full q (fin s) r h = refl
limited-numbered size L full q (step d t) r h =
    numbered-then _ _ (numbered-check 9 (leb (size d.state) L) refl)
    (numbered-bind (write full r d.emit) _ (write-numbered full q d.emit r (and_l (numbered_e d.emit) (numbered_t t) h))
    (λ o. numbered-bind (limited size L full (r - length o) t) _ (limited-numbered size L full q t (r - length o) (and_r (numbered_e d.emit) (numbered_t t) h)) (λ p. refl)))

numbered-content : (x : File) → numbered (content_of x) ≡ true
unfolding content_of numbered is_refusal
numbered-content absent = refl
numbered-content folder = refl
numbered-content (file c) = refl

pub numbered-fetch : (v : View) (p : List ℕ) → numbered (fetch v p) ≡ true
unfolding fetch is_refusal
numbered-fetch v p = numbered-then _ _ (numbered-check _ (is_path p) refl) (numbered-content (v p))

pub numbered-opened : (v : View) (p : List ℕ) → numbered (opened v p) ≡ true
unfolding opened plain is_refusal
numbered-opened v p = numbered-bind (fetch v p) plain (numbered-fetch v p) (λ c. numbered-then _ _ (numbered-check _ (all ascii c) refl) (numbered-accepted c))
