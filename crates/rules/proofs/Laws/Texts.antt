-- Texts whose bytes all have q: joined, cut, read in part, trimmed.
use Rattle.std.specs.Prelude.{◌≡◌, Bool, ◌&&◌, ℕ, zero, suc, length, drop}
use Rattle.std.proofs.Math.Path.{refl}
use mathlib.Core.List.{List, [], ◌∷◌, ◌++◌}
use Rattle.std.proofs.Math.Bool.{true, false}
use Rattle.rules.specs.Reader.{Reader, ret, ◌>>=◌, ◌>>◌, the, all, empty, prefix, span, sees, skip, mark}
use Rattle.rules.specs.Bytes.{blank, letter, digit, word, name_byte, underscored, trim_end, trim}
use Rattle.rules.proofs.Laws.Bool.{and_l, and_r, and_i, or_l}

pub all_append : {A : Type 0} (q : A → Bool) (a b : List A) → all q a ≡ true → all q b ≡ true → all q (a ++ b) ≡ true
unfolding all
all_append q [] b p r = r
all_append q (x ∷ xs) b p r = and_i (q x) _ (and_l (q x) (all q xs) p) (all_append q xs b (and_r (q x) (all q xs) p) r)

module _ (q : ℕ → Bool) where
  pub all_left : (a b : List ℕ) → all q (a ++ b) ≡ true → all q a ≡ true
  unfolding all
  all_left [] b p = refl
  all_left (x ∷ xs) b p = and_i (q x) _ (and_l (q x) (all q (xs ++ b)) p) (all_left xs b (and_r (q x) (all q (xs ++ b)) p))

  pub all_right : (a b : List ℕ) → all q (a ++ b) ≡ true → all q b ≡ true
  unfolding all
  all_right [] b p = p
  all_right (x ∷ xs) b p = all_right xs b (and_r (q x) (all q (xs ++ b)) p)

  pub all_tail : (x : ℕ) (xs : List ℕ) → all q (x ∷ xs) ≡ true → all q xs ≡ true
  unfolding all
  all_tail x xs p = and_r (q x) (all q xs) p

  all_drop : (n : ℕ) (t : List ℕ) → all q t ≡ true → all q (drop n t) ≡ true
  all_drop zero t e = e
  all_drop (suc n) [] e = e
  all_drop (suc n) (x ∷ xs) e = all_drop n xs (all_tail x xs e)

  -- A stretch and what is behind it; every byte of the stretch has p.
  pub record Spanned (p : ℕ → Bool) (t : List ℕ) : Type 0 where
    pub stretch : all q (span p t).0 ≡ true
    pub rest : all q (span p t).1 ≡ true
    pub each : all p (span p t).0 ≡ true

  span-all-at : (p : ℕ → Bool) (x : ℕ) (xs : List ℕ) (c : Bool) → p x ≡ c → all q (x ∷ xs) ≡ true → Spanned p xs → Spanned p (x ∷ xs)
  unfolding span all
  span-all-at p x xs true h e ih = record {
    stretch = rw (h, span) (and_i (q x) _ (and_l (q x) (all q xs) e) ih.stretch);
    rest = rw (h, span) ih.rest;
    each = rw (h, span) (and_i (p x) _ h ih.each);
  }
  span-all-at p x xs false h e ih = record { stretch = rw (h, span) refl; rest = rw (h, span) e; each = rw (h, span) refl }

  pub span-all : (p : ℕ → Bool) (t : List ℕ) → all q t ≡ true → Spanned p t
  unfolding span all
  span-all p [] e = record { stretch = refl; rest = refl; each = refl }
  span-all p (x ∷ xs) e = span-all-at p x xs (p x) refl e (span-all p xs (all_tail x xs e))

  -- A reader leaves such a text of such a text.
  pub record Clean {A : Type 0} (r : Reader A) : Type 0 where
    pub clean : (t : List ℕ) → all q t ≡ true → all q (r t).1 ≡ true

  pub clean-span : (p : ℕ → Bool) → Clean (span p)
  clean-span p = record { clean = λ t e. (span-all p t e).rest }

  pub clean-sees : (p : ℕ → Bool) → Clean (sees p)
  unfolding sees
  clean-sees p = record { clean = go }
    where
      go : (t : List ℕ) → all q t ≡ true → all q (sees p t).1 ≡ true
      go [] e = e
      go (x ∷ xs) e = e

  pub clean-mark : (m : List ℕ) → Clean (mark m)
  unfolding mark
  clean-mark m = record { clean = λ t e. at t (prefix m t) refl e }
    where
      at : (t : List ℕ) (c : Bool) → prefix m t ≡ c → all q t ≡ true → all q (mark m t).1 ≡ true
      at t true p e = rw (p, mark) (all_drop (length m) t e)
      at t false p e = rw (p, mark) e

  pub clean-skip : Clean skip
  unfolding skip
  clean-skip = record { clean = go }
    where
      go : (t : List ℕ) → all q t ≡ true → all q (skip t).1 ≡ true
      go [] e = e
      go (x ∷ xs) e = all_tail x xs e

  pub clean-ret : {A : Type 0} (a : A) → Clean (ret a)
  unfolding ret
  clean-ret a = record { clean = λ t e. e }

  pub clean-bind : {A C : Type 0} {m : Reader A} {f : A → Reader C} → Clean m → ((a : A) → Clean (f a)) → Clean (m >>= f)
  unfolding ◌>>=◌
  clean-bind {m} {f} M F = record { clean = λ t e. (F (m t).0).clean (m t).1 (M.clean t e) }

  pub clean-then : {A C : Type 0} {m : Reader A} {f : Reader C} → Clean m → Clean f → Clean (m >> f)
  unfolding ◌>>◌
  clean-then {m} {f} M F = record { clean = λ t e. F.clean (m t).1 (M.clean t e) }

  trim_end-all-at : (x : ℕ) (xs : List ℕ) (c : Bool) → (blank x && empty (trim_end xs)) ≡ c → all q (x ∷ xs) ≡ true → all q (trim_end xs) ≡ true → all q (trim_end (x ∷ xs)) ≡ true
  unfolding trim_end all
  trim_end-all-at x xs true h e ih = rw (h, trim_end) refl
  trim_end-all-at x xs false h e ih = rw (h, trim_end) (and_i (q x) _ (and_l (q x) (all q xs) e) ih)

  trim_end-all : (t : List ℕ) → all q t ≡ true → all q (trim_end t) ≡ true
  unfolding trim_end all
  trim_end-all [] e = e
  trim_end-all (x ∷ xs) e = trim_end-all-at x xs (blank x && empty (trim_end xs)) refl e (trim_end-all xs (all_tail x xs e))

  pub trim-all : (t : List ℕ) → all q t ≡ true → all q (trim t) ≡ true
  unfolding trim
  trim-all t e = trim_end-all _ (span-all blank t e).rest

underscored-word : (x : ℕ) (c : Bool) → the "-" x ≡ c → name_byte x ≡ true → word (elim c [ true ↦ 95 | false ↦ x ]) ≡ true
unfolding name_byte
underscored-word x true p h = unfold word letter digit the in refl
underscored-word x false p h = or_l (word x) (the "-" x) h p

-- A name with each `-` made `_` has letters, digits and `_` only.
pub underscored-words : (n : List ℕ) → all name_byte n ≡ true → all word (underscored n) ≡ true
unfolding all underscored
underscored-words [] h = refl
underscored-words (x ∷ xs) h = and_i _ _ (underscored-word x (the "-" x) refl (and_l (name_byte x) (all name_byte xs) h)) (underscored-words xs (and_r (name_byte x) (all name_byte xs) h))
