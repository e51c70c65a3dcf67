-- Readers: the notation of sections 3 to 7. A reader answers what it reads and the text behind it.
use Rattle.std.specs.Prelude.{Bool, true, false, not, ◌&&◌, ◌||◌, List, [], ◌∷◌, ℕ, zero, suc, eqb, length, drop}
use Prim.Native.Char.{Char, code}
use Prim.Native.String.{String, [] as ε, ◌∷◌ as ◌∷ˢ◌}

-- A text's bytes, for marks and examples: `bytes "#let"`.
abbrev pub bytes : String → List ℕ
bytes ε = []
bytes (c ∷ˢ s) = code c ∷ bytes s

-- Is the byte c; is it another one; is it c or one with p.
unfoldable pub the : Char → ℕ → Bool
the c x = eqb x (code c)

unfoldable pub but : Char → ℕ → Bool
but c x = not (eqb x (code c))

unfoldable pub either : Char → (ℕ → Bool) → ℕ → Bool
either c p x = eqb x (code c) || p x

module _ {A : Type 0} where
  -- Does every element have p.
  unfoldable pub all : (A → Bool) → List A → Bool
  all p [] = true
  all p (x ∷ xs) = p x && all p xs

  unfoldable pub empty : List A → Bool
  empty [] = true
  empty (x ∷ xs) = false

-- Does the text t begin with m.
unfoldable pub prefix : List ℕ → List ℕ → Bool
prefix [] t = true
prefix (c ∷ m) [] = false
prefix (c ∷ m) (x ∷ xs) = eqb c x && prefix m xs

-- Are two texts equal.
unfoldable pub same : List ℕ → List ℕ → Bool
same a b = eqb (length a) (length b) && prefix a b

abbrev pub Reader : Type 0 → Type 0
Reader A = List ℕ → A × List ℕ

module _ {A : Type 0} where
  -- a, and nothing is read.
  unfoldable pub ret : A → Reader A
  ret a = λ t. (a, t)

  unfoldable pub if_r : Bool → Reader A → Reader A → Reader A
  if_r true r q = r
  if_r false r q = q

-- `do` notation: one reader behind the other.
module _ {A B : Type 0} where
  infixl 20 ◌>>=◌
  unfoldable pub ◌>>=◌ : Reader A → (A → Reader B) → Reader B
  ◌>>=◌ m f = λ t. let r = m t in f r.0 r.1

  infixl 20 ◌>>◌
  unfoldable pub ◌>>◌ : Reader A → Reader B → Reader B
  ◌>>◌ m f = λ t. f (m t).1

-- The longest stretch of bytes with p.
unfoldable pub span : (ℕ → Bool) → Reader (List ℕ)
span p [] = ([], [])
span p (x ∷ xs) = elim (p x) [ true ↦ (x ∷ (span p xs).0, (span p xs).1) | false ↦ ([], x ∷ xs) ]

-- Is there a byte, and has it p. Nothing is read.
unfoldable pub sees : (ℕ → Bool) → Reader Bool
sees p [] = (false, [])
sees p (x ∷ xs) = (p x, x ∷ xs)

-- Over one byte, if there is one.
unfoldable pub skip : Reader (Unit {0})
skip [] = (tt, [])
skip (x ∷ xs) = (tt, xs)

-- Over the mark m, if it stands here.
unfoldable pub mark : List ℕ → Reader Bool
mark m t = elim (prefix m t) [ true ↦ (true, drop (length m) t) | false ↦ (false, t) ]

-- Rounds: each goes on with a state, or stops with a result.
pub data Turn (S A : Type 0) : Type 0 where
  again : S → Turn S A
  stop : A → Turn S A

module _ {S A : Type 0} (f : S → Reader (Turn S A)) (d : S → A) where
  -- At most n rounds.
  unfoldable pub loop : ℕ → S → Reader A
  loop zero s t = (d s, [])
  loop (suc n) s t = let r = f s t in elim r.0 [ again s' ↦ loop n s' r.1 | stop a ↦ (a, r.1) ]

  -- As many rounds as it takes: a round that goes on has moved by a byte or more, so the last round of `loop` is never used up.
  unfoldable pub rounds : S → Reader A
  rounds s t = loop (suc (length t)) s t
