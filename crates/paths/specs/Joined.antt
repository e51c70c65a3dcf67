-- Joining a path to a folder.
use Rattle.std.specs.Prelude.{◌≡◌, refl, List, [], ◌∷◌, ◌++◌, ℕ, ◌+◌, ◌≤◌, ◌<◌, Option, None, Some, length, take}
use Rattle.std.proofs.Common.{ap, ◌∙◌, append_assoc, length-append, length-take-le, arith}
use Rattle.rules.specs.Reader.{empty}
use Rattle.rules.specs.Bytes.{join}
use Rattle.paths.specs.declared.path.Path.{Path}

-- The bytes of a path.
abbrev pub text : Path → List ℕ
text p = take p.len p.bytes

-- More is put behind a path, where that stays within 255 bytes.
abbrev pub Pushed : Path → List ℕ → Path → Option Unit → Type 0
Pushed p more q (Some u) = text q ≡ text p ++ more
Pushed p more q None = 255 < length (text p ++ more)

-- A path q is another one, p, joined to a folder g, where that has at most 255 bytes.
abbrev pub JoinsIn : List ℕ → List ℕ → Path → Option Unit → Type 0
JoinsIn g p q (Some u) = text q ≡ join g p
JoinsIn g p q None = 255 < length (join g p)

-- A path joined to a folder, where it has at most 255 bytes.
abbrev pub Joins : List ℕ → List ℕ → Option Path → Type 0
Joins g p (Some q) = text q ≡ join g p
Joins g p None = 255 < length (join g p)

pub text-length : (p : Path) → length (text p) ≡ p.len
text-length p = length-take-le p.len p.bytes (omega (arith, p.fits, p.size))

pub text-short : (p : Path) → length (text p) ≤ 255
text-short p = omega (arith, text-length p, p.fits)

-- What stands before the path in a joined one: nothing, or the folder and `/`.
module _ (g p : List ℕ) where
  pub join-top : length g ≡ 0 → p ≡ join g p
  unfolding join empty
  join-top = at g
    where
      at : (g : List ℕ) → length g ≡ 0 → p ≡ join g p
      at [] h = refl
      at (x ∷ xs) h = absurd (omega arith)

  pub join-below : (length g ≡ 0 → ⊥) → (g ++ (47 ∷ [])) ++ p ≡ join g p
  unfolding join empty
  join-below = at g
    where
      at : (g : List ℕ) → (length g ≡ 0 → ⊥) → (g ++ (47 ∷ [])) ++ p ≡ join g p
      at [] h = absurd (h refl)
      at (x ∷ xs) h = append_assoc (x ∷ xs) (47 ∷ []) p

  pub join-length : (length g ≡ 0 → ⊥) → length g + 1 + length p ≡ length (join g p)
  join-length h = omega (arith, ap length (join-below h), length-append (g ++ (47 ∷ [])) p, length-append g (47 ∷ []))

-- A path is put behind what stands before it.
pub joins-pushed : (g p : List ℕ) (a q : Path) → text a ++ p ≡ join g p → (r : Option Unit) → Pushed a p q r → JoinsIn g p q r
joins-pushed g p a q e (Some u) h = h ∙ e
joins-pushed g p a q e None h = rw e at h
