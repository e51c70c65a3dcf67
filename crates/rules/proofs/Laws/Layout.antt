-- Laws of layouts: a byte, 16 bits and some bytes, read at a place, and where there are fewer.
use Rattle.std.specs.Prelude.{◌≡◌, refl, List, [], ◌∷◌, false, ℕ, zero, suc, ◌+◌, ◌*◌, ◌≤◌, ◌<◌, length, take, drop, get_or}
use Rattle.std.proofs.Math.Option.{none, some}
use native.Mathlib.Omega.{arith}
use Rattle.std.proofs.Common.{add-one, drop_of_length-le}
use Rattle.std.proofs.Math.Decide.{dec_le}
use Rattle.std.proofs.Math.Seq.{drop-cons}
use Rattle.rules.specs.Reader.{empty}
use Rattle.rules.specs.Layout.{bind, ◌>>=◌, pure, byte, word16, take_bytes}

module _ (b : List ℕ) (i : ℕ) where
  pub byte_at : i < length b → byte (drop i b) ≡ some (get_or b i 0, drop (i + 1) b)
  unfolding byte
  byte_at h = rw (add-one, drop-cons b i 0)

  pub byte-end : length b ≤ i → byte (drop i b) ≡ none
  unfolding byte
  byte-end h = rw (drop_of_length-le b h)

-- 16 bits, low byte first.
module _ (b : List ℕ) (i : ℕ) where
  pub word-at : i + 1 < length b → word16 (drop i b) ≡ some (get_or b i 0 + 256 * get_or b (i + 1) 0, drop (i + 2) b)
  unfolding word16 ◌>>=◌ bind pure
  word-at h = let e : i + 2 ≡ i + 1 + 1 = omega arith in rw (e, byte_at b i (omega arith), byte_at b (i + 1) h)

  pub word_end : length b < i + 2 → word16 (drop i b) ≡ none
  unfolding word16 ◌>>=◌ bind pure
  word_end h = go (dec_le (length b) i)
    where
      go : Dec (length b ≤ i) → word16 (drop i b) ≡ none
      go (yes k) = rw (byte-end b i k)
      go (no k) = rw (byte_at b i (omega arith), byte-end b (i + 1) (omega arith))

-- The next n bytes, and that they are some.
pub takes : (n : ℕ) (t : List ℕ) → n ≤ length t → take_bytes n t ≡ some (take n t, drop n t)
unfolding take_bytes pure ◌>>=◌ bind byte
takes zero t h = refl
takes (suc n) [] h = absurd (omega arith)
takes (suc n) (x ∷ xs) h = rw (takes n xs (omega arith))

pub takes-short : (n : ℕ) (t : List ℕ) → length t < n → take_bytes n t ≡ none
unfolding take_bytes pure ◌>>=◌ bind byte
takes-short zero t h = absurd (omega arith)
takes-short (suc n) [] h = refl
takes-short (suc n) (x ∷ xs) h = rw (takes-short n xs (omega arith))

pub take-some : (n : ℕ) (t : List ℕ) → 0 < n → n ≤ length t → empty (take n t) ≡ false
unfolding empty
take-some zero t h k = absurd (omega arith)
take-some (suc n) [] h k = absurd (omega arith)
take-some (suc n) (x ∷ xs) h k = refl
