-- A list whose elements are bytes, as the list of a slice is.
use Rattle.std.specs.Prelude.{◌≡◌, refl, true, List, [], ◌∷◌, ℕ, suc, ◌<◌, ltb, get_or}
use Rattle.rules.specs.Reader.{all}
use Rattle.rules.specs.Bytes.{is_byte}
use Rattle.rules.proofs.Laws.Bool.{and_i, ltb-true}

pub all-bytes : (b : List ℕ) → ((i : ℕ) → get_or b i 0 < 256) → all is_byte b ≡ true
unfolding all is_byte
all-bytes [] h = refl
all-bytes (x ∷ b) h = and_i (ltb x 256) (all is_byte b) (ltb-true x 256 (h 0)) (all-bytes b (λ i. h (suc i)))
