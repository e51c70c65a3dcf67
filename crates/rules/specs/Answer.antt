-- Refusals and acceptance (01, sections 8 and 11: the Rust's `Result` becomes a number in the answer).
use Rattle.std.specs.Prelude.{Bool, true, false, ◌&&◌, List, [], ◌∷◌, ℕ, leb}
use Rattle.std.proofs.Math.Option.{Option, none, some}

-- Refused with a number of section 8, or accepted with a result.
pub data Answer (A : Type 0) : Type 0 where
  refused : ℕ → Answer A
  accepted : A → Answer A

-- The numbers of section 8.
unfoldable pub is_refusal : ℕ → Bool
is_refusal k = leb 1 k && leb k 11

-- `do` notation: the first refusal in reading order is the answer.
module _ {A B : Type 0} where
  infixl 20 ◌>>=◌
  unfoldable pub ◌>>=◌ : Answer A → (A → Answer B) → Answer B
  ◌>>=◌ (refused k) f = refused k
  ◌>>=◌ (accepted a) f = f a

  infixl 20 ◌>>◌
  unfoldable pub ◌>>◌ : Answer A → Answer B → Answer B
  ◌>>◌ (refused k) b = refused k
  ◌>>◌ (accepted a) b = b

-- Refusal k unless the test holds.
unfoldable pub check : ℕ → Bool → Answer (Unit {0})
check k true = accepted tt
check k false = refused k

-- Is there anything; refusal k where there is nothing.
unfoldable pub is_some : {A : Type 0} → Option A → Bool
is_some none = false
is_some (some a) = true

unfoldable pub or_refuse : {A : Type 0} → ℕ → Option A → Answer A
or_refuse k none = refused k
or_refuse k (some a) = accepted a

-- Rules in order, each with its number and whether it is kept: the number of the first that is broken; 0 where none is.
unfoldable pub first_broken : List (ℕ × Bool) → ℕ
first_broken [] = 0
first_broken (r ∷ rs) = elim r.1 [ true ↦ first_broken rs | false ↦ r.0 ]
