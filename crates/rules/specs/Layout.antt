-- Layouts: reading bytes that may break a rule (the notation of the bundle and of the sheet).
use Rattle.std.specs.Prelude.{Bool, true, false, not, List, [], ◌∷◌, ℕ, zero, suc, ◌+◌, ◌*◌, ◌/◌, ◌%◌, ◌^◌, eqb, length}
use Rattle.std.proofs.Math.Option.{Option, none, some}
use Rattle.rules.specs.Reader.{empty}

-- What is read and the bytes behind it, or none where the layout is broken.
abbrev pub Parser : Type 0 → Type 0
Parser A = List ℕ → Option (A × List ℕ)

module _ {A B : Type 0} where
  unfoldable pub bind : Option A → (A → Option B) → Option B
  bind none f = none
  bind (some a) f = f a

module _ {A B : Type 0} where
  infixl 20 ◌>>=◌
  unfoldable pub ◌>>=◌ : Parser A → (A → Parser B) → Parser B
  ◌>>=◌ m f = λ b. bind (m b) (λ r. f r.0 r.1)

  infixl 20 ◌>>◌
  unfoldable pub ◌>>◌ : Parser A → Parser B → Parser B
  ◌>>◌ m f = λ b. bind (m b) (λ r. f r.1)

module _ {A : Type 0} where
  unfoldable pub pure : A → Parser A
  pure a = λ b. some (a, b)

  unfoldable pub broken : Parser A
  broken b = none

-- The layout is broken unless the test holds.
unfoldable pub require : Bool → Parser (Unit {0})
require true = pure tt
require false = broken

-- Is bit k of the map byte m set.
unfoldable pub bit : ℕ → ℕ → Bool
bit k m = eqb (m / 2 ^ k % 2) 1

-- How many bytes are left.
unfoldable pub remaining : Parser ℕ
remaining b = some (length b, b)

unfoldable pub byte : Parser ℕ
byte [] = none
byte (x ∷ b) = some (x, b)

-- 16 bits, low byte first.
unfoldable pub word16 : Parser ℕ
word16 = do
  low ← byte
  high ← byte
  pure (low + 256 * high)

-- The next n bytes.
unfoldable pub take_bytes : ℕ → Parser (List ℕ)
take_bytes zero = pure []
take_bytes (suc n) = do
  x ← byte
  xs ← take_bytes n
  pure (x ∷ xs)

-- A field: its length, 1 or more, then its bytes.
unfoldable pub field : Parser ℕ → Parser (List ℕ)
field len = do
  n ← len
  t ← take_bytes n
  require (not (empty t))
  pure t

-- A field that a bit names; unset means empty.
unfoldable pub field_if : Bool → Parser ℕ → Parser (List ℕ)
field_if true len = field len
field_if false len = pure []

-- The parser n times.
unfoldable pub times : {A : Type 0} → ℕ → Parser A → Parser (List A)
times zero p = pure []
times (suc n) p = do
  x ← p
  xs ← times n p
  pure (x ∷ xs)
