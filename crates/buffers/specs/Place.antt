-- A place behind n more bytes, cut one past the room. `within` answers none there; docs/PROVING.md names the law.
use Rattle.std.specs.Prelude.{◌≡◌, ℕ, ◌+◌, min}
use native.Mathlib.Omega.{arith}

unfoldable pub after : ℕ → ℕ → ℕ → ℕ
after room p n = min (p + n) (room + 1)

-- What was measured from 0, and is added at p, is the same as if it had not been cut at the room.
pub after-measured : (room p n : ℕ) → after room p (after room 0 n) ≡ after room p n
unfolding after
after-measured room p n = omega arith
