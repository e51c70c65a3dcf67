-- The slots of a work buffer.
use Rattle.std.specs.Prelude.{◌≡◌, List, ℕ, zero, suc, ◌+◌, ◌-◌, ◌≤◌, length, take}
use Rattle.std.proofs.Math.Path.{refl}
use Rattle.std.proofs.Common.{◌∙◌, arith, length-take-le}

-- What a value with l levels of dictionaries needs: a slot for each level, and one for a text.
unfoldable pub slots : ℕ → ℕ → ℕ
slots limit zero = limit
slots limit (suc l) = limit + slots limit l

-- The work buffer w has room for a value with l levels of dictionaries.
pub record Room (w : List ℕ) (limit l : ℕ) : Type 0 where
  pub fits : slots limit l ≤ length w
  pub most : limit ≤ 65535

-- LAWS. One slot at least.
pub slot_le : (limit l : ℕ) → limit ≤ slots limit l
unfolding slots
slot_le limit zero = omega arith
slot_le limit (suc l) = omega arith

pub slot_more : (limit l : ℕ) → (l ≡ 0 → ⊥) → slots limit l ≡ limit + slots limit (l - 1)
unfolding slots
slot_more limit zero h = absurd (h refl)
slot_more limit (suc l) h = let e : suc l - 1 ≡ l = omega arith in rw e refl

-- The first slot, with room for the own bytes of a text; and room for what a dictionary holds behind it.
module _ {w : List ℕ} {limit l : ℕ} (h : Room w limit l) where
  pub room-slot : limit ≤ length w
  room-slot = omega (arith, slot_le limit l, h.fits)

  pub own-long : {room : ℕ} → room ≡ limit - 3 → length (take room w) ≡ limit - 3
  own-long {room} e = length-take-le room w (omega (arith, room-slot, e)) ∙ e

  pub room-rest : (l ≡ 0 → ⊥) → (p : List ℕ) → length p + limit ≡ length w → {o : List ℕ} → length o ≡ length p → Room o limit (l - 1)
  room-rest k p e g = record { fits = omega (arith, slot_more limit l k, h.fits, e, g); most = h.most }
