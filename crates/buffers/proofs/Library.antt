-- What the library's methods leave in a slice, as stores.
use Rattle.std.specs.Prelude.{◌≡◌, refl, List, ℕ, ◌-◌, ◌≤◌, length, take, drop}
use Rattle.std.proofs.Common.{arith, append-nil, length-drop, length-take-le, drop_of_length-le}
use Rattle.std.proofs.Math.ListN.{replicate}
use borrow.Rule.Slice.PartMut.{put_mid}
use Rattle.rules.specs.Calls.{zeros, padded}

module _ (b : List ℕ) where
  -- `fill` of all from a place on.
  pub cleared : (from : ℕ) {k : ℕ} {y : List ℕ} → from ≤ length b → k ≡ length b - from → y ≡ replicate (length (take (length b - from) (drop from b))) 0 → put_mid from k b y ≡ padded (length b) (take from b)
  unfolding padded zeros
  cleared from {k} {y} h q e =
      let l : length (take from b) ≡ from = length-take-le from b h in
      let m : length (take (length b - from) (drop from b)) ≡ length b - from = length-take-le (length b - from) (drop from b) (omega (arith, length-drop from b)) in
      let z : length (drop from b) ≤ length b - from = omega (arith, length-drop from b) in
      rw (e, l, m, q, drop_of_length-le (drop from b) z, append-nil) refl
