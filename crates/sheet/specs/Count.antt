-- How many records a walk gives.
use Rattle.std.specs.Prelude.{◌≡◌, List, [], ◌∷◌, ℕ, length, None}
use Rattle.std.specs.Iterator.{Yields, Drains}
use Rattle.std.proofs.Common.{sym, ap, arith}
use Rattle.rules.specs.Sheet.{Records, count}
use Rattle.sheet.specs.Walk.{WalksOver, Walks}
use Rattle.sheet.specs.declared.head.Item.{Item}
use Rattle.sheet.specs.declared.lookup.Walk.{Walk}

module _ {s : List ℕ} {e : ℕ} where
  yields-count : (xs : List (ℕ × Item)) {w : Walk} (t u : Walk) {r : Records} → WalksOver w s e r → Yields Walks w xs t → Walks t None u → length xs ≡ count r
  unfolding Walks count
  yields-count [] t u k y z = sym (ap count (z _ _ _ (rw y at k)))
  yields-count (x ∷ xs) t u k y z = let m = y.1 _ _ _ k in omega (arith, ap count m.is, yields-count xs t u m.over y.2 z)

  -- As many as it has left.
  pub drains-count : {w : Walk} {r : Records} → WalksOver w s e r → (xs : List (ℕ × Item)) → Drains Walks w xs → length xs ≡ count r
  drains-count k xs d = yields-count xs d.1.0 d.0 k d.1.1 d.1.2
