-- What is lent behind a limit comes back as o; what stands before it is as it was. docs/PROVING.md names these laws.
use Rattle.std.specs.Prelude.{◌≡◌, List, ◌++◌, ℕ, ◌+◌, ◌-◌, ◌≤◌, length, take, drop}
use Rattle.std.proofs.Common.{◌∙◌, ap, arith, length-append, length-drop, length-take-le, take-take}
use Rattle.std.proofs.lemmas.List.{take-append-le}
use Rattle.scan.specs.Laws.{tail-part}

module _ (limit : ℕ) (c o : List ℕ) (f : limit ≤ length c) (e : length o ≡ length (take (length c - limit) (drop limit c))) where
  abbrev pub lent : List ℕ
  lent = take limit c ++ (o ++ drop (length c - limit) (drop limit c))

  pub lent-size : length lent ≡ length c
  lent-size =
      length-append (take limit c) (o ++ drop (length c - limit) (drop limit c))
      ∙ omega (arith, length-take-le limit c f, length-append o (drop (length c - limit) (drop limit c)), e, ap length (tail-part c limit), length-drop (length c - limit) (drop limit c), length-drop limit c)

  pub lent-first : (n : ℕ) → n ≤ limit → take n lent ≡ take n c
  lent-first n h = take-append-le n (take limit c) (o ++ drop (length c - limit) (drop limit c)) (omega (arith, length-take-le limit c f)) ∙ take-take n limit c h
