-- Laws of the test load, for every list of pieces.
use Rattle.std.specs.Prelude.{◌≡◌, Bool, true, leb, length, get_or}
use Rattle.std.proofs.Math.Path.{refl}
use Rattle.std.proofs.Common.{sym, ap, ◌∙◌, arith, mul-le-mul_right, mul-add, mul_left_comm, length-append, le-leb}
use mathlib.Core.List.{List, [], ◌∷◌}
use Prim.Native.Nat.{ℕ, zero, suc, ◌+◌, ◌*◌, ◌/◌, ◌%◌, ◌^◌, ◌≤◌}
use Rattle.std.proofs.Math.Nat.{dvd-mul_right, mod-mod_of_dvd, mod-add-mod, mod-add-div, add-mul-mod_self_left}
use Rattle.std.proofs.Math.Arith.{mod-mul}
use Rattle.rules.specs.Reader.{all}
use Rattle.rules.specs.Load.{wrap, next, draw, piece_count, concat, pieces_from, pieces, load}
use Rattle.rules.proofs.Laws.Bool.{and_l, and_r, and_i, true-leb}
use Rattle.rules.proofs.Laws.Texts.{all_append}

-- COUNTS.
pub count-bound : (seed : ℕ) → (1 ≤ piece_count seed) × (piece_count seed ≤ 32)
unfolding piece_count draw
count-bound seed = (omega arith, omega arith)

pub count-pieces : (list : List (List ℕ)) (k s : ℕ) → length (pieces_from list k s) ≡ k
unfolding pieces_from
count-pieces list zero s = refl
count-pieces list (suc k) s = ap suc (count-pieces list k (next s))

-- What holds of each piece of the list, and of nothing, holds of each piece that is drawn.
module _ (p : List ℕ → Bool) (none : p [] ≡ true) where
  at : (l : List (List ℕ)) (i : ℕ) → all p l ≡ true → p (get_or l i []) ≡ true
  unfolding all
  at [] i h = none
  at (x ∷ xs) zero h = and_l (p x) (all p xs) h
  at (x ∷ xs) (suc i) h = at xs i (and_r (p x) (all p xs) h)

  drawn_all : (list : List (List ℕ)) → all p list ≡ true → (k s : ℕ) → all p (pieces_from list k s) ≡ true
  unfolding pieces_from all
  drawn_all list h zero s = refl
  drawn_all list h (suc k) s = and_i (p (get_or list (draw 8 s) [])) (all p (pieces_from list k (next s))) (at list (draw 8 s) h) (drawn_all list h k (next s))

-- LENGTH: so many texts of at most m bytes have at most so many times m bytes, joined.
concat-bound : (m : ℕ) (ps : List (List ℕ)) → all (λ p. leb (length p) m) ps ≡ true → length (concat ps) ≤ length ps * m
unfolding concat all
concat-bound m [] h = omega arith
concat-bound m (p ∷ ps) h =
    let c = all (λ q. leb (length q) m) ps in
    let a = true-leb (length p) m (and_l (leb (length p) m) c h) in
    let b = concat-bound m ps (and_r (leb (length p) m) c h) in
    omega (arith, length-append p (concat ps))

pub load-bound : (list : List (List ℕ)) (seed m : ℕ) → all (λ p. leb (length p) m) list ≡ true → length (load list seed) ≤ 32 * m
unfolding load pieces
load-bound list seed m h =
    let k = piece_count seed in
    let c = concat-bound m (pieces list seed) (drawn_all (λ p. leb (length p) m) (le-leb 0 m (omega arith)) list h k (next seed)) in
    let d : length (pieces list seed) * m ≡ k * m = ap (λ x. x * m) (count-pieces list k (next seed)) in
    omega (arith, mul-le-mul_right m (count-bound seed).1)

-- BYTES: texts of bytes with q, joined, are a text of such bytes.
concat-all : (q : ℕ → Bool) (ps : List (List ℕ)) → all (all q) ps ≡ true → all q (concat ps) ≡ true
unfolding concat all
concat-all q [] h = refl
concat-all q (p ∷ ps) h = all_append q p (concat ps) (and_l (all q p) (all (all q) ps) h) (concat-all q ps (and_r (all q p) (all (all q) ps) h))

pub load-all : (q : ℕ → Bool) (list : List (List ℕ)) (seed : ℕ) → all (all q) list ≡ true → all q (load list seed) ≡ true
unfolding load pieces all
load-all q list seed h = concat-all q (pieces list seed) (drawn_all (all q) refl list h (piece_count seed) (next seed))

-- LOW BITS: the low 21 bits of a state are made from the low 21 bits of the one before, and a draw below 32 is bits 16 to 20.
unfoldable low : ℕ → ℕ
low s = s % 2 ^ 21

low-wrap : (n : ℕ) → low (wrap n) ≡ low n
unfolding low wrap
low-wrap n = mod-mod_of_dvd (2 ^ 21) n (dvd-mul_right (2 ^ 21) (2 ^ 11))

low-add : (n c : ℕ) → low (n + c) ≡ low (low n + c)
unfolding low
low-add n c = sym (mod-add-mod n (2 ^ 21) c)

low-mul : (a n : ℕ) → low (a * n) ≡ low (a * low n)
unfolding low
low-mul a n =
    let m = 2 ^ 21 in
    let e : a * n ≡ a * (n % m) + m * (a * (n / m)) = ap (λ x. a * x) (sym (mod-add-div n m)) ∙ mul-add a (n % m) (m * (n / m)) ∙ ap (λ x. a * (n % m) + x) (mul_left_comm a m (n / m)) in
    ap (λ x. x % m) e ∙ add-mul-mod_self_left (a * (n % m)) m (a * (n / m))

next_low : (s t : ℕ) → low s ≡ low t → low (next s) ≡ low (next t)
unfolding next
next_low s t h = of s ∙ ap (λ x. low (low (1664525 * x) + 1013904223)) h ∙ sym (of t)
  where
    of : (s : ℕ) → low (next s) ≡ low (low (1664525 * low s) + 1013904223)
    of s = low-wrap (wrap (1664525 * s) + 1013904223) ∙ low-add (wrap (1664525 * s)) 1013904223 ∙ ap (λ x. low (x + 1013904223)) (low-wrap (1664525 * s) ∙ low-mul 1664525 s)

draw-low : (s t : ℕ) → low s ≡ low t → draw 32 s ≡ draw 32 t
unfolding draw low
draw-low s t h =
    let a = next s in
    let b = next t in
    let p : a % 2 ^ 21 ≡ (a / 2 ^ 16 % 32) * 2 ^ 16 + a % 2 ^ 16 = mod-mul a (omega arith) (omega arith) in
    let q : b % 2 ^ 21 ≡ (b / 2 ^ 16 % 32) * 2 ^ 16 + b % 2 ^ 16 = mod-mul b (omega arith) (omega arith) in
    omega (arith, next_low s t h)

draw_eight : (s : ℕ) → draw 8 s ≡ draw 32 s % 8
unfolding draw
draw_eight s = sym (mod-mod_of_dvd 8 (next s / 2 ^ 16) (dvd-mul_right 8 4))

pieces-low : (list : List (List ℕ)) (k s t : ℕ) → low s ≡ low t → pieces_from list k s ≡ pieces_from list k t
unfolding pieces_from
pieces-low list zero s t h = refl
pieces-low list (suc k) s t h =
    let d : draw 8 s ≡ draw 8 t = draw_eight s ∙ ap (λ x. x % 8) (draw-low s t h) ∙ sym (draw_eight t) in
    λ i. get_or list (d i) [] ∷ pieces-low list k (next s) (next t) (next_low s t h) i

pub load_low : (list : List (List ℕ)) (s t : ℕ) → s % 2 ^ 21 ≡ t % 2 ^ 21 → load list s ≡ load list t
unfolding load pieces piece_count low
load_low list s t h = ap concat (ap (λ k. pieces_from list (k + 1) (next s)) (draw-low s t h) ∙ pieces-low list (draw 32 t + 1) (next s) (next t) (next_low s t h))
