-- Stores and moves inside one list. Assumes nothing.
use Rattle.std.specs.Prelude.{◌≡◌, refl, List, [], ◌∷◌, ◌++◌, ℕ, suc, ◌+◌, ◌-◌, ◌≤◌, ◌<◌, length, take, drop, get_or, set}
use Rattle.std.proofs.Common.{sym, ap, ◌∙◌, append_assoc, arith, length-append, take-append-drop, length-take-le, drop-cons, drop-set-lt, take-take, drop-drop, take_at}
use Rattle.std.proofs.lemmas.List.Edits.{sets, sets-eq}
use Rattle.std.proofs.Math.Seq.{length-sets, drop-append-add}
use Rattle.std.proofs.lemmas.List.{take-append-le}
use Rattle.scan.specs.Sets.{part}
use Rattle.scan.specs.Laws.{cut_at}
use Rattle.scan.specs.Laws.{drop-take}
use Rattle.buffers.specs.Laws.{sets-append, sets-before, take-sets}
use Rattle.sheet.specs.Parts.{length-slice, slice-part}

pub slice-take : (a b n : ℕ) (s : List ℕ) → a ≤ b → b ≤ n → part (take n s) a b ≡ part s a b
slice-take a b n s h k = sym (drop-take a b (take n s)) ∙ ap (drop a) (take-take b n s k) ∙ drop-take a b s

-- Stores leave what lies behind them, and what lies before them.
drop-sets : (f i : ℕ) (y l : List ℕ) → i + length y ≤ f → drop f (sets l i y) ≡ drop f l
drop-sets f i [] l h = refl
drop-sets f i (v ∷ y) l h = drop-sets f (suc i) y (set l i v) (omega arith) ∙ drop-set-lt f l i v (omega arith)

slice-below : (f t i : ℕ) (y l : List ℕ) → f ≤ t → t ≤ i → part (sets l i y) f t ≡ part l f t
slice-below f t i y l h k = sym (drop-take f t (sets l i y)) ∙ ap (drop f) (take-sets l i y t k) ∙ drop-take f t l

pub slice-above : (f t i : ℕ) (y l : List ℕ) → i + length y ≤ f → part (sets l i y) f t ≡ part l f t
slice-above f t i y l h = ap (take (t - f)) (drop-sets f i y l h)

-- And what was stored is there.
slice-stored : (p q i : ℕ) (y l : List ℕ) → p ≤ q → q ≤ length y → i + length y ≤ length l → part (sets l i y) (i + p) (i + q) ≡ part y p q
slice-stored p q i y l h k g =
    let z = drop (i + length y) l in
    let u : length (take i l) ≡ i = length-take-le i l (omega arith) in
    let a : sets l i y ≡ take i l ++ (y ++ z) = sets-eq y l i g ∙ append_assoc (take i l) y z in
    let b : drop (i + p) (sets l i y) ≡ drop p (y ++ z) = ap (drop (i + p)) a ∙ ap (λ w. drop (w + p) (take i l ++ (y ++ z))) (sym u) ∙ drop-append-add (take i l) (y ++ z) p in
    let e : i + q - (i + p) ≡ q - p = omega arith in
    let c : part (y ++ z) p q ≡ part y p q = sym (drop-take p q (y ++ z)) ∙ ap (drop p) (take-append-le q y z k) ∙ drop-take p q y in
    rw e (ap (take (q - p)) b ∙ c)

-- The bytes from k to e are moved down to p once those up to m are, and then those from m on.
pub down-further : (s : List ℕ) (p k m e : ℕ) → p ≤ k → k ≤ m → m ≤ e → e ≤ length s
    → sets (sets s p (part s k m)) (p + (m - k)) (part (sets s p (part s k m)) m e) ≡ sets s p (part s k e)
down-further s p k m e g h i j =
    let y = part s k m in
    let l : length y ≡ m - k = length-slice k m s (omega arith) in
    ap (sets (sets s p y) (p + (m - k))) (slice-above m e p y s (omega arith)) ∙ ap (λ z. sets (sets s p y) (p + z) (part s m e)) (sym l) ∙ sets-append s p y (part s m e) ∙ ap (sets s p) (sym (cut_at s k m e h i))

-- The bytes from j to e are moved up by n once those from k on are, and then those up to k.
pub up-further : (s : List ℕ) (n j k e : ℕ) → j ≤ k → k ≤ e → e ≤ length s
    → sets (sets s (k + n) (part s k e)) (j + n) (part (sets s (k + n) (part s k e)) j k) ≡ sets s (j + n) (part s j e)
up-further s n j k e g h i =
    let y = part s j k in
    let l : k + n ≡ j + n + length y = omega (arith, length-slice j k s (omega arith)) in
    ap (sets (sets s (k + n) (part s k e)) (j + n)) (slice-below j k (k + n) (part s k e) s g (omega arith)) ∙ ap (λ z. sets (sets s z (part s k e)) (j + n) y) l ∙ sets-before s (j + n) y (part s k e) ∙ ap (sets s (j + n)) (sym (cut_at s j k e g h))

-- A part of one byte.
part-one : (s : List ℕ) (k : ℕ) → k < length s → part s k (k + 1) ≡ get_or s k 0 ∷ []
part-one s k h =
    let e : k + 1 - k ≡ 1 = omega arith in
    rw (e, drop-cons s k 0) refl

-- Nothing is moved.
pub none-moved : (s : List ℕ) (p k : ℕ) → sets s p (part s k k) ≡ s
none-moved s p k =
    let e : k - k ≡ 0 = omega arith in
    ap (λ z. sets s p (take z (drop k s))) e

-- A byte more is moved down.
pub down-byte : (s : List ℕ) (n k e : ℕ) → n ≤ k → k < e → e ≤ length s
    → sets (set s (k - n) (get_or s k 0)) (k + 1 - n) (part (set s (k - n) (get_or s k 0)) (k + 1) e) ≡ sets s (k - n) (part s k e)
down-byte s n k e g h i =
    let f : k - n + (k + 1 - k) ≡ k + 1 - n = omega arith in
    rw (part-one s k (omega arith), f) at (down-further s (k - n) k (k + 1) e (omega arith) (omega arith) (omega arith) i)

-- A byte more is moved up.
pub up-byte : (s c : List ℕ) (n k e : ℕ) → 0 < k → k ≤ e → e ≤ length s → c ≡ sets s (k + n) (part s k e) → set c (k - 1 + n) (get_or c (k - 1) 0) ≡ sets s (k - 1 + n) (part s (k - 1) e)
up-byte s c n k e z h i q =
    let l : k - 1 < length c = omega (arith, ap length q, length-sets s (k + n) (part s k e)) in
    let f : k - 1 + 1 ≡ k = omega arith in
    ap (sets c (k - 1 + n)) (sym (rw f at (part-one c (k - 1) l))) ∙ rw q (up-further s n (k - 1) k e (omega arith) h i)

-- A part that is stored where it stands.
pub sets-slice : (s : List ℕ) (f t : ℕ) → f ≤ t → t ≤ length s → sets s f (part s f t) ≡ s
sets-slice s f t h k =
    let p = slice-part s f t h k in
    let x = part s f t in
    sets-eq x s f (omega (arith, p.ends, p.inside)) ∙ append_assoc (take f s) x (drop (f + length x) s) ∙ ap (λ z. take f s ++ (x ++ drop z s)) p.ends ∙ ap (λ z. take f s ++ z) (sym p.bytes) ∙ take-append-drop f s

-- What is stored at i, and all that stands before it.
pub take-stored : (b y : List ℕ) (i m : ℕ) → i + length y ≡ m → m ≤ length b → take m (sets b i y) ≡ take i b ++ y
take-stored b y i m e h =
    let z = drop (i + length y) b in
    let u : length (take i b ++ y) ≡ m = rw length-append (omega (arith, length-take-le i b (omega arith))) in
    ap (take m) (sets-eq y b i (omega arith)) ∙ take_at (take i b ++ y) z m u

-- ARRANGING: the bytes from a to b at a place, and the tail from `to` to n behind them.
pub record Arranged (buf : List ℕ) (at a b to n : ℕ) : Type 0 where
  pub on : a ≤ b
  pub own : b ≤ n
  pub tail : to ≤ n
  pub inside : n ≤ length buf
  pub room : at + (b - a) + (n - to) ≤ length buf

module _ {buf : List ℕ} {at a b to n : ℕ} (g : Arranged buf at a b to n) where
  own-long : length (part buf a b) ≡ b - a
  own-long = length-slice a b buf (omega (arith, g.own, g.inside))

  tail-long : length (part buf to n) ≡ n - to
  tail-long = length-slice to n buf g.inside

  -- The bytes first, and then the tail down.
  pub arrange_down : {c d : List ℕ} → at + (b - a) ≤ to → c ≡ sets buf at (part buf a b) → d ≡ sets c (at + (b - a)) (part c to n) → d ≡ sets buf at (part buf a b ++ part buf to n)
  arrange_down {c} {d} h p q =
      let s : part c to n ≡ part buf to n = ap (λ z. part z to n) p ∙ slice-above to n at (part buf a b) buf (omega (arith, own-long)) in
      q ∙ ap (λ z. sets c (at + (b - a)) z) s ∙ ap (λ z. sets z (at + (b - a)) (part buf to n)) p
      ∙ ap (λ z. sets (sets buf at (part buf a b)) (at + z) (part buf to n)) (sym own-long) ∙ sets-append buf at (part buf a b) (part buf to n)

  -- The tail up, and then the bytes, which lie before it.
  module _ {c : List ℕ} (h : to < at + (b - a)) (p : c ≡ sets buf (at + (b - a)) (part buf to n)) where
    both : (v : List ℕ) → v ≡ part buf a b → {d : List ℕ} → d ≡ sets c at v → d ≡ sets buf at (part buf a b ++ part buf to n)
    both v e q =
        q ∙ ap (λ z. sets c at z) e ∙ ap (λ z. sets z at (part buf a b)) (p ∙ ap (λ z. sets buf (at + z) (part buf to n)) (sym own-long)) ∙ sets-before buf at (part buf a b) (part buf to n)

    pub arrange_below : b ≤ to → {d : List ℕ} → d ≡ sets c at (part c a b) → d ≡ sets buf at (part buf a b ++ part buf to n)
    arrange_below k q = both (part c a b) (ap (λ z. part z a b) p ∙ slice-below a b (at + (b - a)) (part buf to n) buf g.on (omega arith)) q

    -- Or in it.
    moved : (x y : ℕ) → to ≤ x → x ≤ y → y ≤ n → part c (x + (at + (b - a) - to)) (y + (at + (b - a) - to)) ≡ part buf x y
    moved x y j k l =
        let e = at + (b - a) in
        let i₁ : x + (e - to) ≡ e + (x - to) = omega arith in
        let i₂ : y + (e - to) ≡ e + (y - to) = omega arith in
        let z : part c (e + (x - to)) (e + (y - to)) ≡ part (part buf to n) (x - to) (y - to) = ap (λ z. part z (e + (x - to)) (e + (y - to))) p ∙ slice-stored (x - to) (y - to) e (part buf to n) buf (omega arith) (omega (arith, tail-long)) (omega (arith, tail-long, g.room)) in
        rw (i₁, i₂) (z ∙ slice-slice x y j k l)
      where
        slice-slice : (x y : ℕ) → to ≤ x → x ≤ y → y ≤ n → part (part buf to n) (x - to) (y - to) ≡ part buf x y
        slice-slice x y j k l =
            let i : to + (x - to) ≡ x = omega arith in
            let m : y - to - (x - to) ≡ y - x = omega arith in
            sym (drop-take (x - to) (y - to) (part buf to n))
            ∙ ap (drop (x - to)) (take-take (y - to) (n - to) (drop to buf) (omega arith))
            ∙ drop-take (x - to) (y - to) (drop to buf)
            ∙ rw (m, drop-drop, i) refl

    pub arrange_above : to ≤ a → {d : List ℕ} → d ≡ sets c at (part c (a + (at + (b - a) - to)) (b + (at + (b - a) - to))) → d ≡ sets buf at (part buf a b ++ part buf to n)
    arrange_above k q = both _ (moved a b k g.on g.own) q

    -- Or on both sides of its start.
    pub arrange_across : a < to → to < b → {d f : List ℕ} → d ≡ sets c at (part c a to) → f ≡ sets d (at + (to - a)) (part d (at + (b - a)) (b + (at + (b - a) - to))) → f ≡ sets buf at (part buf a b ++ part buf to n)
    arrange_across j k {d} {f} q r =
        let e = at + (b - a) in
        let u : part c a to ≡ part buf a to = ap (λ z. part z a to) p ∙ slice-below a to e (part buf to n) buf (omega arith) (omega arith) in
        let w : length (part c a to) ≡ to - a = length-slice a to c (rw p (rw length-sets (omega (arith, g.tail, g.inside)))) in
        let i : to + (e - to) ≡ e = omega arith in
        let v₁ : part d e (b + (e - to)) ≡ part c e (b + (e - to)) = ap (λ z. part z e (b + (e - to))) q ∙ slice-above e (b + (e - to)) at (part c a to) c (omega arith) in
        let v₂ : part c e (b + (e - to)) ≡ part buf to b = rw i at (moved to b (omega arith) (omega arith) g.own) in
        let s : part buf a to ++ part buf to b ≡ part buf a b = sym (cut_at buf a to b (omega arith) (omega arith)) in
        both (part c a to ++ part buf to b) (ap (λ z. z ++ part buf to b) u ∙ s)
        (r ∙ ap (λ z. sets d (at + (to - a)) z) (v₁ ∙ v₂) ∙ ap (λ z. sets z (at + (to - a)) (part buf to b)) q ∙ ap (λ z. sets (sets c at (part c a to)) (at + z) (part buf to b)) (sym w) ∙ sets-append c at (part c a to) (part buf to b))
