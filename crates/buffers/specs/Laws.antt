-- Stores one behind the other.
use Rattle.std.specs.Prelude.{◌≡◌, refl, List, [], ◌∷◌, ◌++◌, ℕ, suc, ◌+◌, ◌-◌, ◌≤◌, ◌<◌, min, length, take, drop, get_or, set}
use Rattle.std.proofs.Common.{sym, ap, ◌∙◌, append-nil, add-one, add-zero, length-take, take-append-drop, drop_of_length-le, drop-set-lt, length-take-le, take-suc, take_all}
use native.Mathlib.Omega.{arith}
use Rattle.std.proofs.Math.Decide.{dec_le, dec_lt}
use Rattle.std.proofs.lemmas.List.Edits.{sets, sets-eq}
use Rattle.std.proofs.Math.Seq.{set_out, take-set-lt, length-sets, take-append_seam}
use Rattle.std.proofs.lemmas.List.{set_comm, take-set-le}

-- STORES.
pub sets-out : (b : List ℕ) (p : ℕ) (v : List ℕ) → length b ≤ p → sets b p v ≡ b
sets-out b p [] h = refl
sets-out b p (x ∷ xs) h = ap (λ z. sets z (suc p) xs) (set_out b p x h) ∙ sets-out b (suc p) xs (omega arith)

pub sets-append : (b : List ℕ) (p : ℕ) (v w : List ℕ) → sets (sets b p v) (p + length v) w ≡ sets b p (v ++ w)
sets-append b p [] w = rw add-zero refl
sets-append b p (x ∷ xs) w =
    let e : p + suc (length xs) ≡ suc p + length xs = omega arith in
    rw e (sets-append (set b p x) (suc p) xs w)

-- A store in front of others.
pub set-sets : (b : List ℕ) (p x q : ℕ) (v : List ℕ) → p < q → set (sets b q v) p x ≡ sets (set b p x) q v
set-sets b p x q [] h = refl
set-sets b p x q (y ∷ ys) h = set-sets (set b q y) p x (suc q) ys (omega arith) ∙ ap (λ z. sets z (suc q) ys) (set_comm b q p y x (λ e. absurd (omega arith)))

-- A text stored in front of one that was stored first.
pub sets-before : (b : List ℕ) (p : ℕ) (v w : List ℕ) → sets (sets b (p + length v) w) p v ≡ sets b p (v ++ w)
sets-before b p [] w = rw add-zero refl
sets-before b p (x ∷ xs) w =
    let e : p + suc (length xs) ≡ suc p + length xs = omega arith in
    ap (λ z. sets z (suc p) xs) (set-sets b p x (p + suc (length xs)) w (omega arith) ∙ ap (λ j. sets (set b p x) j w) e) ∙ sets-before (set b p x) (suc p) xs w

-- What lies before a store is as it was.
pub take-sets : (b : List ℕ) (p : ℕ) (v : List ℕ) (k : ℕ) → k ≤ p → take k (sets b p v) ≡ take k b
take-sets b p [] k h = refl
take-sets b p (x ∷ xs) k h = take-sets (set b p x) (suc p) xs k (omega arith) ∙ take-set-le k b p x h

-- One byte more of a text.
pub sets_more : (b : List ℕ) (p : ℕ) (t : List ℕ) (i : ℕ) (c : List ℕ) → c ≡ sets b p (take i t) → i < length t → set c (p + i) (get_or t i 0) ≡ sets b p (take (i + 1) t)
sets_more b p t i c q h =
    let l : length (take i t) ≡ i = length-take-le i t (omega arith) in
    let e : sets (sets b p (take i t)) (p + length (take i t)) (get_or t i 0 ∷ []) ≡ sets b p (take i t ++ (get_or t i 0 ∷ [])) = sets-append b p (take i t) (get_or t i 0 ∷ []) in
    rw (q, add-one, take-suc t i 0 h) (rw l at e)

-- As many bytes as the buffer takes are all.
pub sets_clipped : (b : List ℕ) (p : ℕ) (t : List ℕ) (i : ℕ) → min (length t) (length b - p) ≤ i → i ≤ length t → sets b p (take i t) ≡ sets b p t
sets_clipped b p t i h k = go (dec_le (length t) i)
  where
    go : Dec (length t ≤ i) → sets b p (take i t) ≡ sets b p t
    go (yes l) = ap (sets b p) (take_all i t l)
    go (no l) =
        let m : length (take i t) ≡ i = length-take-le i t k in
        let e : sets (sets b p (take i t)) (p + length (take i t)) (drop i t) ≡ sets b p t = sets-append b p (take i t) (drop i t) ∙ ap (sets b p) (take-append-drop i t) in
        sym (sets-out (sets b p (take i t)) (p + length (take i t)) (drop i t) (omega (arith, length-sets b p (take i t)))) ∙ e

-- What a first part of a buffer, lent for writing, leaves in it: the text up to the part's end.
sets-lent : (v b : List ℕ) (e k : ℕ) → k ≤ e → sets (take e b) k v ++ drop e b ≡ sets b k (take (e - k) v)
sets-lent [] b e k h = take-append-drop e b ∙ ap (sets b k) (sym (take_all (e - k) [] (omega arith)))
sets-lent (x ∷ xs) b e k h = go (dec_lt k e) (λ l. sets-lent xs (set b k x) e (suc k) l)
  where
    go : Dec (k < e) → (k < e → sets (take e (set b k x)) (suc k) xs ++ drop e (set b k x) ≡ sets (set b k x) (suc k) (take (e - suc k) xs)) → sets (set (take e b) k x) (suc k) xs ++ drop e b ≡ sets b k (take (e - k) (x ∷ xs))
    go (yes l) ih =
        let z : e - k ≡ suc (e - suc k) = omega arith in
        rw z (sym (ap (λ y. sets y (suc k) xs ++ drop e (set b k x)) (take-set-lt e b k x l) ∙ ap (λ y. sets (set (take e b) k x) (suc k) xs ++ y) (drop-set-lt e b k x l)) ∙ ih l)
    go (no l) ih =
        let z : e - k ≡ 0 = omega arith in
        let y : length (take e b) ≤ k = omega (arith, length-take e b) in
        rw z (ap (λ u. u ++ drop e b) (sets-out (take e b) k (x ∷ xs) y) ∙ take-append-drop e b)

pub lent-first : (v b : List ℕ) (e k : ℕ) {c : List ℕ} → c ≡ sets (take e b) k v → k ≤ e → c ++ drop e b ≡ sets b k (take (e - k) v)
lent-first v b e k q h = ap (λ z. z ++ drop e b) q ∙ sets-lent v b e k h

pub sets_first : (v b : List ℕ) (e k : ℕ) → k ≤ e → length b ≤ e → sets b k v ≡ sets b k (take (e - k) v)
sets_first v b e k h l = sym (append-nil (sets b k v)) ∙ ap (λ z. sets z k v ++ []) (sym (take_all e b l)) ∙ ap (λ z. sets (take e b) k v ++ z) (sym (drop_of_length-le b l)) ∙ sets-lent v b e k h

-- What is stored at the start.
pub stored-first : (b t : List ℕ) → length t ≤ length b → take (length t) (sets b 0 t) ≡ t
stored-first b t h = rw (sets-eq t b 0 (omega arith)) (take-append_seam t _)
