-- Parts of a list. Assumes nothing.
use Rattle.std.specs.Prelude.{◌≡◌, refl, List, ◌++◌, ℕ, ◌+◌, ◌-◌, ◌≤◌, length, take, drop}
use Rattle.std.proofs.Common.{sym, ap, ◌∙◌, append_assoc, append-nil, arith, length-append, length-drop, take-append-drop, drop_of_length-le, drop-drop, length-take-le}
use Rattle.std.proofs.Math.Seq.{drop-append_seam, take-append_seam}
use Rattle.scan.specs.Sets.{part}

pub length-slice : (f t : ℕ) (s : List ℕ) → t ≤ length s → length (part s f t) ≡ t - f
length-slice f t s h = length-take-le (t - f) (drop f s) (rw length-drop (omega arith))

-- From i to j, s holds x.
pub record Part (s : List ℕ) (i : ℕ) (x : List ℕ) (j : ℕ) : Type 0 where
  pub ends : i + length x ≡ j
  pub inside : j ≤ length s
  pub bytes : drop i s ≡ x ++ drop j s

pub part-split : (s : List ℕ) (i : ℕ) (x y : List ℕ) (j : ℕ) → Part s i (x ++ y) j → Part s i x (i + length x) × Part s (i + length x) y j
part-split s i x y j p =
    let e : drop (i + length x) s ≡ y ++ drop j s = sym (drop-drop (length x) i s) ∙ ap (drop (length x)) (p.bytes ∙ append_assoc x y (drop j s)) ∙ drop-append_seam x (y ++ drop j s) in
    let l : i + (length x + length y) ≡ j = ap (λ z. i + z) (sym (length-append x y)) ∙ p.ends in (
      record { ends = refl; inside = omega (arith, p.inside); bytes = p.bytes ∙ append_assoc x y (drop j s) ∙ ap (λ z. x ++ z) (sym e) },
      record { ends = omega arith; inside = p.inside; bytes = e },
    )

pub slice-part : (s : List ℕ) (f t : ℕ) → f ≤ t → t ≤ length s → Part s f (part s f t) t
slice-part s f t h k =
    let e : f + (t - f) ≡ t = omega arith in
    record {
      ends = omega (arith, length-slice f t s k);
      inside = k;
      bytes = sym (take-append-drop (t - f) (drop f s)) ∙ ap (λ z. take (t - f) (drop f s) ++ z) (drop-drop (t - f) f s ∙ ap (λ z. drop z s) e);
    }

-- A part's bytes are the slice.
pub part_slice : {s x : List ℕ} {i j : ℕ} → Part s i x j → part s i j ≡ x
part_slice {s} {x} {i} {j} p =
    let l : j - i ≡ length x = omega (arith, p.ends) in
    rw (l, p.bytes) (take-append_seam x (drop j s))

-- From i up to j, where behind i there is x and then what is behind j.
pub part_of : (s : List ℕ) (i : ℕ) (x : List ℕ) (j : ℕ) → i ≤ length s → j ≤ length s → drop i s ≡ x ++ drop j s → Part s i x j
part_of s i x j h k e =
    let l : length s - i ≡ length x + (length s - j) = sym (length-drop i s) ∙ ap length e ∙ length-append x (drop j s) ∙ ap (λ z. length x + z) (length-drop j s) in
    record { ends = omega arith; inside = k; bytes = e }

-- All of a list.
pub part-all : {s x : List ℕ} → s ≡ x → Part s 0 x (length s)
part-all {s} {x} e = record { ends = omega (arith, ap length e); inside = omega arith; bytes = e ∙ sym (append-nil x) ∙ ap (λ z. x ++ z) (sym (drop_of_length-le s {i = length s} (omega arith))) }
