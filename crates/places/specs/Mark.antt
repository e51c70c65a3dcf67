-- A place of a sheet from which a name may be searched for.
use Rattle.std.specs.Prelude.{◌≡◌, refl, Bool, true, false, ◌&&◌, List, [], ◌++◌, ℕ, zero, suc, ◌+◌, ◌-◌, ◌<◌, leb, length, take, drop}
use Rattle.std.proofs.Common.{sym, ap, ◌∙◌, append-nil, arith, le-leb, length-append, drop_of_length-le}
use Rattle.std.proofs.lemmas.Bool.{false≢true, leb-true}
use Rattle.std.proofs.Math.Seq.{take-append_seam, drop-append_seam}
use Rattle.rules.specs.Bytes.{less}
use Rattle.rules.specs.Sheet.{Value, Records, end, rec, encode, good_records, set, before}
use Rattle.rules.proofs.Laws.Bool.{and_i, and_l, and_r}
use Rattle.rules.proofs.Laws.Sheet.{less-trans, less-same, less_asym, less_up, good-parts, before-set}
use Rattle.sheet.specs.Parts.{Part}
use Rattle.sheet.specs.Items.{At, join, encode-join}
use Rattle.std.specs.declared.cmp.Ordering.{Ordering}
use Rattle.std.specs.Ordering.{nat_cmp, is_gt}
use Rattle.std.specs.Cmp.Lexicographic.{slice_cmp}
use Rattle.sheet.specs.Order.{order-less}
use Rattle.places.specs.Place.{one, one-rec, one-some, Tail, Between, Placing, between_start, set_below, set_same, set_past}

-- Does each name stand before the next one.
unfoldable pub ascending : Records → Bool
ascending end = true
ascending (rec n v r) = before n r && ascending r

-- Does a record of r begin at byte i, or do they end there. `Between` says it with the records in front.
unfoldable pub begins : ℕ → Records → Bool
begins zero r = true
begins (suc i) end = false
begins (suc i) (rec n v r) = leb (length (one n v)) (suc i) && begins (suc i - length (one n v)) r

-- A search among the records r, whose bytes are s, may start at i, or at 0. At 0 nothing is asked of the names.
pub record Marked (s : List ℕ) (r : Records) (i : ℕ) : Type 0 where
  pub bytes : s ≡ encode r
  pub between : Between r i
  pub order : (i ≡ 0 → ⊥) → ascending r ≡ true

pub record HasMark (s : List ℕ) (i : ℕ) : Type 0 where
  pub r : Records
  pub marked : Marked s r i

pub begins-first : (r : Records) → begins 0 r ≡ true
unfolding begins
begins-first r = refl

begins-between : (i : ℕ) (r : Records) → begins i r ≡ true → Between r i
unfolding begins join
begins-between zero r h = between_start r
begins-between (suc i) end h = absurd (false≢true h)
begins-between (suc i) (rec n v r) h =
    let L = length (one n v) in
    let b = begins-between (suc i - L) r (and_r (leb L (suc i)) (begins (suc i - L) r) h) in
    record {
      left = b.left;
      tail = record { front = rec n v b.tail.front; whole = ap (rec n v) b.tail.whole; long = rw (one-rec n v b.tail.front, length-append) (omega (arith, b.tail.long, leb-true L (suc i) (and_l (leb L (suc i)) (begins (suc i - L) r) h))) };
    }

begins-rec : (i : ℕ) (n : List ℕ) (v : Value) (r : Records) → 0 < i → begins i (rec n v r) ≡ (leb (length (one n v)) i && begins (i - length (one n v)) r)
unfolding begins
begins-rec zero n v r h = absurd (omega arith)
begins-rec (suc i) n v r h = refl

begins-behind : (f q : Records) → begins (length (encode f)) (join f q) ≡ true
unfolding join
begins-behind end q = unfold encode begins in refl
begins-behind (rec n v f) q =
    let L = length (one n v) in
    let k : length (encode (rec n v f)) ≡ L + length (encode f) = ap length (one-rec n v f) ∙ length-append (one n v) (encode f) in
    let m : L + length (encode f) - L ≡ length (encode f) = omega arith in
    rw (k, begins-rec (L + length (encode f)) n v (join f q) (omega (arith, one-some n v))) (and_i (leb L (L + length (encode f))) _ (le-leb L (L + length (encode f)) (omega arith)) (rw m (begins-behind f q)))

pub between-begins : {r : Records} {i : ℕ} → Between r i → begins i r ≡ true
between-begins b = rw (b.tail.whole, ← b.tail.long) (begins-behind b.tail.front b.left)

-- 0 is always right.
pub marked_start : {s : List ℕ} {r : Records} → s ≡ encode r → Marked s r 0
marked_start {r = r} e = record { bytes = e; between = between_start r; order = λ z. absurd (z refl) }

-- What a search from i asks of the records.
pub mark-of : {s : List ℕ} {r : Records} {i : ℕ} → s ≡ encode r → ((i ≡ 0 → ⊥) → ascending r ≡ true) → (ascending r ≡ true → begins i r ≡ true) → Marked s r i
mark-of {s} {r} {i} e a b = at i refl
  where
    at : (j : ℕ) → i ≡ j → Marked s r i
    at zero z = rw z (marked_start e)
    at (suc j) z = record { bytes = e; between = begins-between i r (b (a (λ y. omega arith))); order = a }

-- Names of good records ascend, and go on to do so where one is bound.
pub good-ascending : (r : Records) (p : ℕ → Bool) (l : ℕ) → good_records r p l ≡ true → ascending r ≡ true
unfolding ascending
good-ascending end p l h = refl
good-ascending (rec n v r) p l h =
    let g = good-parts n v r p l h in
    and_i (before n r) (ascending r) g.order (good-ascending r p l g.later)

set-ascending-at : (n m : List ℕ) (v w : Value) (r : Records) (c d : Bool) → less n m ≡ c → less m n ≡ d → ascending (rec m w r) ≡ true → ascending (set r n v) ≡ true → ascending (set (rec m w r) n v) ≡ true
unfolding ascending before
set-ascending-at n m v w r true d a b h k = rw (set_below n m v w r a) (and_i (less n m) (before m r && ascending r) a h)
set-ascending-at n m v w r false true a b h k = rw (set_past n m v w r a b) (and_i (before m (set r n v)) (ascending (set r n v)) (before-set m n v r b (and_l (before m r) (ascending r) h)) k)
set-ascending-at n m v w r false false a b h k = rw (set_same n m v w r a b, less-same n m a b) h

pub set-ascending : (r : Records) (n : List ℕ) (v : Value) → ascending r ≡ true → ascending (set r n v) ≡ true
unfolding ascending set before
set-ascending end n v h = refl
set-ascending (rec m w r) n v h = set-ascending-at n m v w r (less n m) (less m n) refl refl h (set-ascending r n v (and_r (before m r) (ascending r) h))

-- THE START OF A SEARCH. The record at i.
pub record There (s : List ℕ) (r : Records) (i : ℕ) : Type 0 where
  pub m : List ℕ
  pub w : Value
  pub q : Records
  pub tail : Tail r i (rec m w q)
  pub first : take i s ≡ encode tail.front
  pub part : Part s i (encode (rec m w q)) (length s)

pub there : {s : List ℕ} {r : Records} {i : ℕ} → Marked s r i → i < length s → There s r i
unfolding encode
there {s} {r} {i} k h = go k.between.left k.between.tail
  where
    whole : {q : Records} (t : Tail r i q) → s ≡ encode t.front ++ encode q
    whole {q} t = k.bytes ∙ ap encode t.whole ∙ encode-join t.front q

    go : (q : Records) → Tail r i q → There s r i
    go end t = absurd (omega (arith, ap length (whole t), length-append (encode t.front) [], t.long))
    go (rec m w q) t =
        let e = whole t in
        let d : drop i s ≡ encode (rec m w q) = rw (← t.long, e) (drop-append_seam (encode t.front) (encode (rec m w q))) in
        record {
          m = m;
          w = w;
          q = q;
          tail = t;
          first = rw (← t.long, e) (take-append_seam (encode t.front) (encode (rec m w q)));
          part = record { ends = sym (ap length e ∙ length-append (encode t.front) (encode (rec m w q)) ∙ ap (λ z. z + length (encode (rec m w q))) t.long); inside = omega arith; bytes = d ∙ rw (drop_of_length-le s {i = length s} (omega arith)) (sym (append-nil (encode (rec m w q)))) };
        }

pub there-at : {s : List ℕ} {r : Records} {i : ℕ} → There s r i → At s i
there-at {s} k = record { n = k.m; v = k.w; r = k.q; j = length s; part = k.part }

-- The first name stands before each later one.
first-less : (n : List ℕ) (u : Value) (f : Records) (m : List ℕ) (w : Value) (q : Records) → ascending (rec n u (join f (rec m w q))) ≡ true → less n m ≡ true
unfolding join before ascending
first-less n u end m w q h = and_l (less n m) (before m q && ascending q) h
first-less n u (rec k x f) m w q h =
    less-trans n k m (and_l (less n k) (ascending (rec k x (join f (rec m w q)))) h) (first-less k x f m w q (and_r (less n k) (ascending (rec k x (join f (rec m w q)))) h))

-- A name that does not stand before that of a later record is bound there or behind it.
pub set-later : (f : Records) (m : List ℕ) (w : Value) (q : Records) (name : List ℕ) (v : Value) → ascending (join f (rec m w q)) ≡ true → less name m ≡ false →
    set (join f (rec m w q)) name v ≡ join f (set (rec m w q) name v)
unfolding join ascending
set-later end m w q name v h g = refl
set-later (rec n u f) m w q name v h g =
    let o : less n name ≡ true = less_up n m name (first-less n u f m w q h) g in
    set_past name n v u (join f (rec m w q)) (less_asym n name o) o ∙ ap (rec n u) (set-later f m w q name v (and_r (before n (join f (rec m w q))) (ascending (join f (rec m w q))) h) g)

module _ {s : List ℕ} {r : Records} {name : List ℕ} {i : ℕ} (o : ascending r ≡ true) (k : There s r i) {a : List ℕ} {c : Ordering} (p : a ≡ k.m) (h : c ≡ slice_cmp nat_cmp a name) where
  pub place-there : is_gt c ≡ false → Placing s r name i
  place-there z =
      let e : slice_cmp nat_cmp k.m name ≡ c = sym (h ∙ ap (λ y. slice_cmp nat_cmp y name) p) in
      let g : less name k.m ≡ false = (order-less k.m name).1 ∙ ap is_gt e ∙ z in
      let t = k.tail in
      let sets : (v : Value) → set r name v ≡ join t.front (set (rec k.m k.w k.q) name v) = λ v. ap (λ y. set y name v) t.whole ∙ set-later t.front k.m k.w k.q name v (rw t.whole at o) g in
      record {
        left = rec k.m k.w k.q;
        part = k.part;
        is = λ v. ap encode (sets v) ∙ encode-join t.front (set (rec k.m k.w k.q) name v) ∙ rw (← k.first) refl;
        tail = λ v. record { front = t.front; whole = sets v; long = t.long };
      }
