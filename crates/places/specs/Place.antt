-- Where a name is bound.
use Rattle.std.specs.Prelude.{◌≡◌, refl, true, false, List, ◌∷◌, ◌++◌, ℕ, ◌+◌, ◌≤◌, ◌<◌, length, take, drop}
use Rattle.std.proofs.Common.{sym, ap, ◌∙◌, append_assoc, append-nil, arith, length-append, drop_of_length-le, take-add}
use Rattle.std.proofs.Math.Seq.{take-append_seam}
use Rattle.rules.specs.Bytes.{less}
use Rattle.rules.specs.Sheet.{Value, Records, end, rec, encode, field_bytes, field_mask, value_bytes, value_mask, set}
use Rattle.sheet.specs.Parts.{Part, part-all, part-split}
use Rattle.sheet.specs.Items.{join, encode-join, join_one}
use Rattle.sheet.specs.Walk.{WalksOver, Meets}
use Rattle.sheet.specs.declared.head.Item.{Item}
use Rattle.sheet.specs.declared.lookup.Walk.{Walk}
use Rattle.std.specs.declared.cmp.Ordering.{Ordering}
use Rattle.std.specs.declared.cmp.Ordering.TheVariants.{Less, Equal, Greater}
use Rattle.std.specs.Ordering.{nat_cmp, is_lt, is_gt}
use Rattle.std.specs.Cmp.Lexicographic.{slice_cmp}
use Rattle.sheet.specs.Order.{order-less}

-- The bytes of one record.
unfoldable pub one : List ℕ → Value → List ℕ
one n v = (field_mask 1 n + value_mask v) ∷ (field_bytes n ++ value_bytes v)

pub one-rec : (n : List ℕ) (v : Value) (r : Records) → encode (rec n v r) ≡ one n v ++ encode r
unfolding encode one
one-rec n v r = simp append_assoc

pub one-some : (n : List ℕ) (v : Value) → 0 < length (one n v)
unfolding one
one-some n v = omega arith

-- The last records of r are q, and these begin at its byte i.
pub record Tail (r : Records) (i : ℕ) (q : Records) : Type 0 where
  pub front : Records
  pub whole : r ≡ join front q
  pub long : length (encode front) ≡ i

-- At byte i a record of r begins, or they end.
pub record Between (r : Records) (i : ℕ) : Type 0 where
  pub left : Records
  pub tail : Tail r i left

pub tail-start : (r : Records) → Tail r 0 r
unfolding join encode
tail-start r = record { front = end; whole = refl; long = refl }

pub between_start : (r : Records) → Between r 0
between_start r = record { left = r; tail = tail-start r }

-- Past the next record.
tail-next : {r : Records} {i : ℕ} {n : List ℕ} {v : Value} {q : Records} → Tail r i (rec n v q) → Tail r (i + length (one n v)) q
unfolding encode
tail-next {i = i} {n} {v} {q} t = record {
  front = join t.front (rec n v end);
  whole = t.whole ∙ sym (join_one t.front n v q);
  long = rw (encode-join t.front (rec n v end), one-rec n v end, length-append, length-append) (omega (arith, t.long));
}

-- A record of the name goes between `from` and `to` of the sheet with the records r.
pub record Placed (s : List ℕ) (r : Records) (name : List ℕ) (from to : ℕ) : Type 0 where
  pub on : from ≤ to
  pub inside : to ≤ length s
  pub is : (v : Value) → encode (set r name v) ≡ take from s ++ (one name v ++ drop to s)
  pub put : (v : Value) → Between (set r name v) from

-- What is passed stays.
pub record Placing (s : List ℕ) (r : Records) (name : List ℕ) (i : ℕ) : Type 0 where
  pub left : Records
  pub part : Part s i (encode left) (length s)
  pub is : (v : Value) → encode (set r name v) ≡ take i s ++ encode (set left name v)
  pub tail : (v : Value) → Tail (set r name v) i (set left name v)

-- What a walk has left stands there.
pub record Walking (w : Walk) (s : List ℕ) (r : Records) (name : List ℕ) : Type 0 where
  pub i : ℕ
  pub place : Placing s r name i
  pub over : WalksOver w s (length s) place.left

pub place-start : {s : List ℕ} {r : Records} {name : List ℕ} → s ≡ encode r → Placing s r name 0
place-start {s} {r} {name} e = record {
  left = r;
  part = part-all e;
  is = λ v. refl;
  tail = λ v. tail-start (set r name v);
}

pub place_end : {s : List ℕ} {r : Records} {name : List ℕ} {i : ℕ} (k : Placing s r name i) → k.left ≡ end → Placed s r name (length s) (length s)
unfolding encode set
place_end {s} {r} {name} {i} k h =
    let e : i ≡ length s = omega (arith, k.part.ends, ap (λ z. length (encode z)) h) in
    record {
      on = omega arith;
      inside = omega arith;
      is = λ v. rw (h, e) at (k.is v) ∙ ap (λ y. take (length s) s ++ y) (one-rec name v end ∙ rw (drop_of_length-le s {i = length s} (omega arith)) refl);
      put = λ v. record { left = _; tail = rw e at (k.tail v) };
    }

pub set_below : (n m : List ℕ) (v w : Value) (r : Records) → less n m ≡ true → set (rec m w r) n v ≡ rec n v (rec m w r)
unfolding set
set_below n m v w r h = rw (h, set) refl

pub set_same : (n m : List ℕ) (v w : Value) (r : Records) → less n m ≡ false → less m n ≡ false → set (rec m w r) n v ≡ rec n v r
unfolding set
set_same n m v w r h k = rw (h, k, set) refl

pub set_past : (n m : List ℕ) (v w : Value) (r : Records) → less n m ≡ false → less m n ≡ true → set (rec m w r) n v ≡ rec m w (set r n v)
unfolding set
set_past n m v w r h k = rw (h, k, set) refl

-- All that is behind i.
part-drop : {s x : List ℕ} {i : ℕ} → Part s i x (length s) → drop i s ≡ x
part-drop {s} {x} p = p.bytes ∙ rw (drop_of_length-le s {i = length s} (omega arith)) (append-nil x)

-- The item o at i is of the first record that is left.
module _ {s : List ℕ} {r : Records} {name : List ℕ} {j : ℕ} (k : Placing s r name j) {i : ℕ} {o : Item} {x : Walk} (d : Meets s (length s) k.left i o x) {c : Ordering} (h : c ≡ slice_cmp nat_cmp o.name.now name) where
  order_is : slice_cmp nat_cmp d.n name ≡ c
  order_is = sym (h ∙ ap (λ z. slice_cmp nat_cmp z name) d.told.name)

  here : j ≡ i
  here = omega (arith, k.part.ends, d.part.ends, ap (λ z. length (encode z)) d.is)

  is : (v : Value) → encode (set r name v) ≡ take i s ++ encode (set (rec d.n d.v d.q) name v)
  is v = rw (d.is, here) at (k.is v)

  tail : (v : Value) → Tail (set r name v) i (set (rec d.n d.v d.q) name v)
  tail v = rw (d.is, here) at (k.tail v)

  pub place-below : c ≡ Greater → Placed s r name i i
  place-below e =
      let l : less name d.n ≡ true = (order-less d.n name).1 ∙ ap is_gt (order_is ∙ e) in
      record {
        on = omega arith;
        inside = omega (arith, d.part.ends);
        put = λ v. record { left = _; tail = tail v };
        is = λ v. is v ∙ ap (λ z. take i s ++ z) (ap encode (set_below name d.n v d.v d.q l) ∙ one-rec name v (rec d.n d.v d.q) ∙ ap (λ z. one name v ++ z) (sym (part-drop d.part)));
      }

  module _ {e : ℕ} (t : Part s e (encode d.q) (length s)) (n : i ≤ e) where
    pub place_same : c ≡ Equal → Placed s r name i e
    place_same g =
        let l : less name d.n ≡ false = (order-less d.n name).1 ∙ ap is_gt (order_is ∙ g) in
        let m : less d.n name ≡ false = (order-less d.n name).0 ∙ ap is_lt (order_is ∙ g) in
        record {
          on = n;
          inside = omega (arith, t.ends);
          put = λ v. record { left = _; tail = tail v };
          is = λ v. is v ∙ ap (λ z. take i s ++ z) (ap encode (set_same name d.n v d.v d.q l m) ∙ one-rec name v d.q ∙ ap (λ z. one name v ++ z) (sym (part-drop t)));
        }

    whole : Part s i (one d.n d.v ++ encode d.q) (length s)
    whole = rw (one-rec d.n d.v d.q) at d.part

    ends : i + length (one d.n d.v) ≡ e
    ends = omega (arith, t.ends, whole.ends, length-append (one d.n d.v) (encode d.q))

    passed : take e s ≡ take i s ++ one d.n d.v
    passed =
        let p₂ = (part-split s i (one d.n d.v) (encode d.q) (length s) whole).0 in
        sym (ap (λ z. take z s) ends) ∙ take-add i (length (one d.n d.v)) s ∙ ap (λ z. take i s ++ z) (rw p₂.bytes (take-append_seam (one d.n d.v) _))

    pub place-on : c ≡ Less → Walking x s r name
    place-on z =
        let l : less name d.n ≡ false = (order-less d.n name).1 ∙ ap is_gt (order_is ∙ z) in
        let m : less d.n name ≡ true = (order-less d.n name).0 ∙ ap is_lt (order_is ∙ z) in
        record {
          i = e;
          place = record {
            left = d.q;
            part = t;
            tail = λ v. rw ends at (tail-next (rw (set_past name d.n v d.v d.q l m) at (tail v)));
            is = λ v. is v ∙ ap (λ z. take i s ++ z) (ap encode (set_past name d.n v d.v d.q l m) ∙ one-rec d.n d.v (set d.q name v)) ∙ rw passed (simp append_assoc);
          };
          over = d.over;
        }
