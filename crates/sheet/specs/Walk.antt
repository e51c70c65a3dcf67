-- A walk over records, one by one.
use Rattle.std.specs.Prelude.{◌≡◌, List, ℕ, ◌+◌, ◌-◌, ◌≤◌, ◌<◌, length, Option, Some, None}
use Rattle.std.proofs.Common.{sym, ap, ◌∙◌, refl, arith}
use Rattle.rules.specs.Sheet.{Value, Records, end, rec, encode, count}
use Rattle.sheet.specs.Parts.{Part, part-split}
use Rattle.sheet.specs.Items.{At, Describes, Has, Holding, join, encode-join, inner}
use Rattle.sheet.specs.declared.head.Item.{Item}
use Rattle.sheet.specs.declared.lookup.Walk.{Walk}

-- The walk is among the bytes s, up to e, and has the records r left, behind those that the record given last holds.
pub record WalksOver (w : Walk) (s : List ℕ) (e : ℕ) (r : Records) : Type 0 where
  pub bytes : w.bytes.now ≡ s
  pub ends : w.end ≡ e
  pub held : Records
  pub number : count held ≡ w.held
  pub part : Part s w.at (encode (join held r)) e

-- There are records that it has left.
pub record CanWalk (w : Walk) : Type 0 where
  pub r : Records
  pub over : WalksOver w w.bytes.now w.end r

-- The item o at i is of the first record of r; the walk x has those behind it left.
pub record Meets (s : List ℕ) (e : ℕ) (r : Records) (i : ℕ) (o : Item) (x : Walk) : Type 0 where
  pub n : List ℕ
  pub v : Value
  pub q : Records
  pub is : r ≡ rec n v q
  pub part : Part s i (encode (rec n v q)) e
  pub told : Describes s i n v q e o
  pub over : WalksOver x s e q

-- A call of the walk w left x.
unfoldable pub Walks : Walk → Option (ℕ × Item) → Walk → Type 0
Walks w None x = (s : List ℕ) (e : ℕ) (r : Records) → WalksOver w s e r → r ≡ end
Walks w (Some y) x = (s : List ℕ) (e : ℕ) (r : Records) → WalksOver w s e r → Meets s e r y.0 y.1 x

abbrev pub walk_left : Walk → ℕ
walk_left w = length w.bytes.now - w.at

-- LAWS.
pub walk-over : {s : List ℕ} {i e : ℕ} {r : Records} → Part s i (encode r) e → {w : Walk} → w.bytes.now ≡ s → w.end ≡ e → w.at ≡ i → w.held ≡ 0 → WalksOver w s e r
unfolding join count
walk-over p a b c d = record { bytes = a; ends = b; held = end; number = sym d; part = rw c p }

pub walk-can : {w : Walk} {s : List ℕ} {e : ℕ} {r : Records} → WalksOver w s e r → CanWalk w
walk-can {r = r} k = record { r = r; over = record { bytes = refl; ends = refl; held = k.held; number = k.number; part = rw (k.bytes, k.ends) k.part } }

module _ {w : Walk} {s : List ℕ} {e : ℕ} {r : Records} (k : WalksOver w s e r) where
  parts : Part s w.at (encode k.held) (w.at + length (encode k.held)) × Part s (w.at + length (encode k.held)) (encode r) e
  parts = part-split s w.at (encode k.held) (encode r) e (rw encode-join at k.part)

  holding : Holding w.bytes.now w.at w.held k.held (w.at + length (encode k.held))
  holding = record { number = k.number; part = rw k.bytes parts.0 }

  pub walk-held : Has w.bytes.now w.at w.held
  walk-held = record { r = k.held; j = w.at + length (encode k.held); holds = holding }

  -- The place behind what is held.
  module _ {i : ℕ} (f : (q : Records) (j : ℕ) → Holding w.bytes.now w.at w.held q j → i ≡ j) where
    place : i ≡ w.at + length (encode k.held)
    place = f _ _ holding

    rest : Part s i (encode r) e
    rest = rw place parts.1

    pub walk-end : w.end ≤ i → r ≡ end
    unfolding encode
    walk-end h = at r rest
      where
        at : (q : Records) → Part s i (encode q) e → q ≡ end
        at end p = refl
        at (rec n v q) p = absurd (omega (arith, p.ends, k.ends))

    module _ (h : i < w.end) where
      pub walk-at : At w.bytes.now i
      unfolding encode
      walk-at = at r rest
        where
          at : (q : Records) → Part s i (encode q) e → At w.bytes.now i
          at end p = absurd (omega (arith, p.ends, k.ends))
          at (rec n v q) p = record { n = n; v = v; r = q; j = e; part = rw k.bytes p }

      module _ {o : Item} (d : (n : List ℕ) (v : Value) (r : Records) (j : ℕ) → Part w.bytes.now i (encode (rec n v r)) j → Describes w.bytes.now i n v r j o) where
        pub walk-meets : (x : Walk) → x.bytes.now ≡ w.bytes.now → x.end ≡ w.end → x.at ≡ o.next → x.held ≡ o.count → Meets s e r i o x
        unfolding encode
        walk-meets x a b y z = at r rest refl
          where
            at : (q : Records) → Part s i (encode q) e → r ≡ q → Meets s e r i o x
            at end p g = absurd (omega (arith, p.ends, k.ends))
            at (rec n v q) p g =
                let t : Describes s i n v q e o = rw k.bytes at (d n v q e (rw k.bytes p)) in
                record {
                  n = n;
                  v = v;
                  q = q;
                  is = g;
                  part = p;
                  told = t;
                  over = record { bytes = a ∙ k.bytes; ends = b ∙ k.ends; held = inner v; number = sym t.number ∙ sym z; part = rw y t.rest };
                }

        -- It goes on.
        pub walk-on : (w.at < o.next) × (o.next ≤ length w.bytes.now)
        walk-on =
            let m = walk-meets (record w { at = o.next; held = o.count }) refl refl refl refl in
            (omega (arith, place, m.told.on), omega (arith, m.told.rest.ends, m.told.rest.inside, ap length k.bytes))

-- For a loop over it.
pub walks-none : {w : Walk} {s : List ℕ} {e : ℕ} {r : Records} → WalksOver w s e r → {y : Option (ℕ × Item)} (x : Walk) → Walks w y x → y ≡ None → r ≡ end
unfolding Walks
walks-none {w} {s} {e} {r} k x g z = let f : (s : List ℕ) (e : ℕ) (r : Records) → WalksOver w s e r → r ≡ end = rw z at g in f s e r k

pub walks-some : {w : Walk} {s : List ℕ} {e : ℕ} {r : Records} → WalksOver w s e r → {y : Option (ℕ × Item)} (x : Walk) → Walks w y x → {i : ℕ} {o : Item} → y ≡ Some (i, o) → Meets s e r i o x
unfolding Walks
walks-some {w} {s} {e} {r} k x g {i} {o} z = let f : (s : List ℕ) (e : ℕ) (r : Records) → WalksOver w s e r → Meets s e r i o x = rw z at g in f s e r k
