-- The records of a tree in the bytes of a sheet. Assumes nothing.
use Rattle.std.proofs.Math.Path.{◌≡◌, ap}
use Rattle.std.specs.Prelude.{refl, List, [], ◌∷◌, ◌++◌, ℕ, ◌+◌, ◌-◌, ◌/◌, ◌≤◌, ◌<◌, length}
use Rattle.std.proofs.Common.{sym, ◌∙◌, append_assoc, arith}
use Rattle.std.proofs.Math.Option.{Option, some}
use Rattle.std.proofs.Math.ListN.{drop}
use Rattle.rules.specs.Layout.{bind, ◌>>=◌, pure, byte}
use Rattle.rules.specs.Sheet.{Value, text, nothing, dictionary, Records, end, rec, field_bytes, field_mask, count, value_mask, value_bytes, encode}
use Rattle.rules.proofs.Laws.Sheet.{word16-read, field-read, map-byte, name-read, count-le}
use Rattle.sheet.specs.Parts.{Part, slice-part, part_of}
use Rattle.sheet.specs.Heads.{Shape, plain, absent, holding, shape_kind, shape_text, shape_count, shape, head, IsItem, Reads}
use Rattle.std.specs.Prelude.{Option as RustOption, Some, None, IsSome}
use Rattle.sheet.specs.declared.head.Item.{Item}

-- What a head says of a value, and the records that the value holds.
unfoldable pub lead : Value → Shape
lead (text t) = plain t
lead nothing = absent
lead (dictionary r) = holding (count r)

unfoldable pub inner : Value → Records
inner (text t) = end
inner nothing = end
inner (dictionary r) = r

-- Two lists of records, one behind the other.
unfoldable pub join : Records → Records → Records
join end r = r
join (rec n v q) r = rec n v (join q r)

pub count-join : (q r : Records) → count (join q r) ≡ count q + count r
unfolding count join
count-join end r = omega arith
count-join (rec n v q) r = omega (arith, count-join q r)

pub encode-join : (q r : Records) → encode (join q r) ≡ encode q ++ encode r
unfolding encode join
encode-join end r = refl
encode-join (rec n v q) r = rw (encode-join q r) (simp append_assoc)

pub join_one : (f : Records) (n : List ℕ) (v : Value) (r : Records) → join (join f (rec n v end)) r ≡ join f (rec n v r)
unfolding join
join_one end n v r = refl
join_one (rec m w f) n v r = ap (rec m w) (join_one f n v r)

-- WHAT IS WRITTEN IS READ BACK.
shape-back : (v : Value) (b : List ℕ) → shape (value_mask v / 2) (value_bytes v ++ b) ≡ some (lead v, encode (inner v) ++ b)
unfolding shape value_mask value_bytes field_mask field_bytes lead inner encode pure bind ◌>>=◌
shape-back (text []) b = refl
shape-back (text (x ∷ xs)) b = rw (field-read x xs b) refl
shape-back nothing b = refl
shape-back (dictionary r) b = rw (append_assoc, word16-read (count r) (encode r ++ b)) refl

pub head-back : (n : List ℕ) (v : Value) (r : Records) (z : List ℕ) → head (encode (rec n v r) ++ z) ≡ some ((n, lead v), encode (join (inner v) r) ++ z)
unfolding head encode byte pure bind ◌>>=◌
head-back n v r z =
    rw (append_assoc, append_assoc, (map-byte n v).0, (map-byte n v).1, name-read n (value_bytes v ++ (encode r ++ z)))
    (rw (shape-back v (encode r ++ z), encode-join (inner v) r, append_assoc) refl)

-- There is a record at i.
pub record At (s : List ℕ) (i : ℕ) : Type 0 where
  pub n : List ℕ
  pub v : Value
  pub r : Records
  pub j : ℕ
  pub part : Part s i (encode (rec n v r)) j

-- The item o tells of the record of a name n and a value v, behind which r stands up to j.
pub record Describes (s : List ℕ) (i : ℕ) (n : List ℕ) (v : Value) (r : Records) (j : ℕ) (o : Item) : Type 0 where
  pub on : i < o.next
  pub name : o.name.now ≡ n
  pub sort : o.kind ≡ shape_kind (lead v)
  pub text : Part s o.at (shape_text (lead v)) o.next
  pub number : o.count ≡ count (inner v)
  pub rest : Part s o.next (encode (join (inner v) r)) j

pub count-inner : (v : Value) → shape_count (lead v) ≡ count (inner v)
unfolding shape_count lead inner count
count-inner (text t) = refl
count-inner nothing = refl
count-inner (dictionary r) = refl

pub heads_same : (a b : List ℕ) (v w : Shape) (c d : List ℕ) → ◌≡◌ {A = Option ((List ℕ × Shape) × List ℕ)} (some ((a, v), c)) (some ((b, w), d)) → (a ≡ b) × (v ≡ w) × (c ≡ d)
heads_same a b v w c d h =
    let e : ◌≡◌ {A = (List ℕ × Shape) × List ℕ} ((a, v), c) ((b, w), d) = cc in
    (ap (λ x. x.0.0) e, ap (λ x. x.0.1) e, ap (λ x. x.1) e)

module _ {s : List ℕ} {i : ℕ} (n : List ℕ) (v : Value) (r : Records) {j : ℕ} (p : Part s i (encode (rec n v r)) j) where
  here : head (drop i s) ≡ some ((n, lead v), encode (join (inner v) r) ++ drop j s)
  here = ap head p.bytes ∙ head-back n v r (drop j s)

  pub is_there : (h : RustOption Item) → Reads s i h → IsSome h
  unfolding Reads
  is_there None w = let z : ◌≡◌ {A = ℕ} 0 1 = cc here in absurd (omega arith)
  is_there (Some o) w = refl

  pub told : {h : RustOption Item} (o : Item) → Reads s i h → h ≡ Some o → Describes s i n v r j o
  unfolding Reads
  told o w₀ e =
      let w : IsItem s i o = rw e at w₀ in
      let q = heads_same o.name.now n w.v (lead v) (drop o.next s) (encode (join (inner v) r) ++ drop j s) (sym w.is ∙ here) in
      record {
        on = omega (arith, w.behind, w.on);
        name = q.0;
        sort = w.sort ∙ ap shape_kind q.1;
        text = rw (w.text ∙ ap shape_text q.1) at (slice-part s o.at o.next w.on w.inside);
        number = w.number ∙ ap shape_count q.1 ∙ count-inner v;
        rest = part_of s o.next (encode (join (inner v) r)) j w.inside p.inside q.2;
      }

-- k records from i to j.
pub record Holding (s : List ℕ) (i k : ℕ) (r : Records) (j : ℕ) : Type 0 where
  pub number : count r ≡ k
  pub part : Part s i (encode r) j

pub record Has (s : List ℕ) (i k : ℕ) : Type 0 where
  pub r : Records
  pub j : ℕ
  pub holds : Holding s i k r j

-- k records of the sheet are left up to j.
pub record Left (s : List ℕ) (i k j : ℕ) : Type 0 where
  pub r : Records
  pub holds : Holding s i k r j

-- The first of them.
pub record First (s : List ℕ) (i k j : ℕ) : Type 0 where
  pub n : List ℕ
  pub v : Value
  pub r : Records
  pub number : 1 + count r ≡ k
  pub part : Part s i (encode (rec n v r)) j

pub first : (s : List ℕ) (i k j : ℕ) → Left s i k j → 0 < k → First s i k j
unfolding count
first s i k j l h = go l.r l.holds
  where
    go : (r : Records) → Holding s i k r j → First s i k j
    go end p = absurd (omega (arith, p.number))
    go (rec n v r) p = record { n = n; v = v; r = r; number = omega (arith, p.number); part = p.part }

pub first-at : {s : List ℕ} {i k j : ℕ} → First s i k j → At s i
first-at {j = j} f = record { n = f.n; v = f.v; r = f.r; j = j; part = f.part }

-- How many are left is less than the bytes.
pub left-small : {s : List ℕ} {i k j : ℕ} → Left s i k j → i + k ≤ length s
left-small l = omega (arith, l.holds.number, l.holds.part.ends, l.holds.part.inside, count-le l.r)

pub left-on : {s : List ℕ} {i k j : ℕ} (f : First s i k j) {o : Item} → Describes s i f.n f.v f.r j o → Left s o.next (k - 1 + o.count) j
left-on f d = record { r = join (inner f.v) f.r; holds = record { number = omega (arith, count-join (inner f.v) f.r, d.number, f.number); part = d.rest } }

pub left_end : {s : List ℕ} {i k j : ℕ} → Left s i k j → k ≤ 0 → i ≡ j
unfolding count encode
left_end {s} {i} {k} {j} l h = go l.r l.holds
  where
    go : (r : Records) → Holding s i k r j → i ≡ j
    go end p = omega (arith, p.part.ends)
    go (rec n v r) p = absurd (omega (arith, p.number))
