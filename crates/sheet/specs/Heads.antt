-- The head of a record (01, section 2): all of it but the records that a dictionary holds.
use Rattle.std.specs.Prelude.{◌≡◌, List, [], Bool, true, false, ◌&&◌, ◌||◌, ℕ, zero, suc, ◌+◌, ◌*◌, ◌/◌, ◌%◌, ◌-◌, ◌≤◌, ◌<◌, ltb, length, drop}
use Rattle.std.proofs.Math.Path.{refl}
use Rattle.std.proofs.Common.{ap, ◌∙◌, add-one, drop_of_length-le, drop-cons, eq-eqb, ne_eqb, eqb-true, ltb-true, ltb-false}
use Rattle.std.proofs.Math.Option.{Option, none, some}
use native.Mathlib.Omega.{arith}
use Rattle.std.specs.Int.Bits.{bit_and}
use Rattle.std.proofs.lemmas.Nat.Bits.{and_high}
use Rattle.std.proofs.Math.Dec.{eqb}
use Rattle.std.proofs.Math.ListN.{get_or}
use Rattle.std.proofs.lemmas.Bool.{eqb-false}
use Rattle.scan.specs.Sets.{part}
use Rattle.scan.specs.Fields.{IsField}
use Rattle.rules.specs.Layout.{Parser, bind, ◌>>=◌, pure, broken, bit, byte, word16, field, field_if}
use Rattle.rules.proofs.Laws.Bool.{or_elim, or-false-l, or-false-r}
use Rattle.rules.proofs.Laws.Layout.{word_end}
use Rattle.std.specs.Prelude.{Option as RustOption, Some, None}
use Rattle.std.specs.Borrow.{Bor}
use Rattle.scan.specs.declared.Range.{Range}
use Rattle.sheet.specs.declared.head.Kind.{Kind}
use Rattle.sheet.specs.declared.head.Kind.TheVariants.{Nothing, Text, Dictionary}
use Rattle.sheet.specs.declared.head.Item.{Item}

-- The value of a head: a text, none, or so many records behind it.
pub data Shape : Type 0 where
  plain : List ℕ → Shape
  absent : Shape
  holding : ℕ → Shape

unfoldable pub shape_kind : Shape → Kind
shape_kind (plain t) = Text
shape_kind absent = Nothing
shape_kind (holding n) = Dictionary

unfoldable pub shape_text : Shape → List ℕ
shape_text (plain t) = t
shape_text absent = []
shape_text (holding n) = []

unfoldable pub shape_count : Shape → ℕ
shape_count (plain t) = 0
shape_count absent = 0
shape_count (holding n) = n

-- By bits 1 to 3, as in the rules' `value`.
unfoldable pub shape : ℕ → Parser Shape
shape k =
    elim (eqb k 0) [
      | true ↦ pure (plain [])
      | false ↦
          elim (eqb k 1) [
            | true ↦ (do t ← field word16; pure (plain t))
            | false ↦
                elim (eqb k 2) [
                  | true ↦ (do n ← word16; pure (holding n))
                  | false ↦
                      elim (eqb k 4) [ true ↦ pure absent | false ↦ broken ]
                ]
          ]
    ]

unfoldable pub head : Parser (List ℕ × Shape)
head = do
  m ← byte
  n ← field_if (bit 0 m) word16
  v ← shape (m / 2)
  pure (n, v)

-- Bits 4 to 7 are zero and at most one of bits 1 to 3 is set.
unfoldable pub good_map : ℕ → Bool
good_map m = ((eqb (m / 2) 0 || eqb (m / 2) 1) || eqb (m / 2) 2) || eqb (m / 2) 4

-- The item o tells of the value at a place, which the map byte m names.
pub record IsValue (s : List ℕ) (m to : ℕ) (o : Item) : Type 0 where
  pub v : Shape
  pub is : shape (m / 2) (drop to s) ≡ some (v, drop o.next s)
  pub behind : to ≤ o.at
  pub on : o.at ≤ o.next
  pub inside : o.next ≤ length s
  pub sort : o.kind ≡ shape_kind v
  pub text : part s o.at o.next ≡ shape_text v
  pub number : o.count ≡ shape_count v

unfoldable pub ValueReads : List ℕ → ℕ → List ℕ → ℕ → RustOption Item → Type 0
ValueReads s m name at None = shape (m / 2) (drop at s) ≡ none
ValueReads s m name at (Some o) = (o.name.now ≡ name) × IsValue s m at o

-- The item o tells of the record at a place.
pub record IsItem (s : List ℕ) (i : ℕ) (o : Item) : Type 0 where
  pub v : Shape
  pub is : head (drop i s) ≡ some ((o.name.now, v), drop o.next s)
  pub behind : i < o.at
  pub on : o.at ≤ o.next
  pub inside : o.next ≤ length s
  pub sort : o.kind ≡ shape_kind v
  pub text : part s o.at o.next ≡ shape_text v
  pub number : o.count ≡ shape_count v

unfoldable pub Reads : List ℕ → ℕ → RustOption Item → Type 0
Reads s i None = head (drop i s) ≡ none
Reads s i (Some o) = IsItem s i o

-- MASKS.
-- The four values of bits 1 to 3.
pub data Kinds (k : ℕ) : Type 0 where
  of_none : k ≡ 0 → Kinds k
  of-text : k ≡ 1 → Kinds k
  of-dictionary : k ≡ 2 → Kinds k
  of-nothing : k ≡ 4 → Kinds k

kinds : (m : ℕ) → good_map m ≡ true → Kinds (m / 2)
unfolding good_map
kinds m h =
    or_elim ((eqb (m / 2) 0 || eqb (m / 2) 1) || eqb (m / 2) 2) (eqb (m / 2) 4) h
    (λ a. or_elim (eqb (m / 2) 0 || eqb (m / 2) 1) (eqb (m / 2) 2) a
    (λ b. or_elim (eqb (m / 2) 0) (eqb (m / 2) 1) b (λ c. of_none (eqb-true _ _ c)) (λ c. of-text (eqb-true _ _ c)))
    (λ b. of-dictionary (eqb-true _ _ b)))
    (λ a. of-nothing (eqb-true _ _ a))

mask1 : (m : ℕ) → bit_and m 1 ≡ m / 1 % 2 * 1
mask1 m = and_high m 1 0

mask2 : (m : ℕ) → bit_and m 2 ≡ m / 2 % 2 * 2
mask2 m = and_high m 1 1

mask4 : (m : ℕ) → bit_and m 4 ≡ m / 4 % 2 * 4
mask4 m = and_high m 1 2

mask8 : (m : ℕ) → bit_and m 8 ≡ m / 8 % 2 * 8
mask8 m = and_high m 1 3

mask14 : (m : ℕ) → bit_and m 14 ≡ m / 2 % 8 * 2
mask14 m = and_high m 3 1

mask15 : (m : ℕ) → bit_and m 15 ≡ m / 1 % 16 * 1
mask15 m = and_high m 4 0

-- Bit 0 by its mask.
pub name-bit : (m : ℕ) → (bit_and m 1 ≡ 0 → ⊥) → bit 0 m ≡ true
unfolding bit
name-bit m h = go (m / 1 % 2) refl
  where
    go : (x : ℕ) → m / 1 % 2 ≡ x → eqb x 1 ≡ true
    go zero e = absurd (h (omega (arith, mask1 m)))
    go (suc zero) e = refl
    go (suc (suc x)) e = absurd (omega arith)

pub no-name-bit : (m : ℕ) → bit_and m 1 ≡ 0 → bit 0 m ≡ false
unfolding bit
no-name-bit m h = ne_eqb (m / 1 % 2) 1 (λ e. absurd (omega (arith, mask1 m)))

module _ (m : ℕ) (g : good_map m ≡ true) where
  is-text : (bit_and m 2 ≡ 0 → ⊥) → m / 2 ≡ 1
  is-text h = go (kinds m g)
    where
      go : Kinds (m / 2) → m / 2 ≡ 1
      go (of_none e) = absurd (h (omega (arith, mask2 m)))
      go (of-text e) = e
      go (of-dictionary e) = absurd (h (omega (arith, mask2 m)))
      go (of-nothing e) = absurd (h (omega (arith, mask2 m)))

  is-dictionary : (bit_and m 4 ≡ 0 → ⊥) → m / 2 ≡ 2
  is-dictionary h = go (kinds m g)
    where
      go : Kinds (m / 2) → m / 2 ≡ 2
      go (of_none e) = absurd (h (omega (arith, mask4 m)))
      go (of-text e) = absurd (h (omega (arith, mask4 m)))
      go (of-dictionary e) = e
      go (of-nothing e) = let q : m / 4 ≡ 2 = omega arith in absurd (h (mask4 m ∙ rw q refl))

  is-nothing : (bit_and m 8 ≡ 0 → ⊥) → m / 2 ≡ 4
  is-nothing h = go (kinds m g)
    where
      go : Kinds (m / 2) → m / 2 ≡ 4
      go (of_none e) = absurd (h (omega (arith, mask8 m)))
      go (of-text e) = absurd (h (omega (arith, mask8 m)))
      go (of-dictionary e) = absurd (h (omega (arith, mask8 m)))
      go (of-nothing e) = e

  is-empty : bit_and m 2 ≡ 0 → bit_and m 4 ≡ 0 → bit_and m 8 ≡ 0 → m / 2 ≡ 0
  is-empty h i j = go (kinds m g)
    where
      go : Kinds (m / 2) → m / 2 ≡ 0
      go (of_none e) = e
      go (of-text e) = let z : bit_and m 2 ≡ 2 = mask2 m ∙ rw e refl in absurd (omega arith)
      go (of-dictionary e) = let q : m / 4 ≡ 1 = omega arith in let z : bit_and m 4 ≡ 4 = mask4 m ∙ rw q refl in absurd (omega arith)
      go (of-nothing e) = let q : m / 8 ≡ 1 = omega arith in let z : bit_and m 8 ≡ 8 = mask8 m ∙ rw q refl in absurd (omega arith)

twice : (x y : ℕ) → eqb (x * 2) (y * 2) ≡ eqb x y
twice x y = go (eqb x y) refl
  where
    go : (b : Bool) → eqb x y ≡ b → eqb (x * 2) (y * 2) ≡ b
    go true e = eq-eqb _ _ (ap (λ z. z * 2) (eqb-true x y e))
    go false e = ne_eqb (x * 2) (y * 2) (λ z. eqb-false x y e (omega arith))

abbrev among : ℕ → Bool
among k = ((eqb k 0 || eqb k 1) || eqb k 2) || eqb k 4

-- What `allowed` computes, at a mask of bits 0 to 3.
pub map_allowed : (m mask : ℕ) → mask ≡ 15 →
    (eqb (bit_and m mask) m && (((eqb (bit_and m 14) 0 || eqb (bit_and m 14) 2) || eqb (bit_and m 14) 4) || eqb (bit_and m 14) 8)) ≡ good_map m
unfolding good_map
map_allowed m mask e = rw (e, mask15 m, mask14 m, twice (m / 2 % 8) 0, twice (m / 2 % 8) 1, twice (m / 2 % 8) 2, twice (m / 2 % 8) 4) (go (ltb m 16) refl)
  where
    go : (b : Bool) → ltb m 16 ≡ b → (eqb (m / 1 % 16 * 1) m && among (m / 2 % 8)) ≡ among (m / 2)
    go true h =
        let l = ltb-true m 16 h in
        let p : m / 1 % 16 * 1 ≡ m = omega arith in
        let q : m / 2 % 8 ≡ m / 2 = omega arith in
        rw (eq-eqb _ _ p, q) refl
    go false h =
        let l = ltb-false m 16 h in
        rw (ne_eqb (m / 1 % 16 * 1) m (λ z. omega arith), ne_eqb (m / 2) 0 (λ z. omega arith), ne_eqb (m / 2) 1 (λ z. omega arith), ne_eqb (m / 2) 2 (λ z. omega arith), ne_eqb (m / 2) 4 (λ z. omega arith)) refl

-- THE VALUE, by the map byte.
shape-empty : (k : ℕ) (b : List ℕ) → k ≡ 0 → shape k b ≡ some (plain [], b)
unfolding shape pure
shape-empty k b e = rw e refl

shape-text : (k : ℕ) (b : List ℕ) → k ≡ 1 → shape k b ≡ bind (field word16 b) (λ r. some (plain r.0, r.1))
unfolding shape pure ◌>>=◌
shape-text k b e = rw e refl

shape-dictionary : (k : ℕ) (b : List ℕ) → k ≡ 2 → shape k b ≡ bind (word16 b) (λ r. some (holding r.0, r.1))
unfolding shape pure ◌>>=◌
shape-dictionary k b e = rw e refl

shape-nothing : (k : ℕ) (b : List ℕ) → k ≡ 4 → shape k b ≡ some (absent, b)
unfolding shape pure
shape-nothing k b e = rw e refl

slice-none : (f : ℕ) (s : List ℕ) → part s f f ≡ []
slice-none f s = let e : f - f ≡ 0 = omega arith in rw e refl

module _ (s : List ℕ) (m : ℕ) (n : Bor (List ℕ)) (at : ℕ) (g : good_map m ≡ true) where
  pub value-text : {r : Range} → (bit_and m 2 ≡ 0 → ⊥) → IsField s (field word16) at r → ValueReads s m n.now at (Some (record { name = n; kind = Text; at = r.from; next = r.to; count = 0 }))
  unfolding ValueReads shape_kind shape_text shape_count bind
  value-text {r} h f = (
    refl,
    record {
      v = plain (part s r.from r.to);
      is = shape-text (m / 2) (drop at s) (is-text m g h) ∙ rw f.reads refl;
      behind = f.behind;
      on = f.within.order;
      inside = f.within.inside;
      sort = refl;
      text = refl;
      number = refl;
    },
  )

  pub value-no-text : (bit_and m 2 ≡ 0 → ⊥) → field word16 (drop at s) ≡ none → ValueReads s m n.now at None
  unfolding ValueReads bind
  value-no-text h f = shape-text (m / 2) (drop at s) (is-text m g h) ∙ rw f refl

  pub value-dictionary : {k : ℕ} → (bit_and m 4 ≡ 0 → ⊥) → at + 2 ≤ length s → word16 (drop at s) ≡ some (k, drop (at + 2) s) →
      ValueReads s m n.now at (Some (record { name = n; kind = Dictionary; at = at + 2; next = at + 2; count = k }))
  unfolding ValueReads shape_kind shape_text shape_count bind
  value-dictionary {k} h l e = (
    refl,
    record {
      v = holding k;
      is = shape-dictionary (m / 2) (drop at s) (is-dictionary m g h) ∙ rw e refl;
      behind = omega arith;
      on = omega arith;
      inside = l;
      sort = refl;
      text = slice-none (at + 2) s;
      number = refl;
    },
  )

  pub value-no-count : (bit_and m 4 ≡ 0 → ⊥) → length s - at < 2 → ValueReads s m n.now at None
  unfolding ValueReads bind
  value-no-count h l = shape-dictionary (m / 2) (drop at s) (is-dictionary m g h) ∙ rw (word_end s at (omega arith)) refl

  module _ (l : at ≤ length s) where
    pub value-nothing : (bit_and m 8 ≡ 0 → ⊥) → ValueReads s m n.now at (Some (record { name = n; kind = Nothing; at = at; next = at; count = 0 }))
    unfolding ValueReads shape_kind shape_text shape_count
    value-nothing h = (
      refl,
      record {
        v = absent;
        is = shape-nothing (m / 2) (drop at s) (is-nothing m g h);
        behind = omega arith;
        on = omega arith;
        inside = l;
        sort = refl;
        text = slice-none at s;
        number = refl;
      },
    )

    pub value-empty : bit_and m 2 ≡ 0 → bit_and m 4 ≡ 0 → bit_and m 8 ≡ 0 → ValueReads s m n.now at (Some (record { name = n; kind = Text; at = at; next = at; count = 0 }))
    unfolding ValueReads shape_kind shape_text shape_count
    value-empty h i j = (
      refl,
      record {
        v = plain [];
        is = shape-empty (m / 2) (drop at s) (is-empty m g h i j);
        behind = omega arith;
        on = omega arith;
        inside = l;
        sort = refl;
        text = slice-none at s;
        number = refl;
      },
    )

-- A text's head, whatever else the map byte says.
pub text-map : good_map 2 ≡ true
unfolding good_map
text-map = refl

pub text-bit : bit_and 2 2 ≡ 0 → ⊥
text-bit e = omega arith

pub value_as_text : (s : List ℕ) (m : ℕ) (n : List ℕ) (at : ℕ) → good_map m ≡ true → (h : RustOption Item) → (bit_and m 2 ≡ 0 → ⊥) → ValueReads s 2 n at h → ValueReads s m n at h
unfolding ValueReads
value_as_text s m n at g None k w = rw (is-text m g k) w
value_as_text s m n at g (Some o) k w =
    let d = w.1 in
    (w.0, record { v = d.v; is = rw (is-text m g k) d.is; behind = d.behind; on = d.on; inside = d.inside; sort = d.sort; text = d.text; number = d.number })

-- THE RECORD.
pub reads_end : (s : List ℕ) (i : ℕ) → length s ≤ i → Reads s i None
unfolding Reads head byte bind ◌>>=◌
reads_end s i h = rw (drop_of_length-le s h) refl

shape-broken : (k : ℕ) (b : List ℕ) → eqb k 0 ≡ false → eqb k 1 ≡ false → eqb k 2 ≡ false → eqb k 4 ≡ false → shape k b ≡ none
unfolding shape broken
shape-broken k b h₀ h₁ h₂ h₄ = rw (h₀, h₁, h₂, h₄, shape) refl

bind-none : {A B : Type 0} (x : Option A) (f : A → Option B) → ((a : A) → f a ≡ none) → bind x f ≡ none
unfolding bind
bind-none none f h = refl
bind-none (some a) f h = h a

module _ (s : List ℕ) (i : ℕ) (l : i < length s) where
  opened : head (drop i s) ≡ bind (field_if (bit 0 (get_or s i 0)) word16 (drop (i + 1) s)) (λ n. bind (shape (get_or s i 0 / 2) n.1) (λ v. some ((n.0, v.0), v.1)))
  unfolding head byte bind pure ◌>>=◌
  opened = rw (drop-cons s i 0 l, add-one) refl

  pub reads-map : good_map (get_or s i 0) ≡ false → Reads s i None
  unfolding Reads good_map bind
  reads-map h =
      let k = get_or s i 0 / 2 in
      let a = or-false-l ((eqb k 0 || eqb k 1) || eqb k 2) (eqb k 4) h in
      let b = or-false-l (eqb k 0 || eqb k 1) (eqb k 2) a in
      opened ∙ bind-none (field_if (bit 0 (get_or s i 0)) word16 (drop (i + 1) s)) (λ n. bind (shape k n.1) (λ v. some ((n.0, v.0), v.1))) (λ n. rw (shape-broken k n.1 (or-false-l (eqb k 0) (eqb k 1) b) (or-false-r (eqb k 0) (eqb k 1) b) (or-false-r (eqb k 0 || eqb k 1) (eqb k 2) a) (or-false-r ((eqb k 0 || eqb k 1) || eqb k 2) (eqb k 4) h)) refl)

  reads-value : (h : RustOption Item) {n : List ℕ} {at : ℕ} → i < at → field_if (bit 0 (get_or s i 0)) word16 (drop (i + 1) s) ≡ some (n, drop at s) → ValueReads s (get_or s i 0) n at h → Reads s i h
  unfolding Reads ValueReads bind
  reads-value None p f e = opened ∙ rw f (rw e refl)
  reads-value (Some o) p f e =
      let w = e.1 in
      record {
        v = w.v;
        is = opened ∙ rw f (rw (w.is, e.0) refl);
        behind = omega (arith, w.behind);
        on = w.on;
        inside = w.inside;
        sort = w.sort;
        text = w.text;
        number = w.number;
      }

  pub reads_plain : (h : RustOption Item) {n : List ℕ} → bit_and (get_or s i 0) 1 ≡ 0 → n ≡ [] → ValueReads s (get_or s i 0) n (i + 1) h → Reads s i h
  unfolding field_if pure
  reads_plain h e q = reads-value h (omega arith) (rw (no-name-bit (get_or s i 0) e, q) refl)

  pub reads-named : (h : RustOption Item) {r : Range} → (bit_and (get_or s i 0) 1 ≡ 0 → ⊥) → IsField s (field word16) (i + 1) r → ValueReads s (get_or s i 0) (part s r.from r.to) r.to h → Reads s i h
  unfolding field_if
  reads-named h e f = reads-value h (omega (arith, f.behind, f.within.order)) (rw (name-bit (get_or s i 0) e) f.reads)

  pub reads-no-name : (bit_and (get_or s i 0) 1 ≡ 0 → ⊥) → field word16 (drop (i + 1) s) ≡ none → Reads s i None
  unfolding Reads field_if bind
  reads-no-name e f = opened ∙ rw (name-bit (get_or s i 0) e) (rw f refl)
