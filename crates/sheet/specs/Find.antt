-- Lookup in the bytes of a sheet: what a lookup answers, and a walk over a level.
use Rattle.std.specs.Prelude.{◌≡◌, Bool, false, List, [], ℕ, ◌+◌, ◌≤◌, length}
use Rattle.std.proofs.Math.Path.{refl}
use Rattle.std.proofs.Common.{sym, ap, ◌∙◌, true≢false, arith}
use Rattle.std.proofs.Math.Bool.{true}
use Rattle.std.proofs.Math.Option.{Option, none, some}
use Rattle.scan.specs.Sets.{part}
use Rattle.rules.specs.Reader.{same}
use Rattle.rules.specs.Bytes.{less}
use Rattle.rules.specs.Sheet.{Value, text, nothing, dictionary, Records, end, rec, encode, count, before, good_records, get, kind_of, text_of}
use Rattle.rules.proofs.Laws.Sheet.{good-parts, less-trans}
use Rattle.sheet.specs.Parts.{Part, part-split, part_slice}
use Rattle.sheet.specs.Heads.{shape_kind, shape_text}
use Rattle.sheet.specs.Items.{Describes, Holding, Has, lead, inner, encode-join}
use Rattle.std.specs.declared.cmp.Ordering.{Ordering}
use Rattle.std.specs.declared.cmp.Ordering.TheVariants.{Less, Equal, Greater}
use Rattle.std.specs.Ordering.{nat_cmp}
use Rattle.std.specs.Cmp.Lexicographic.{slice_cmp}
use Rattle.sheet.specs.Order.{order-less, order-yes, order-no}
use Rattle.sheet.specs.declared.head.Kind.{Kind}
use Rattle.sheet.specs.declared.head.Item.{Item}
use Rattle.sheet.specs.declared.lookup.Walk.{Walk}
use Rattle.sheet.specs.Walk.{WalksOver, Meets}
use Rattle.sheet.specs.declared.lookup.Found.{Found}
use Rattle.sheet.specs.declared.lookup.Found.TheVariants.{Nothing, Text, Dictionary}
use Rattle.sheet.specs.declared.head.Kind.TheVariants.{Nothing as OfNothing, Text as OfText, Dictionary as OfDictionary}
use Rattle.std.specs.Prelude.{Option as RustOption, Some, None}
use Rattle.std.specs.Option.{unwrap_or}
use Rattle.scan.specs.declared.Range.{Range}

-- The bytes of some records.
pub record HasRecords (s : List ℕ) : Type 0 where
  pub r : Records
  pub bytes : s ≡ encode r

-- f tells of the value v, by places of s.
unfoldable pub Tells : List ℕ → Value → Found → Type 0
Tells s v Nothing = v ≡ nothing
Tells s v (Text p) = (t : List ℕ) × (v ≡ text t) × Part s p.from t p.to
Tells s v (Dictionary p n) = (d : Records) × (v ≡ dictionary d) × Part s p.from (encode d) p.to × (count d ≡ n)

-- f tells of x, which may be missing.
unfoldable pub Gives : List ℕ → Option Value → RustOption Found → Type 0
Gives s x None = x ≡ none
Gives s x (Some f) = (v : Value) × (x ≡ some v) × Tells s v f

pub gives_one : (s : List ℕ) (x : Option Value) {o : RustOption Found} → Gives s x o → {f : Found} → o ≡ Some f → (v : Value) × (x ≡ some v) × Tells s v f
unfolding Gives
gives_one s x g e = rw e at g

-- The kind of each case (01, section 2).
unfoldable pub found_kind : RustOption Found → ℕ
found_kind None = 0
found_kind (Some Nothing) = 1
found_kind (Some (Text p)) = 2
found_kind (Some (Dictionary p n)) = 3

pub gives-kind : (s : List ℕ) (x : Option Value) (f : RustOption Found) → Gives s x f → found_kind f ≡ kind_of x
unfolding Gives Tells found_kind kind_of
gives-kind s x None g = rw g refl
gives-kind s x (Some Nothing) g = rw (g.1, g.2) refl
gives-kind s x (Some (Text p)) g = rw (g.1, g.2.1) refl
gives-kind s x (Some (Dictionary p n)) g = rw (g.1, g.2.1) refl

-- The text t is the part of s from a to b.
pub record Places (s t : List ℕ) (a b : ℕ) : Type 0 where
  pub on : a ≤ b
  pub inside : b ≤ length s
  pub text : part s a b ≡ t

-- Where the text of each case stands: an empty part unless it is a text.
pub places-text : (f : RustOption Found) {p : Range} → unwrap_or f Nothing ≡ Text p → (s : List ℕ) (x : Option Value) → Gives s x f → Places s (text_of x) p.from p.to
unfolding Gives Tells text_of found_kind
places-text None e s x g = let k : ◌≡◌ {A = ℕ} 1 2 = ap (λ y. found_kind (Some y)) e in absurd (omega (arith, k))
places-text (Some y) e s x g = let t = rw e at g.2 in record { on = omega (arith, t.2.ends); inside = t.2.inside; text = rw (g.1, t.1) (part_slice t.2) }

no_text : (f : RustOption Found) → ((p : Range) → unwrap_or f Nothing ≡ Text p → ⊥) → (s : List ℕ) (x : Option Value) → Gives s x f → text_of x ≡ []
unfolding Gives Tells text_of
no_text None h s x g = rw g refl
no_text (Some Nothing) h s x g = rw (g.1, g.2) refl
no_text (Some (Text p)) h s x g = absurd (h p refl)
no_text (Some (Dictionary p n)) h s x g = rw (g.1, g.2.1) refl

pub places-none : (f : RustOption Found) → ((p : Range) → unwrap_or f Nothing ≡ Text p → ⊥) → (s : List ℕ) (x : Option Value) → Gives s x f → Places s (text_of x) 0 0
places-none f h s x g = record { on = omega arith; inside = omega arith; text = sym (no_text f h s x g) }

-- LAWS.
-- A value of which the item o tells: its kind, its text, and its records.
pub record Body (s : List ℕ) (v : Value) (o : Item) : Type 0 where
  pub sort : o.kind ≡ shape_kind (lead v)
  pub text : Part s o.at (shape_text (lead v)) o.next
  pub number : count (inner v) ≡ o.count
  pub part : Part s o.next (encode (inner v)) (o.next + length (encode (inner v)))

-- There is such a value.
pub record HasBody (s : List ℕ) (o : Item) : Type 0 where
  pub v : Value
  pub body : Body s v o

module _ {s : List ℕ} {i : ℕ} {n : List ℕ} {v : Value} {r : Records} {j : ℕ} {o : Item} (d : Describes s i n v r j o) where
  parts : Part s o.next (encode (inner v)) (o.next + length (encode (inner v))) × Part s (o.next + length (encode (inner v))) (encode r) j
  parts = part-split s o.next (encode (inner v)) (encode r) j (rw encode-join at d.rest)

  pub item_body : Body s v o
  item_body = record { sort = d.sort; text = d.text; number = sym d.number; part = parts.0 }

  pub item_has-body : HasBody s o
  item_has-body = record { v = v; body = item_body }

  pub item_holding : Holding s o.next o.count (inner v) (o.next + length (encode (inner v)))
  item_holding = record { number = sym d.number; part = parts.0 }

  pub item_has : Has s o.next o.count
  item_has = record { r = inner v; j = o.next + length (encode (inner v)); holds = item_holding }

  pub item_rest : {e : ℕ} → e ≡ o.next + length (encode (inner v)) → Part s e (encode r) j
  item_rest h = rw h parts.1

module _ {s : List ℕ} {v : Value} {o : Item} (d : Body s v o) where
  pub body-holding : Holding s o.next o.count (inner v) (o.next + length (encode (inner v)))
  body-holding = record { number = d.number; part = d.part }

pub tells_nothing : {s : List ℕ} (v : Value) {o : Item} → Body s v o → o.kind ≡ OfNothing → Tells s v Nothing
unfolding shape_kind lead Tells
tells_nothing (text t) d h = absurd (not_text (sym h ∙ d.sort))
  where
    not_text : ◌≡◌ {A = Kind} OfNothing OfText → ⊥
    not_text e = cc
tells_nothing nothing d h = refl
tells_nothing (dictionary r) d h = absurd (not_dictionary (sym h ∙ d.sort))
  where
    not_dictionary : ◌≡◌ {A = Kind} OfNothing OfDictionary → ⊥
    not_dictionary e = cc

pub tells-text : {s : List ℕ} (v : Value) {o : Item} → Body s v o → o.kind ≡ OfText → Tells s v (Text (record { from = o.at; to = o.next }))
unfolding shape_kind shape_text lead Tells
tells-text (text t) d h = (t, refl, d.text)
tells-text nothing d h = absurd (not_nothing (sym h ∙ d.sort))
  where
    not_nothing : ◌≡◌ {A = Kind} OfText OfNothing → ⊥
    not_nothing e = cc
tells-text (dictionary r) d h = absurd (not_dictionary (sym h ∙ d.sort))
  where
    not_dictionary : ◌≡◌ {A = Kind} OfText OfDictionary → ⊥
    not_dictionary e = cc

pub tells-dictionary : {s : List ℕ} (v : Value) {o : Item} {e : ℕ} → Body s v o → o.kind ≡ OfDictionary → e ≡ o.next + length (encode (inner v)) → Tells s v (Dictionary (record { from = o.next; to = e }) o.count)
unfolding shape_kind lead Tells inner
tells-dictionary (text t) d h k = absurd (not_text (sym h ∙ d.sort))
  where
    not_text : ◌≡◌ {A = Kind} OfDictionary OfText → ⊥
    not_text e = cc
tells-dictionary nothing d h k = absurd (not_nothing (sym h ∙ d.sort))
  where
    not_nothing : ◌≡◌ {A = Kind} OfDictionary OfNothing → ⊥
    not_nothing e = cc
tells-dictionary (dictionary r) d h k = (r, refl, rw k d.part, d.number)

-- A level of a sheet: good records from a place to another.
pub record Level (s : List ℕ) (at e : ℕ) : Type 0 where
  pub r : Records
  pub p : ℕ → Bool
  pub l : ℕ
  pub part : Part s at (encode r) e
  pub good : good_records r p l ≡ true

-- No name behind a greater one is there.
get-before : (r : Records) (p : ℕ → Bool) (l : ℕ) (m name : List ℕ) → good_records r p l ≡ true → before m r ≡ true → less name m ≡ true → get r name ≡ none
unfolding get before
get-before end p l m name g b h = refl
get-before (rec k v r) p l m name g b h =
    let w = good-parts k v r p l g in
    let j : less name k ≡ true = less-trans name m k h b in
    let z : same k name ≡ false = order-no k name (λ e. true≢false (sym j ∙ (order-less k name).1 ∙ rw e refl)) in
    rw (z, get) (get-before r p l k name w.later w.order j)

other : ◌≡◌ {A = Ordering} Greater Equal → ⊥
other h = cc

unlike : ◌≡◌ {A = Ordering} Less Equal → ⊥
unlike h = cc

get-yes : (n : List ℕ) (v : Value) (q : Records) (name : List ℕ) → slice_cmp nat_cmp n name ≡ Equal → get (rec n v q) name ≡ some v
unfolding get
get-yes n v q name h = rw (order-yes n name h, get) refl

get-no : (n : List ℕ) (v : Value) (q : Records) (name : List ℕ) → (slice_cmp nat_cmp n name ≡ Equal → ⊥) → get (rec n v q) name ≡ get q name
unfolding get
get-no n v q name h = rw (order-no n name h, get) refl

-- What the walk has left of a level, where name is not among what was passed.
pub record Seeking (w : Walk) (s : List ℕ) (e : ℕ) (r : Records) (name : List ℕ) : Type 0 where
  pub left : Records
  pub p : ℕ → Bool
  pub l : ℕ
  pub over : WalksOver w s e left
  pub good : good_records left p l ≡ true
  pub same : get r name ≡ get left name

pub seek_start : {w : Walk} {s : List ℕ} {i e : ℕ} {name : List ℕ} (l : Level s i e) → WalksOver w s e l.r → Seeking w s e l.r name
seek_start l o = record { left = l.r; p = l.p; l = l.l; over = o; good = l.good; same = refl }

module _ {w : Walk} {s : List ℕ} {e : ℕ} {r : Records} {name : List ℕ} (k : Seeking w s e r name) where
  pub seek_end : k.left ≡ end → Gives s (get r name) None
  unfolding get Gives
  seek_end z = rw z at k.same

  module _ {i : ℕ} {o : Item} {x : Walk} (m : Meets s e k.left i o x) where
    good : good_records (rec m.n m.v m.q) k.p k.l ≡ true
    good = rw m.is at k.good

    passed : get r name ≡ get (rec m.n m.v m.q) name
    passed = rw m.is at k.same

    module _ {c : Ordering} (h : c ≡ slice_cmp nat_cmp o.name.now name) where
      order_is : slice_cmp nat_cmp m.n name ≡ c
      order_is = sym (h ∙ ap (λ z. slice_cmp nat_cmp z name) m.told.name)

      pub seek_found : (f : Found) → c ≡ Equal → ((v : Value) → Body s v o → Tells s v f) → Gives s (get r name) (Some f)
      unfolding Gives
      seek_found f a b = (m.v, passed ∙ get-yes m.n m.v m.q name (order_is ∙ a), b m.v (item_body m.told))

      pub seek_passed : c ≡ Greater → Gives s (get r name) None
      unfolding Gives
      seek_passed a =
          let p = good-parts m.n m.v m.q k.p k.l good in
          let j : less name m.n ≡ true = (order-less m.n name).1 ∙ rw (order_is ∙ a) refl in
          passed ∙ get-no m.n m.v m.q name (λ z. other (sym a ∙ sym order_is ∙ z)) ∙ get-before m.q k.p k.l m.n name p.later p.order j

      pub seek_on : c ≡ Less → Seeking x s e r name
      seek_on a = record {
        left = m.q;
        p = k.p;
        l = k.l;
        over = m.over;
        good = (good-parts m.n m.v m.q k.p k.l good).later;
        same = passed ∙ get-no m.n m.v m.q name (λ z. unlike (sym a ∙ sym order_is ∙ z));
      }
