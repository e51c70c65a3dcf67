-- The layout check: reading and testing in one go, which is what `sheet_of` says.
use Rattle.std.specs.Prelude.{◌≡◌, Bool, ◌&&◌, eqb, leb, length, get_or}
use Rattle.std.proofs.Math.Path.{refl, sym, ap}
use Rattle.std.proofs.Common.{◌∙◌, drop_of_length-le, drop-cons, le-leb}
use Rattle.std.proofs.Math.Bool.{true, false}
use mathlib.Core.List.{List, [], ◌∷◌}
use Rattle.std.proofs.Math.Option.{Option, none, some}
use Prim.Native.Nat.{ℕ, zero, suc, ◌-◌, ◌/◌, ◌≤◌, ◌<◌}
use native.Mathlib.Omega.{arith}
use Rattle.std.proofs.Math.ListN.{drop}
use Rattle.std.proofs.lemmas.Bool.{lt-leb}
use Rattle.std.specs.Cmp.{both_ways}
use Rattle.scan.specs.Sets.{part}
use Rattle.rules.specs.Reader.{all}
use Rattle.rules.specs.Bytes.{ascii, word, name_byte, less}
use Rattle.rules.specs.Layout.{Parser, bind, ◌>>=◌, pure, broken, bit, byte, word16, field, field_if}
use Rattle.rules.specs.Sheet.{Value, text, nothing, dictionary, Records, end, rec, value, one_record, some_records, all_records, levels, decode, before, good_value, good_records, sheet_of}
use Rattle.rules.specs.Answer.{is_some}
use Rattle.rules.proofs.Laws.Bool.{and_l, and_r, and_i}
use Rattle.sheet.specs.Heads.{Shape, plain, absent, holding, shape_kind, shape_text, shape_count, shape, head, IsItem, Reads}
use Rattle.std.specs.declared.cmp.Ordering.{Ordering}
use Rattle.std.specs.Ordering.{nat_cmp, is_lt}
use Rattle.std.specs.Cmp.Lexicographic.{slice_cmp}
use Rattle.sheet.specs.Order.{order-less}
use Rattle.sheet.specs.Records.{Checked}
use Rattle.std.specs.Borrow.{Bor}
use Rattle.std.specs.Prelude.{Option as RustOption, Some, None}
use Rattle.sheet_layout.specs.declared.Level.{Level}
use Rattle.sheet_layout.specs.declared.Level.TheVariants.{Bindings, Entries}
use Rattle.sheet.specs.declared.head.Kind.{Kind}
use Rattle.sheet.specs.declared.head.Kind.TheVariants.{Nothing, Text, Dictionary}
use Rattle.sheet.specs.declared.head.Item.{Item}

-- The bytes of a level's names.
abbrev pub name_bytes : Level → ℕ → Bool
name_bytes Bindings = word
name_bytes Entries = name_byte

-- a, if the test holds.
unfoldable pub guard : {A : Type 0} → Bool → A → Option A
guard true a = some a
guard false a = none

-- Does the name stand behind the last one, if there is one; do the records' names.
unfoldable pub follows : Option (List ℕ) → List ℕ → Bool
follows none n = true
follows (some m) n = less m n

unfoldable pub after : Option (List ℕ) → Records → Bool
after l end = true
after l (rec n v r) = follows l n

-- Is a name of bytes with p and behind the last one, and a text of bytes below 128.
unfoldable pub suits : (ℕ → Bool) → Option (List ℕ) → List ℕ → List ℕ → Bool
suits p l n t = (all p n && all ascii t) && follows l n

-- A head that suits.
unfoldable pub good_head : (ℕ → Bool) → Option (List ℕ) → Parser (List ℕ × Shape)
good_head p l b = bind (head b) (λ x. guard (suits p l x.0.0 (shape_text x.0.1)) x)

-- Reading records, tested: the bytes behind them. `inner` reads those of a dictionary.
module _ (inner : ℕ → List ℕ → Option (List ℕ)) where
  unfoldable pub body : Kind → ℕ → List ℕ → Option (List ℕ)
  body Nothing n b = some b
  body Text n b = some b
  body Dictionary n b = inner n b

  unfoldable pub one : (ℕ → Bool) → Option (List ℕ) → List ℕ → Option (List ℕ × List ℕ)
  one p l b = bind (good_head p l b) (λ x. bind (body (shape_kind x.0.1) (shape_count x.0.1) x.1) (λ c. some (x.0.0, c)))

  unfoldable pub run : (ℕ → Bool) → ℕ → Option (List ℕ) → List ℕ → Option (List ℕ)
  run p zero l b = some b
  run p (suc k) l b = bind (one p l b) (λ y. run p k (some y.0) y.1)

  unfoldable pub run_all : (ℕ → Bool) → ℕ → Option (List ℕ) → List ℕ → Option Records
  run_all p zero l [] = some end
  run_all p zero l (x ∷ b) = none
  run_all p (suc k) l [] = some end
  run_all p (suc k) l (x ∷ b) = bind (one p l (x ∷ b)) (λ y. run_all p k (some y.0) y.1)

-- A dictionary's records, with so many levels left.
unfoldable pub within : ℕ → ℕ → List ℕ → Option (List ℕ)
within zero n b = none
within (suc l) n b = run (within l) name_byte n none b

-- CONTRACTS.
-- The last name, if there is one.
unfoldable pub last_of : RustOption (Bor (List ℕ)) → Option (List ℕ)
last_of None = none
last_of (Some l) = some l.now

-- h is the head at i, if that suits.
abbrev pub Enters : List ℕ → ℕ → (ℕ → Bool) → Option (List ℕ) → RustOption Item → Type 0
Enters s i p l None = good_head p l (drop i s) ≡ none
Enters s i p l (Some o) = IsItem s i o × (good_head p l (drop i s) ≡ head (drop i s))

-- What is left where r says.
abbrev pub EndsAt : List ℕ → ℕ → Option (List ℕ) → RustOption ℕ → Type 0
EndsAt s i x None = x ≡ none
EndsAt s i x (Some j) = (i ≤ j) × (j ≤ length s) × (x ≡ some (drop j s))

-- The sheet of these bytes, or they break the layout.
abbrev pub Checks : List ℕ → RustOption (List ℕ) → Type 0
Checks s None = is_some (sheet_of s) ≡ false
Checks s (Some x) = (x ≡ s) × Checked s

-- BOOLEANS.
-- The tests of one record and of those behind it, in either order.
regroup : (a t f g b : Bool) → (((a && t) && f) && (g && b)) ≡ ((((a && b) && t) && g) && f)
regroup a t f g b =
    both_ways _ _
    (λ h.
    let x = and_l ((a && t) && f) (g && b) h in
    let y = and_r ((a && t) && f) (g && b) h in
    let z = and_l (a && t) f x in
    and_i (((a && b) && t) && g) f (and_i ((a && b) && t) g (and_i (a && b) t (and_i a b (and_l a t z) (and_r g b y)) (and_r a t z)) (and_l g b y)) (and_r (a && t) f x))
    (λ h.
    let x = and_l (((a && b) && t) && g) f h in
    let y = and_l ((a && b) && t) g x in
    let z = and_l (a && b) t y in
    and_i ((a && t) && f) (g && b) (and_i (a && t) f (and_i a t (and_l a b z) (and_r (a && b) t y)) (and_r (((a && b) && t) && g) f h)) (and_i g b (and_r ((a && b) && t) g x) (and_r a b z)))

module _ {A B : Type 0} where
  guard_none : (b : Bool) (a : A) (f : A → Option B) → f a ≡ none → bind (guard b a) f ≡ none
  unfolding guard bind
  guard_none true a f h = h
  guard_none false a f h = refl

  guard-some : (b : Bool) (a : A) (f : A → Option B) (x : B) → f a ≡ some x → bind (guard b a) f ≡ guard b x
  unfolding guard bind
  guard-some true a f x h = h
  guard-some false a f x h = refl

  guard-guard : (b c : Bool) (a : A) (f : A → Option B) (x : B) → f a ≡ guard c x → bind (guard b a) f ≡ guard (b && c) x
  unfolding guard bind
  guard-guard true c a f x h = h
  guard-guard false c a f x h = refl

-- ONE RECORD is its head and then what it holds.
unfoldable complete : (ℕ → Parser Records) → List ℕ → Shape → List ℕ → Option ((List ℕ × Value) × List ℕ)
complete records n (plain t) c = some ((n, text t), c)
complete records n absent c = some ((n, nothing), c)
complete records n (holding k) c = bind (records k c) (λ r. some ((n, dictionary r.0), r.1))

abbrev with_name : List ℕ → Value × List ℕ → Option ((List ℕ × Value) × List ℕ)
with_name n v = some ((n, v.0), v.1)

abbrev with_head : List ℕ → Shape × List ℕ → Option ((List ℕ × Shape) × List ℕ)
with_head n v = some ((n, v.0), v.1)

abbrev as_text : List ℕ × List ℕ → Option (Value × List ℕ)
as_text r = some (text r.0, r.1)

abbrev as_plain : List ℕ × List ℕ → Option (Shape × List ℕ)
as_plain r = some (plain r.0, r.1)

abbrev as_dictionary : Records × List ℕ → Option (Value × List ℕ)
as_dictionary r = some (dictionary r.0, r.1)

abbrev as_holding : ℕ × List ℕ → Option (Shape × List ℕ)
as_holding r = some (holding r.0, r.1)

module _ (records : ℕ → Parser Records) where
  abbrev filled : (List ℕ × Shape) × List ℕ → Option ((List ℕ × Value) × List ℕ)
  filled x = complete records x.0.0 x.0.1 x.1

  module _ (n : List ℕ) where
    text-shape : (x : Option (List ℕ × List ℕ)) → bind (bind x as_text) (with_name n) ≡ bind (bind x as_plain) (λ v. complete records n v.0 v.1)
    unfolding bind complete
    text-shape none = refl
    text-shape (some x) = refl

    dictionary-shape : (x : Option (Records × List ℕ)) → bind (bind x as_dictionary) (with_name n) ≡ bind x (λ s. with_name n (dictionary s.0, s.1))
    unfolding bind
    dictionary-shape none = refl
    dictionary-shape (some x) = refl

    holding-shape : (x : Option (ℕ × List ℕ)) → bind (bind x (λ r. bind (records r.0 r.1) as_dictionary)) (with_name n) ≡ bind (bind x as_holding) (λ v. complete records n v.0 v.1)
    unfolding bind complete
    holding-shape none = refl
    holding-shape (some x) = dictionary-shape (records x.0 x.1)

    value-shape-at : (k : ℕ) (b : List ℕ) (c₀ c₁ c₂ c₄ : Bool) → eqb k 0 ≡ c₀ → eqb k 1 ≡ c₁ → eqb k 2 ≡ c₂ → eqb k 4 ≡ c₄ →
        bind (value records k b) (with_name n) ≡ bind (shape k b) (λ v. complete records n v.0 v.1)
    unfolding value shape complete pure broken bind ◌>>=◌
    value-shape-at k b true c₁ c₂ c₄ q₀ q₁ q₂ q₄ = rw (q₀, value, shape) refl
    value-shape-at k b false true c₂ c₄ q₀ q₁ q₂ q₄ = rw (q₀, q₁, value, shape) (text-shape (field word16 b))
    value-shape-at k b false false true c₄ q₀ q₁ q₂ q₄ = rw (q₀, q₁, q₂, value, shape) (holding-shape (word16 b))
    value-shape-at k b false false false true q₀ q₁ q₂ q₄ = rw (q₀, q₁, q₂, q₄, value, shape) refl
    value-shape-at k b false false false false q₀ q₁ q₂ q₄ = rw (q₀, q₁, q₂, q₄, value, shape) refl

    value-shape : (k : ℕ) (b : List ℕ) → bind (value records k b) (with_name n) ≡ bind (shape k b) (λ v. complete records n v.0 v.1)
    value-shape k b = value-shape-at k b (eqb k 0) (eqb k 1) (eqb k 2) (eqb k 4) refl refl refl refl

    head-filled : (x : Option (Shape × List ℕ)) → bind x (λ v. complete records n v.0 v.1) ≡ bind (bind x (with_head n)) filled
    unfolding bind
    head-filled none = refl
    head-filled (some x) = refl

  name-filled : (m : ℕ) (x : Option (List ℕ × List ℕ)) → bind x (λ n. bind (value records (m / 2) n.1) (with_name n.0)) ≡ bind (bind x (λ n. bind (shape (m / 2) n.1) (with_head n.0))) filled
  unfolding bind
  name-filled m none = refl
  name-filled m (some x) = value-shape x.0 (m / 2) x.1 ∙ head-filled x.0 (shape (m / 2) x.1)

  one-head : (b : List ℕ) → one_record records b ≡ bind (head b) filled
  unfolding one_record head byte pure bind ◌>>=◌
  one-head [] = refl
  one-head (m ∷ b) = name-filled m (field_if (bit 0 m) word16 b)

-- A LEVEL, read and then tested.
abbrev behind : List ℕ → List ℕ → Option (List ℕ × List ℕ)
behind n c = some (n, c)

module _ (l : ℕ) where
  abbrev dictionary_test : Records × List ℕ → Option (List ℕ)
  dictionary_test x = guard (good_value (dictionary x.0) l) x.1

  module _ (p : ℕ → Bool) (last : Option (List ℕ)) where
    abbrev one_test : (List ℕ × Value) × List ℕ → Option (List ℕ × List ℕ)
    one_test x = guard ((all p x.0.0 && good_value x.0.1 l) && follows last x.0.0) (x.0.0, x.1)

    abbrev run_test : Records × List ℕ → Option (List ℕ)
    run_test x = guard (good_records x.0 p l && after last x.0) x.1

    abbrev all_test : Records → Option Records
    all_test r = guard (good_records r p l && after last r) end

shuffle : (a f g : Bool) → (((a && true) && f) && g) ≡ ((a && g) && f)
shuffle false f g = refl
shuffle true true true = refl
shuffle true true false = refl
shuffle true false true = refl
shuffle true false false = refl

after-before : (n : List ℕ) (r : Records) → after (some n) r ≡ before n r
unfolding after follows before
after-before n end = refl
after-before n (rec m w r) = refl

module _ (l : ℕ) (inner : ℕ → List ℕ → Option (List ℕ)) (law : (n : ℕ) (b : List ℕ) → inner n b ≡ bind (levels l n b) (dictionary_test l)) (p : ℕ → Bool) where
  abbrev held : (List ℕ × Shape) × List ℕ → Option (List ℕ × List ℕ)
  held x = bind (body inner (shape_kind x.0.1) (shape_count x.0.1) x.1) (behind x.0.0)

  module _ (last : Option (List ℕ)) where
    holding-at : (n : List ℕ) (k : ℕ) (c : List ℕ) (y : Option (Records × List ℕ)) → inner k c ≡ bind y (dictionary_test l) →
        bind (guard (suits p last n []) ((n, holding k), c)) held ≡ bind (bind y (λ r. with_name n (dictionary r.0, r.1))) (one_test l p last)
    unfolding body bind suits all shape_kind shape_count
    holding-at n k c none e = guard_none (suits p last n []) ((n, holding k), c) held (rw e refl)
    holding-at n k c (some y) e =
        let g = good_value (dictionary y.0) l in
        guard-guard (suits p last n []) g ((n, holding k), c) held (n, y.1) (rw e (guard-some g y.1 (behind n) (n, y.1) refl))
        ∙ ap (λ z. guard z (n, y.1)) (shuffle (all p n) (follows last n) g)

    shaped : (n : List ℕ) (v : Shape) (c : List ℕ) → bind (guard (suits p last n (shape_text v)) ((n, v), c)) held ≡ bind (complete (levels l) n v c) (one_test l p last)
    unfolding body bind suits all shape_kind shape_text shape_count complete good_value
    shaped n (plain t) c = guard-some (suits p last n t) ((n, plain t), c) held (n, c) refl
    shaped n absent c = guard-some (suits p last n []) ((n, absent), c) held (n, c) refl
    shaped n (holding k) c = holding-at n k c (levels l k c) (law k c)

    one_at : (x : Option ((List ℕ × Shape) × List ℕ)) → bind (bind x (λ x. guard (suits p last x.0.0 (shape_text x.0.1)) x)) held ≡ bind (bind x (filled (levels l))) (one_test l p last)
    unfolding bind
    one_at none = refl
    one_at (some x) = shaped x.0.0 x.0.1 x.1

    one-is : (b : List ℕ) → one inner p last b ≡ bind (one_record (levels l) b) (one_test l p last)
    unfolding one good_head
    one-is b = one_at (head b) ∙ ap (λ z. bind z (one_test l p last)) (sym (one-head (levels l) b))

  -- The records behind one record.
  module _ (last : Option (List ℕ)) (n : List ℕ) (v : Value) where
    abbrev with_record : Records × List ℕ → Option (Records × List ℕ)
    with_record r = some (rec n v r.0, r.1)

    run-next : (c : List ℕ) (f : List ℕ × List ℕ → Option (List ℕ)) (y : Option (Records × List ℕ)) → f (n, c) ≡ bind y (run_test l p (some n)) →
        bind (one_test l p last ((n, v), c)) f ≡ bind (bind y with_record) (run_test l p last)
    unfolding bind good_records after follows before
    run-next c f none e = guard_none _ (n, c) f e
    run-next c f (some y) e =
        guard-guard _ (good_records y.0 p l && after (some n) y.0) (n, c) f y.1 e
        ∙ ap (λ z. guard z y.1) (rw (after-before n y.0) (regroup (all p n) (good_value v l) (follows last n) (good_records y.0 p l) (before n y.0)))

    -- The same up to the end of the bytes.
    abbrev with_all : Records → Option Records
    with_all r = some (rec n v r)

    all-next : (c : List ℕ) (f : List ℕ × List ℕ → Option Records) (y : Option Records) → f (n, c) ≡ bind y (all_test l p (some n)) →
        bind (one_test l p last ((n, v), c)) f ≡ bind (bind y with_all) (all_test l p last)
    unfolding bind good_records after follows before
    all-next c f none e = guard_none _ (n, c) f e
    all-next c f (some y) e =
        guard-guard _ (good_records y p l && after (some n) y) (n, c) f end e
        ∙ ap (λ z. guard z end) (rw (after-before n y) (regroup (all p n) (good_value v l) (follows last n) (good_records y p l) (before n y)))

  run_step : (k : ℕ) (last : Option (List ℕ)) (x : Option ((List ℕ × Value) × List ℕ)) → ((m : Option (List ℕ)) (b : List ℕ) → run inner p k m b ≡ bind (some_records (levels l) k b) (run_test l p m)) →
      bind (bind x (one_test l p last)) (λ y. run inner p k (some y.0) y.1) ≡ bind (bind x (λ r. bind (some_records (levels l) k r.1) (with_record last r.0.0 r.0.1))) (run_test l p last)
  unfolding bind
  run_step k last none ih = refl
  run_step k last (some x) ih = run-next last x.0.0 x.0.1 x.1 (λ y. run inner p k (some y.0) y.1) (some_records (levels l) k x.1) (ih (some x.0.0) x.1)

  run_is : (k : ℕ) (last : Option (List ℕ)) (b : List ℕ) → run inner p k last b ≡ bind (some_records (levels l) k b) (run_test l p last)
  unfolding run some_records good_records after guard pure bind ◌>>=◌
  run_is zero last b = refl
  run_is (suc k) last b = ap (λ z. bind z (λ y. run inner p k (some y.0) y.1)) (one-is last b) ∙ run_step k last (one_record (levels l) b) (λ m c. run_is k m c)

  all-step : (k : ℕ) (last : Option (List ℕ)) (x : Option ((List ℕ × Value) × List ℕ)) → ((m : Option (List ℕ)) (b : List ℕ) → run_all inner p k m b ≡ bind (all_records (levels l) k b) (all_test l p m)) →
      bind (bind x (one_test l p last)) (λ y. run_all inner p k (some y.0) y.1) ≡ bind (bind x (λ r. bind (all_records (levels l) k r.1) (with_all last r.0.0 r.0.1))) (all_test l p last)
  unfolding bind
  all-step k last none ih = refl
  all-step k last (some x) ih = all-next last x.0.0 x.0.1 x.1 (λ y. run_all inner p k (some y.0) y.1) (all_records (levels l) k x.1) (ih (some x.0.0) x.1)

  all-is : (k : ℕ) (last : Option (List ℕ)) (b : List ℕ) → run_all inner p k last b ≡ bind (all_records (levels l) k b) (all_test l p last)
  unfolding run_all all_records good_records after guard bind
  all-is zero last [] = refl
  all-is zero last (x ∷ b) = refl
  all-is (suc k) last [] = refl
  all-is (suc k) last (x ∷ b) = ap (λ z. bind z (λ y. run_all inner p k (some y.0) y.1)) (one-is last (x ∷ b)) ∙ all-step k last (one_record (levels l) (x ∷ b)) (λ m c. all-is k m c)

-- Nothing stands before the first name.
after_first : (r : Records) (g : Bool) → (g && after none r) ≡ g
unfolding after follows
after_first end true = refl
after_first end false = refl
after_first (rec n v r) true = refl
after_first (rec n v r) false = refl

first_run : (l : ℕ) (x : Option (Records × List ℕ)) → bind x (run_test l name_byte none) ≡ bind x (dictionary_test (suc l))
unfolding bind good_value
first_run l none = refl
first_run l (some x) = ap (λ z. guard z x.1) (after_first x.0 (good_records x.0 name_byte l))

within-is : (l n : ℕ) (b : List ℕ) → within l n b ≡ bind (levels l n b) (dictionary_test l)
unfolding within levels broken bind
within-is zero n b = refl
within-is (suc l) n b = run_is l (within l) (within-is l) name_byte n none b ∙ first_run l (some_records (levels l) n b)

-- THE SHEET.
sheet-is : (b : List ℕ) (x : Option Records) → length b ≤ 65535 →
    is_some {A = Records} (bind x (λ r. elim (good_records r word 6 && leb (length b) 65535) [ true ↦ some r | false ↦ none ])) ≡ is_some (bind x (all_test 6 word none))
unfolding bind is_some guard
sheet-is b none h = refl
sheet-is b (some r) h = rw (le-leb (length b) 65535 h, after_first r (good_records r word 6)) (go (good_records r word 6))
  where
    go : (g : Bool) → is_some {A = Records} (elim (g && true) [ true ↦ some r | false ↦ none ]) ≡ is_some (guard g end)
    go true = refl
    go false = refl

-- A sheet keeps the layout where its records do, read and tested in one go.
pub check-is : (b : List ℕ) → length b ≤ 65535 → is_some (sheet_of b) ≡ is_some (run_all (within 6) word (length b) none b)
unfolding sheet_of decode
check-is b h = sheet-is b (all_records (levels 6) (length b) b) h ∙ sym (ap is_some (all-is 6 (within 6) (within-is 6) word (length b) none b))

long-is : (b : List ℕ) (x : Option Records) → 65535 < length b → is_some {A = Records} (bind x (λ r. elim (good_records r word 6 && leb (length b) 65535) [ true ↦ some r | false ↦ none ])) ≡ false
unfolding bind is_some
long-is b none h = refl
long-is b (some r) h = rw (lt-leb (length b) 65535 h) (go (good_records r word 6))
  where
    go : (g : Bool) → is_some {A = Records} (elim (g && false) [ true ↦ some r | false ↦ none ]) ≡ false
    go true = refl
    go false = refl

pub check-long : (b : List ℕ) → 65535 < length b → is_some (sheet_of b) ≡ false
unfolding sheet_of
check-long b h = long-is b (decode b) h

-- THE CODE'S STEPS. What is left where the name and the text keep the rules.
pub suits-behind : (p : ℕ → Bool) (n t : List ℕ) → all p n ≡ true → all ascii t ≡ true → {last : RustOption (Bor (List ℕ))} {l : Bor (List ℕ)} → last ≡ Some l →
    {c : Ordering} → c ≡ slice_cmp nat_cmp l.now n → is_lt c ≡ suits p (last_of last) n t
unfolding suits last_of follows
suits-behind p n t h k {l = l} e f = rw (h, k, e, f) (sym (order-less l.now n).0)

module _ (s : List ℕ) (i : ℕ) (p : ℕ → Bool) (l : Option (List ℕ)) where
  pub enters-broken : Reads s i None → Enters s i p l None
  unfolding Reads good_head bind
  enters-broken w = rw w refl

  module _ (o : Item) (r : Reads s i (Some o)) where
    pub is_item : IsItem s i o
    unfolding Reads
    is_item = r

    tested : (c : Bool) → suits p l o.name.now (part s o.at o.next) ≡ c → good_head p l (drop i s) ≡ guard c ((o.name.now, is_item.v), drop o.next s)
    unfolding good_head bind
    tested c q = rw is_item.is (rw (← is_item.text, q) refl)

    pub enters-in : suits p l o.name.now (part s o.at o.next) ≡ true → Enters s i p l (Some o)
    unfolding guard bind
    enters-in q = (is_item, tested true q ∙ sym is_item.is)

    pub enters-not : suits p l o.name.now (part s o.at o.next) ≡ false → Enters s i p l None
    unfolding guard bind
    enters-not q = tested false q

module _ (inner : ℕ → List ℕ → Option (List ℕ)) (p : ℕ → Bool) (l : Option (List ℕ)) (s : List ℕ) (i : ℕ) where
  one-broken : Enters s i p l None → one inner p l (drop i s) ≡ none
  unfolding one bind
  one-broken w = rw w refl

  module _ (o : Item) (w : Enters s i p l (Some o)) where
    pub entered : IsItem s i o
    entered = w.0

    opened : one inner p l (drop i s) ≡ bind (body inner o.kind o.count (drop o.next s)) (behind (o.name.now))
    unfolding one bind
    opened =
        let f : good_head p l (drop i s) ≡ some ((o.name.now, w.0.v), drop o.next s) = w.1 ∙ w.0.is in
        rw f (rw (← w.0.sort, ← w.0.number) refl)

    one_bad : EndsAt s o.next (body inner o.kind o.count (drop o.next s)) None → one inner p l (drop i s) ≡ none
    unfolding bind
    one_bad q = opened ∙ rw q refl

    one_on : (j : ℕ) → EndsAt s o.next (body inner o.kind o.count (drop o.next s)) (Some j) → (o.next ≤ j) × (j ≤ length s) × (one inner p l (drop i s) ≡ some (o.name.now, drop j s))
    unfolding bind
    one_on j q = (q.0, q.1, opened ∙ rw q.2 refl)

run-one : (inner : ℕ → List ℕ → Option (List ℕ)) (p : ℕ → Bool) (k : ℕ) (l : Option (List ℕ)) (b : List ℕ) → 0 < k → run inner p k l b ≡ bind (one inner p l b) (λ y. run inner p (k - 1) (some y.0) y.1)
unfolding run
run-one inner p zero l b h = absurd (omega arith)
run-one inner p (suc k) l b h = let e : suc k - 1 ≡ k = omega arith in rw e refl

-- Where `inside` stands: what is left to read is what was to be read.
pub record Running (s : List ℕ) (at count levels i left : ℕ) (last : RustOption (Bor (List ℕ))) : Type 0 where
  pub on : at ≤ i
  pub inside : i ≤ length s
  pub same : within levels count (drop at s) ≡ run (within (levels - 1)) name_byte left (last_of last) (drop i s)

pub body_flat : (s : List ℕ) (kind : Kind) (at count levels : ℕ) → (kind ≡ Dictionary → ⊥) → at ≤ length s → EndsAt s at (body (within levels) kind count (drop at s)) (Some at)
unfolding body
body_flat s Nothing at count levels h l = (omega arith, l, refl)
body_flat s Text at count levels h l = (omega arith, l, refl)
body_flat s Dictionary at count levels h l = absurd (h refl)

body_deep : (kind : Kind) (count levels : ℕ) (b : List ℕ) → kind ≡ Dictionary → body (within levels) kind count b ≡ within levels count b
unfolding body
body_deep kind count levels b h = rw h refl

pub body-none : (s : List ℕ) (kind : Kind) (at count levels : ℕ) → kind ≡ Dictionary → levels ≡ 0 → EndsAt s at (body (within levels) kind count (drop at s)) None
unfolding within
body-none s kind at count levels h e = body_deep kind count levels (drop at s) h ∙ rw e refl

pub running-start : (s : List ℕ) (at count levels : ℕ) → at ≤ length s → (levels ≡ 0 → ⊥) → Running s at count levels at (count - 0) None
unfolding last_of within
running-start s at count zero h e = absurd (e refl)
running-start s at count (suc l) h e =
    let z : suc l - 1 ≡ l = omega arith in
    let y : count - 0 ≡ count = omega arith in
    record { on = omega arith; inside = h; same = rw (z, y) refl }

module _ {s : List ℕ} {at count levels i left : ℕ} {last : RustOption (Bor (List ℕ))} (g : Running s at count levels i left last) (kind : Kind) (deep : kind ≡ Dictionary) where
  pub running-end : left ≤ 0 → EndsAt s at (body (within levels) kind count (drop at s)) (Some i)
  unfolding run
  running-end h = let z : left ≡ 0 = omega arith in (g.on, g.inside, body_deep kind count levels (drop at s) deep ∙ g.same ∙ rw z refl)

  module _ (h : 0 < left) where
    stopped : one (within (levels - 1)) name_byte (last_of last) (drop i s) ≡ none → EndsAt s at (body (within levels) kind count (drop at s)) None
    unfolding bind
    stopped e = body_deep kind count levels (drop at s) deep ∙ g.same ∙ run-one (within (levels - 1)) name_byte left (last_of last) (drop i s) h ∙ rw e refl

    pub running-broken : Enters s i name_byte (last_of last) None → EndsAt s at (body (within levels) kind count (drop at s)) None
    running-broken w = stopped (one-broken (within (levels - 1)) name_byte (last_of last) s i w)

    module _ (o : Item) (w : Enters s i name_byte (last_of last) (Some o)) where
      pub running_bad : EndsAt s o.next (body (within (levels - 1)) o.kind o.count (drop o.next s)) None → EndsAt s at (body (within levels) kind count (drop at s)) None
      running_bad q = stopped (one_bad (within (levels - 1)) name_byte (last_of last) s i o w q)

      pub running-on : (j : ℕ) {k : ℕ} → k ≡ left - 1 → EndsAt s o.next (body (within (levels - 1)) o.kind o.count (drop o.next s)) (Some j) → Running s at count levels j k (Some o.name)
      unfolding last_of bind
      running-on j e q =
          let f = one_on (within (levels - 1)) name_byte (last_of last) s i o w j q in
          let d = entered (within (levels - 1)) name_byte (last_of last) s i o w in
          record {
            on = omega (arith, g.on, f.0, d.behind, d.on);
            inside = f.1;
            same = g.same ∙ run-one (within (levels - 1)) name_byte left (last_of last) (drop i s) h ∙ rw (f.2, e) refl;
          }

-- Where `check` stands, with at most m records left.
pub record Checking (s : List ℕ) (i : ℕ) (last : RustOption (Bor (List ℕ))) : Type 0 where
  pub m : ℕ
  pub enough : length s - i ≤ m
  pub inside : i ≤ length s
  pub same : is_some (sheet_of s) ≡ is_some (run_all (within 6) word m (last_of last) (drop i s))

pub checking-start : (s : List ℕ) → length s ≤ 65535 → Checking s 0 None
unfolding last_of
checking-start s h = record { m = length s; enough = omega arith; inside = omega arith; same = check-is s h }

all_end : (inner : ℕ → List ℕ → Option (List ℕ)) (p : ℕ → Bool) (m : ℕ) (l : Option (List ℕ)) → run_all inner p m l [] ≡ some end
unfolding run_all
all_end inner p zero l = refl
all_end inner p (suc m) l = refl

all_one : (inner : ℕ → List ℕ → Option (List ℕ)) (p : ℕ → Bool) (m : ℕ) (l : Option (List ℕ)) (x : ℕ) (b : List ℕ) → 0 < m → run_all inner p m l (x ∷ b) ≡ bind (one inner p l (x ∷ b)) (λ y. run_all inner p (m - 1) (some y.0) y.1)
unfolding run_all
all_one inner p zero l x b h = absurd (omega arith)
all_one inner p (suc m) l x b h = let e : suc m - 1 ≡ m = omega arith in rw e refl

module _ {s : List ℕ} {i : ℕ} {last : RustOption (Bor (List ℕ))} (g : Checking s i last) where
  pub checking-end : length s ≤ i → is_some (sheet_of s) ≡ true
  unfolding is_some
  checking-end h = g.same ∙ rw (drop_of_length-le s h, all_end (within 6) word g.m (last_of last)) refl

  module _ (h : i < length s) where
    next_one : is_some (sheet_of s) ≡ is_some (bind (one (within 6) word (last_of last) (drop i s)) (λ y. run_all (within 6) word (g.m - 1) (some y.0) y.1))
    next_one =
        let z = drop-cons s i 0 h in
        let n : 0 < g.m = omega (arith, g.enough) in
        g.same ∙ ap is_some (rw z (all_one (within 6) word g.m (last_of last) (get_or s i 0) (drop (suc i) s) n))

    halted : one (within 6) word (last_of last) (drop i s) ≡ none → is_some (sheet_of s) ≡ false
    unfolding is_some bind
    halted e = next_one ∙ rw e refl

    pub checking-broken : Enters s i word (last_of last) None → is_some (sheet_of s) ≡ false
    checking-broken w = halted (one-broken (within 6) word (last_of last) s i w)

    module _ (o : Item) (w : Enters s i word (last_of last) (Some o)) where
      pub checking_bad : EndsAt s o.next (body (within 6) o.kind o.count (drop o.next s)) None → is_some (sheet_of s) ≡ false
      checking_bad q = halted (one_bad (within 6) word (last_of last) s i o w q)

      module _ (j : ℕ) (q : EndsAt s o.next (body (within 6) o.kind o.count (drop o.next s)) (Some j)) where
        pub checking-on : Checking s j (Some o.name)
        unfolding last_of bind
        checking-on =
            let f = one_on (within 6) word (last_of last) s i o w j q in
            let d = entered (within 6) word (last_of last) s i o w in
            record {
              m = g.m - 1;
              enough = omega (arith, g.enough, f.0, d.behind, d.on);
              inside = f.1;
              same = next_one ∙ rw f.2 refl;
            }
