-- Laws of sheets (01, section 2): their bytes and their layout, lookup, and binding a name.
use Rattle.std.specs.Prelude.{◌≡◌, Bool, not, ◌&&◌, leb, ltb, eqb, length}
use Rattle.std.proofs.Math.Path.{refl}
use Rattle.std.proofs.Common.{sym, ap, ◌∙◌, true≢false}
use Rattle.std.proofs.Math.Bool.{true, false}
use Rattle.std.proofs.lemmas.Bool.{false≢true}
use mathlib.Core.List.{List, [], ◌∷◌, ◌++◌, append_assoc}
use Rattle.std.proofs.Math.Option.{Option, none, some, none-ne-some}
use Prim.Native.Nat.{ℕ, zero, suc, ◌+◌, ◌*◌, ◌/◌, ◌%◌, ◌≤◌, ◌<◌}
use native.Mathlib.Omega.{arith}
use Rattle.std.proofs.Math.ListN.{length-append}
use Rattle.rules.specs.Reader.{all, empty, prefix, same}
use Rattle.rules.specs.Bytes.{is_byte, ascii, word, name_byte, less, split}
use Rattle.rules.specs.Layout.{Parser, bind, ◌>>=◌, ◌>>◌, pure, broken, require, bit, byte, word16, take_bytes, field, field_if}
use Rattle.rules.specs.Sheet.{Value, text, nothing, dictionary, Records, end, rec, word16_bytes, field_bytes, field_mask, count, value_mask, value_bytes, encode, sheet_length, value, one_record, some_records, all_records, levels, decode, before, good_value, good_records, sheet_of, get, get_fields, get_pieces, resolve, text_of, set}
use Rattle.rules.proofs.Laws.Bool.{and_l, and_r, and_i, and_false_r, or-i-l, or-i-r, or_elim, or-false-l, or-false-r, not-true, true-leb, leb-true, true-ltb, ltb-true, false-ltb, true-eqb, eqb-true, false-eqb}
use Rattle.rules.proofs.Laws.Texts.{all_right}

-- THE ORDER OF NAMES.
-- Of two names that are not empty: by their first bytes, or, where these are equal, by the rest.
pub less_elim : {P : Type 0} (x y : ℕ) (xs ys : List ℕ) → less (x ∷ xs) (y ∷ ys) ≡ true → (x < y → P) → (x ≡ y → less xs ys ≡ true → P) → P
unfolding less
less_elim x y xs ys h f g =
    or_elim (ltb x y) (eqb x y && less xs ys) h (λ p. f (true-ltb x y p))
    (λ p. g (true-eqb x y (and_l (eqb x y) (less xs ys) p)) (and_r (eqb x y) (less xs ys) p))

pub less-head : (x y : ℕ) (xs ys : List ℕ) → x < y → less (x ∷ xs) (y ∷ ys) ≡ true
unfolding less
less-head x y xs ys h = or-i-l (ltb x y) (eqb x y && less xs ys) (ltb-true x y h)

pub less-tail : (x y : ℕ) (xs ys : List ℕ) → x ≡ y → less xs ys ≡ true → less (x ∷ xs) (y ∷ ys) ≡ true
unfolding less
less-tail x y xs ys e h = or-i-r (ltb x y) (eqb x y && less xs ys) (and_i (eqb x y) (less xs ys) (eqb-true x y e) h)

-- No name stands before itself.
pub less_irrefl : (n : List ℕ) → less n n ≡ false
unfolding less
less_irrefl [] = refl
less_irrefl (x ∷ xs) = not-true (less (x ∷ xs) (x ∷ xs)) (λ h. less_elim x x xs xs h (λ p. omega arith) (λ p q. true≢false (sym q ∙ less_irrefl xs)))

-- A name before a second one, which stands before a third one, stands before the third one.
pub less-trans : (n m k : List ℕ) → less n m ≡ true → less m k ≡ true → less n k ≡ true
unfolding less
less-trans [] [] k h g = g
less-trans [] (y ∷ ys) [] h g = g
less-trans [] (y ∷ ys) (z ∷ zs) h g = refl
less-trans (x ∷ xs) [] k h g = absurd (false≢true h)
less-trans (x ∷ xs) (y ∷ ys) [] h g = g
less-trans (x ∷ xs) (y ∷ ys) (z ∷ zs) h g =
    less_elim x y xs ys h
    (λ p. less_elim y z ys zs g (λ q. less-head x z xs zs (omega arith)) (λ q s. less-head x z xs zs (omega arith)))
    (λ p r. less_elim y z ys zs g (λ q. less-head x z xs zs (omega arith)) (λ q s. less-tail x z xs zs (p ∙ q) (less-trans xs ys zs r s)))

-- Two names neither of which stands before the other are equal.
pub less-same : (n m : List ℕ) → less n m ≡ false → less m n ≡ false → n ≡ m
unfolding less
less-same [] [] h k = refl
less-same [] (y ∷ ys) h k = absurd (true≢false h)
less-same (x ∷ xs) [] h k = absurd (true≢false k)
less-same (x ∷ xs) (y ∷ ys) h k =
    let a : y ≤ x = false-ltb x y (or-false-l (ltb x y) _ h) in
    let b : x ≤ y = false-ltb y x (or-false-l (ltb y x) _ k) in
    let e : x ≡ y = omega arith in
    let i : xs ≡ ys = less-same xs ys (and_false_r (eqb x y) _ (eqb-true x y e) (or-false-r (ltb x y) _ h)) (and_false_r (eqb y x) _ (eqb-true y x (sym e)) (or-false-r (ltb y x) _ k)) in
    cc

-- A name before another one does not stand behind it.
pub less_asym : (n m : List ℕ) → less n m ≡ true → less m n ≡ false
less_asym n m h = not-true (less m n) (λ g. true≢false (sym (less-trans n m n h g) ∙ less_irrefl n))

-- A name before a second one, which does not stand behind a third one, stands before the third one.
pub less_up : (n m k : List ℕ) → less n m ≡ true → less k m ≡ false → less n k ≡ true
less_up n m k h g = less_up_at (less m k) refl
  where
    less_up_at : (c : Bool) → less m k ≡ c → less n k ≡ true
    less_up_at true e = less-trans n m k h e
    less_up_at false e = rw (less-same k m g e) h

-- EQUAL NAMES.
prefix_refl : (n : List ℕ) → prefix n n ≡ true
unfolding prefix
prefix_refl [] = refl
prefix_refl (x ∷ xs) = and_i (eqb x x) (prefix xs xs) (eqb-true x x refl) (prefix_refl xs)

prefix_eq : (a b : List ℕ) → length a ≡ length b → prefix a b ≡ true → a ≡ b
unfolding prefix
prefix_eq [] [] e h = refl
prefix_eq [] (y ∷ ys) e h = absurd (omega arith)
prefix_eq (x ∷ xs) [] e h = absurd (omega arith)
prefix_eq (x ∷ xs) (y ∷ ys) e h =
    let p : x ≡ y = true-eqb x y (and_l (eqb x y) (prefix xs ys) h) in
    let q : xs ≡ ys = prefix_eq xs ys (omega arith) (and_r (eqb x y) (prefix xs ys) h) in
    cc

-- A name is the same as itself.
pub same_refl : (n : List ℕ) → same n n ≡ true
unfolding same
same_refl n = and_i (eqb (length n) (length n)) (prefix n n) (eqb-true (length n) (length n) refl) (prefix_refl n)

-- Names that are the same are equal.
pub same_eq : (a b : List ℕ) → same a b ≡ true → a ≡ b
unfolding same
same_eq a b h =
    prefix_eq a b (true-eqb (length a) (length b) (and_l (eqb (length a) (length b)) (prefix a b) h)) (and_r (eqb (length a) (length b)) (prefix a b) h)

-- A name that stands before another one is not the same.
less_other : (n m : List ℕ) → less n m ≡ true → same n m ≡ false
less_other n m h = not-true (same n m) (λ q. true≢false (sym h ∙ ap (less n) (sym (same_eq n m q)) ∙ less_irrefl n))

-- GOOD RECORDS: what is asked of the first record and of those behind it.
pub record Good (n : List ℕ) (v : Value) (r : Records) (p : ℕ → Bool) (l : ℕ) : Type 0 where
  pub name : all p n ≡ true
  pub order : before n r ≡ true
  pub value : good_value v l ≡ true
  pub later : good_records r p l ≡ true

-- These are what good records are made of.
pub good-parts : (n : List ℕ) (v : Value) (r : Records) (p : ℕ → Bool) (l : ℕ) → good_records (rec n v r) p l ≡ true → Good n v r p l
unfolding good_records
good-parts n v r p l h =
    let a = and_l (all p n && before n r && good_value v l) (good_records r p l) h in
    let b = and_l (all p n && before n r) (good_value v l) a in
    record {
      name = and_l (all p n) (before n r) b;
      order = and_r (all p n) (before n r) b;
      value = and_r (all p n && before n r) (good_value v l) a;
      later = and_r (all p n && before n r && good_value v l) (good_records r p l) h;
    }

good-whole : (n : List ℕ) (v : Value) (r : Records) (p : ℕ → Bool) (l : ℕ) → Good n v r p l → good_records (rec n v r) p l ≡ true
unfolding good_records
good-whole n v r p l g =
    and_i (all p n && before n r && good_value v l) _ (and_i (all p n && before n r) _ (and_i (all p n) _ g.name g.order) g.value) g.later

-- What is good with l dictionary levels is good with one more.
mutual
  unfolding good_value

  value_up : (v : Value) (l : ℕ) → good_value v l ≡ true → good_value v (suc l) ≡ true
  value_up (text t) l h = h
  value_up nothing l h = h
  value_up (dictionary r) zero h = absurd (false≢true h)
  value_up (dictionary r) (suc l) h = records_up r name_byte l h

  records_up : (r : Records) (p : ℕ → Bool) (l : ℕ) → good_records r p l ≡ true → good_records r p (suc l) ≡ true
  records_up end p l h = h
  records_up (rec n v r) p l h =
      let g = good-parts n v r p l h in
      good-whole n v r p (suc l) (record { name = g.name; order = g.order; value = value_up v l g.value; later = records_up r p l g.later })

-- LOOKUP.
-- If `bind x f` answers w, then x is some a, and `f a` answers w.
pub bind-some : {A B : Type 0} (x : Option A) (f : A → Option B) {w : B} → bind x f ≡ some w → (a : A) × (x ≡ some a) × (f a ≡ some w)
unfolding bind
bind-some none f {w} h = absurd (none-ne-some w h)
bind-some (some a) f h = (a, refl, h)

get-good-at : (m n : List ℕ) (v w : Value) (r : Records) (l : ℕ) (c : Bool) → same m n ≡ c → good_value v l ≡ true → get (rec m v r) n ≡ some w → (get r n ≡ some w → good_value w l ≡ true) → good_value w l ≡ true
unfolding get
get-good-at m n v w r l true q g h ih =
    let a : some v ≡ some w = rw (q, get) at h in
    let e : v ≡ w = cc in
    rw e at g
get-good-at m n v w r l false q g h ih = ih (rw (q, get) at h)

-- A value of good records is good.
pub get-good : (s : Records) (p : ℕ → Bool) (l : ℕ) (n : List ℕ) (w : Value) → good_records s p l ≡ true → get s n ≡ some w → good_value w l ≡ true
unfolding get
get-good end p l n w h f = cc
get-good (rec m v r) p l n w h f =
    let g = good-parts m v r p l h in
    get-good-at m n v w r l (same m n) refl g.value f (get-good r p l n w g.later)

fields_good : (ks : List (List ℕ)) (v w : Value) (l : ℕ) → good_value v l ≡ true → get_fields ks v ≡ some w → good_value w l ≡ true
unfolding get_fields good_value
fields_good [] v w l h f = let e : v ≡ w = cc in rw e at h
fields_good (k ∷ ks) (text t) w l h f = cc
fields_good (k ∷ ks) nothing w l h f = cc
fields_good (k ∷ ks) (dictionary r) w zero h f = absurd (false≢true h)
fields_good (k ∷ ks) (dictionary r) w (suc l) h f =
    let i = bind-some (get r k) (get_fields ks) f in
    value_up w l (fields_good ks i.0 w l (get-good r name_byte l k i.0 h i.1) i.2)

pieces-good : (s : Records) (p : ℕ → Bool) (l : ℕ) (ks : List (List ℕ)) (w : Value) → good_records s p l ≡ true → get_pieces s ks ≡ some w → good_value w l ≡ true
unfolding get_pieces
pieces-good s p l [] w h f = cc
pieces-good s p l (k ∷ ks) w h f =
    let i = bind-some (get s k) (get_fields ks) f in
    fields_good ks i.0 w l (get-good s p l k i.0 h i.1) i.2

-- What a text resolves to in good records is good.
pub resolve-good : (s : Records) (p : ℕ → Bool) (l : ℕ) (t : List ℕ) (w : Value) → good_records s p l ≡ true → resolve s t ≡ some w → good_value w l ≡ true
unfolding resolve
resolve-good s p l t w h f = pieces-good s p l (split "." t) w h f

text-ascii : (x : Option Value) (l : ℕ) → ((w : Value) → x ≡ some w → good_value w l ≡ true) → all ascii (text_of x) ≡ true
unfolding text_of all good_value
text-ascii none l g = refl
text-ascii (some nothing) l g = refl
text-ascii (some (text t)) l g = g (text t) refl
text-ascii (some (dictionary r)) l g = refl

-- A text resolves to a text of bytes below 128.
pub resolve-ascii : (s : Records) → good_records s word 6 ≡ true → (t : List ℕ) → all ascii (text_of (resolve s t)) ≡ true
resolve-ascii s h t = text-ascii (resolve s t) 6 (λ w q. resolve-good s word 6 t w h q)

-- BINDING.
before-set-at : (m n k : List ℕ) (v w : Value) (r : Records) (c d : Bool) → less n k ≡ c → less k n ≡ d → less m n ≡ true → less m k ≡ true → before m (set (rec k w r) n v) ≡ true
unfolding set before
before-set-at m n k v w r true d p q h a = rw (p, set) h
before-set-at m n k v w r false true p q h a = rw (p, q, set) a
before-set-at m n k v w r false false p q h a = rw (p, q, set) h

-- A name before the first of some records, and before one that is bound there, stands before the first afterwards.
pub before-set : (m n : List ℕ) (v : Value) (r : Records) → less m n ≡ true → before m r ≡ true → before m (set r n v) ≡ true
unfolding set before
before-set m n v end h a = h
before-set m n v (rec k w r) h a = before-set-at m n k v w r (less n k) (less k n) refl refl h a

set-good-at : (p : ℕ → Bool) (l : ℕ) (n m : List ℕ) (v w : Value) (r : Records) (c d : Bool) → less n m ≡ c → less m n ≡ d → good_records (rec m w r) p l ≡ true → all p n ≡ true → good_value v l ≡ true → good_records (set r n v) p l ≡ true →
    good_records (set (rec m w r) n v) p l ≡ true
unfolding set before
set-good-at p l n m v w r true d a b h e o ih = rw (a, set) (good-whole n v (rec m w r) p l (record { name = e; order = a; value = o; later = h }))
set-good-at p l n m v w r false true a b h e o ih =
    let g = good-parts m w r p l h in
    rw (a, b, set) (good-whole m w (set r n v) p l (record { name = g.name; order = before-set m n v r b g.order; value = g.value; later = ih }))
set-good-at p l n m v w r false false a b h e o ih =
    let g = good-parts m w r p l h in
    let q : n ≡ m = less-same n m a b in
    rw (a, b, set) (good-whole n v r p l (record { name = e; order = rw q g.order; value = o; later = g.later }))

-- Binding a name to a good value keeps records good.
pub set-good : (r : Records) (p : ℕ → Bool) (l : ℕ) (n : List ℕ) (v : Value) → good_records r p l ≡ true → all p n ≡ true → good_value v l ≡ true → good_records (set r n v) p l ≡ true
unfolding set before
set-good end p l n v h e o = good-whole n v end p l (record { name = e; order = refl; value = o; later = h })
set-good (rec m w r) p l n v h e o = set-good-at p l n m v w r (less n m) (less m n) refl refl h e o (set-good r p l n v (good-parts m w r p l h).later e o)

get-here : (n : List ℕ) (v : Value) (r : Records) → get (rec n v r) n ≡ some v
unfolding get
get-here n v r = rw (same_refl n, get)

get-later : (m n : List ℕ) (v : Value) (r : Records) → same m n ≡ false → get (rec m v r) n ≡ get r n
unfolding get
get-later m n v r q = rw (q, get)

get_set_at : (m n : List ℕ) (v w : Value) (r : Records) (c d : Bool) → less n m ≡ c → less m n ≡ d → get (set r n v) n ≡ some v → get (set (rec m w r) n v) n ≡ some v
unfolding set
get_set_at m n v w r true d p q ih = rw (p, set) (get-here n v (rec m w r))
get_set_at m n v w r false true p q ih = rw (p, q, set) (get-later m n w (set r n v) (less_other m n q) ∙ ih)
get_set_at m n v w r false false p q ih = rw (p, q, set) (get-here n v r)

-- A name that was bound has the value that it was bound to.
pub get_set : (r : Records) (n : List ℕ) (v : Value) → get (set r n v) n ≡ some v
unfolding set
get_set end n v = get-here n v end
get_set (rec m w r) n v = get_set_at m n v w r (less n m) (less m n) refl refl (get_set r n v)

get-past : (k m : List ℕ) (w : Value) (r s : Records) (c : Bool) → same k m ≡ c → get r m ≡ get s m → get (rec k w r) m ≡ get (rec k w s) m
unfolding get
get-past k m w r s true q ih = rw (q, get)
get-past k m w r s false q ih = rw (q, get) ih

get-set-other-at : (k n m : List ℕ) (v w : Value) (r : Records) (c d : Bool) → less n k ≡ c → less k n ≡ d → same n m ≡ false → get (set r n v) m ≡ get r m → get (set (rec k w r) n v) m ≡ get (rec k w r) m
unfolding set
get-set-other-at k n m v w r true d p q f ih = rw (p, set) (get-later n m v (rec k w r) f)
get-set-other-at k n m v w r false true p q f ih = rw (p, q, set) (get-past k m w (set r n v) r (same k m) refl ih)
get-set-other-at k n m v w r false false p q f ih =
    let e : n ≡ k = less-same n k p q in
    rw (p, q, set) (get-later n m v r f ∙ sym (get-later k m w r (rw e at f)))

-- Any other name has the value that it had.
pub get_set_other : (r : Records) (n m : List ℕ) (v : Value) → same n m ≡ false → get (set r n v) m ≡ get r m
unfolding set
get_set_other end n m v f = get-later n m v end f
get_set_other (rec k w r) n m v f = get-set-other-at k n m v w r (less n k) (less k n) refl refl f (get_set_other r n m v f)

-- WHAT IS WRITTEN IS READ BACK.
pub word16-read : (n : ℕ) (b : List ℕ) → word16 (word16_bytes n ++ b) ≡ some (n, b)
unfolding word16 word16_bytes byte pure bind ◌>>=◌
word16-read n b = let e : n % 256 + 256 * (n / 256) ≡ n = omega arith in ap (λ z. some (z, b)) e

take-read : (t b : List ℕ) → take_bytes (length t) (t ++ b) ≡ some (t, b)
unfolding take_bytes byte pure bind ◌>>=◌
take-read [] b = refl
take-read (x ∷ xs) b = rw (take-read xs b)

pub field-read : (x : ℕ) (xs b : List ℕ) → field word16 (field_bytes (x ∷ xs) ++ b) ≡ some (x ∷ xs, b)
unfolding field field_bytes require empty pure bind ◌>>=◌ ◌>>◌
field-read x xs b = rw (append_assoc, word16-read) (rw (take-read (x ∷ xs) b))

-- The map byte says whether there is a name, and of which kind the value is.
pub map-byte : (n : List ℕ) (v : Value) → (bit 0 (field_mask 1 n + value_mask v) ≡ eqb (field_mask 1 n) 1) × ((field_mask 1 n + value_mask v) / 2 ≡ value_mask v / 2)
unfolding bit field_mask value_mask
map-byte [] (text []) = (refl, refl)
map-byte [] (text (x ∷ xs)) = (refl, refl)
map-byte [] nothing = (refl, refl)
map-byte [] (dictionary r) = (refl, refl)
map-byte (y ∷ ys) (text []) = (refl, refl)
map-byte (y ∷ ys) (text (x ∷ xs)) = (refl, refl)
map-byte (y ∷ ys) nothing = (refl, refl)
map-byte (y ∷ ys) (dictionary r) = (refl, refl)

pub name-read : (n b : List ℕ) → field_if (eqb (field_mask 1 n) 1) word16 (field_bytes n ++ b) ≡ some (n, b)
unfolding field_if field_mask field_bytes pure
name-read [] b = refl
name-read (x ∷ xs) b = field-read x xs b

text-read : (records : ℕ → Parser Records) (t b : List ℕ) → value records (field_mask 2 t / 2) (field_bytes t ++ b) ≡ some (text t, b)
unfolding value field_mask field_bytes pure bind ◌>>=◌
text-read records [] b = refl
text-read records (x ∷ xs) b = rw (field-read x xs b)

record_read : (records : ℕ → Parser Records) (n : List ℕ) (v : Value) (b : List ℕ) → value records (value_mask v / 2) (value_bytes v ++ b) ≡ some (v, b) →
    one_record records ((field_mask 1 n + value_mask v) ∷ (field_bytes n ++ (value_bytes v ++ b))) ≡ some ((n, v), b)
unfolding one_record byte pure bind ◌>>=◌
record_read records n v b h = rw ((map-byte n v).0, (map-byte n v).1, name-read n (value_bytes v ++ b)) (rw h)

records-step : (records : ℕ → Parser Records) (n : List ℕ) (v : Value) (r : Records) (b : List ℕ) →
    value records (value_mask v / 2) (value_bytes v ++ (encode r ++ b)) ≡ some (v, encode r ++ b) → some_records records (count r) (encode r ++ b) ≡ some (r, b) →
    some_records records (suc (count r)) (encode (rec n v r) ++ b) ≡ some (rec n v r, b)
unfolding some_records encode pure bind ◌>>=◌
records-step records n v r b h k = simp append_assoc (rw (record_read records n v (encode r ++ b) h) (rw k))

mutual
  unfolding value value_mask value_bytes good_value count levels some_records pure bind ◌>>=◌

  value_read : (v : Value) (l : ℕ) (b : List ℕ) → good_value v l ≡ true → value (levels l) (value_mask v / 2) (value_bytes v ++ b) ≡ some (v, b)
  value_read (text t) l b h = text-read (levels l) t b
  value_read nothing l b h = refl
  value_read (dictionary r) zero b h = absurd (false≢true h)
  value_read (dictionary r) (suc l) b h = simp append_assoc (rw (word16-read (count r) (encode r ++ b)) (rw (records-read r name_byte l b h)))

  records-read : (r : Records) (p : ℕ → Bool) (l : ℕ) (b : List ℕ) → good_records r p l ≡ true → some_records (levels l) (count r) (encode r ++ b) ≡ some (r, b)
  records-read end p l b h = refl
  records-read (rec n v r) p l b h =
      let g = good-parts n v r p l h in
      records-step (levels l) n v r b (value_read v l (encode r ++ b) g.value) (records-read r p l b g.later)

all-step : (records : ℕ → Parser Records) (n : List ℕ) (v : Value) (r : Records) (k : ℕ) → value records (value_mask v / 2) (value_bytes v ++ encode r) ≡ some (v, encode r) →
    all_records records k (encode r) ≡ some r → all_records records (suc k) (encode (rec n v r)) ≡ some (rec n v r)
unfolding all_records encode bind
all-step records n v r k h q = rw (record_read records n v (encode r) h) (rw q)

all_read : (r : Records) (p : ℕ → Bool) (l k : ℕ) → count r ≤ k → good_records r p l ≡ true → all_records (levels l) k (encode r) ≡ some r
unfolding all_records encode count
all_read end p l zero c h = refl
all_read end p l (suc k) c h = refl
all_read (rec n v r) p l zero c h = absurd (omega arith)
all_read (rec n v r) p l (suc k) c h =
    let g = good-parts n v r p l h in
    all-step (levels l) n v r k (value_read v l (encode r) g.value) (all_read r p l k (omega arith) g.later)

pub count-le : (r : Records) → count r ≤ length (encode r)
unfolding count encode
count-le end = omega arith
count-le (rec n v r) = simp length-append (omega (arith, count-le r))

-- The bytes of good records decode to these records.
pub decode-encode : (r : Records) (p : ℕ → Bool) → good_records r p 6 ≡ true → decode (encode r) ≡ some r
unfolding decode
decode-encode r p h = all_read r p 6 (length (encode r)) (count-le r) h

-- WHAT IS READ IS WRITTEN BACK.
word16-written : (b : List ℕ) (y : ℕ × List ℕ) → all is_byte b ≡ true → word16 b ≡ some y → b ≡ word16_bytes y.0 ++ y.1
unfolding word16 word16_bytes byte pure bind ◌>>=◌ all is_byte
word16-written [] y a h = cc
word16-written (x ∷ []) y a h = cc
word16-written (x ∷ z ∷ b) y a h =
    let e : (x + 256 * z, b) ≡ y = cc in
    let s : x < 256 = true-ltb x 256 (and_l (ltb x 256) (ltb z 256 && all is_byte b) a) in
    let p : (x + 256 * z) % 256 ≡ x = omega arith in
    let q : (x + 256 * z) / 256 ≡ z = omega arith in
    rw (← e) (rw (p, q))

take-written : (n : ℕ) (b : List ℕ) (y : List ℕ × List ℕ) → take_bytes n b ≡ some y → (length y.0 ≡ n) × (b ≡ y.0 ++ y.1)
unfolding take_bytes byte pure bind ◌>>=◌
take-written zero b y h = let e : ([], b) ≡ y = cc in rw (← e) (refl, refl)
take-written (suc n) [] y h = absurd (none-ne-some y h)
take-written (suc n) (x ∷ b) y h =
    let i = bind-some (take_bytes n b) (λ r. some (x ∷ r.0, r.1)) h in
    let k = take-written n b i.0 i.1 in
    let e : (x ∷ i.0.0, i.0.1) ≡ y = cc i.2 in
    rw (← e) (ap suc k.0, ap (λ t. x ∷ t) k.1)

-- A field that was read is not empty.
field-full : (t c : List ℕ) (y : List ℕ × List ℕ) → bind (require (not (empty t)) c) (λ u. some (t, u.1)) ≡ some y →
    ((t, c) ≡ y) × (field_bytes t ≡ word16_bytes (length t) ++ t) × ((k : ℕ) → field_mask k t ≡ k)
unfolding bind require empty broken pure field_bytes field_mask
field-full [] c y h = absurd (none-ne-some y h)
field-full (x ∷ xs) c y h = (cc, refl, λ k. refl)

field-written : (b : List ℕ) (y : List ℕ × List ℕ) → all is_byte b ≡ true → field word16 b ≡ some y → (b ≡ field_bytes y.0 ++ y.1) × ((k : ℕ) → field_mask k y.0 ≡ k)
unfolding field pure ◌>>=◌ ◌>>◌
field-written b y a h =
    let i = bind-some (word16 b) (λ r. bind (take_bytes r.0 r.1) (λ s. bind (require (not (empty s.0)) s.1) (λ u. some (s.0, u.1)))) h in
    let j = bind-some (take_bytes i.0.0 i.0.1) (λ s. bind (require (not (empty s.0)) s.1) (λ u. some (s.0, u.1))) i.2 in
    let f = field-full j.0.0 j.0.1 y j.2 in
    let w = word16-written b i.0 a i.1 in
    let t = take-written i.0.0 i.0.1 j.0 j.1 in
    rw (← f.0) (rw (f.1, append_assoc, t.0, ← t.1) w, f.2)

name-written-at : (m : ℕ) (b : List ℕ) (y : List ℕ × List ℕ) (c : Bool) → bit 0 m ≡ c → all is_byte b ≡ true → field_if c word16 b ≡ some y → (b ≡ field_bytes y.0 ++ y.1) × (field_mask 1 y.0 ≡ m % 2)
unfolding field_if bit pure field_bytes field_mask
name-written-at m b y true q a h =
    let f = field-written b y a h in
    let o : m / 1 % 2 ≡ 1 = true-eqb (m / 1 % 2) 1 q in
    (f.0, f.1 1 ∙ omega arith)
name-written-at m b y false q a h =
    let e : ([], b) ≡ y = cc in
    let o = false-eqb (m / 1 % 2) 1 q in
    rw (← e) (refl, omega arith)

name-written : (m : ℕ) (b : List ℕ) (y : List ℕ × List ℕ) → all is_byte b ≡ true → field_if (bit 0 m) word16 b ≡ some y → (b ≡ field_bytes y.0 ++ y.1) × (field_mask 1 y.0 ≡ m % 2)
name-written m b y a h = name-written-at m b y (bit 0 m) refl a h

dictionary-written : (n : ℕ) (b c : List ℕ) (y : Records × List ℕ) → b ≡ word16_bytes n ++ c → (count y.0 ≡ n) × (c ≡ encode y.0 ++ y.1) → b ≡ value_bytes (dictionary y.0) ++ y.1
unfolding value_bytes
dictionary-written n b c y w r = rw (append_assoc, r.0, ← r.1) w

-- For a parser of a dictionary's records: what it reads is written back.
module _ (records : ℕ → Parser Records) (back : (n : ℕ) (b : List ℕ) (y : Records × List ℕ) → all is_byte b ≡ true → records n b ≡ some y → (count y.0 ≡ n) × (b ≡ encode y.0 ++ y.1)) where
  value-written-at : (k : ℕ) (b : List ℕ) (y : Value × List ℕ) (c₀ c₁ c₂ c₄ : Bool) → eqb k 0 ≡ c₀ → eqb k 1 ≡ c₁ → eqb k 2 ≡ c₂ → eqb k 4 ≡ c₄ → all is_byte b ≡ true → value records k b ≡ some y →
      (b ≡ value_bytes y.0 ++ y.1) × (value_mask y.0 ≡ 2 * k)
  unfolding value value_bytes value_mask field_bytes field_mask pure broken ◌>>=◌
  value-written-at k b y true c₁ c₂ c₄ q₀ q₁ q₂ q₄ a h =
      let g : some (text [], b) ≡ some y = rw (q₀, value) at h in
      let e : (text [], b) ≡ y = cc in
      let o = true-eqb k 0 q₀ in
      rw (← e) (refl, omega arith)
  value-written-at k b y false true c₂ c₄ q₀ q₁ q₂ q₄ a h =
      let i = bind-some (field word16 b) (λ r. some (text r.0, r.1)) (rw (q₀, q₁, value) at h) in
      let f = field-written b i.0 a i.1 in
      let e : (text i.0.0, i.0.1) ≡ y = cc i.2 in
      let o = true-eqb k 1 q₁ in
      rw (← e) (f.0, f.1 2 ∙ omega arith)
  value-written-at k b y false false true c₄ q₀ q₁ q₂ q₄ a h =
      let i = bind-some (word16 b) (λ r. bind (records r.0 r.1) (λ s. some (dictionary s.0, s.1))) (rw (q₀, q₁, q₂, value) at h) in
      let j = bind-some (records i.0.0 i.0.1) (λ s. some (dictionary s.0, s.1)) i.2 in
      let w = word16-written b i.0 a i.1 in
      let r = back i.0.0 i.0.1 j.0 (all_right is_byte (word16_bytes i.0.0) i.0.1 (rw w at a)) j.1 in
      let e : (dictionary j.0.0, j.0.1) ≡ y = cc j.2 in
      let o = true-eqb k 2 q₂ in
      rw (← e) (dictionary-written i.0.0 b i.0.1 j.0 w r, omega arith)
  value-written-at k b y false false false true q₀ q₁ q₂ q₄ a h =
      let g : some (nothing, b) ≡ some y = rw (q₀, q₁, q₂, q₄, value) at h in
      let e : (nothing, b) ≡ y = cc in
      let o = true-eqb k 4 q₄ in
      rw (← e) (refl, omega arith)
  value-written-at k b y false false false false q₀ q₁ q₂ q₄ a h =
      absurd (none-ne-some y (rw (q₀, q₁, q₂, q₄, value) at h))

  value_written : (k : ℕ) (b : List ℕ) (y : Value × List ℕ) → all is_byte b ≡ true → value records k b ≡ some y → (b ≡ value_bytes y.0 ++ y.1) × (value_mask y.0 ≡ 2 * k)
  value_written k b y a h = value-written-at k b y (eqb k 0) (eqb k 1) (eqb k 2) (eqb k 4) refl refl refl refl a h

  record_written : (b : List ℕ) (y : (List ℕ × Value) × List ℕ) → all is_byte b ≡ true → one_record records b ≡ some y →
      (b ≡ (field_mask 1 y.0.0 + value_mask y.0.1) ∷ (field_bytes y.0.0 ++ (value_bytes y.0.1 ++ y.1))) × (all is_byte y.1 ≡ true)
  unfolding one_record byte pure bind ◌>>=◌ all
  record_written [] y a h = absurd (none-ne-some y h)
  record_written (m ∷ b) y a h =
      let i = bind-some (field_if (bit 0 m) word16 b) (λ r. bind (value records (m / 2) r.1) (λ s. some ((r.0, s.0), s.1))) h in
      let j = bind-some (value records (m / 2) i.0.1) (λ s. some ((i.0.0, s.0), s.1)) i.2 in
      let g = and_r (is_byte m) (all is_byte b) a in
      let n = name-written m b i.0 g i.1 in
      let f = all_right is_byte (field_bytes i.0.0) i.0.1 (rw n.0 at g) in
      let v = value_written (m / 2) i.0.1 j.0 f j.1 in
      let e : ((i.0.0, j.0.0), j.0.1) ≡ y = cc j.2 in
      let o : m ≡ field_mask 1 i.0.0 + value_mask j.0.0 = omega arith in
      rw (← e) (rw (← o, ← v.0, ← n.0), all_right is_byte (value_bytes j.0.0) j.0.1 (rw v.0 at f))

  records-written : (n : ℕ) (b : List ℕ) (y : Records × List ℕ) → all is_byte b ≡ true → some_records records n b ≡ some y → (count y.0 ≡ n) × (b ≡ encode y.0 ++ y.1)
  unfolding some_records count encode pure ◌>>=◌
  records-written zero b y a h = let e : (end, b) ≡ y = cc in rw (← e) (refl, refl)
  records-written (suc n) b y a h =
      let i = bind-some (one_record records b) (λ x. bind (some_records records n x.1) (λ r. some (rec x.0.0 x.0.1 r.0, r.1))) h in
      let j = bind-some (some_records records n i.0.1) (λ r. some (rec i.0.0.0 i.0.0.1 r.0, r.1)) i.2 in
      let f = record_written b i.0 a i.1 in
      let r = records-written n i.0.1 j.0 f.1 j.1 in
      let e : (rec i.0.0.0 i.0.0.1 j.0.0, j.0.1) ≡ y = cc j.2 in
      rw (← e) (ap suc r.0, simp append_assoc (rw (← r.1) f.0))

  all-written : (k : ℕ) (b : List ℕ) (r : Records) → all is_byte b ≡ true → all_records records k b ≡ some r → encode r ≡ b
  unfolding all_records encode
  all-written zero [] r a h = let e : end ≡ r = cc in rw (← e)
  all-written zero (x ∷ b) r a h = cc
  all-written (suc k) [] r a h = let e : end ≡ r = cc in rw (← e)
  all-written (suc k) (x ∷ b) r a h =
      let i = bind-some (one_record records (x ∷ b)) (λ y. bind (all_records records k y.1) (λ s. some (rec y.0.0 y.0.1 s))) h in
      let j = bind-some (all_records records k i.0.1) (λ s. some (rec i.0.0.0 i.0.0.1 s)) i.2 in
      let f = record_written (x ∷ b) i.0 a i.1 in
      let t = all-written k i.0.1 j.0 f.1 j.1 in
      let e : rec i.0.0.0 i.0.0.1 j.0 ≡ r = cc j.2 in
      rw (← e) (rw t (sym f.0))

levels-written : (l n : ℕ) (b : List ℕ) (y : Records × List ℕ) → all is_byte b ≡ true → levels l n b ≡ some y → (count y.0 ≡ n) × (b ≡ encode y.0 ++ y.1)
unfolding levels broken
levels-written zero n b y a h = absurd (none-ne-some y h)
levels-written (suc l) n b y a h = records-written (levels l) (levels-written l) n b y a h

-- Bytes that decode are the bytes of what they decode to: a sheet has no second form.
pub encode-decode : (b : List ℕ) (r : Records) → all is_byte b ≡ true → decode b ≡ some r → encode r ≡ b
unfolding decode
encode-decode b r a h = all-written (levels 6) (levels-written 6) (length b) b r a h

-- SHEETS.
-- The bytes of good records, at most 65,535 of them, are a sheet with these records.
pub sheet-encode : (r : Records) → good_records r word 6 ≡ true → sheet_length r ≤ 65535 → sheet_of (encode r) ≡ some r
unfolding sheet_of sheet_length bind
sheet-encode r h s = rw (decode-encode r word h) (rw (and_i (good_records r word 6) (leb (length (encode r)) 65535) h (leb-true (length (encode r)) 65535 s), bind))

-- What is known of a sheet b and its records r.
pub record GoodSheet (b : List ℕ) (r : Records) : Type 0 where
  pub decoded : decode b ≡ some r
  pub good : good_records r word 6 ≡ true
  pub short : length b ≤ 65535

sheet_test : (b : List ℕ) (r s : Records) (c : Bool) → (good_records r word 6 && leb (length b) 65535) ≡ c → decode b ≡ some r →
    ◌≡◌ {A = Option Records} (elim c [ true ↦ some r | false ↦ none ]) (some s) → GoodSheet b s
sheet_test b r s true q d h =
    let e : r ≡ s = cc in
    rw (← e) (record { decoded = d; good = and_l (good_records r word 6) _ q; short = true-leb (length b) 65535 (and_r (good_records r word 6) _ q) })
sheet_test b r s false q d h = absurd (none-ne-some s h)

-- A sheet decodes to its records, these are good, and it is at most 65,535 bytes long.
pub sheet-good : (b : List ℕ) (r : Records) → sheet_of b ≡ some r → GoodSheet b r
unfolding sheet_of
sheet-good b r h =
    let i = bind-some (decode b) _ h in
    sheet_test b i.0 r (good_records i.0 word 6 && leb (length b) 65535) refl i.1 i.2

-- A sheet is the bytes of its records.
pub sheet_canonical : (b : List ℕ) (r : Records) → all is_byte b ≡ true → sheet_of b ≡ some r → encode r ≡ b
sheet_canonical b r a h = encode-decode b r a (sheet-good b r h).decoded

-- A sheet is as long as the bytes of its records. This is so whatever numbers stand for its bytes, where `sheet_canonical` asks for bytes.
word16-size : (b : List ℕ) (y : ℕ × List ℕ) → word16 b ≡ some y → length b ≡ 2 + length y.1
unfolding word16 byte pure bind ◌>>=◌
word16-size [] y h = cc
word16-size (x ∷ []) y h = cc
word16-size (x ∷ z ∷ b) y h = let e : (x + 256 * z, b) ≡ y = cc in rw (← e) (omega arith)

field-size : (b : List ℕ) (y : List ℕ × List ℕ) → field word16 b ≡ some y → length b ≡ length (field_bytes y.0) + length y.1
unfolding field pure ◌>>=◌ ◌>>◌ word16_bytes
field-size b y h =
    let i = bind-some (word16 b) _ h in
    let j = bind-some (take_bytes i.0.0 i.0.1) _ i.2 in
    let f = field-full j.0.0 j.0.1 y j.2 in
    let t = take-written i.0.0 i.0.1 j.0 j.1 in
    rw (← f.0) (rw f.1 (omega (arith, word16-size b i.0 i.1, simp length-append at (ap length t.1))))

name-size : (c : Bool) (b : List ℕ) (y : List ℕ × List ℕ) → field_if c word16 b ≡ some y → length b ≡ length (field_bytes y.0) + length y.1
unfolding field_if pure field_bytes
name-size true b y h = field-size b y h
name-size false b y h = let e : ([], b) ≡ y = cc in rw (← e) (omega arith)

module _ (records : ℕ → Parser Records) (size : (n : ℕ) (b : List ℕ) (y : Records × List ℕ) → records n b ≡ some y → length b ≡ length (encode y.0) + length y.1) where
  value-size : (k : ℕ) (b : List ℕ) (y : Value × List ℕ) (c₀ c₁ c₂ c₄ : Bool) → eqb k 0 ≡ c₀ → eqb k 1 ≡ c₁ → eqb k 2 ≡ c₂ → eqb k 4 ≡ c₄ → value records k b ≡ some y → length b ≡ length (value_bytes y.0) + length y.1
  unfolding value value_bytes field_bytes word16_bytes pure broken ◌>>=◌
  value-size k b y true c₁ c₂ c₄ q₀ q₁ q₂ q₄ h =
      let g : some (text [], b) ≡ some y = rw (q₀, value) at h in
      let e : (text [], b) ≡ y = cc in
      rw (← e) (omega arith)
  value-size k b y false true c₂ c₄ q₀ q₁ q₂ q₄ h =
      let i = bind-some (field word16 b) (λ r. some (text r.0, r.1)) (rw (q₀, q₁, value) at h) in
      let e : (text i.0.0, i.0.1) ≡ y = cc i.2 in
      rw (← e) (field-size b i.0 i.1)
  value-size k b y false false true c₄ q₀ q₁ q₂ q₄ h =
      let i = bind-some (word16 b) (λ r. bind (records r.0 r.1) (λ s. some (dictionary s.0, s.1))) (rw (q₀, q₁, q₂, value) at h) in
      let j = bind-some (records i.0.0 i.0.1) (λ s. some (dictionary s.0, s.1)) i.2 in
      let e : (dictionary j.0.0, j.0.1) ≡ y = cc j.2 in
      rw (← e) (omega (arith, word16-size b i.0 i.1, size i.0.0 i.0.1 j.0 j.1))
  value-size k b y false false false true q₀ q₁ q₂ q₄ h =
      let g : some (nothing, b) ≡ some y = rw (q₀, q₁, q₂, q₄, value) at h in
      let e : (nothing, b) ≡ y = cc in
      rw (← e) (omega arith)
  value-size k b y false false false false q₀ q₁ q₂ q₄ h = absurd (none-ne-some y (rw (q₀, q₁, q₂, q₄, value) at h))

  record_size : (b : List ℕ) (y : (List ℕ × Value) × List ℕ) → one_record records b ≡ some y → length b ≡ suc (length (field_bytes y.0.0) + (length (value_bytes y.0.1) + length y.1))
  unfolding one_record byte pure bind ◌>>=◌
  record_size [] y h = absurd (none-ne-some y h)
  record_size (m ∷ b) y h =
      let i = bind-some (field_if (bit 0 m) word16 b) (λ r. bind (value records (m / 2) r.1) (λ s. some ((r.0, s.0), s.1))) h in
      let j = bind-some (value records (m / 2) i.0.1) (λ s. some ((i.0.0, s.0), s.1)) i.2 in
      let e : ((i.0.0, j.0.0), j.0.1) ≡ y = cc j.2 in
      rw (← e) (omega (arith, name-size (bit 0 m) b i.0 i.1, value-size (m / 2) i.0.1 j.0 (eqb (m / 2) 0) (eqb (m / 2) 1) (eqb (m / 2) 2) (eqb (m / 2) 4) refl refl refl refl j.1))

  records-size : (n : ℕ) (b : List ℕ) (y : Records × List ℕ) → some_records records n b ≡ some y → length b ≡ length (encode y.0) + length y.1
  unfolding some_records encode pure ◌>>=◌
  records-size zero b y h = let e : (end, b) ≡ y = cc in rw (← e) (omega arith)
  records-size (suc n) b y h =
      let i = bind-some (one_record records b) (λ x. bind (some_records records n x.1) (λ r. some (rec x.0.0 x.0.1 r.0, r.1))) h in
      let j = bind-some (some_records records n i.0.1) (λ r. some (rec i.0.0.0 i.0.0.1 r.0, r.1)) i.2 in
      let e : (rec i.0.0.0 i.0.0.1 j.0.0, j.0.1) ≡ y = cc j.2 in
      rw (← e) (simp length-append (omega (arith, record_size b i.0 i.1, records-size n i.0.1 j.0 j.1)))

  all-size : (k : ℕ) (b : List ℕ) (r : Records) → all_records records k b ≡ some r → length (encode r) ≡ length b
  unfolding all_records encode
  all-size zero [] r h = let e : end ≡ r = cc in rw (← e)
  all-size zero (x ∷ b) r h = cc
  all-size (suc k) [] r h = let e : end ≡ r = cc in rw (← e)
  all-size (suc k) (x ∷ b) r h =
      let i = bind-some (one_record records (x ∷ b)) (λ y. bind (all_records records k y.1) (λ s. some (rec y.0.0 y.0.1 s))) h in
      let j = bind-some (all_records records k i.0.1) (λ s. some (rec i.0.0.0 i.0.0.1 s)) i.2 in
      let e : rec i.0.0.0 i.0.0.1 j.0 ≡ r = cc j.2 in
      rw (← e) (simp length-append (omega (arith, record_size (x ∷ b) i.0 i.1, all-size k i.0.1 j.0 j.1)))

levels-size : (l n : ℕ) (b : List ℕ) (y : Records × List ℕ) → levels l n b ≡ some y → length b ≡ length (encode y.0) + length y.1
unfolding levels broken
levels-size zero n b y h = absurd (none-ne-some y h)
levels-size (suc l) n b y h = records-size (levels l) (levels-size l) n b y h

pub sheet-size : (b : List ℕ) (r : Records) → sheet_of b ≡ some r → sheet_length r ≡ length b
unfolding decode sheet_length
sheet-size b r h = all-size (levels 6) (levels-size 6) (length b) b r (sheet-good b r h).decoded

-- Good records of at most L bytes.
pub record Kept (L : ℕ) (s : Records) : Type 0 where
  pub good : good_records s word 6 ≡ true
  pub small : leb (sheet_length s) L ≡ true
