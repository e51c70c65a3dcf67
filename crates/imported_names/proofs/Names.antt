-- Laws of binding the names of an import.
use Rattle.std.specs.Prelude.{◌≡◌, List, [], ◌∷◌, ◌++◌, ℕ, length, drop, Result, Ok, Err}
use Rattle.std.proofs.Math.Path.{refl, subst}
use Rattle.std.proofs.Common.{sym, ap, ◌∙◌, arith}
use Rattle.std.proofs.Math.Bool.{true}
use Rattle.std.proofs.Math.Option.{Option, none, some}
use Rattle.std.specs.Prelude.{Option as RustOption, Some, None}
use Rattle.scan.specs.Sets.{part, Spans}
use Rattle.scan.specs.Stretches.{span-took}
use Rattle.rules.specs.Answer.{Answer, accepted, refused, ◌>>=◌}
use Rattle.rules.specs.Reader.{all}
use Rattle.rules.specs.Bytes.{word}
use Rattle.rules.specs.Sheet.{Value, Records, end, encode, set, good_value, good_records, Lookup, resolve}
use Rattle.rules.specs.Definitions.{Names, star, listed, listed_more}
use Rattle.rules.specs.Imports.{bind_one, bind_if, bind_all, bind_listed, bind_names}
use Rattle.rules.proofs.Laws.Sheet.{Good, good-parts, resolve-good}
use Rattle.refusal.specs.declared.Refusal.{Refusal}
use Rattle.sheet.specs.Walk.{WalksOver, Meets}
use Rattle.sheet.specs.declared.lookup.Walk.{Walk}
use Rattle.sheet.specs.Records.{records_of, records-good}
use Rattle.sheet.specs.Find.{Tells, Gives, gives_one, Body, item_body}
use Rattle.sheet.specs.declared.head.Item.{Item}
use Rattle.sheet.specs.declared.lookup.Found.{Found}
use Rattle.binding.specs.declared.sheet_buffer.SheetBuffer.{SheetBuffer}
use Rattle.binding.specs.declared.buffer.RecordBuffer.{RecordBuffer}
use Rattle.binding.specs.Buffer.{Binds, Leaves}
use Rattle.binding.specs.Sheets.{sheet_in, SameSheet, sheet-refl, sheet-then, ComesTo, comes-then, comes-no}
use Rattle.imported_names.specs.Names.{IsWord, IsGood, LimitOnly, BindsOne, BindsNames}

-- A REFUSAL is that of the limit: that of one name, and one that is handed on.
pub limit-only : (b : SheetBuffer) {A : Type 0} {name : List ℕ} {v : Value} {w : RecordBuffer} {o : Result A Refusal} → Binds b.records.now name v w o → LimitOnly o
unfolding Leaves
limit-only b {A} {name} {v} {w} {o} x = at o (x.leaves (sheet_in b) b.sheet.written)
  where
    at : (q : Result A Refusal) → Leaves b.records.now (encode (set (sheet_in b) name v)) w q → LimitOnly q
    at (Ok a) h = tt
    at (Err e) h = h.0

only_same : {A B : Type 0} {q : Result A Refusal} {o : Result B Refusal} {e : Refusal} → LimitOnly q → q ≡ Err e → o ≡ Err e → LimitOnly o
only_same m e h = rw h (rw e at m)

-- ALL NAMES. What is left of binding all records of z: those that the walk w has left, in the sheet of c.
pub record BindingAll (z : List ℕ) (b c : SheetBuffer) (w : Walk) : Type 0 where
  pub over : SameSheet b c
  pub left : Records
  pub walk : WalksOver w z (length z) left
  pub is : bind_all b.records.now.limit (sheet_in b) (records_of z) ≡ bind_all b.records.now.limit (sheet_in c) left
  pub good : good_records left word 6 ≡ true

pub all_start : {z : List ℕ} {w : Walk} (b : SheetBuffer) → WalksOver w z (length z) (records_of z) → BindingAll z b b w
all_start {z} b k = record { over = sheet-refl b; left = records_of z; walk = k; is = refl; good = records-good z }

module _ {z : List ℕ} {b c : SheetBuffer} {w : Walk} (k : BindingAll z b c w) where
  pub all_end : {A : Type 0} {a : A} → k.left ≡ end → BindsNames star z b c (Ok a)
  unfolding bind_names bind_all ComesTo
  all_end e = record { over = k.over; only = tt; comes = rw e at k.is }

  -- The next of them, of which the item o tells.
  module _ {i : ℕ} {o : Item} {x : Walk} (m : Meets z (length z) k.left i o x) where
    good : Good m.n m.v m.q word 6
    good = good-parts m.n m.v m.q word 6 (rw m.is at k.good)

    pub all-word : IsWord o.name.now
    all-word = ap (all word) m.told.name ∙ good.name

    module _ (f : Found) (g : (v : Value) → Body z v o → Tells z v f) where
      pub all_there : IsGood z f
      all_there = record { v = m.v; tells = g m.v (item_body m.told); good = good.value }

      module _ {A : Type 0} {c' : SheetBuffer} {y : Result A Refusal} (u : (v : Value) → Tells z v f → good_value v 6 ≡ true → BindsOne o.name.now v c c' y) where
        bound : BindsOne m.n m.v c c' y
        bound = rw m.told.name at (u m.v (g m.v (item_body m.told)) good.value)

        comes : ComesTo (bind_one b.records.now.limit (sheet_in c) m.n m.v) c' y
        comes = subst (λ l. ComesTo (bind_one l (sheet_in c) m.n m.v) c' y) k.over.over.limit bound.comes

        is : bind_all b.records.now.limit (sheet_in b) (records_of z) ≡ (bind_one b.records.now.limit (sheet_in c) m.n m.v >>= λ s. bind_all b.records.now.limit s m.q)
        unfolding bind_all
        is = rw m.is at k.is

        pub all-over : {e : Refusal} → y ≡ Err e → {B : Type 0} {t : Result B Refusal} → t ≡ Err e → BindsNames star z b c' t
        unfolding bind_names
        all-over e h = record { over = sheet-then k.over bound.over; only = only_same bound.only e h; comes = rw is (comes-no _ _ _ _ _ comes e h) }

        pub all-on : {a : A} → y ≡ Ok a → BindingAll z b c' x
        unfolding ComesTo ◌>>=◌
        all-on e = record {
          over = sheet-then k.over bound.over;
          left = m.q;
          walk = m.over;
          is = is ∙ (let t : bind_one b.records.now.limit (sheet_in c) m.n m.v ≡ accepted (sheet_in c') = rw e at comes in rw t refl);
          good = good.later;
        }

-- ONE NAME.
pub word-is : {t : List ℕ} {a e : ℕ} → Spans word t a e → IsWord (part t a e)
word-is {t} {a} x = ap (all word) (sym x.took) ∙ span-took word (drop a t)

pub none-bound : {A : Type 0} {a : A} (z : List ℕ) (b : SheetBuffer) → BindsNames (listed []) z b b (Ok a)
unfolding bind_names bind_listed ComesTo
none-bound z b = record { over = sheet-refl b; only = tt; comes = refl }

bind-same : (x : Answer Records) → (x >>= λ s. accepted s) ≡ x
unfolding ◌>>=◌
bind-same (refused k) = refl
bind-same (accepted s) = refl

one_word : (limit : ℕ) (s r : Records) (w : List ℕ) {x : Option Value} → resolve r w ≡ x → bind_names limit s r (listed (w ∷ [])) ≡ bind_if limit s w x
unfolding bind_names bind_listed
one_word limit s r w {x} e = bind-same (bind_if limit s w (resolve r w)) ∙ ap (bind_if limit s w) e

-- What the sheet z has for the word w.
module _ (z w : List ℕ) {f : RustOption Found} (g : Gives z (resolve (records_of z) w) f) where
  pub word-missing : f ≡ None → {A : Type 0} {a : A} (b : SheetBuffer) → BindsNames (listed (w ∷ [])) z b b (Ok a)
  unfolding bind_if Gives ComesTo
  word-missing e b = record { over = sheet-refl b; only = tt; comes = let y : resolve (records_of z) w ≡ none = rw e at g in one_word b.records.now.limit (sheet_in b) (records_of z) w y }

  module _ {y : Found} (h : f ≡ Some y) where
    found : (v : Value) × (resolve (records_of z) w ≡ some v) × Tells z v y
    found = gives_one z _ g h

    pub word-there : IsGood z y
    word-there = record { v = found.0; tells = found.2; good = resolve-good (records_of z) word 6 w found.0 (records-good z) found.1 }

    pub word_bound : {A : Type 0} {b c : SheetBuffer} {o : Result A Refusal} → ((v : Value) → Tells z v y → good_value v 6 ≡ true → BindsOne w v b c o) → BindsNames (listed (w ∷ [])) z b c o
    unfolding bind_if found word-there
    word_bound {b = b} x =
        let v = x found.0 found.2 word-there.good in
        record { over = v.over; only = v.only; comes = rw (one_word b.records.now.limit (sheet_in b) (records_of z) w found.1) v.comes }

-- A later word, which is dropped where it is empty.
pub later-empty : (w : List ℕ) → length w ≡ 0 → listed_more [] w ≡ []
unfolding listed_more
later-empty [] h = refl
later-empty (x ∷ xs) h = absurd (omega arith)

pub later-some : (w : List ℕ) → (length w ≡ 0 → ⊥) → listed_more [] w ≡ w ∷ []
unfolding listed_more
later-some [] h = absurd (h refl)
later-some (x ∷ xs) h = refl

pub names_as : {u v : Names} {A : Type 0} {z : List ℕ} {b c : SheetBuffer} {o : Result A Refusal} → u ≡ v → BindsNames u z b c o → BindsNames v z b c o
names_as e k = rw e at k

-- WORDS one behind the other.
bind_assoc : (x : Answer Records) (f g h : Records → Answer Records) → ((s : Records) → g s ≡ (f s >>= h)) → (x >>= g) ≡ ((x >>= f) >>= h)
unfolding ◌>>=◌
bind_assoc (refused k) f g h e = refl
bind_assoc (accepted s) f g h e = e s

listed-append : (limit : ℕ) (s : Records) (look : Lookup) (xs ys : List (List ℕ)) → bind_listed limit s look (xs ++ ys) ≡ (bind_listed limit s look xs >>= λ s'. bind_listed limit s' look ys)
unfolding bind_listed ◌>>=◌
listed-append limit s look [] ys = refl
listed-append limit s look (x ∷ xs) ys = bind_assoc (bind_if limit s x (look x)) _ _ _ (λ s'. listed-append limit s' look xs ys)

module _ {xs : List (List ℕ)} (ys : List (List ℕ)) {A B : Type 0} {z : List ℕ} {b c : SheetBuffer} {q : Result A Refusal} {o : Result B Refusal} (w : BindsNames (listed xs) z b c q) where
  -- Behind words that are refused nothing is bound.
  pub names-over : {k : Refusal} → q ≡ Err k → o ≡ Err k → BindsNames (listed (xs ++ ys)) z b c o
  unfolding bind_names
  names-over e y = record { over = w.over; only = only_same w.only e y; comes = rw (listed-append b.records.now.limit (sheet_in b) (resolve (records_of z)) xs ys) (comes-no _ _ c _ _ w.comes e y) }

  -- Behind words that are bound the others are.
  pub names-then : {a : A} {d : SheetBuffer} → q ≡ Ok a → BindsNames (listed ys) z c d o → BindsNames (listed (xs ++ ys)) z b d o
  unfolding bind_names
  names-then {d = d} e v = record {
    over = sheet-then w.over v.over;
    only = v.only;
    comes = rw (listed-append b.records.now.limit (sheet_in b) (resolve (records_of z)) xs ys) (comes-then _ _ c _ _ w.comes e (subst (λ l. ComesTo (bind_listed l (sheet_in c) (resolve (records_of z)) ys) d o) w.over.over.limit v.comes));
  }
