-- A file of a bundle stands in its bytes where its entry says; so what `find_file` answers is what opening the file gives.
use Rattle.std.proofs.Math.Path.{◌≡◌, refl, ap, subst}
use Rattle.std.proofs.Common.{sym, ◌∙◌, arith, length-append}
use Rattle.std.specs.Prelude.{◌≢◌, Bool, not, eqb, length, take, drop}
use mathlib.Core.List.{List, [], ◌∷◌, ◌++◌, append_assoc}
use Rattle.std.proofs.Math.Bool.{true, false}
use Rattle.std.proofs.Math.Option.{Option, none, some}
use Prim.Native.Nat.{ℕ, zero, suc, ◌+◌, ◌-◌, ◌≤◌}
use Rattle.std.proofs.Math.Seq.{take-append_seam, drop-append_seam}
use Rattle.rules.specs.Answer.{Answer, refused, accepted, ◌>>=◌, ◌>>◌, check, or_refuse}
use Rattle.rules.specs.Reader.{empty, same}
use Rattle.rules.specs.Bytes.{is_path}
use Rattle.rules.specs.Layout.{Parser, bind, pure, require, bit, remaining, byte, word16, field, field_if, times, take_bytes}
use Rattle.rules.specs.Layout
use Rattle.rules.specs.Bundle.{Entry, entry, bundle_of, bundle_parser}
use Rattle.rules.specs.Files.{view, entry_at, is_folder_of, file_of, content_of, fetch}
use Rattle.rules.proofs.Laws.Bool.{not-true, true-eqb, eqb-true, false-eqb}
use Rattle.rules.proofs.Laws.Sheet.{bind-some}
use Rattle.rules.specs.Calls.{Found, found_entry, found_answer, find_file_result, find_file_of}

pub some_same : {A : Type 0} {a b : A} → some a ≡ some b → a ≡ b
some_same h = cc

-- b ends in u.
record Ends (b u : List ℕ) : Type 0 where
  before : List ℕ
  is : b ≡ before ++ u

ends-behind : {b : List ℕ} (a u : List ℕ) → Ends b (a ++ u) → Ends b u
ends-behind a u e = record { before = e.before ++ a; is = e.is ∙ sym (append_assoc e.before a u) }

-- What a parser leaves of the end of b is an end of b.
record Leaves {A : Type 0} (p : Parser A) : Type 0 where
  leaves : {b : List ℕ} (t : List ℕ) {a : A} {u : List ℕ} → Ends b t → p t ≡ some (a, u) → Ends b u

leaves-pure : {A : Type 0} (a : A) → Leaves (pure a)
unfolding pure
leaves-pure a = record { leaves = λ {b} t e h. subst (λ u. Ends b u) (ap (λ x. x.1) (some_same h)) e }

leaves-bind : {A B : Type 0} {p : Parser A} {f : A → Parser B} → Leaves p → ((a : A) → Leaves (f a)) → Leaves (Layout.◌>>=◌ p f)
unfolding Layout.◌>>=◌
leaves-bind {p = p} {f} P F = record {
  leaves = λ t e h.
      let i = bind-some (p t) (λ r. f r.0 r.1) h in
      (F i.0.0).leaves i.0.1 (P.leaves t e i.1) i.2;
}

byte-is : (t : List ℕ) {x : ℕ} {u : List ℕ} → byte t ≡ some (x, u) → t ≡ x ∷ u
unfolding byte
byte-is [] h = absurd (let z : ◌≡◌ {A = ℕ} 0 1 = cc in omega arith)
byte-is (y ∷ t) h = ap (λ r. r.0 ∷ r.1) (some_same h)

leaves-byte : Leaves byte
leaves-byte = record { leaves = λ {b} t {a} {u} e h. ends-behind (a ∷ []) u (subst (λ z. Ends b z) (byte-is t h) e) }

leaves-require : (c : Bool) → Leaves (require c)
unfolding require Layout.broken
leaves-require true = leaves-pure tt
leaves-require false = record { leaves = λ t e h. absurd (let z : ◌≡◌ {A = ℕ} 0 1 = cc in omega arith) }

leaves_word : Leaves word16
unfolding word16
leaves_word = leaves-bind leaves-byte (λ l. leaves-bind leaves-byte (λ h. leaves-pure _))

-- Bytes that are taken stand before what is left.
take-is : (n : ℕ) (t : List ℕ) {a u : List ℕ} → take_bytes n t ≡ some (a, u) → t ≡ a ++ u
unfolding take_bytes pure Layout.◌>>=◌
take-is zero t {a} {u} h = ap (λ r. r.0 ++ r.1) (some_same h)
take-is (suc n) t {a} {u} h =
    let i = bind-some (byte t) _ h in
    let j = bind-some (take_bytes n i.0.1) _ i.2 in
    byte-is t i.1 ∙ ap (λ r. i.0.0 ∷ r) (take-is n i.0.1 j.1) ∙ ap (λ r. r.0 ++ r.1) (some_same j.2)

-- And so does a field.
field-ends : {b : List ℕ} (c : Bool) {len : Parser ℕ} → Leaves len → (t : List ℕ) {a u : List ℕ} → Ends b t → field_if c len t ≡ some (a, u) → Ends b (a ++ u)
unfolding field_if field pure require Layout.broken Layout.◌>>=◌ Layout.◌>>◌
field-ends {b} false L t e h = subst (λ z. Ends b z) (ap (λ r. r.0 ++ r.1) (some_same h)) e
field-ends {b} true {len} L t e h =
    let i = bind-some (len t) _ h in
    let j = bind-some (take_bytes i.0.0 i.0.1) _ i.2 in
    let k = bind-some (require (not (empty j.0.0)) j.0.1) _ j.2 in
    let x = L.leaves t e i.1 in
    let y : Ends b (j.0.0 ++ j.0.1) = subst (λ z. Ends b z) (take-is i.0.0 i.0.1 j.1) x in
    subst (λ z. Ends b z) (ap (λ r. j.0.0 ++ r) (at (not (empty j.0.0)) k.1) ∙ ap (λ r. r.0 ++ r.1) (some_same k.2)) y
  where
    at : (c : Bool) {v w : List ℕ} {z : Unit {0}} → require c v ≡ some (z, w) → v ≡ w
    at true q = ap (λ r. r.1) (some_same q)
    at false q = absurd (let z : ◌≡◌ {A = ℕ} 0 1 = cc in omega arith)

leaves_field : (c : Bool) {len : Parser ℕ} → Leaves len → Leaves (field_if c len)
leaves_field c L = record { leaves = λ t {a} {u} e h. ends-behind a u (field-ends c L t e h) }

-- The content of an entry stands in b from its start on.
pub record Stands (b : List ℕ) (e : Entry) : Type 0 where
  pub inside : e.start + length e.content ≤ length b
  pub there : take (length e.content) (drop e.start b) ≡ e.content

stands : {b : List ℕ} (p c u : List ℕ) → Ends b (c ++ u) → Stands b (record { path = p; start = length b - (length c + length u); content = c })
stands {b} p c u e =
    let l : length b ≡ length e.before + (length c + length u) = ap length e.is ∙ simp length-append in
    let s : length b - (length c + length u) ≡ length e.before = omega arith in
    record {
      inside = omega arith;
      there = ap (λ i. take (length c) (drop i b)) s ∙ ap (λ z. take (length c) (drop (length e.before) z)) e.is
          ∙ ap (take (length c)) (drop-append_seam e.before (c ++ u)) ∙ take-append_seam c u;
    }

entry-stands : {b : List ℕ} (t : List ℕ) {x : Entry} {u : List ℕ} → Ends b t → entry (length b) t ≡ some (x, u) → Stands b x × Ends b u
unfolding entry pure remaining bind Layout.◌>>=◌ Layout.◌>>◌
entry-stands {b} t e h =
    let m = bind-some (byte t) _ h in
    let r = bind-some (require _ m.0.1) _ m.2 in
    let g = bind-some (field_if (bit 0 m.0.0) byte r.0.1) _ r.2 in
    let f = bind-some (field_if true byte g.0.1) _ g.2 in
    let q = bind-some (require _ f.0.1) _ f.2 in
    let c = bind-some (field_if (bit 2 m.0.0) word16 q.0.1) _ q.2 in
    let e₁ = (leaves-require _).leaves _ (leaves-byte.leaves t e m.1) r.1 in
    let e₂ = (leaves_field true leaves-byte).leaves _ ((leaves_field _ leaves-byte).leaves _ e₁ g.1) f.1 in
    let e₃ = (leaves-require _).leaves _ e₂ q.1 in
    let y = field-ends _ leaves_word _ e₃ c.1 in
    let z = some_same c.2 in
    (subst (λ w. Stands b w) (ap (λ w. w.0) z) (stands _ c.0.0 c.0.1 y), subst (λ w. Ends b w) (ap (λ w. w.1) z) (ends-behind c.0.0 c.0.1 y))

module _ (b : List ℕ) where
  entries_stand : (n : ℕ) (t : List ℕ) {es : List Entry} {u : List ℕ} → Ends b t → times n (entry (length b)) t ≡ some (es, u) → (p : List ℕ) {e : Entry} → entry_at es p ≡ some e → Stands b e
  unfolding times pure Layout.◌>>=◌ entry_at
  entries_stand zero t {es} k h p {e} q =
      let z : entry_at [] p ≡ some e = ap (λ x. entry_at x p) (ap (λ x. x.0) (some_same h)) ∙ q in
      absurd (let y : ◌≡◌ {A = ℕ} 0 1 = cc in omega arith)
  entries_stand (suc n) t {es} k h p {e} q =
      let i = bind-some (entry (length b) t) _ h in
      let j = bind-some (times n (entry (length b)) i.0.1) _ i.2 in
      let x = entry-stands t k i.1 in
      first i.0.0 j.0.0 (same i.0.0.path p) refl x.0 (λ r. entries_stand n i.0.1 x.1 j.1 p r) (ap (λ y. entry_at y p) (ap (λ y. y.0) (some_same j.2)) ∙ q)
    where
      first : (x : Entry) (xs : List Entry) (c : Bool) → same x.path p ≡ c → Stands b x → (entry_at xs p ≡ some e → Stands b e) → entry_at (x ∷ xs) p ≡ some e → Stands b e
      first x xs true c s later r = subst (λ y. Stands b y) (some_same (rw (c, entry_at) at r)) s
      first x xs false c s later r = later (rw (c, entry_at) at r)

  -- A file's content stands in the bundle.
  pub content-stands : {es : List Entry} → bundle_of b ≡ some es → (p : List ℕ) {e : Entry} → entry_at es p ≡ some e → Stands b e
  unfolding bundle_of bundle_parser pure remaining bind Layout.◌>>=◌ Layout.◌>>◌
  content-stands {es} h p {e} q =
      let a = bind-some (bundle_parser (length b) b) _ h in
      let c = bind-some (word16 b) _ a.1 in
      let d = bind-some (times c.0.0 (entry (length b)) c.0.1) _ c.2 in
      let g = bind-some (require _ d.0.1) _ d.2 in
      let z : d.0.0 ≡ es = ap (λ x. x.0) (some_same g.2) ∙ some_same a.2 in
      entries_stand c.0.0 c.0.1 (leaves_word.leaves b (record { before = []; is = refl }) c.1) d.1 p (ap (λ x. entry_at x p) z ∙ q)

-- What was found, as opening the file answers it.
unfoldable pub content_from : List ℕ → Found → Answer (List ℕ)
content_from b f = elim (eqb f.number 0) [ true ↦ elim (eqb f.kind 2) [ true ↦ accepted (take f.len (drop f.start b)) | false ↦ refused 5 ] | false ↦ refused f.number ]

module _ (b : List ℕ) (f : Found) where
  pub content-refused : f.number ≢ 0 → content_from b f ≡ refused f.number
  unfolding content_from
  content-refused h = rw (not-true (eqb f.number 0) (λ z. h (true-eqb f.number 0 z)), content_from) refl

  pub content-absent : f.number ≡ 0 → f.kind ≢ 2 → content_from b f ≡ refused 5
  unfolding content_from
  content-absent e h = rw (eqb-true f.number 0 e, not-true (eqb f.kind 2) (λ z. h (true-eqb f.kind 2 z)), content_from) refl

  pub content-there : f.number ≡ 0 → f.kind ≡ 2 → content_from b f ≡ accepted (take f.len (drop f.start b))
  unfolding content_from
  content-there e h = rw (eqb-true f.number 0 e, eqb-true f.kind 2 h, content_from) refl

-- WHAT IS FOUND is the file: opening it gives the bytes that the answer names.
pub found-content : (b p : List ℕ) → (or_refuse 2 (bundle_of b) >>= λ es. fetch (view es) p) ≡ content_from b (find_file_of b p)
unfolding find_file_of find_file_result found_answer found_entry content_from fetch view file_of content_of or_refuse check ◌>>=◌ ◌>>◌
found-content b p = at (bundle_of b) refl (is_path p)
  where
    entry-at : (es : List Entry) → bundle_of b ≡ some es → (x : Option Entry) → entry_at es p ≡ x → (f : Bool) → content_of (file_of x f) ≡ content_from b (found_entry x f)
    entry-at es h (some e) q f = ap accepted (sym (content-stands b h p q).there)
    entry-at es h none q true = refl
    entry-at es h none q false = refl

    at : (x : Option (List Entry)) → bundle_of b ≡ x → (c : Bool) →
        (or_refuse 2 x >>= λ es. check 4 c >> content_of (view es p)) ≡ content_from b (found_answer (or_refuse 2 x >>= λ es. check 4 c >> accepted (found_entry (entry_at es p) (is_folder_of es p))))
    at none h c = refl
    at (some es) h false = refl
    at (some es) h true = entry-at es h (entry_at es p) refl (is_folder_of es p)

pub found-there : (b p : List ℕ) (es : List Entry) → bundle_of b ≡ some es → let f = find_file_of b p in f.number ≡ 0 → f.kind ≡ 2 → fetch (view es) p ≡ accepted (take f.len (drop f.start b))
unfolding or_refuse ◌>>=◌
found-there b p es h e k = sym (ap (λ x. or_refuse 2 x >>= λ es. fetch (view es) p) h) ∙ found-content b p ∙ content-there b (find_file_of b p) e k

pub found-absent : (b p : List ℕ) (es : List Entry) → bundle_of b ≡ some es → let f = find_file_of b p in f.number ≡ 0 → eqb f.kind 2 ≡ false → fetch (view es) p ≡ refused 5
unfolding or_refuse ◌>>=◌
found-absent b p es h e k = sym (ap (λ x. or_refuse 2 x >>= λ es. fetch (view es) p) h) ∙ found-content b p ∙ content-absent b (find_file_of b p) e (false-eqb _ 2 k)

-- An answer of `find_file` that is not refused has the number 0.
pub entry-number : (e : Option Entry) (f : Bool) → (found_entry e f).number ≡ 0
unfolding found_entry
entry-number (some e) f = refl
entry-number none true = refl
entry-number none false = refl

pub found_number : (b p : List ℕ) (es : List Entry) → bundle_of b ≡ some es → is_path p ≡ true → (find_file_of b p).number ≡ 0
unfolding find_file_of find_file_result found_answer or_refuse check ◌>>=◌ ◌>>◌
found_number b p es h q = rw (h, q) (entry-number (entry_at es p) (is_folder_of es p))

-- And it lies in the bundle.
pub found_inside : (b p : List ℕ) → let f = find_file_of b p in f.start + f.len ≤ length b
unfolding find_file_of find_file_result found_answer found_entry or_refuse check ◌>>=◌ ◌>>◌
found_inside b p = at (bundle_of b) refl (is_path p)
  where
    entry-at : (es : List Entry) → bundle_of b ≡ some es → (x : Option Entry) → entry_at es p ≡ x → (f : Bool) → (found_entry x f).start + (found_entry x f).len ≤ length b
    entry-at es h (some e) q f = (content-stands b h p q).inside
    entry-at es h none q true = omega arith
    entry-at es h none q false = omega arith

    at : (x : Option (List Entry)) → bundle_of b ≡ x → (c : Bool) → let f = found_answer (or_refuse 2 x >>= λ es. check 4 c >> accepted (found_entry (entry_at es p) (is_folder_of es p))) in f.start + f.len ≤ length b
    at none h c = omega arith
    at (some es) h false = omega arith
    at (some es) h true = entry-at es h (entry_at es p) refl (is_folder_of es p)
