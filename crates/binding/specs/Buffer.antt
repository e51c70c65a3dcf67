-- Binding a name among the records in a buffer.
use Rattle.std.specs.Prelude.{◌≡◌, true, List, ◌++◌, ℕ, ◌+◌, ◌-◌, ◌≤◌, ◌<◌, length, take, drop, Result, Ok, Err}
use Rattle.std.proofs.Math.Path.{refl, sym, ap}
use Rattle.std.proofs.Common.{◌∙◌, append_assoc, arith, length-append, length-take-le}
use Rattle.std.proofs.lemmas.List.Edits.{sets}
use Rattle.std.proofs.Math.Seq.{take-take}
use Rattle.scan.specs.Sets.{part}
use Rattle.scan.specs.Laws.{drop-take}
use Rattle.buffers.specs.Laws.{sets-before}
use Rattle.rules.specs.Sheet.{Value, Records, encode, set}
use Rattle.refusal.specs.declared.Refusal.{Refusal}
use Rattle.refusal.specs.declared.Refusal.TheVariants.{Limit}
use Rattle.sheet.specs.Parts.{length-slice}
use Rattle.record_bytes.specs.Moves.{slice-take, take-stored}
use Rattle.record_bytes.specs.declared.Lead.{Lead}
use Rattle.record_bytes.specs.Opening.{opening, open_len, open_le, open_ge, opening-length, Opens}
use Rattle.places.specs.Place.{Placed, one}
use Rattle.places.specs.Mark.{ascending, begins, between-begins, Marked, HasMark, mark-of}
use Rattle.sheet.specs.Unique.{encode-same}
use Rattle.sheet.specs.Find.{HasRecords}
use Rattle.binding.specs.declared.Room.{Room}
use Rattle.binding.specs.declared.buffer.RecordBuffer.{RecordBuffer}
use Rattle.binding.specs.Write.{IsSource, one-opening, set-length, set-size}

-- The bytes of the records.
abbrev pub bytes_in : RecordBuffer → List ℕ
bytes_in b = take b.len b.bytes.now

-- c is over the same bytes as b, with the same limit.
pub record SameBuffer (b c : RecordBuffer) : Type 0 where
  pub same : c.bytes.ghost_name ≡ b.bytes.ghost_name
  pub long : length c.bytes.now ≡ length b.bytes.now
  pub limit : c.limit ≡ b.limit

-- The buffer has records, and their names ascend, unless the search starts with the first of them.
pub record InOrder (b : RecordBuffer) : Type 0 where
  pub r : Records
  pub bytes : bytes_in b ≡ encode r
  pub order : (b.last ≡ 0 → ⊥) → ascending r ≡ true

-- The place of a record of the name with so many bytes of its own.
pub record Fitting (b : RecordBuffer) (name : List ℕ) (lead : Lead) (len : ℕ) (p : Room) : Type 0 where
  pub placed : (r : Records) → bytes_in b ≡ encode r → Placed (bytes_in b) r name p.place.from p.place.to
  pub head : p.head ≡ open_len (length name) lead
  pub total : p.total ≡ p.place.from + p.head + len + (length (bytes_in b) - p.place.to)
  pub fits : p.total ≤ b.limit
  pub short : length name ≤ b.limit
  pub small : len ≤ b.limit

-- The name is bound to no such value within the limit.
abbrev pub NoRoom : RecordBuffer → List ℕ → Lead → ℕ → Type 0
NoRoom b name lead len = (r : Records) (v : Value) (own : List ℕ) → bytes_in b ≡ encode r → IsSource v lead own → length own ≡ len → b.limit < length (encode (set r name v))

unfoldable pub Plans : RecordBuffer → List ℕ → Lead → ℕ → Result Room Refusal → Type 0
Plans b name lead len (Ok p) = Fitting b name lead len p
Plans b name lead len (Err e) = (e ≡ Limit) × NoRoom b name lead len

-- What a binding leaves in c of the buffer b: the bytes x; or, where these are over the limit, what was there.
unfoldable pub Leaves : {A : Type 0} → RecordBuffer → List ℕ → RecordBuffer → Result A Refusal → Type 0
Leaves b x c (Ok a) = (bytes_in c ≡ x) × (length x ≤ b.limit)
Leaves b x c (Err e) = (e ≡ Limit) × (b.limit < length x) × (bytes_in c ≡ bytes_in b)

-- The name is bound to v, or the records would be over their limit.
pub record Binds {A : Type 0} (b : RecordBuffer) (name : List ℕ) (v : Value) (c : RecordBuffer) (o : Result A Refusal) : Type 0 where
  pub over : SameBuffer b c
  pub leaves : (r : Records) → bytes_in b ≡ encode r → Leaves b (encode (set r name v)) c o

-- LAWS. One buffer.
pub same-refl : (b : RecordBuffer) → SameBuffer b b
same-refl b = record { same = refl; long = refl; limit = refl }

pub same-then : {b c d : RecordBuffer} → SameBuffer b c → SameBuffer c d → SameBuffer b d
same-then s t = record { same = t.same ∙ s.same; long = t.long ∙ s.long; limit = t.limit ∙ s.limit }

pub held : (b : RecordBuffer) → length (bytes_in b) ≡ b.len
held b = length-take-le b.len b.bytes.now b.fits

-- A buffer x that differs from b in `last` alone.
module _ (b x : RecordBuffer) (e : x.bytes ≡ b.bytes) (n : x.len ≡ b.len) (l : x.limit ≡ b.limit) where
  records-as : bytes_in x ≡ bytes_in b
  records-as = λ i. take (n i) (e i).now

  leaves-as : {A : Type 0} (y : List ℕ) (c : RecordBuffer) (o : Result A Refusal) → Leaves x y c o → Leaves b y c o
  unfolding Leaves
  leaves-as y c (Ok a) w = (w.0, omega (arith, w.1, l))
  leaves-as y c (Err k) w = (w.0, omega (arith, w.1, l), w.2 ∙ records-as)

  pub binds-as : {A : Type 0} {name : List ℕ} {v : Value} {c : RecordBuffer} {o : Result A Refusal} → Binds x name v c o → Binds b name v c o
  binds-as {o = o} w = record {
    over = record { same = w.over.same ∙ ap (λ z. z.ghost_name) e; long = w.over.long ∙ ap (λ z. length z.now) e; limit = w.over.limit ∙ l };
    leaves = λ r h. leaves-as _ _ o (w.leaves r (records-as ∙ h));
  }

-- A search may start at `last`.
module _ (b : RecordBuffer) where
  pub marks : (r : Records) → bytes_in b ≡ encode r → ((b.last ≡ 0 → ⊥) → ascending r ≡ true) → Marked (bytes_in b) r b.last
  marks r e o = mark-of e o (b.place r e)

  module _ (i : InOrder b) where
    pub has-mark : HasMark (bytes_in b) b.last
    has-mark = record { r = i.r; marked = marks i.r i.bytes i.order }

    pub marks-all : (r : Records) → bytes_in b ≡ encode r → Marked (bytes_in b) r b.last
    marks-all r e = marks r e (λ z. ap ascending (encode-same r i.r (sym e ∙ i.bytes)) ∙ i.order z)

  pub has-in : InOrder b → HasRecords (bytes_in b)
  has-in i = record { r = i.r; bytes = i.bytes }

pub from-first : (b : RecordBuffer) → HasRecords (bytes_in b) → b.last ≡ 0 → InOrder b
from-first b h e = record { r = h.r; bytes = h.bytes; order = λ z. absurd (z e) }

-- What `find_room` answers.
module _ (b : RecordBuffer) (name : List ℕ) (lead : Lead) (len : ℕ) where
  record-long : (r : Records) (v : Value) (own : List ℕ) → IsSource v lead own → length own ≡ len → open_len (length name) lead + len ≤ length (encode (set r name v))
  record-long r v own w k =
      let y : length (one name v) ≡ open_len (length name) lead + len = ap length (one-opening name v lead own w) ∙ length-append (opening name lead) own ∙ omega (arith, opening-length name lead, k) in
      omega (arith, set-size r name v, y)

  pub name-over : {long : ℕ} → long ≡ length name → b.limit < long → NoRoom b name lead len
  name-over y h r v own m w k = omega (arith, record-long r v own w k, open_ge (length name) lead)

  pub own-over : b.limit < len → NoRoom b name lead len
  own-over h r v own m w k = omega (arith, record-long r v own w k)

  module _ (i₀ : InOrder b) {s : List ℕ} (x : s ≡ bytes_in b) {long i j h m : ℕ} (y : long ≡ length name) (p : (r : Records) → Marked s r b.last → Placed s r name i j) (e : h ≡ open_len long lead) (f : m ≡ i + h + len + (length s - j)) where
    head-is : h ≡ open_len (length name) lead
    head-is = e ∙ ap (λ n. open_len n lead) y

    put : (r : Records) → bytes_in b ≡ encode r → Placed s r name i j
    put r q = p r (rw (← x) at (marks-all b i₀ r q))

    pub total-over : b.limit < m → NoRoom b name lead len
    total-over g r v own q w k = omega (arith, set-length (put r q) v w, head-is)

    pub tail-inside : (i ≤ j) × (j ≤ length s)
    tail-inside = let q = put i₀.r i₀.bytes in (q.on, q.inside)

    -- The sum does not wrap.
    pub total-small : long ≤ b.limit → len ≤ b.limit → m ≤ length b.bytes.now + 131075
    total-small u v =
        let q = put i₀.r i₀.bytes in
        omega (arith, q.on, q.inside, open_le long lead, ap length x, held b, b.fits, b.small)

    pub fits-in : m ≤ b.limit → long ≤ b.limit → len ≤ b.limit → Plans b name lead len (Ok (record { place = record { from = i; to = j }; head = h; total = m }))
    unfolding Plans
    fits-in g u v = record { placed = λ r q. rw x at (put r q); head = head-is; total = rw x at f; fits = g; short = omega (arith, y, u); small = v }

  pub no-plan : {k : Refusal} {m : ℕ} → (k ≡ Limit) × (b.limit < m) → (b.limit < m → NoRoom b name lead len) → {o : Result Room Refusal} → o ≡ Err k → Plans b name lead len o
  unfolding Plans
  no-plan t f y = rw y (t.0, f t.1)

-- The numbers of a place that fits.
pub record Bounds (b : RecordBuffer) (long : ℕ) (lead : Lead) (len : ℕ) (p : Room) : Type 0 where
  pub on : p.place.from ≤ p.place.to
  pub inside : p.place.to ≤ b.len
  pub sum : p.place.from + p.head + len + (b.len - p.place.to) ≤ b.limit
  pub total : p.total ≤ b.limit

-- By what `find_room` answers.
module _ (b : RecordBuffer) (has : HasRecords (bytes_in b)) (name : List ℕ) (lead : Lead) (len : ℕ) {q : Result Room Refusal} (f : Plans b name lead len q) where
  pub no-room : {k : Refusal} → q ≡ Err k → {own : List ℕ} → length own ≡ len → (v : Value) → IsSource v lead own → {A : Type 0} {o : Result A Refusal} → o ≡ Err k → Binds b name v b o
  unfolding Plans Leaves
  no-room {k} e j v w d =
      let z : Plans b name lead len (Err k) = rw e at f in
      rw d (record { over = same-refl b; leaves = λ r h. (z.0, z.1 r v _ h w j, refl) })

  module _ {p : Room} (e : q ≡ Ok p) where
    fit : Fitting b name lead len p
    unfolding Plans
    fit = rw e at f

    pub room-bounds : Bounds b (length name) lead len p
    room-bounds =
        let t = fit.placed has.r has.bytes in
        record { on = t.on; inside = omega (arith, t.inside, held b); sum = omega (arith, fit.total, fit.fits, held b); total = fit.fits }

    pub room-opens : {c : List ℕ} → length c ≡ length b.bytes.now → {v : Value} {own : List ℕ} → IsSource v lead own → length own ≡ len → Opens c p.place.from (length name) lead
    room-opens h {v} w k = record {
      short = omega (arith, fit.short, b.small);
      small = omega (arith, w.small, k, fit.small, b.small);
      room = omega (arith, room-bounds.sum, fit.head, b.room);
    }

    -- What stands in w: the opening, the value's own bytes and the tail.
    module _ (own : List ℕ) (k : length own ≡ len) (v : Value) (s : IsSource v lead own) where
      abbrev front : List ℕ
      front = opening name lead

      abbrev tail : List ℕ
      tail = part b.bytes.now p.place.to b.len

      total-is : p.place.from + length (front ++ (own ++ tail)) ≡ p.total
      total-is =
          let z = length-slice p.place.to b.len b.bytes.now b.fits in
          rw (length-append, length-append) (omega (arith, z, opening-length name lead, fit.total, fit.head, k, held b))

      -- The value's own bytes and the tail, and then the opening.
      module _ {d w : List ℕ} (i : d ≡ sets b.bytes.now (p.place.from + p.head) (own ++ tail)) (z : w ≡ sets d p.place.from front) where
        written : w ≡ sets b.bytes.now p.place.from (front ++ (own ++ tail))
        written =
            let l : p.head ≡ length front = fit.head ∙ sym (opening-length name lead) in
            z ∙ ap (λ y. sets y p.place.from front) (i ∙ ap (λ y. sets b.bytes.now (p.place.from + y) (own ++ tail)) l) ∙ sets-before b.bytes.now p.place.from front (own ++ tail)

        stands : (r : Records) → bytes_in b ≡ encode r → take p.total w ≡ encode (set r name v)
        stands r q =
            let d = fit.placed r q in
            let t : drop p.place.to (bytes_in b) ≡ tail = drop-take p.place.to b.len b.bytes.now in
            let u : take p.place.from (bytes_in b) ≡ take p.place.from b.bytes.now = take-take p.place.from b.len b.bytes.now (omega (arith, d.on, d.inside, held b)) in
            let x : encode (set r name v) ≡ take p.place.from b.bytes.now ++ (front ++ (own ++ tail)) = d.is v ∙ rw (u, t, one-opening name v lead own s, append_assoc) refl in
            ap (take p.total) written ∙ take-stored b.bytes.now (front ++ (own ++ tail)) p.place.from p.total total-is (omega (arith, fit.fits, b.room)) ∙ sym x

        -- The record begins where it was put.
        pub begins-found : (q : Records) → take p.total w ≡ encode q → begins p.place.from q ≡ true
        begins-found q e =
            let y = encode-same q (set has.r name v) (sym e ∙ stands has.r has.bytes) in
            rw y (between-begins ((fit.placed has.r has.bytes).put v))

        pub binds-found : (c : RecordBuffer) → SameBuffer b c → c.len ≡ p.total → c.bytes.now ≡ w → {A : Type 0} {a : A} → Binds b name v c (Ok a)
        unfolding Leaves
        binds-found c over long is = record {
          over = over;
          leaves = λ r q.
              let x : bytes_in c ≡ encode (set r name v) = ap (λ n. take n c.bytes.now) long ∙ ap (take p.total) is ∙ stands r q in
              (x, omega (arith, sym (ap length x) ∙ held c, long, fit.fits));
        }

      -- The tail, the value's own bytes, the opening: as above.
      pub own-last : {c d : List ℕ} → c ≡ sets b.bytes.now (p.place.from + p.head + len) tail → d ≡ sets c (p.place.from + p.head) own → d ≡ sets b.bytes.now (p.place.from + p.head) (own ++ tail)
      own-last x y = y ∙ ap (λ c. sets c (p.place.from + p.head) own) (x ∙ ap (λ n. sets b.bytes.now (p.place.from + p.head + n) tail) (sym k)) ∙ sets-before b.bytes.now (p.place.from + p.head) own tail

-- A part of the records.
pub own-part : (b : RecordBuffer) (i j : ℕ) → i ≤ j → j ≤ length (bytes_in b) → (length (part (bytes_in b) i j) ≡ j - i) × (part (bytes_in b) i j ≡ part b.bytes.now i j)
own-part b i j h k = (length-slice i j (bytes_in b) k, slice-take i j b.len b.bytes.now h (omega (arith, held b)))
