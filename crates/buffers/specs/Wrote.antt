-- What a writer came to.
use Rattle.std.specs.Prelude.{◌≡◌, Bool, true, false, ℕ, List, [], ◌++◌, ◌+◌, ◌-◌, ◌≤◌, ◌<◌, length, take, Ok, Err, Result, IfOk, MatchResult}
use Rattle.std.specs.Borrow.{MutBor}
use Rattle.std.proofs.Math.Path.{refl, sym, ap}
use Rattle.std.proofs.Common.{◌∙◌, true≢false, arith, append-nil, length-append}
use Rattle.std.proofs.Math.Seq.{length-sets}
use Rattle.buffers.specs.Laws.{sets-append, sets-out, stored-first}
use Rattle.std.proofs.lemmas.List.Edits.{sets}
use Rattle.rules.specs.Answer.{Answer, accepted, refused}
use Rattle.rules.specs.Run.{Emit, put, ok, fail, and_then, write}
use Rattle.refusal.specs.declared.Refusal.{Refusal}
use Rattle.refusal.specs.Numbers.{number}
use Rattle.buffers.specs.declared.writer.Writer.{Writer}
use Rattle.buffers.specs.Emits.{Emits, before, write-fit, write-full, write-refused, written-first, emits-fail, Going, going_start, going-same, going_on, going-no, going_end}

-- Is it no refusal; the number of one.
abbrev pub fine : {A : Type 0} → Result A Refusal → Bool
fine (Ok a) = true
fine (Err e) = false

abbrev pub told : {A : Type 0} → Result A Refusal → ℕ
told (Ok a) = 0
told (Err e) = number e

-- w₂ is over the same buffer as w, with the same room, and tells the same where there is none.
pub record SameWriter (w w₂ : Writer) : Type 0 where
  pub same : w₂.out.ghost_name ≡ w.out.ghost_name
  pub room : w₂.room ≡ w.room
  pub full : w₂.full ≡ w.full

-- The text v is put at w, which is then w₂. The buffer takes as much of it as it has bytes for, and the writer goes on behind it; where there is no
-- room for all of it, that is told, and the writer stands at the end of its room.
pub record Puts {A : Type 0} (v : List ℕ) (w w₂ : Writer) (r : Result A Refusal) : Type 0 where
  pub over : SameWriter w w₂
  pub stored : w₂.out.now ≡ sets w.out.now w.at v
  pub goes : MatchResult r (λ _. w₂.at ≡ w.at + length v) (λ k. (k ≡ w.full) × (w.room < w.at + length v) × (w₂.at ≡ w.room))

-- The writer w writes e, and is then w₂, over the same buffer; or it is refused.
pub record Wrote {A : Type 0} (e : Emit) (w w₂ : Writer) (r : Result A Refusal) : Type 0 where
  pub over : SameWriter w w₂
  pub emits : Emits (number w.full) w.room e w.out.now w.at w₂.out.now (fine r) (told r) w₂.at

-- A writer at the start of a buffer.
pub record Begins (out : MutBor (List ℕ)) (k : Refusal) (w : Writer) : Type 0 where
  pub same : w.out ≡ out
  pub room : w.room ≡ length out.now
  pub at : w.at ≡ 0
  pub full : w.full ≡ k

-- What a call answers: so many bytes at the start of a buffer, or the refusal.
unfoldable pub first_bytes : List ℕ → Result ℕ Refusal → Answer (List ℕ)
first_bytes c (Ok n) = accepted (take n c)
first_bytes c (Err e) = refused (number e)

-- What stands in a buffer of n bytes, when a writer that has begun there has written e: a text at its start, or a refusal is told.
pub record Stands (full n : ℕ) (e : Emit) (c : List ℕ) (r : Result ℕ Refusal) : Type 0 where
  pub size : length c ≡ n
  pub fits : IfOk r (λ k. k ≤ n)
  pub is : write full n e ≡ first_bytes c r

-- LAWS. One writer.
pub same_writer : (w : Writer) → SameWriter w w
same_writer w = record { same = refl; room = refl; full = refl }

pub writer-then : {w w₁ w₂ : Writer} → SameWriter w w₁ → SameWriter w₁ w₂ → SameWriter w w₂
writer-then s t = record { same = t.same ∙ s.same; room = t.room ∙ s.room; full = t.full ∙ s.full }

-- What was put. Whatever else is answered.
module _ {A B : Type 0} {v : List ℕ} {w w₂ : Writer} {q : Result A Refusal} where
  pub puts-ok : {a : A} → q ≡ Ok a → Puts v w w₂ q → {b : B} → Puts v w w₂ (Ok b)
  puts-ok x s = record { over = s.over; stored = s.stored; goes = rw x at s.goes }

  pub puts-err : {k : Refusal} → q ≡ Err k → Puts v w w₂ q → {r : Result B Refusal} → r ≡ Err k → Puts v w w₂ r
  puts-err x s y = rw y (record { over = s.over; stored = s.stored; goes = rw x at s.goes })

-- Nothing.
pub puts-none : {A : Type 0} (w : Writer) (a : A) → Puts [] w w (Ok a)
puts-none w a = record { over = same_writer w; stored = refl; goes = omega arith }

-- One text behind the other; nothing behind one for which there was no room.
module _ {A B : Type 0} {v : List ℕ} {w w₁ : Writer} {q : Result A Refusal} (s : Puts v w w₁ q) where
  pub puts-then : {a : A} → q ≡ Ok a → {u : List ℕ} {w₂ : Writer} {r : Result B Refusal} → Puts u w₁ w₂ r → Puts (v ++ u) w w₂ r
  puts-then x {u} {w₂} {r} t = record {
    over = writer-then s.over t.over;
    stored = t.stored ∙ ap (λ z. sets z w₁.at u) s.stored ∙ ap (λ z. sets (sets w.out.now w.at v) z u) place ∙ sets-append w.out.now w.at v u;
    goes = at r t.goes;
  }
    where
      place : w₁.at ≡ w.at + length v
      place = rw x at s.goes

      at : (r : Result B Refusal) → MatchResult r (λ b. w₂.at ≡ w₁.at + length u) (λ k. (k ≡ w₁.full) × (w₁.room < w₁.at + length u) × (w₂.at ≡ w₁.room)) → MatchResult r (λ b. w₂.at ≡ w.at + length (v ++ u)) (λ k. (k ≡ w.full) × (w.room < w.at + length (v ++ u)) × (w₂.at ≡ w.room))
      at (Ok b) h = omega (arith, h, place, length-append v u)
      at (Err k) h = (h.0 ∙ s.over.full, omega (arith, h.1, place, length-append v u, s.over.room), h.2 ∙ s.over.room)

  pub puts-no : {k : Refusal} → q ≡ Err k → (u : List ℕ) {r : Result B Refusal} → r ≡ Err k → Puts (v ++ u) w w₁ r
  puts-no {k} x u y = rw y (record {
    over = s.over;
    stored = s.stored ∙ sym (sym (sets-append w.out.now w.at v u) ∙ sets-out (sets w.out.now w.at v) (w.at + length v) u (omega (arith, length-sets w.out.now w.at v, w.enough, no.1)));
    goes = (no.0, omega (arith, no.1, length-append v u), no.2);
  })
    where
      no : (k ≡ w.full) × (w.room < w.at + length v) × (w₁.at ≡ w.room)
      no = rw x at s.goes

-- Was there room?
module _ {A : Type 0} {v : List ℕ} {w w₂ : Writer} {r : Result A Refusal} (s : Puts v w w₂ r) where
  pub puts-over : {k : Refusal} → r ≡ Err k → (k ≡ w.full) × (w.room < w.at + length v)
  puts-over x = let h : (_ ≡ w.full) × (w.room < w.at + length v) × (w₂.at ≡ w.room) = rw x at s.goes in (h.0, h.1)

  module _ {a : A} (x : r ≡ Ok a) where
    pub puts-place : w₂.at ≡ w.at + length v
    puts-place = rw x at s.goes

    pub puts-fits : w.at + length v ≤ w.room
    puts-fits = omega (arith, puts-place, w₂.within, s.over.room)

    -- What a writer that began at the start of its buffer has put stands there.
    pub puts-first : w.at ≡ 0 → w.room ≡ length w.out.now → take w₂.at w₂.out.now ≡ v
    puts-first z e =
        let p : w₂.at ≡ length v = omega (arith, puts-place, z) in
        ap (λ n. take n w₂.out.now) p ∙ ap (take (length v)) (s.stored ∙ ap (λ n. sets w.out.now n v) z) ∙ stored-first w.out.now v (omega (arith, puts-fits, z, e))

  -- It is written.
  pub puts-wrote : Wrote (put v ok) w w₂ r
  puts-wrote = record { over = s.over; emits = at r s.goes }
    where
      size : length w₂.out.now ≡ length w.out.now
      size = ap length s.stored ∙ length-sets w.out.now w.at v

      at : (r : Result A Refusal) → MatchResult r (λ a. w₂.at ≡ w.at + length v) (λ k. (k ≡ w.full) × (w.room < w.at + length v) × (w₂.at ≡ w.room)) → Emits (number w.full) w.room (put v ok) w.out.now w.at w₂.out.now (fine r) (told r) w₂.at
      at (Ok a) h = record {
        size = size;
        goes = λ z. record {
          text = v;
          fills = record { stored = s.stored; place = h };
          fits = omega (arith, w₂.within, s.over.room);
          says = write-fit (number w.full) (w.room - w.at) v ok (omega (arith, h, w₂.within, s.over.room)) ∙ (unfold write before in ap accepted (append-nil v));
        };
        stops = λ z. absurd (true≢false z);
      }
      at (Err k) h = record {
        size = size;
        goes = λ z. absurd (true≢false (sym z));
        stops = λ z. write-full (number w.full) (w.room - w.at) v ok (omega (arith, h.1)) ∙ ap (λ j. refused (number j)) (sym h.0);
      }

-- A refusal.
pub wrote-fail : {A : Type 0} (w : Writer) (k : Refusal) → Wrote {A = A} (fail (number k)) w w (Err k)
wrote-fail w k = record { over = same_writer w; emits = emits-fail (number w.full) w.room w.out.now w.at (number k) w.at }

-- What a writer that begins at a buffer's start leaves there. c: the buffer, when the writer is let go.
module _ {A : Type 0} {e : Emit} {out : MutBor (List ℕ)} {k : Refusal} {w w₂ : Writer} {q : Result A Refusal} (b : Begins out k w) (s : Wrote e w w₂ q) {c : List ℕ} (left : c ≡ w₂.out.now) where
  whole-room : length out.now - 0 ≡ length out.now
  whole-room = omega arith

  emitted-here : Emits (number k) (length out.now) e out.now 0 c (fine q) (told q) w₂.at
  emitted-here = rw left (rw (b.full, b.room, b.at, b.same) at s.emits)

  pub stands-ok : {a : A} → q ≡ Ok a → Stands (number k) (length out.now) e c (Ok w₂.at)
  unfolding first_bytes
  stands-ok x =
      let z = emitted-here in
      let w = z.goes (rw x refl) in
      record { size = z.size; fits = w.fits; is = (rw whole-room at w.says) ∙ ap accepted (sym (written-first w refl refl).1) }

  pub stands-no : {j : Refusal} → q ≡ Err j → {r : Result ℕ Refusal} → r ≡ Err j → Stands (number k) (length out.now) e c r
  unfolding first_bytes
  stands-no x y = let z = emitted-here in rw y (record { size = z.size; fits = tt; is = (rw (whole-room, x) at (z.stops (rw x refl))) })

-- What was written, with another answer besides.
module _ {A B : Type 0} {e : Emit} {w w₂ : Writer} {q : Result A Refusal} where
  pub wrote-ok : {a : A} → q ≡ Ok a → Wrote e w w₂ q → {b : B} → Wrote e w w₂ (Ok b)
  wrote-ok x s₀ = record { over = s₀.over; emits = s }
    where
      s : Emits (number w.full) w.room e w.out.now w.at w₂.out.now true 0 w₂.at
      s = rw x at s₀.emits

  pub wrote-err : {k : Refusal} → q ≡ Err k → Wrote e w w₂ q → {r : Result B Refusal} → r ≡ Err k → Wrote e w w₂ r
  wrote-err {k} x s₀ {r} y = rw y (record { over = s₀.over; emits = s })
    where
      s : Emits (number w.full) w.room e w.out.now w.at w₂.out.now false (number k) w₂.at
      s = rw x at s₀.emits

-- One behind the other.
module _ {A B : Type 0} {e : Emit} {w w₁ : Writer} {q : Result A Refusal} where
  pub wrote-then : {a : A} {v : List ℕ} {w₂ : Writer} {r : Result B Refusal} → q ≡ Ok a → Wrote e w w₁ q → Wrote (put v ok) w₁ w₂ r → Wrote (and_then e (put v ok)) w w₂ r
  unfolding and_then
  wrote-then {v = v} {w₂} {r} x s₀ t₀ = record { over = writer-then s₀.over t₀.over; emits = all r t }
    where
      s : Emits (number w.full) w.room e w.out.now w.at w₁.out.now true 0 w₁.at
      s = rw x at s₀.emits

      t : Emits (number w.full) w.room (put v ok) w₁.out.now w₁.at w₂.out.now (fine r) (told r) w₂.at
      t = rw (s₀.over.full, s₀.over.room) at t₀.emits

      g : Going (number w.full) w.room (and_then e (put v ok)) w.out.now w.at w₁.out.now w₁.at (and_then (put v ok) ok)
      g = going_on e (put v ok) (going_start (number w.full) w.room (and_then e (put v ok)) w.out.now w.at w.within) s refl

      all : (r : Result B Refusal) → Emits (number w.full) w.room (put v ok) w₁.out.now w₁.at w₂.out.now (fine r) (told r) w₂.at → Emits (number w.full) w.room (and_then e (put v ok)) w.out.now w.at w₂.out.now (fine r) (told r) w₂.at
      all (Ok b) t = record { size = t.size ∙ s.size; goes = λ z. going_end (going_on (put v ok) ok g t refl); stops = λ z. absurd (true≢false z) }
      all (Err k) t = record { size = t.size ∙ s.size; goes = λ z. absurd (true≢false (sym z)); stops = λ z. going-no (put v ok) ok g t refl }

  pub wrote-no : {k : Refusal} (f : Emit) → q ≡ Err k → Wrote e w w₁ q → {r : Result B Refusal} → r ≡ Err k → Wrote (and_then e f) w w₁ r
  wrote-no {k} f x s₀ {r} y = rw y (record {
    over = s₀.over;
    emits = record { size = s.size; goes = λ z. absurd (true≢false (sym z)); stops = λ z. write-refused (number w.full) e f (w.room - w.at) (number k) (s.stops refl) };
  })
    where
      s : Emits (number w.full) w.room e w.out.now w.at w₁.out.now false (number k) w₁.at
      s = rw x at s₀.emits

-- A LOOP that writes e: its text so far is written, and f is left.
pub record Writing (e : Emit) (w w₁ : Writer) (f : Emit) : Type 0 where
  pub over : SameWriter w w₁
  pub going : Going (number w.full) w.room e w.out.now w.at w₁.out.now w₁.at f
  pub size : length w₁.out.now ≡ length w.out.now

pub writing-start : (e : Emit) (w : Writer) → Writing e w w e
writing-start e w = record { over = same_writer w; going = going_start (number w.full) w.room e w.out.now w.at w.within; size = refl }

pub writing-same : {e f h : Emit} {w w₁ : Writer} → ((full n : ℕ) → write full n f ≡ write full n h) → Writing e w w₁ f → Writing e w w₁ h
writing-same {w = w} {w₁} x s = record { over = s.over; going = going-same (x (number w.full) (w.room - w₁.at)) s.going; size = s.size }

pub writing-end : {A : Type 0} {e : Emit} {w w₁ : Writer} {a : A} → Writing e w w₁ ok → Wrote e w w₁ (Ok a)
writing-end s = record { over = s.over; emits = record { size = s.size; goes = λ z. going_end s.going; stops = λ z. absurd (true≢false z) } }

-- One step.
module _ (k f : Emit) {e : Emit} {w w₁ w₂ : Writer} (s : Writing e w w₁ (and_then k f)) {A : Type 0} {q : Result A Refusal} where
  pub writing-on : {a : A} → q ≡ Ok a → Wrote k w₁ w₂ q → Writing e w w₂ f
  writing-on x t₀ = record { over = writer-then s.over t₀.over; going = going_on k f s.going t refl; size = t.size ∙ s.size }
    where
      t : Emits (number w.full) w.room k w₁.out.now w₁.at w₂.out.now true 0 w₂.at
      t = rw (x, s.over.full, s.over.room) at t₀.emits

  pub writing-no : {j : Refusal} → q ≡ Err j → Wrote k w₁ w₂ q → {B : Type 0} {r : Result B Refusal} → r ≡ Err j → Wrote e w w₂ r
  writing-no {j} x t₀ {r = r} y = rw y (record { over = writer-then s.over t₀.over; emits = record { size = t.size ∙ s.size; goes = λ z. absurd (true≢false (sym z)); stops = λ z. going-no k f s.going t refl } })
    where
      t : Emits (number w.full) w.room k w₁.out.now w₁.at w₂.out.now false (number j) w₂.at
      t = rw (x, s.over.full, s.over.room) at t₀.emits
