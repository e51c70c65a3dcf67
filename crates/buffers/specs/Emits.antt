-- What a step writes, put by the buffers' writer: the contracts of the writing functions, and one loop that writes step after step.
use Rattle.std.specs.Prelude.{◌≡◌, Bool, false, leb, take, drop}
use Rattle.std.proofs.Math.Path.{refl, sym, ap}
use Rattle.std.proofs.Common.{◌∙◌, true≢false, arith, length-append, length-take-le, drop_at}
use mathlib.Core.List.{List, [], ◌++◌, append_assoc, append-nil}
use Rattle.std.proofs.Math.Bool.{true}
use Prim.Native.Nat.{ℕ, ◌+◌, ◌-◌, ◌≤◌, ◌<◌}
use Rattle.std.proofs.Math.Decide.{dec_le}
use Rattle.std.proofs.Math.Nat.{sub-zero}
use Rattle.std.proofs.Math.ListN.{length}
use Rattle.std.proofs.lemmas.List.Edits.{sets, sets-eq}
use Rattle.std.proofs.Math.Seq.{take-append_seam}
use borrow.Author.Tests.{le-leb, lt-leb}
use Rattle.rules.specs.Answer.{Answer, refused, accepted, ◌>>=◌, ◌>>◌, check}
use Rattle.rules.specs.Run.{Emit, ok, put, fail, and_then, Did, Trace, fin, step, emitted, final, write, limited}
use Rattle.rules.proofs.Laws.Answer.{not-both, accepted-same}
use Rattle.rules.proofs.Laws.Limit.{write_inv}
use Rattle.buffers.specs.Laws.{sets-append, stored-first}

-- The text v is stored from p on, and the writer goes on behind it, at q.
pub record Fill (b : List ℕ) (p : ℕ) (v c : List ℕ) (q : ℕ) : Type 0 where
  pub stored : c ≡ sets b p v
  pub place : q ≡ p + length v

-- e is written from p on, and the writer goes on at q.
pub record Writes (full room : ℕ) (e : Emit) (b : List ℕ) (p : ℕ) (c : List ℕ) (q : ℕ) : Type 0 where
  pub text : List ℕ
  pub fills : Fill b p text c q
  pub fits : q ≤ room
  pub says : write full (room - p) e ≡ accepted text

-- What writing e from p on came to: all is written, or it is refused with a number.
pub record Emits (full room : ℕ) (e : Emit) (b : List ℕ) (p : ℕ) (c : List ℕ) (fine : Bool) (number q : ℕ) : Type 0 where
  pub size : length c ≡ length b
  pub goes : fine ≡ true → Writes full room e b p c q
  pub stops : fine ≡ false → write full (room - p) e ≡ refused number

-- o, and then what is still to come.
unfoldable pub before : List ℕ → Answer (List ℕ) → Answer (List ℕ)
before o (refused k) = refused k
before o (accepted p) = accepted (o ++ p)

before-nil : (a : Answer (List ℕ)) → before [] a ≡ a
unfolding before
before-nil (refused k) = refl
before-nil (accepted p) = refl

before-before : (o w : List ℕ) (a : Answer (List ℕ)) → before o (before w a) ≡ before (o ++ w) a
unfolding before
before-before o w (refused k) = refl
before-before o w (accepted p) = ap accepted (sym (append_assoc o w p))

-- A piece, by whether it fits.
pub write-fit : (full r : ℕ) (v : List ℕ) (e : Emit) → length v ≤ r → write full r (put v e) ≡ before v (write full (r - length v) e)
unfolding write check ◌>>◌
write-fit full r v e h = rw (le-leb (length v) r h) (at (write full (r - length v) e))
  where
    at : (a : Answer (List ℕ)) → (a >>= λ p. accepted (v ++ p)) ≡ before v a
    at (refused k) = unfold ◌>>=◌ before in refl
    at (accepted p) = unfold ◌>>=◌ before in refl

pub write-full : (full r : ℕ) (v : List ℕ) (e : Emit) → r < length v → write full r (put v e) ≡ refused full
unfolding write check ◌>>◌
write-full full r v e h = rw (lt-leb (length v) r h)

pub write-none : (full r : ℕ) (e : Emit) → write full r (put [] e) ≡ write full r e
write-none full r e = write-fit full r [] e (omega arith) ∙ before-nil (write full (r - 0) e) ∙ ap (λ x. write full x e) (sub-zero r)

-- One piece alone.
pub write-one : (full r : ℕ) (v : List ℕ) → write full r (put v ok) ≡ (check full (leb (length v) r) >> accepted v)
unfolding write ◌>>=◌
write-one full r v = ap (λ z. check full (leb (length v) r) >> accepted z) (append-nil v)

pub write_same : (full r : ℕ) (v : List ℕ) (e f : Emit) → write full (r - length v) e ≡ write full (r - length v) f → write full r (put v e) ≡ write full r (put v f)
unfolding write
write_same full r v e f h = ap (λ x. check full (leb (length v) r) >> (x >>= λ p. accepted (v ++ p))) h

-- Two pieces put as one.
pub write-join : (full r : ℕ) (v w : List ℕ) (e : Emit) → write full r (put v (put w e)) ≡ write full r (put (v ++ w) e)
unfolding before
write-join full r v w e = at (dec_le (length v) r) (dec_le (length (v ++ w)) r)
  where
    at : Dec (length v ≤ r) → Dec (length (v ++ w) ≤ r) → write full r (put v (put w e)) ≡ write full r (put (v ++ w) e)
    at (yes h) (yes k) =
        let l = length-append v w in
        let z : r - length v - length w ≡ r - length (v ++ w) = omega arith in
        write-fit full r v (put w e) h ∙ ap (before v) (write-fit full (r - length v) w e (omega arith) ∙ ap (λ x. before w (write full x e)) z) ∙ before-before v w (write full (r - length (v ++ w)) e) ∙ sym (write-fit full r (v ++ w) e k)
    at (yes h) (no k) =
        let l = length-append v w in
        write-fit full r v (put w e) h ∙ ap (before v) (write-full full (r - length v) w e (omega arith)) ∙ sym (write-full full r (v ++ w) e (omega arith))
    at (no h) k = let l = length-append v w in write-full full r v (put w e) (omega arith) ∙ sym (write-full full r (v ++ w) e (omega arith))

-- One after the other.
pub write-and_then : (full : ℕ) (e f : Emit) (r : ℕ) {o : List ℕ} → write full r e ≡ accepted o → write full r (and_then e f) ≡ before o (write full (r - length o) f)
unfolding and_then write
write-and_then full ok f r {o} h =
    let z : o ≡ [] = sym (accepted-same h) in
    rw (z, sub-zero) (sym (before-nil (write full r f)))
write-and_then full (fail k) f r h = absurd (not-both h)
write-and_then full (put v e) f r {o} h =
    let i = write_inv full r v e h in
    let l = length-append v i.later in
    let z : r - length v - length i.later ≡ r - length (v ++ i.later) = omega arith in
    write-fit full r v (and_then e f) i.fits
    ∙ ap (before v) (write-and_then full e f (r - length v) i.write-later ∙ ap (λ x. before i.later (write full x f)) z)
    ∙ before-before v i.later (write full (r - length (v ++ i.later)) f)
    ∙ ap (λ x. before x (write full (r - length x) f)) i.whole_is

before-refused : (v : List ℕ) (a : Answer (List ℕ)) (k : ℕ) → before v a ≡ refused k → a ≡ refused k
unfolding before
before-refused v (refused j) k h = h
before-refused v (accepted p) k h = absurd (not-both (sym h))

pub write-refused : (full : ℕ) (e f : Emit) (r k : ℕ) → write full r e ≡ refused k → write full r (and_then e f) ≡ refused k
unfolding and_then write
write-refused full ok f r k h = absurd (not-both (sym h))
write-refused full (fail j) f r k h = h
write-refused full (put v e) f r k h = at (dec_le (length v) r) (write-refused full e f (r - length v) k)
  where
    at : Dec (length v ≤ r) → (write full (r - length v) e ≡ refused k → write full (r - length v) (and_then e f) ≡ refused k) → write full r (put v (and_then e f)) ≡ refused k
    at (yes l) ih = write-fit full r v (and_then e f) l ∙ ap (before v) (ih (before-refused v (write full (r - length v) e) k (sym (write-fit full r v e l) ∙ h))) ∙ (unfold before in refl)
    at (no l) ih = write-full full r v (and_then e f) (omega arith) ∙ sym (write-full full r v e (omega arith)) ∙ h

-- FILLING. Nothing; one text behind the other.
pub fill_none : (b : List ℕ) (p : ℕ) → Fill b p [] b p
fill_none b p = record { stored = refl; place = omega arith }

pub fill-then : {b : List ℕ} {p : ℕ} {v c : List ℕ} {q : ℕ} {w d : List ℕ} {r : ℕ} → Fill b p v c q → Fill c q w d r → Fill b p (v ++ w) d r
fill-then {b} {p} {v} {c} {q} {w} s t = record {
  stored = t.stored ∙ ap (λ z. sets z q w) s.stored ∙ ap (λ z. sets (sets b p v) z w) s.place ∙ sets-append b p v w;
  place = omega (arith, s.place, t.place, length-append v w);
}

-- A LOOP that writes e: its text so far stands in the buffer, the writer is at q, and f is left.
pub record Going (full room : ℕ) (e : Emit) (b : List ℕ) (p : ℕ) (c : List ℕ) (q : ℕ) (f : Emit) : Type 0 where
  pub text : List ℕ
  pub fills : Fill b p text c q
  pub fits : q ≤ room
  pub left : write full (room - p) e ≡ before text (write full (room - q) f)

pub going_start : (full room : ℕ) (e : Emit) (b : List ℕ) (p : ℕ) → p ≤ room → Going full room e b p b p e
going_start full room e b p h = record { text = []; fills = fill_none b p; fits = h; left = sym (before-nil (write full (room - p) e)) }

pub going-same : {full room : ℕ} {e : Emit} {b : List ℕ} {p : ℕ} {c : List ℕ} {q : ℕ} {f h : Emit} → write full (room - q) f ≡ write full (room - q) h → Going full room e b p c q f → Going full room e b p c q h
going-same z g = record { text = g.text; fills = g.fills; fits = g.fits; left = g.left ∙ ap (before g.text) z }

module _ {full room : ℕ} {e : Emit} {b : List ℕ} {p : ℕ} {c : List ℕ} {q : ℕ} where
  -- One step.
  module _ (k f : Emit) (g : Going full room e b p c q (and_then k f)) where
    pub going_on : {d : List ℕ} {n r : ℕ} {y : Bool} → Emits full room k c q d y n r → y ≡ true → Going full room e b p d r f
    going_on {d} {n} {r} s z =
        let w = s.goes z in
        let x : room - q - length w.text ≡ room - r = omega (arith, w.fills.place) in
        record {
          text = g.text ++ w.text;
          fills = fill-then g.fills w.fills;
          fits = w.fits;
          left = g.left ∙ ap (before g.text) (write-and_then full k f (room - q) w.says ∙ ap (λ y. before w.text (write full y f)) x) ∙ before-before g.text w.text (write full (room - r) f);
        }

    pub going-no : {d : List ℕ} {n r : ℕ} {y : Bool} → Emits full room k c q d y n r → y ≡ false → write full (room - p) e ≡ refused n
    going-no {d} {n} s z = g.left ∙ ap (before g.text) (write-refused full k f (room - q) n (s.stops z)) ∙ (unfold before in refl)

  pub going_end : Going full room e b p c q ok → Writes full room e b p c q
  going_end g = record { text = g.text; fills = g.fills; fits = g.fits; says = g.left ∙ (unfold write before in ap accepted (append-nil g.text)) }

-- A text written from the start of a buffer stands there.
pub written-first : {full room : ℕ} {e : Emit} {b : List ℕ} {p : ℕ} {c : List ℕ} {q : ℕ} (w : Writes full room e b p c q) → p ≡ 0 → room ≡ length b → (q ≡ length w.text) × (take q c ≡ w.text)
written-first {b = b} {c = c} {q = q} w z l =
    let f : q ≡ length w.text = omega (arith, w.fills.place) in
    (f, ap (take q) (w.fills.stored ∙ ap (λ x. sets b x w.text) z) ∙ ap (λ x. take x (sets b 0 w.text)) f ∙ stored-first b w.text (omega (arith, w.fits)))

-- A refusal.
pub emits-fail : (full room : ℕ) (b : List ℕ) (p k q : ℕ) → Emits full room (fail k) b p b false k q
emits-fail full room b p k q = record { size = refl; goes = λ z. absurd (true≢false (sym z)); stops = λ z. (unfold write in refl) }

-- THE SAME FOR EVERY BUFFER: what is answered does not depend on it.
module _ {full room : ℕ} {e : Emit} {p : ℕ} {b c : List ℕ} {fine : Bool} {k q : ℕ} (s : Emits full room e b p c fine k q) {b₂ c₂ : List ℕ} {fine₂ : Bool} {k₂ q₂ : ℕ} (t : Emits full room e b₂ p c₂ fine₂ k₂ q₂) where
  pub same-fine : fine ≡ fine₂
  same-fine = at fine fine₂ refl refl
    where
      at : (x y : Bool) → fine ≡ x → fine₂ ≡ y → fine ≡ fine₂
      at true true u v = u ∙ sym v
      at false false u v = u ∙ sym v
      at true false u v = absurd (not-both (sym (t.stops v) ∙ (s.goes u).says))
      at false true u v = absurd (not-both (sym (s.stops u) ∙ (t.goes v).says))

  pub same_number : fine ≡ false → k ≡ k₂
  same_number h = let z = sym (s.stops h) ∙ t.stops (sym same-fine ∙ h) in cc

  pub same_place : fine ≡ true → q ≡ q₂
  same_place h =
      let w = s.goes h in
      let y = t.goes (sym same-fine ∙ h) in
      w.fills.place ∙ ap (λ z. p + length z) (accepted-same (sym w.says ∙ y.says)) ∙ sym y.fills.place

-- In a buffer as long as the room the whole text stands.
pub emits-stands : {full room : ℕ} {e : Emit} {p : ℕ} {b c : List ℕ} {k q : ℕ} (s : Emits full room e b p c true k q) → length b ≡ room → take (q - p) (drop p c) ≡ (s.goes refl).text
emits-stands {room = room} {p = p} {b = b} {c = c} {q = q} s l =
    let w = s.goes refl in
    let v = w.text in
    let n : q - p ≡ length v = omega (arith, w.fills.place) in
    let h : length (take p b) ≡ p = length-take-le p b (omega (arith, w.fills.place, w.fits)) in
    ap (λ z. take (q - p) (drop p z)) (w.fills.stored ∙ sets-eq v b p (omega (arith, w.fills.place, w.fits)) ∙ append_assoc (take p b) v (drop (p + length v) b)) ∙ ap (take (q - p)) (drop_at (take p b) (v ++ drop (p + length v) b) p h) ∙ ap (λ z. take z (v ++ drop (p + length v) b)) n ∙ take-append_seam v (drop (p + length v) b)

-- A RUN with a limit for its state: what each step writes, or 9.
module _ {S : Type 0} (size : S → ℕ) (L : ℕ) where
  unfoldable pub guard : Did S → Emit
  guard d = elim (leb (size d.state) L) [ true ↦ d.emit | false ↦ fail 9 ]

  unfoldable pub guarded : Trace S → Emit
  guarded (fin s) = ok
  guarded (step d t) = and_then (guard d) (guarded t)

  pub guard-yes : (d : Did S) → leb (size d.state) L ≡ true → guard d ≡ d.emit
  unfolding guard
  guard-yes d h = rw (h, guard) refl

  pub guard-no : (d : Did S) → leb (size d.state) L ≡ false → guard d ≡ fail 9
  unfolding guard
  guard-no d h = rw (h, guard) refl

  limited-yes : (full r : ℕ) (d : Did S) (t : Trace S) → leb (size d.state) L ≡ true →
      limited size L full r (step d t) ≡ ◌>>=◌ {B = List ℕ × S} (write full r d.emit) (λ o. ◌>>=◌ {B = List ℕ × S} (limited size L full (r - length o) t) (λ p. accepted (o ++ p.0, p.1)))
  unfolding limited check ◌>>◌
  limited-yes full r d t h = rw h refl

  limited-no : (full r : ℕ) (d : Did S) (t : Trace S) → leb (size d.state) L ≡ false → limited size L full r (step d t) ≡ refused 9
  unfolding limited check ◌>>◌
  limited-no full r d t h = rw h refl

  -- The limited run is that, written, and the run's last state.
  pub limited-guarded : (full : ℕ) (t : Trace S) (r : ℕ) → limited size L full r t ≡ ◌>>=◌ {B = List ℕ × S} (write full r (guarded t)) (λ o. accepted (o, final t))
  unfolding limited guarded final ◌>>=◌
  limited-guarded full (fin s) r = unfold write in refl
  limited-guarded full (step d t) r = at (leb (size d.state) L) (write full r d.emit) refl refl (limited-guarded full t)
    where
      later : (o : List ℕ) (a : Answer (List ℕ)) → ◌>>=◌ {B = List ℕ × S} (◌>>=◌ {B = List ℕ × S} a (λ p. accepted (p, final t))) (λ p. accepted (o ++ p.0, p.1)) ≡ ◌>>=◌ {B = List ℕ × S} (before o a) (λ p. accepted (p, final t))
      later o (refused k) = unfold before in refl
      later o (accepted p) = unfold before in refl

      at : (c : Bool) (a : Answer (List ℕ)) → leb (size d.state) L ≡ c → write full r d.emit ≡ a → ((m : ℕ) → limited size L full m t ≡ ◌>>=◌ {B = List ℕ × S} (write full m (guarded t)) (λ o. accepted (o, final t))) →
          limited size L full r (step d t) ≡ ◌>>=◌ {B = List ℕ × S} (write full r (guarded (step d t))) (λ o. accepted (o, final t))
      at false a q e ih = limited-no full r d t q ∙ sym (ap (λ z. ◌>>=◌ {B = List ℕ × S} (write full r (and_then z (guarded t))) (λ o. accepted (o, final t))) (guard-no d q) ∙ (unfold and_then write in refl))
      at true (refused k) q e ih =
          limited-yes full r d t q ∙ ap (λ z. ◌>>=◌ {B = List ℕ × S} z (λ o. ◌>>=◌ {B = List ℕ × S} (limited size L full (r - length o) t) (λ p. accepted (o ++ p.0, p.1)))) e
          ∙ sym (ap (λ z. ◌>>=◌ {B = List ℕ × S} (write full r (and_then z (guarded t))) (λ o. accepted (o, final t))) (guard-yes d q) ∙ ap (λ z. ◌>>=◌ {B = List ℕ × S} z (λ o. accepted (o, final t))) (write-refused full d.emit (guarded t) r k e))
      at true (accepted o) q e ih =
          limited-yes full r d t q ∙ ap (λ z. ◌>>=◌ {B = List ℕ × S} z (λ o. ◌>>=◌ {B = List ℕ × S} (limited size L full (r - length o) t) (λ p. accepted (o ++ p.0, p.1)))) e
          ∙ ap (λ z. ◌>>=◌ {B = List ℕ × S} z (λ p. accepted (o ++ p.0, p.1))) (ih (r - length o)) ∙ later o (write full (r - length o) (guarded t))
          ∙ sym (ap (λ z. ◌>>=◌ {B = List ℕ × S} (write full r (and_then z (guarded t))) (λ o. accepted (o, final t))) (guard-yes d q) ∙ ap (λ z. ◌>>=◌ {B = List ℕ × S} z (λ o. accepted (o, final t))) (write-and_then full d.emit (guarded t) r e))

-- A state without a limit.
pub guarded-emitted : (t : Trace (List ℕ)) → guarded (λ h. 0) 0 t ≡ emitted t
unfolding guarded guard emitted
guarded-emitted (fin s) = refl
guarded-emitted (step d t) = ap (and_then d.emit) (guarded-emitted t)
