-- Limits: more room changes nothing; an accepted run over two texts is two accepted runs; what is written is what the run says.
use Rattle.std.specs.Prelude.{◌≡◌, true, ℕ, ◌-◌, ◌≤◌, leb}
use Rattle.std.proofs.Math.Path.{refl, sym, ap}
use Rattle.std.proofs.Common.{◌∙◌, arith}
use mathlib.Core.List.{List, [], ◌++◌, append_assoc}
use Rattle.std.proofs.Math.Nat.{sub-zero}
use Rattle.std.proofs.Math.ListN.{length, length-append}
use Rattle.rules.specs.Answer.{accepted, ◌>>=◌, ◌>>◌, check}
use Rattle.rules.specs.Run.{Emit, ok, put, fail, unrefused, pieces, Did, Trace, fin, step, written, final, write, limited}
use Rattle.rules.proofs.Laws.Bool.{true-leb, leb-true}
use Rattle.rules.proofs.Laws.Answer.{not-both, accepted-same, check_inv, bind_inv}

-- One run, then another from the state that it left.
module _ {S : Type 0} where
  unfoldable pub join_runs : Trace S → (S → Trace S) → Trace S
  join_runs (fin s) k = k s
  join_runs (step d t) k = step d (join_runs t k)

-- Pieces: what the first takes, and the later ones.
pub record Put (full r : ℕ) (o : List ℕ) (e : Emit) (p : List ℕ) : Type 0 where
  pub later : List ℕ
  pub fits : length o ≤ r
  pub write-later : write full (r - length o) e ≡ accepted later
  pub whole_is : o ++ later ≡ p

pub write_inv : (full r : ℕ) (o : List ℕ) (e : Emit) {p : List ℕ} → write full r (put o e) ≡ accepted p → Put full r o e p
unfolding write
write_inv full r o e h =
    let i = check_inv full (leb (length o) r) _ h in
    let j = bind_inv (write full (r - length o) e) _ i.1 in
    record { later = j.0; fits = true-leb _ _ i.0; write-later = j.1; whole_is = accepted-same j.2 }

pub write_intro : (full r : ℕ) (o : List ℕ) (e : Emit) (p : List ℕ) → length o ≤ r → write full (r - length o) e ≡ accepted p → write full r (put o e) ≡ accepted (o ++ p)
unfolding write ◌>>=◌ ◌>>◌ check
write_intro full r o e p l h = rw (leb-true (length o) r l, h)

-- More room: the same.
pub write_mono : (full : ℕ) (e : Emit) (r r' : ℕ) {o : List ℕ} → r ≤ r' → write full r e ≡ accepted o → write full r' e ≡ accepted o
unfolding write
write_mono full ok r r' h w = w
write_mono full (fail k) r r' h w = absurd (not-both w)
write_mono full (put c e) r r' h w =
    let i = write_inv full r c e w in
    write_intro full r' c e i.later (omega arith) (write_mono full e (r - length c) (r' - length c) (omega arith) i.write-later) ∙ ap accepted i.whole_is

-- What is written is what the pieces say.
pub write-text : (full : ℕ) (e : Emit) (r : ℕ) {o : List ℕ} → write full r e ≡ accepted o → o ≡ pieces e
unfolding write pieces
write-text full ok r w = sym (accepted-same w)
write-text full (fail k) r w = absurd (not-both w)
write-text full (put c e) r {o} w =
    let i = write_inv full r c e w in
    sym i.whole_is ∙ ap (λ x. c ++ x) (write-text full e (r - length c) i.write-later)

-- What was written was not refused.
pub written-unrefused : (full : ℕ) (e : Emit) (r : ℕ) {o : List ℕ} → write full r e ≡ accepted o → unrefused e ≡ true
unfolding unrefused write
written-unrefused full ok r w = refl
written-unrefused full (fail k) r w = absurd (not-both w)
written-unrefused full (put c e) r w = written-unrefused full e (r - length c) (write_inv full r c e w).write-later

pub write-fits : (full : ℕ) (e : Emit) (r : ℕ) {o : List ℕ} → write full r e ≡ accepted o → length o ≤ r
unfolding write
write-fits full ok r w = omega (arith, ap length (accepted-same w))
write-fits full (fail k) r w = absurd (not-both w)
write-fits full (put c e) r w =
    let i = write_inv full r c e w in
    let l = write-fits full e (r - length c) i.write-later in
    let f = i.fits in
    omega (arith, simp length-append at (ap length i.whole_is))

room : (r : ℕ) (a b : List ℕ) → r - length (a ++ b) ≡ (r - length a) - length b
room r a b = simp length-append (omega arith)

module _ {S : Type 0} (size : S → ℕ) (L full : ℕ) where
  -- What an accepted answer of a first step says.
  pub record Stepped (r : ℕ) (d : Did S) (t : Trace S) (x : List ℕ × S) : Type 0 where
    pub here : List ℕ
    pub later : List ℕ × S
    pub small : leb (size d.state) L ≡ true
    pub wrote-here : write full r d.emit ≡ accepted here
    pub then-later : limited size L full (r - length here) t ≡ accepted later
    pub whole_is : (here ++ later.0, later.1) ≡ x

  pub limited_inv : (r : ℕ) (d : Did S) (t : Trace S) {x : List ℕ × S} → limited size L full r (step d t) ≡ accepted x → Stepped r d t x
  unfolding limited
  limited_inv r d t a =
      let i = check_inv 9 (leb (size d.state) L) _ a in
      let j = bind_inv (write full r d.emit) _ i.1 in
      let k = bind_inv (limited size L full (r - length j.0) t) _ j.2 in
      record { here = j.0; later = k.0; small = i.0; wrote-here = j.1; then-later = k.1; whole_is = accepted-same k.2 }

  pub limited_intro : (r : ℕ) (d : Did S) (t : Trace S) (o : List ℕ) (y : List ℕ × S) → leb (size d.state) L ≡ true → write full r d.emit ≡ accepted o →
      limited size L full (r - length o) t ≡ accepted y → limited size L full r (step d t) ≡ accepted (o ++ y.0, y.1)
  unfolding limited check ◌>>=◌ ◌>>◌
  limited_intro r d t o y g w a = rw (g, w, a)

  pub limited_mono : (t : Trace S) (r r' : ℕ) {x : List ℕ × S} → r ≤ r' → limited size L full r t ≡ accepted x → limited size L full r' t ≡ accepted x
  unfolding limited
  limited_mono (fin s) r r' h a = a
  limited_mono (step d t) r r' h a =
      let i = limited_inv r d t a in
      limited_intro r' d t i.here i.later i.small (write_mono full d.emit r r' h i.wrote-here)
      (limited_mono t (r - length i.here) (r' - length i.here) (omega arith) i.then-later) ∙ ap accepted i.whole_is

  -- What an accepted answer writes and leaves: what the run says, within the room.
  pub limited-text : (t : Trace S) (r : ℕ) {x : List ℕ × S} → limited size L full r t ≡ accepted x → x ≡ (written t, final t)
  unfolding written final limited
  limited-text (fin s) r a = sym (accepted-same a)
  limited-text (step d t) r a =
      let i = limited_inv r d t a in
      sym i.whole_is ∙ ap (λ z. (z ++ i.later.0, i.later.1)) (write-text full d.emit r i.wrote-here)
      ∙ ap (λ z. (pieces d.emit ++ z.0, z.1)) (limited-text t (r - length i.here) i.then-later)

  pub limited-fits : (t : Trace S) (r : ℕ) {x : List ℕ × S} → limited size L full r t ≡ accepted x → length x.0 ≤ r
  unfolding limited
  limited-fits (fin s) r a = omega (arith, ap (λ z. length z.0) (accepted-same a))
  limited-fits (step d t) r a =
      let i = limited_inv r d t a in
      let l = limited-fits t (r - length i.here) i.then-later in
      let f = write-fits full d.emit r i.wrote-here in
      omega (arith, simp length-append at (ap (λ z. length z.0) i.whole_is))

  -- An accepted run over two texts is two accepted runs.
  pub record Parts (t : Trace S) (k : S → Trace S) (r : ℕ) (x : List ℕ × S) : Type 0 where
    pub first : List ℕ
    pub second : List ℕ × S
    pub limited-first : limited size L full r t ≡ accepted (first, final t)
    pub limited-second : limited size L full (r - length first) (k (final t)) ≡ accepted second
    pub joined : x ≡ (first ++ second.0, second.1)

  parts-step : (d : Did S) (t : Trace S) (k : S → Trace S) (r : ℕ) (x : List ℕ × S) → (i : Stepped r d (join_runs t k) x) → Parts t k (r - length i.here) i.later → Parts (step d t) k r x
  unfolding final
  parts-step d t k r x i ih =
      record {
        first = i.here ++ ih.first;
        second = ih.second;
        limited-first = limited_intro r d t i.here (ih.first, final t) i.small i.wrote-here ih.limited-first;
        limited-second = rw (room r i.here ih.first) ih.limited-second;
        joined = rw append_assoc (sym i.whole_is ∙ ap (λ z. (i.here ++ z.0, z.1)) ih.joined);
      }

  pub limited-split : (t : Trace S) (k : S → Trace S) (r : ℕ) {x : List ℕ × S} → limited size L full r (join_runs t k) ≡ accepted x → Parts t k r x
  unfolding limited join_runs final
  limited-split (fin s) k r {x} a = record { first = []; second = x; limited-first = refl; limited-second = rw sub-zero a; joined = refl }
  limited-split (step d t) k r {x} a =
      let i = limited_inv r d (join_runs t k) a in
      parts-step d t k r x i (limited-split t k (r - length i.here) i.then-later)
