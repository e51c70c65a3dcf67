-- What the texts that a call takes measure.
use Rattle.std.specs.Prelude.{Option, Some, None, SomeIff, ◌≡◌, true, refl, nat_eq, leb, if◌then◌else◌, List, ◌++◌, ℕ, zero, suc, ◌+◌, ◌≤◌, ◌<◌, length}
use Rattle.std.specs.Option.{ForSome}
use Rattle.std.proofs.Common.{eq-eqb, ne_eqb, le-leb, sym, ap, ◌∙◌, arith, length-append}
use Rattle.std.proofs.Math.Decide.{dec_le}
use Rattle.std.proofs.lemmas.Bool.{lt-leb}
use Rattle.std.proofs.lemmas.Option.{none-some, cond_some}
use Rattle.std.proofs.lemmas.List.{nil_from_length}
use Rattle.rules.specs.Bytes.{trim_end}
use Rattle.scan.specs.declared.read.Read.{Read}
use Rattle.paths.specs.Paths.{trim-append, trim-whole}
use Rattle.string_ends.specs.Ends.{Ends}
use Rattle.calls.specs.declared.measure.Measure.{Measure}

-- Where a writer goes on behind n bytes; none where there is no room for them, or was none before.
unfoldable pub behind : ℕ → Option ℕ → ℕ → Option ℕ
behind room None n = None
behind room (Some p) n = if leb (p + n) room then Some (p + n) else None

-- Where a writer at p goes on behind v without its trailing blanks; at k where v is nothing but blanks.
unfoldable pub kept_behind : ℕ → Option ℕ → Option ℕ → List ℕ → Option ℕ
kept_behind room p k v = if nat_eq (length (trim_end v)) 0 then k else behind room p (length (trim_end v))

-- The text v measures m: its length, and that without trailing blanks, each if it is no more than the room.
pub record Measures (room : ℕ) (v : List ℕ) (m : Measure) : Type 0 where
  pub len : SomeIff m.len (length v ≤ room) (length v)
  pub kept : SomeIff m.kept (length (trim_end v) ≤ room) (length (trim_end v))

-- v: what a reader made of t, and its rest.
pub record MeasuresRead (room : ℕ) (v : List ℕ × List ℕ) (t : List ℕ) (r : Read Measure) : Type 0 where
  pub ends : Ends v t r.used
  pub size : Measures room v.0 r.what

-- LAWS. By whether there is room.
module _ (room p n : ℕ) where
  pub behind-yes : p + n ≤ room → behind room (Some p) n ≡ Some (p + n)
  unfolding behind
  behind-yes h = rw (le-leb (p + n) room h) refl

  pub behind-no : room < p + n → behind room (Some p) n ≡ None
  unfolding behind
  behind-no h = rw (lt-leb (p + n) room h) refl

  behind-iff : {x : Option ℕ} → x ≡ behind room (Some p) n → SomeIff x (p + n ≤ room) (p + n)
  behind-iff {x} e = at (dec_le (p + n) room)
    where
      at : Dec (p + n ≤ room) → SomeIff x (p + n ≤ room) (p + n)
      at (yes h) = rw (e ∙ behind-yes h) (h, refl)
      at (no h) = rw (e ∙ behind-no (omega (arith, h))) h

pub behind-start : (room n : ℕ) {x : Option ℕ} → x ≡ behind room (Some 0) n → SomeIff x (n ≤ room) n
behind-start room n {x} e = let z : 0 + n ≡ n = omega arith in rw z at (behind-iff room 0 n e)

pub behind-inside : (room : ℕ) (o : Option ℕ) (n : ℕ) {x : Option ℕ} → x ≡ behind room o n → ForSome x (λ q. q ≤ room)
unfolding behind
behind-inside room None n e q h = absurd (none-some q (sym e ∙ h))
behind-inside room (Some p) n e q h = let z : SomeIff (Some q) (p + n ≤ room) (p + n) = behind-iff room p n (sym h ∙ e) in omega (arith, z.0, z.1)

pub behind-none : (room : ℕ) (o : Option ℕ) → ForSome o (λ p. p ≤ room) → behind room o 0 ≡ o
behind-none room None h = unfold behind in refl
behind-none room (Some p) h = behind-yes room p 0 (omega (arith, h p refl)) ∙ ap Some (omega arith)

behind-over : (room n : ℕ) → behind room None n ≡ None
behind-over room n = unfold behind in refl

pub behind-more : (room : ℕ) (o : Option ℕ) (n m : ℕ) → behind room (behind room o n) m ≡ behind room o (n + m)
behind-more room None n m = ap (λ o. behind room o m) (behind-over room n) ∙ behind-over room m ∙ sym (behind-over room (n + m))
behind-more room (Some p) n m = at (dec_le (p + n) room) (dec_le (p + n + m) room)
  where
    at : Dec (p + n ≤ room) → Dec (p + n + m ≤ room) → behind room (behind room (Some p) n) m ≡ behind room (Some p) (n + m)
    at (yes h) (yes k) = ap (λ o. behind room o m) (behind-yes room p n h) ∙ behind-yes room (p + n) m k ∙ ap Some (omega arith) ∙ sym (behind-yes room p (n + m) (omega arith))
    at (yes h) (no k) = ap (λ o. behind room o m) (behind-yes room p n h) ∙ behind-no room (p + n) m (omega (arith, k)) ∙ sym (behind-no room p (n + m) (omega (arith, k)))
    at (no h) k = ap (λ o. behind room o m) (behind-no room p n (omega (arith, h))) ∙ behind-over room m ∙ sym (behind-no room p (n + m) (omega (arith, h)))

module _ (room : ℕ) (p k : Option ℕ) (v : List ℕ) where
  kept-none : length (trim_end v) ≡ 0 → kept_behind room p k v ≡ k
  unfolding kept_behind
  kept-none e = rw (eq-eqb _ _ e) refl

  kept-some : 0 < length (trim_end v) → kept_behind room p k v ≡ behind room p (length (trim_end v))
  unfolding kept_behind
  kept-some h = let n : length (trim_end v) ≡ 0 → ⊥ = λ e. absurd (omega (arith, h, e)) in rw (ne_eqb _ _ n) refl

pub kept_append : (room : ℕ) (p k : Option ℕ) (v w : List ℕ) → kept_behind room (behind room p (length v)) (kept_behind room p k v) w ≡ kept_behind room p k (v ++ w)
kept_append room p k v w = at (length (trim_end w)) refl
  where
    at : (n : ℕ) → length (trim_end w) ≡ n → kept_behind room (behind room p (length v)) (kept_behind room p k v) w ≡ kept_behind room p k (v ++ w)
    at zero e = kept-none room _ _ w e ∙ (unfold kept_behind in rw (trim-append v w (nil_from_length (trim_end w) e)) refl)
    at (suc n) e =
        let h : 0 < length (trim_end w) = omega (arith, e) in
        let l : length (trim_end (v ++ w)) ≡ length v + length (trim_end w) = ap length (trim-whole v w h) ∙ length-append v (trim_end w) in
        kept-some room _ _ w h ∙ behind-more room p (length v) (length (trim_end w)) ∙ ap (behind room p) (sym l) ∙ sym (kept-some room p k (v ++ w) (omega (arith, l)))

-- What is kept of a text that begins at 0.
zero-inside : {room : ℕ} → ForSome (Some 0) (λ p. p ≤ room)
zero-inside p h = omega (arith, (cond_some true 0 p h).1)

pub kept-start : (room : ℕ) (v : List ℕ) → kept_behind room (Some 0) (Some 0) v ≡ behind room (Some 0) (length (trim_end v))
kept-start room v = at (length (trim_end v)) refl
  where
    at : (n : ℕ) → length (trim_end v) ≡ n → kept_behind room (Some 0) (Some 0) v ≡ behind room (Some 0) (length (trim_end v))
    at zero e = kept-none room (Some 0) (Some 0) v e ∙ sym (ap (behind room (Some 0)) e ∙ behind-none room (Some 0) zero-inside)
    at (suc n) e = kept-some room (Some 0) (Some 0) v (omega (arith, e))
