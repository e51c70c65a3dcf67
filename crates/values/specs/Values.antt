-- Values, read from a text.
use Rattle.std.specs.Prelude.{◌≡◌, List, [], ◌∷◌, ℕ, ◌+◌, ◌-◌, ◌≤◌, ◌<◌, Result, Ok, Err, length, take, drop}
use Rattle.std.proofs.Math.Path.{refl}
use Rattle.std.proofs.Common.{sym, ap, ◌∙◌, arith, length-append, le-leb}
use Rattle.std.proofs.Math.Decide.{dec_le}
use Rattle.std.proofs.lemmas.Bool.{lt-leb}
use Rattle.rules.specs.Answer.{Answer, refused, accepted}
use Rattle.rules.specs.Reader.{ret, ◌>>=◌}
use Rattle.rules.specs.Sheet.{Value, text, nothing, dictionary, Records, encode, field_bytes, word16_bytes, value_length, Lookup}
use Rattle.rules.specs.Strings.{expression}
use Rattle.rules.specs.Definitions.{measured, text_value}
use Rattle.refusal.specs.declared.Refusal.{Refusal}
use Rattle.refusal.specs.declared.Refusal.TheVariants.{Limit}
use Rattle.refusal.specs.Numbers.{number}
use Rattle.std.specs.Borrow.{MutBor}
use Rattle.buffers.specs.declared.writer.Writer.{Writer}
use Rattle.buffers.specs.Wrote.{Begins, puts-over, puts-fits, puts-first}
use Rattle.strings.specs.Written.{Written}
use Rattle.binding.specs.Write.{IsSource}
use Rattle.scan.specs.declared.read.Read.{Read}
use Rattle.values.specs.declared.ValueBytes.{ValueBytes}

-- The value of x was read from t.
pub record IsRead (limit : ℕ) (x : Answer Value × List ℕ) (t : List ℕ) (r : Read ValueBytes) : Type 0 where
  pub v : Value
  pub is : x.0 ≡ accepted v
  pub rest : x.1 ≡ drop r.used t
  pub inside : r.used ≤ length t
  pub fits : length r.what.own.now ≤ limit - 3
  pub source : IsSource v r.what.lead r.what.own.now

-- A value is read, or refused. x: what the rules read from t.
abbrev pub ReadsValue : ℕ → Answer Value × List ℕ → List ℕ → Result (Read ValueBytes) Refusal → Type 0
ReadsValue limit x t (Ok r) = IsRead limit x t r
ReadsValue limit x t (Err k) = x.0 ≡ refused (number k)

-- A value without bytes of its own: none.
pub record IsNone (used : ℕ) (r : Read ValueBytes) : Type 0 where
  pub place : r.used ≡ used
  pub none : r.what.own.now ≡ []
  pub source : IsSource nothing r.what.lead []

-- The dictionary of the records m.
pub record IsDictionary (m : List ℕ) (used : ℕ) (r : Read ValueBytes) : Type 0 where
  pub place : r.used ≡ used
  pub own : r.what.own.now ≡ m
  pub source : (d : Records) → m ≡ encode d → IsSource (dictionary d) r.what.lead m

-- LAWS. How long a text's value is.
text-length : (t : List ℕ) → (length t ≡ 0 → value_length (text t) ≡ 1) × ((length t ≡ 0 → ⊥) → value_length (text t) ≡ 3 + length t)
unfolding value_length encode field_bytes word16_bytes
text-length [] = (λ e. refl, λ e. absurd (e refl))
text-length (x ∷ xs) = (λ e. absurd (omega arith), λ e. omega (arith, length-append xs []))

measured-no : (L : ℕ) (v : Value) → L < value_length v → measured L v ≡ refused 9
unfolding measured
measured-no L v h = rw (lt-leb (value_length v) L h, measured) refl

measured-yes : (L : ℕ) (v : Value) → value_length v ≤ L → measured L v ≡ accepted v
unfolding measured
measured-yes L v h = rw (le-leb (value_length v) L h, measured) refl

-- A text.
module _ (limit : ℕ) (look : Lookup) (t : List ℕ) where
  abbrev said : List ℕ
  said = (expression look t).0

  reads : text_value limit look t ≡ (measured limit (text said), (expression look t).1)
  unfolding text_value ◌>>=◌ ret
  reads = refl

  text-no : limit < value_length (text said) → (text_value limit look t).0 ≡ refused 9
  text-no h = ap (λ x. x.0) reads ∙ measured-no limit (text said) h

  -- Its own bytes are too long, or there is no room for any value.
  pub text-over : limit - 3 < length said → (text_value limit look t).0 ≡ refused 9
  text-over h = text-no (omega (arith, (text-length said).1 (λ z. omega arith)))

  pub text-never : limit ≡ 0 → (text_value limit look t).0 ≡ refused 9
  text-never h = text-no (go (dec_le (length said) 0))
    where
      go : Dec (length said ≤ 0) → limit < value_length (text said)
      go (yes y) = omega (arith, (text-length said).0 (omega arith))
      go (no y) = omega (arith, (text-length said).1 (λ x. omega arith))

  -- It is read.
  pub text-read : (limit ≡ 0 → ⊥) → length said ≤ limit - 3 → {r : Read ValueBytes} → (expression look t).1 ≡ drop r.used t → r.used ≤ length t → r.what.own.now ≡ said → ((u : List ℕ) → length u ≡ length r.what.own.now → IsSource (text u) r.what.lead u) →
      IsRead limit (text_value limit look t) t r
  text-read n h {r} e i k s = record {
    v = text said;
    is = ap (λ x. x.0) reads ∙ measured-yes limit (text said) (short (dec_le (length said) 0));
    rest = ap (λ x. x.1) reads ∙ e;
    inside = i;
    fits = omega (arith, ap length k);
    source = rw k (s said (ap length (sym k)));
  }
    where
      short : Dec (length said ≤ 0) → value_length (text said) ≤ limit
      short (yes y) = omega (arith, (text-length said).0 (omega arith))
      short (no y) = omega (arith, (text-length said).1 (λ x. omega arith))

  -- It is put at the start of a buffer, by a writer that was z and is z₂.
  module _ {out : MutBor (List ℕ)} (o : length out.now ≡ limit - 3) {z z₂ : Writer} (b : Begins out Limit z) {e : Read (Result (Unit {0}) Refusal)} (W : Written (expression look t) t z z₂ e) where
    room : z.room ≡ limit - 3
    room = b.room ∙ o

    pub text-refused : {k : Refusal} → e.what ≡ Err k → (text_value limit look t).0 ≡ refused (number k)
    text-refused x = let h = puts-over W.puts x in text-over (omega (arith, h.1, room, b.at)) ∙ ap (λ f. refused (number f)) (sym b.full ∙ sym h.0)

    pub text-put : {u : Unit {0}} → e.what ≡ Ok u → (limit ≡ 0 → ⊥) → {v : Read ValueBytes} → v.used ≡ e.used → v.what.own.now ≡ take z₂.at z₂.out.now → ((u : List ℕ) → length u ≡ length v.what.own.now → IsSource (text u) v.what.lead u) →
        IsRead limit (text_value limit look t) t v
    text-put x n {v} d left s =
        let said-is : v.what.own.now ≡ said = left ∙ puts-first W.puts x b.at (b.room ∙ ap (λ y. length y.now) (sym b.same)) in
        text-read n (omega (arith, puts-fits W.puts x, room, b.at)) (rw d W.ends.rest) (rw d W.ends.inside) said-is s
