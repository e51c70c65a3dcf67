-- `#import` and `#let`: the lines that bind.
use Rattle.std.specs.Borrow.{Bor}
use Rattle.std.specs.Prelude.{◌≡◌, refl, List, true, ℕ, ◌≤◌, ◌<◌, length, drop, Result, Ok, Err, MatchResult}
use Rattle.std.specs.Prelude.{Option as RustOption, Some, None}
use Rattle.std.proofs.Math.Path.{subst}
use Rattle.std.proofs.Common.{sym, ap, ◌∙◌, arith}
use Rattle.std.proofs.Math.Option.{none, some}
use Rattle.rules.specs.Reader.{ret, ◌>>=◌, ◌>>◌, but, either, all}
use Rattle.rules.specs.Bytes.{ascii, line_blank, word, name_byte, underscored, trim}
use Rattle.rules.specs.Sheet.{Value, text, Records, encode, sheet_length, good_records, Lookup, resolve, set}
use Rattle.rules.proofs.Laws.Sheet.{set-good}
use Rattle.rules.specs.Expansion.{binds, import_step, let_value, let_step}
use Rattle.rules.proofs.Laws.Parts.{let-good}
use Rattle.rules.proofs.Laws.Texts.{trim-all, underscored-words}
use Rattle.scan.specs.Sets.{part, Spans, Skips}
use Rattle.scan.specs.Stretches.{span-took, all-part}
use Rattle.refusal.specs.declared.Refusal.{Refusal}
use Rattle.refusal.specs.declared.Refusal.TheVariants.{Limit}
use Rattle.sheet.specs.Records.{KeepsLayout, records_of, records-good, good-keeps, good-records_of}
use Rattle.sheet.specs.Find.{Tells, Gives, gives_one}
use Rattle.sheet.specs.declared.lookup.Found.{Found}
use Rattle.binding.specs.declared.buffer.RecordBuffer.{RecordBuffer}
use Rattle.binding.specs.Write.{IsThere}
use Rattle.binding.specs.Buffer.{bytes_in, SameBuffer, held, Leaves, Binds}
use Rattle.scan.specs.declared.read.Read.{Read}
use Rattle.let_steps.specs.declared.Line.{Line}

-- `#import`, read from behind its mark, leaves every sheet as it is; r bytes are read.
pub record Imports (t : List ℕ) (r : ℕ) : Type 0 where
  pub inside : r ≤ length t
  pub does : (s : Records) → import_step s t ≡ (binds s, drop r t)

-- `#let`, read from behind its mark, binds the name of the line r: to its text, or to what that is looked up as.
pub record IsLine (t : List ℕ) (r : Read Line) : Type 0 where
  pub inside : r.used ≤ length t
  pub named : all name_byte r.what.name.now ≡ true
  pub plain : all ascii t ≡ true → all ascii r.what.content.now ≡ true
  pub does : (look : Lookup) (s : Records) → let_step look s t ≡ (binds (set s (underscored r.what.name.now) (let_value r.what.content.now (look r.what.content.now))), drop r.used t)

-- The name of the line r is bound in b, which leaves c.
abbrev pub BindsLine : {A : Type 0} → Line → RecordBuffer → RecordBuffer → Result A Refusal → Type 0
BindsLine r b c o = Binds b (underscored r.name.now) (let_value r.content.now (resolve (records_of (bytes_in b)) r.content.now)) c o

-- `#let`, read from behind its mark, leaves the records `to`: c holds them; or they are too long, which is told, and c holds those of b.
pub record Lets (t : List ℕ) (b c : RecordBuffer) (r : Read (Result (Unit {0}) Refusal)) : Type 0 where
  pub over : SameBuffer b c
  pub inside : r.used ≤ length t
  pub to : Records
  pub does : let_step (resolve (records_of (bytes_in b))) (records_of (bytes_in b)) t ≡ (binds to, drop r.used t)
  pub sheet : KeepsLayout (bytes_in c)
  pub came : MatchResult r.what (λ _. (records_of (bytes_in c) ≡ to) × (sheet_length to ≤ b.limit)) (λ e. (e ≡ Limit) × (b.limit < sheet_length to) × (bytes_in c ≡ bytes_in b))

-- LAWS. `#import`.
pub imports : {t : List ℕ} {j r : ℕ} → Spans (but "\n") t 0 j → Skips t j r → Imports t r
unfolding import_step ret ◌>>=◌ ◌>>◌
imports x k = record { inside = k.inside; does = λ s. rw (x.rest, k.rest) refl }

-- The line of a `#let`: its line blanks end at a, its name at b, the `=` and the line blanks around it at d, and the line at e.
pub line-is : {t : List ℕ} {a b d e r : ℕ} {name content : Bor (List ℕ)} → Spans line_blank t 0 a → Spans name_byte t a b → Spans (either "=" line_blank) t b d → Spans (but "\n") t d e → name.now ≡ part t a b → content.now ≡ trim (part t d e) → Skips t e r →
    IsLine t (record { what = record { name = name; content = content }; used = r })
unfolding let_step ret ◌>>=◌ ◌>>◌
line-is {t} {a} {b} {d} {e} x y z w n m k = record {
  inside = k.inside;
  named = ap (all name_byte) (n ∙ sym y.took) ∙ span-took name_byte (drop a t);
  plain = λ h. ap (all ascii) m ∙ trim-all ascii (part t d e) (all-part ascii d e t h);
  does = λ look s. rw (x.rest, y.rest, y.took, z.rest, w.rest, w.took, k.rest, n, m) refl;
}

-- BINDING. By what the text v is looked up as.
module _ (b : RecordBuffer) (v : List ℕ) {s : List ℕ} (z : s ≡ bytes_in b) (f : RustOption Found) (h : Gives s (resolve (records_of s) v) f) where
  gives : Gives (bytes_in b) (resolve (records_of (bytes_in b)) v) f
  gives = rw z at h

  pub line-text : f ≡ None → {A : Type 0} {name : List ℕ} {c : RecordBuffer} {o : Result A Refusal} → Binds b name (text v) c o → Binds b name (let_value v (resolve (records_of (bytes_in b)) v)) c o
  unfolding let_value Gives
  line-text e w = let y : resolve (records_of (bytes_in b)) v ≡ none = subst (Gives (bytes_in b) (resolve (records_of (bytes_in b)) v)) e gives in rw y w

  module _ {x : Found} (e : f ≡ Some x) where
    found : (y : Value) × (resolve (records_of (bytes_in b)) v ≡ some y) × Tells (bytes_in b) y x
    found = gives_one (bytes_in b) _ gives e

    pub line-there : IsThere (bytes_in b) x
    line-there = record { v = found.0; tells = found.2 }

    pub line-found : {A : Type 0} {name : List ℕ} {c : RecordBuffer} {o : Result A Refusal} → ((y : Value) → Tells (bytes_in b) y x → Binds b name y c o) → Binds b name (let_value v (resolve (records_of (bytes_in b)) v)) c o
    unfolding let_value
    line-found w = rw found.1 (w found.0 found.2)

-- THE STEP. The line l is bound to a good value.
module _ {t : List ℕ} {l : Read Line} (i : IsLine t l) (a : all ascii t ≡ true) (b : RecordBuffer) (k : KeepsLayout (bytes_in b)) {c : RecordBuffer} {q : Result (Unit {0}) Refusal} (x : BindsLine l.what b c q) where
  abbrev s : Records
  s = records_of (bytes_in b)

  abbrev bound : Records
  bound = set s (underscored l.what.name.now) (let_value l.what.content.now (resolve s l.what.content.now))

  bound-good : good_records bound word 6 ≡ true
  bound-good = set-good s word 6 _ _ (records-good (bytes_in b)) (underscored-words _ i.named) (let-good s l.what.content.now (resolve s l.what.content.now) refl (records-good (bytes_in b)) (i.plain a))

  still : (o : Result (Unit {0}) Refusal) → Leaves b (encode bound) c o → KeepsLayout (bytes_in c)
  unfolding Leaves
  still (Ok u) h = good-keeps bound h.0 bound-good
  still (Err e) h = rw h.2 k

  came : (o : Result (Unit {0}) Refusal) → Leaves b (encode bound) c o → MatchResult o (λ _. (records_of (bytes_in c) ≡ bound) × (sheet_length bound ≤ b.limit)) (λ e. (e ≡ Limit) × (b.limit < sheet_length bound) × (bytes_in c ≡ bytes_in b))
  unfolding Leaves sheet_length
  came (Ok u) h = (good-records_of bound h.0 bound-good, h.1)
  came (Err e) h = h

  pub lets : Lets t b c (record { what = q; used = l.used })
  lets =
      let h = x.leaves s k.written in
      record { over = x.over; inside = i.inside; to = bound; does = i.does (resolve s) s; sheet = still q h; came = came q h }

-- What is left is within its limit, as it was before.
pub lets-within : {t : List ℕ} {b c : RecordBuffer} {r : Read (Result (Unit {0}) Refusal)} → Lets t b c r → b.len ≤ b.limit → c.len ≤ c.limit
unfolding sheet_length
lets-within {b = b} {c} {r} L h = at r.what L.came
  where
    at : (o : Result (Unit {0}) Refusal) → MatchResult o (λ _. (records_of (bytes_in c) ≡ L.to) × (sheet_length L.to ≤ b.limit)) (λ e. (e ≡ Limit) × (b.limit < sheet_length L.to) × (bytes_in c ≡ bytes_in b)) → c.len ≤ c.limit
    at (Ok u) m = omega (arith, held c, ap length (L.sheet.written ∙ ap encode m.0), m.1, L.over.limit)
    at (Err e) m = omega (arith, held c, held b, ap length m.2, h, L.over.limit)
