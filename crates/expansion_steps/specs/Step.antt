-- One step at a `#`.
use Rattle.std.specs.Prelude.{◌≡◌, List, Bool, false, ℕ, ◌+◌, ◌≤◌, ◌<◌, length, drop, Result, Ok, Err, IfOk}
use Rattle.std.proofs.Math.Path.{refl, sym, ap}
use Rattle.std.proofs.Common.{◌∙◌, arith, drop-drop, length-drop, le-leb}
use Rattle.std.proofs.Math.Bool.{true}
use Rattle.std.proofs.lemmas.Bool.{lt-leb}
use Rattle.std.proofs.lemmas.Result.{IfOk-weaker, MatchResult-at_ok, MatchResult-at_err}
use Rattle.refusal.specs.declared.Refusal.{Refusal}
use Rattle.refusal.specs.declared.Refusal.TheVariants.{Limit}
use Rattle.rules.specs.Reader.{bytes, if_r, ◌>>=◌}
use Rattle.rules.specs.Run.{Did, ok}
use Rattle.rules.specs.Files.{View}
use Rattle.rules.specs.Sheet.{Records, sheet_length, resolve}
use Rattle.rules.specs.Expansion.{binds, writes, import_step, let_step, reference_step, call_step, raw, link, expansion_step}
use Rattle.scan.specs.Sets.{part, Starts}
use Rattle.scan.specs.Laws.{mark-yes, mark-no, tail-part}
use Rattle.buffers.specs.declared.writer.Writer.{Writer}
use Rattle.buffers.specs.Wrote.{Wrote, puts-wrote, wrote-ok, wrote-err, wrote-fail, writing-start, writing-end}
use Rattle.buffers.specs.Emits.{guard, guard-yes, guard-no}
use Rattle.sheet.specs.Records.{records_of}
use Rattle.binding.specs.declared.sheet_buffer.SheetBuffer.{SheetBuffer}
use Rattle.binding.specs.Buffer.{bytes_in}
use Rattle.binding.specs.Sheets.{sheet_in, SameSheet, sheet-refl, sheet-within}
use Rattle.let_steps.specs.Let.{Imports, Lets}
use Rattle.scan.specs.declared.read.Read.{Read}
use Rattle.expansion_steps.specs.Reference.{Refers}
use Rattle.expansion_steps.specs.Call.{Goes, Does}

-- At the start of t stands a `#` that begins neither `#import` nor `#let`.
pub record Unbound (t : List ℕ) : Type 0 where
  pub import : Starts (bytes "#import") t 0 false
  pub let-mark : Starts (bytes "#let") t 0 false
  pub hash : Starts (bytes "#") t 0 true

-- The step at the start of t, for the sheet in b: it writes what the rules say, or 9; and, if all is written, reading goes on, and c holds the sheet.
pub record Steps (v : View) (t : List ℕ) (w w₂ : Writer) (b c : SheetBuffer) (r : Result (Read Bool) Refusal) : Type 0 where
  pub over : SameSheet b c
  pub wrote : Wrote (guard sheet_length b.records.now.limit (expansion_step v (sheet_in b) t).0) w w₂ r
  pub goes : IfOk r (λ k. Goes 1 (expansion_step v (sheet_in b) t) t k × (sheet_in c ≡ (expansion_step v (sheet_in b) t).0.state))

-- LAWS. A step that comes to a sheet in its buffer passes the limit.
pub within-limit : (d : Did Records) (c : SheetBuffer) {limit : ℕ} → c.records.now.limit ≡ limit → sheet_in c ≡ d.state → guard sheet_length limit d ≡ d.emit
within-limit d c {limit} l e = guard-yes sheet_length limit d (le-leb _ limit (omega (arith, sheet-within c, ap sheet_length e)))

-- THE CHOICE. What a step is, by the marks that stand at the start of the text.
module _ (v : View) (s : Records) {t : List ℕ} {i : Bool} (I : Starts (bytes "#import") t 0 i) where
  choose_import : i ≡ true → expansion_step v s t ≡ import_step s (drop 7 t)
  unfolding expansion_step ◌>>=◌ if_r
  choose_import e = rw (mark-yes I e) refl

  module _ (ni : i ≡ false) {l : Bool} (L : Starts (bytes "#let") t 0 l) where
    choose_let : l ≡ true → expansion_step v s t ≡ let_step (resolve s) s (drop 4 t)
    unfolding expansion_step ◌>>=◌ if_r
    choose_let e = rw (mark-no I ni, mark-yes L e) refl

module _ (v : View) (s : Records) {t : List ℕ} (u : Unbound t) {r : Bool} (R : Starts (bytes "#raw") t 0 r) where
  choose_raw : r ≡ true → expansion_step v s t ≡ call_step (bytes "#raw") (raw v (resolve s)) s (drop 4 t)
  unfolding expansion_step ◌>>=◌ if_r
  choose_raw e = rw (mark-no u.import refl, mark-no u.let-mark refl, mark-yes R e) refl

  module _ (nr : r ≡ false) {k : Bool} (K : Starts (bytes "#link") t 0 k) where
    choose_link : k ≡ true → expansion_step v s t ≡ call_step (bytes "#link") (link (resolve s)) s (drop 5 t)
    unfolding expansion_step ◌>>=◌ if_r
    choose_link e = rw (mark-no u.import refl, mark-no u.let-mark refl, mark-no R nr, mark-yes K e) refl

    choose_reference : k ≡ false → expansion_step v s t ≡ reference_step (resolve s) s (drop 1 t)
    unfolding expansion_step ◌>>=◌ if_r
    choose_reference e = rw (mark-no u.import refl, mark-no u.let-mark refl, mark-no R nr, mark-no K e, mark-yes u.hash refl) refl

-- Reading goes on behind a byte at least.
does-one : {n : ℕ} {d e : Did Records × List ℕ} {s : Records} {t : List ℕ} {w w₂ : Writer} {r : Result (Read Bool) Refusal} → 1 ≤ n → d ≡ e → Does n e s t w w₂ r → Does 1 d s t w w₂ r
does-one {r = r} l q D = rw q (record { wrote = D.wrote; state = D.state; goes = IfOk-weaker r _ _ (λ k g. record { on = omega (arith, g.on); inside = g.inside; rest = g.rest; whole = g.whole }) D.goes })

-- The ways through the step that keeps the sheet.
module _ (v : View) {s : Records} {t : List ℕ} (u : Unbound t) {a : Bool} (R : Starts (bytes "#raw") t 0 a) {w w₂ : Writer} {r : Result (Read Bool) Refusal} where
  pub writes-raw : a ≡ true → Does 4 (call_step (bytes "#raw") (raw v (resolve s)) s (drop 4 t)) s t w w₂ r → Does 1 (expansion_step v s t) s t w w₂ r
  writes-raw e = does-one (omega arith) (choose_raw v s u R e)

  module _ (na : a ≡ false) {k : Bool} (K : Starts (bytes "#link") t 0 k) where
    pub writes-link : k ≡ true → Does 5 (call_step (bytes "#link") (link (resolve s)) s (drop 5 t)) s t w w₂ r → Does 1 (expansion_step v s t) s t w w₂ r
    writes-link e = does-one (omega arith) (choose_link v s u R na K e)

-- A reference's step reads from behind the `#`.
module _ (v : View) {s : Records} {t : List ℕ} (u : Unbound t) {a : Bool} (R : Starts (bytes "#raw") t 0 a) (na : a ≡ false) {k : Bool} (K : Starts (bytes "#link") t 0 k) (e : k ≡ false) {w w₂ : Writer} {q : Read (Result (Unit {0}) Refusal)} (D : Refers s (part t 1 (length t)) w w₂ q) where
  F : Refers s (drop 1 t) w w₂ q
  F = rw (tail-part t 1) at D

  does : expansion_step v s t ≡ (writes s F.text, drop q.used (drop 1 t))
  does = choose_reference v s u R na K e ∙ F.does

  pub writes-reference : {x : Unit {0}} → q.what ≡ Ok x → Does 1 (expansion_step v s t) s t w w₂ (Ok (record { what = true; used = 1 + q.used }))
  unfolding writes
  writes-reference x = rw does (record {
    wrote = wrote-ok x (puts-wrote F.puts);
    state = refl;
    goes = record { on = omega arith; inside = omega (arith, F.inside, length-drop 1 t, u.hash.there refl); rest = drop-drop q.used 1 t; whole = refl };
  })

  pub refuses-reference : {j : Refusal} → q.what ≡ Err j → {r : Result (Read Bool) Refusal} → r ≡ Err j → Does 1 (expansion_step v s t) s t w w₂ r
  unfolding writes
  refuses-reference x y = rw does (record { wrote = wrote-err x (puts-wrote F.puts) y; state = refl; goes = rw y tt })

-- THE STEP, with its limit.
module _ (v : View) {t : List ℕ} {i : Bool} (I : Starts (bytes "#import") t 0 i) (b : SheetBuffer) where
  pub steps-import : {w : Writer} {k : ℕ} → i ≡ true → Imports (part t 7 (length t)) k → Steps v t w w b b (Ok (record { what = true; used = 7 + k }))
  unfolding binds
  steps-import {w} {k} e M =
      let N : Imports (drop 7 t) k = rw (tail-part t 7) at M in
      let s = choose_import v (sheet_in b) I e ∙ N.does (sheet_in b) in
      record {
        over = sheet-refl b;
        wrote = rw (s, within-limit (binds (sheet_in b)) b refl refl) (writing-end (writing-start ok w));
        goes = rw s (record { on = omega arith; inside = omega (arith, N.inside, length-drop 7 t, I.there e); rest = drop-drop k 7 t; whole = refl }, refl);
      }

  module _ (ni : i ≡ false) {a : Bool} (L : Starts (bytes "#let") t 0 a) (y : a ≡ true) (c : SheetBuffer) (m : c.records.ghost_name ≡ b.records.ghost_name) {q : Read (Result (Unit {0}) Refusal)} (B : Lets (drop 4 t) b.records.now c.records.now q) where
    steps : expansion_step v (sheet_in b) t ≡ (binds B.to, drop q.used (drop 4 t))
    steps = choose_let v (sheet_in b) I ni L y ∙ B.does

    over : SameSheet b c
    over = record { same = m; over = B.over }

    pub steps-over : {w : Writer} {e : Refusal} → q.what ≡ Err e → {r : Result (Read Bool) Refusal} → r ≡ Err e → Steps v t w w b c r
    unfolding binds
    steps-over {w} {e} x z =
        let h : (e ≡ Limit) × (b.records.now.limit < sheet_length B.to) × (bytes_in c.records.now ≡ bytes_in b.records.now) = MatchResult-at_err _ _ e x B.came in
        record {
          over = over;
          wrote = rw (z, steps, guard-no sheet_length b.records.now.limit (binds B.to) (lt-leb _ b.records.now.limit h.1), h.0) (wrote-fail w Limit);
          goes = rw z tt;
        }

    pub steps-let : {w : Writer} {u : Unit {0}} → q.what ≡ Ok u → Steps v t w w b c (Ok (record { what = true; used = 4 + q.used }))
    unfolding binds
    steps-let {w} {u} x =
        let h : (sheet_in c ≡ B.to) × (sheet_length B.to ≤ b.records.now.limit) = MatchResult-at_ok _ _ u x B.came in
        record {
          over = over;
          wrote = rw (steps, within-limit (binds B.to) c B.over.limit h.0) (writing-end (writing-start ok w));
          goes = rw steps (record { on = omega arith; inside = omega (arith, B.inside, length-drop 4 t, L.there y); rest = drop-drop q.used 4 t; whole = refl }, h.0);
        }

-- A step that keeps the sheet.
pub steps-kept : (v : View) {t : List ℕ} {w w₂ : Writer} {b : SheetBuffer} {z : List ℕ} {r : Result (Read Bool) Refusal} → z ≡ bytes_in b.records.now → Does 1 (expansion_step v (records_of z) t) (records_of z) t w w₂ r → Steps v t w w₂ b b r
steps-kept v {t} {w} {w₂} {b} {z} {r} e W =
    let D : Does 1 (expansion_step v (sheet_in b) t) (sheet_in b) t w w₂ r = rw e at W in
    record {
      over = sheet-refl b;
      wrote = rw (within-limit (expansion_step v (sheet_in b) t).0 b refl (sym D.state)) D.wrote;
      goes = IfOk-weaker r _ _ (λ k g. (g, sym D.state)) D.goes;
    }
