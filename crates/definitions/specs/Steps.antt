-- The steps of a file of definitions.
use Rattle.std.specs.Prelude.{◌≡◌, List, ◌++◌, true, ℕ, ◌+◌, ◌≤◌, Result, Ok, Err, length, drop}
use Rattle.std.proofs.Math.Path.{refl, ap}
use Rattle.std.proofs.Common.{sym, ◌∙◌, arith, length-drop, drop-drop, le-leb}
use Rattle.std.proofs.lemmas.Bool.{lt-leb}
use Rattle.rules.specs.Answer.{Answer, refused, accepted}
use Rattle.rules.specs.Reader.{ret, if_r, ◌>>=◌, ◌>>◌, bytes, either, all, mark, prefix}
use Rattle.rules.specs.Run.{ok, fail, Did}
use Rattle.rules.specs.Bytes.{ascii, blank, word, name_byte, underscored}
use Rattle.rules.specs.Sheet.{Value, Records, encode, sheet_length, good_records, resolve, set}
use Rattle.rules.specs.Definitions.{Names, value, dictionary_value, bound, let_bound, let_step, definition_step}
use Rattle.rules.proofs.Laws.Bool.{and_r}
use Rattle.rules.proofs.Laws.Numbers.{numbered_e}
use Rattle.rules.proofs.Laws.Values.{numbered_or, did_has, reads_definition}
use Rattle.scan.specs.Sets.{part, Spans}
use Rattle.buffers.specs.Emits.{guard, guard-yes, guard-no}
use Rattle.refusal.specs.declared.Refusal.{Refusal}
use Rattle.refusal.specs.Numbers.{number}
use Rattle.sheet.specs.Records.{KeepsLayout, records_of, records-good, good-keeps, good-records_of}
use Rattle.binding.specs.declared.buffer.RecordBuffer.{RecordBuffer}
use Rattle.binding.specs.declared.sheet_buffer.SheetBuffer.{SheetBuffer}
use Rattle.binding.specs.Write.{IsSource}
use Rattle.binding.specs.Buffer.{bytes_in, held, SameBuffer, Leaves, Binds}
use Rattle.binding.specs.Sheets.{sheet_in, sheet-within}
use Rattle.scan.specs.declared.read.Read.{Read}
use Rattle.values.specs.declared.ValueBytes.{ValueBytes}
use Rattle.values.specs.Values.{IsRead}

-- The step d binds, and c holds the sheet that it leaves; t: the text that it reads, so many bytes of it.
pub record IsStep (d : Did Records × List ℕ) (t : List ℕ) (c : SheetBuffer) (used : ℕ) : Type 0 where
  pub inside : used ≤ length t
  pub emits : d.0.emit ≡ ok
  pub rest : d.1 ≡ drop used t
  pub state : d.0.state ≡ sheet_in c

-- The step is done, or refused.
abbrev pub Steps : Did Records × List ℕ → List ℕ → SheetBuffer → Result ℕ Refusal → Type 0
Steps d t c (Ok r) = IsStep d t c r
Steps d t c (Err k) = guard sheet_length c.records.now.limit d.0 ≡ fail (number k)

-- LAWS. A step behind a mark of k bytes.
module _ {t u : List ℕ} {k : ℕ} (h : k ≤ length t) (p : u ≡ drop k t) {d : Did Records × List ℕ} {g : Did Records × List ℕ} (e : g ≡ d) {c : SheetBuffer} where
  pub step-behind : {used : ℕ} → IsStep d u c used → IsStep g t c (k + used)
  step-behind {used} S = record {
    inside = omega (arith, S.inside, ap length p, length-drop k t);
    emits = rw e S.emits;
    rest = rw e (S.rest ∙ ap (drop used) p ∙ drop-drop used k t);
    state = rw e S.state;
  }

-- A refused step leaves the sheet as it was, for the guard.
pub guard-refused : (b : SheetBuffer) {d : Did Records} {k : ℕ} → d ≡ bound (sheet_in b) (refused k) → {r : RecordBuffer} → SameBuffer b.records.now r → guard sheet_length r.limit d ≡ fail k
unfolding bound
guard-refused b {k = k} e {r} s = ap (guard sheet_length r.limit) e ∙ guard-yes sheet_length r.limit (bound (sheet_in b) (refused k)) (le-leb (sheet_length (sheet_in b)) r.limit (omega (arith, sheet-within b, s.limit)))

-- What a `#let` leaves is good.
same : Records → List ℕ → Names → Answer Records
same s p n = accepted s

good-let : (L : ℕ) (i : Records → List ℕ → Names → Answer Records) (s : Records) (t : List ℕ) → all ascii t ≡ true → good_records s word 6 ≡ true → good_records (let_step L i s t).0.state word 6 ≡ true
unfolding definition_step let_step mark prefix if_r ◌>>=◌ ◌>>◌ all ascii did_has numbered_or same
good-let L i s t a g =
    let d = (let_step L i s t).0 in
    and_r (numbered_e d.emit) (good_records d.state word 6) ((reads_definition L same (λ s p n h k. h) s g).reads (bytes "#let" ++ t) a).answer

-- A `#let`, in the sheet of the buffer b.
module _ (b : SheetBuffer) (i : Records → List ℕ → Names → Answer Records) {t : List ℕ} {a m e : ℕ} (X : Spans blank t 0 a) (Y : Spans name_byte t a m) (Z : Spans (either "=" blank) t m e) {u : List ℕ} (tail : u ≡ drop e t) where
  abbrev limit : ℕ
  limit = b.records.now.limit

  abbrev s : Records
  s = sheet_in b

  abbrev name : List ℕ
  name = underscored (part t a m)

  abbrev Value-of : Answer Value × List ℕ
  Value-of = value limit (resolve s) (dictionary_value limit (resolve s) 6) u

  let-reads : let_step limit i s t ≡ (let_bound s name Value-of.0, Value-of.1)
  unfolding let_step ◌>>=◌ ◌>>◌ ret
  let-reads = rw (X.rest, Y.rest, Y.took, Z.rest, tail) refl

  -- Its value is refused.
  pub let-no : {q : ℕ} → Value-of.0 ≡ refused q → {r : RecordBuffer} → SameBuffer b.records.now r → guard sheet_length r.limit (let_step limit i s t).0 ≡ fail q
  unfolding let_bound
  let-no h w = guard-refused b (ap (λ x. x.0) let-reads ∙ ap (let_bound s name) h) w

  -- Its value is read.
  module _ {v : Read ValueBytes} (R : IsRead limit Value-of u v) where
    let-is : let_step limit i s t ≡ (bound s (accepted (set s name R.v)), drop (e + v.used) t)
    unfolding let_bound
    let-is = let-reads ∙ λ y. (let_bound s name (R.is y), (R.rest ∙ ap (drop v.used) tail ∙ drop-drop v.used e t) y)

    good-set : all ascii t ≡ true → good_records (set s name R.v) word 6 ≡ true
    unfolding bound
    good-set c = ap (λ x. good_records x.0.state word 6) (sym let-is) ∙ good-let limit i s t c (records-good (bytes_in b.records.now))

    module _ {r : RecordBuffer} {o : Result (Unit {0}) Refusal} (B : (x : Value) → IsSource x v.what.lead v.what.own.now → Binds b.records.now name x r o) where
      binds : Binds b.records.now name R.v r o
      binds = B R.v R.source

      leaves : Leaves b.records.now (encode (set s name R.v)) r o
      leaves = binds.leaves s b.sheet.written

      pub let-over : SameBuffer b.records.now r
      let-over = binds.over

      -- What is left is a sheet within its limit.
      pub let-sheet : all ascii t ≡ true → KeepsLayout (bytes_in r)
      unfolding Leaves
      let-sheet c = at o leaves
        where
          at : (o : Result (Unit {0}) Refusal) → Leaves b.records.now (encode (set s name R.v)) r o → KeepsLayout (bytes_in r)
          at (Ok x) h = good-keeps (set s name R.v) h.0 (good-set c)
          at (Err x) h = rw h.2 b.sheet

      pub let-within : r.len ≤ r.limit
      unfolding Leaves
      let-within = at o leaves
        where
          at : (o : Result (Unit {0}) Refusal) → Leaves b.records.now (encode (set s name R.v)) r o → r.len ≤ r.limit
          at (Ok x) h = omega (arith, ap length h.0, h.1, held r, binds.over.limit)
          at (Err x) h = omega (arith, ap length h.2, held r, held b.records.now, binds.over.limit, b.within)

      pub let-full : {k : Refusal} → o ≡ Err k → guard sheet_length r.limit (let_step limit i s t).0 ≡ fail (number k)
      unfolding Leaves bound sheet_length
      let-full y =
          let h = rw y at leaves in
          let l : r.limit ≡ limit = binds.over.limit in
          rw h.0 (ap (λ x. guard sheet_length r.limit x.0) let-is ∙ guard-no sheet_length r.limit _ (lt-leb _ r.limit (omega (arith, h.1))))

      pub let-bound : all ascii t ≡ true → {x : Unit {0}} → o ≡ Ok x → {c : SheetBuffer} → c.records.now ≡ r → IsStep (let_step limit i s t) t c (e + v.used)
      unfolding Leaves bound
      let-bound d y {c} z =
          let h = rw y at leaves in
          let g : sheet_in c ≡ set s name R.v = ap (λ x. records_of (bytes_in x)) z ∙ good-records_of (set s name R.v) h.0 (good-set d) in
          record {
            inside = omega (arith, R.inside, ap length tail, length-drop e t, Z.inside);
            emits = ap (λ x. x.0.emit) let-is;
            rest = ap (λ x. x.1) let-is;
            state = ap (λ x. x.0.state) let-is ∙ sym g;
          }
