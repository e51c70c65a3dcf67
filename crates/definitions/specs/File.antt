-- A file of definitions, step by step, and the files that it imports.
use Rattle.std.specs.Prelude.{◌≡◌, Bool, true, false, List, [], ◌∷◌, ℕ, zero, suc, ◌+◌, ◌-◌, ◌≤◌, ◌<◌, Some, None, Ok, Err, eqb, length, take, drop}
use Rattle.refusal.specs.declared.Refusal.{Refusal}
use Rattle.refusal.specs.Numbers.{number}
use Rattle.scan.specs.declared.read.Read.{Read}
use Rattle.std.proofs.Math.Path.{refl, ap}
use Rattle.std.proofs.Common.{sym, ◌∙◌, true≢false, arith, length-take-le, length-drop, drop-drop, drop_of_length-le, le-leb, eqb-true}
use Rattle.std.proofs.Math.Nat.{sub-zero}
use Rattle.rules.specs.Answer.{Answer, refused, accepted, ◌>>=◌, ◌>>◌, check}
use Rattle.rules.specs.Reader as Reader
use Rattle.rules.specs.Reader.{all, bytes, prefix}
use Rattle.rules.proofs.Laws.Bool.{and_l}
use Rattle.rules.specs.Run.{ok, fail, and_then, Did, Step, Trace, step, run, write, limited}
use Rattle.rules.specs.Bytes.{ascii, parent}
use Rattle.rules.specs.Files.{View}
use Rattle.rules.specs.Sheet.{Records, end, encode, sheet_length, good_records}
use Rattle.rules.specs.Definitions.{Names, names, bound, let_step, import_step, definition_step}
use Rattle.rules.specs.Imports.{bind_names, imported, file_sheet, imported_sheet}
use Rattle.rules.proofs.Laws.Enough.{run_at, run-first}
use Rattle.scan.specs.Sets.{Spans, Starts, not_byte}
use Rattle.scan.specs.Laws.{mark-yes, mark-no, mark_of, skip_at}
use Rattle.scan.specs.Stretches.{spans-but}
use Rattle.buffers.specs.Emits.{guard, guarded, limited-guarded}
use Rattle.paths.specs.Joined.{text}
use Rattle.std.proofs.lemmas.List.Edits.{sets}
use Rattle.buffers.specs.Laws.{stored-first}
use Rattle.sheet.specs.Records.{KeepsLayout, records_of, good-records_of, good-keeps}
use Rattle.binding.specs.declared.buffer.RecordBuffer.{RecordBuffer}
use Rattle.binding.specs.declared.sheet_buffer.SheetBuffer.{SheetBuffer}
use Rattle.binding.specs.Buffer.{bytes_in, SameBuffer, same-refl}
use Rattle.binding.specs.Sheets.{sheet_in, SameSheet, sheet-then, sheet-within}
use Rattle.values.specs.Slots.{slots, Room, room-rest}
use Rattle.bundle.specs.declared.File.{File}
use Rattle.definition_imports.specs.declared.Import.{Import}
use Rattle.definition_imports.specs.Import.{comes_to, IsImport}
use Rattle.definitions.specs.Steps.{IsStep, guard-refused}

-- A step of a file in the folder g, with so many import levels left; its step `#import`.
abbrev pub file_step : View → ℕ → List ℕ → ℕ → Step Records
file_step v levels g L = definition_step L (imported L v (imported_sheet L v levels) g)

abbrev pub import_in : View → ℕ → List ℕ → ℕ → Step Records
import_in v levels g L = import_step L (imported L v (imported_sheet L v levels) g)

-- LAWS. A step that keeps the sheet, and one that leaves another.
module _ {d : Did Records × List ℕ} {t : List ℕ} {used : ℕ} (i : used ≤ length t) where
  step-kept : (b : SheetBuffer) → d ≡ (bound (sheet_in b) (accepted (sheet_in b)), drop used t) → IsStep d t b used
  unfolding bound
  step-kept b e = record { inside = i; emits = ap (λ x. x.0.emit) e; rest = ap (λ x. x.1) e; state = ap (λ x. x.0.state) e }

  step-bound : (s : Records) (c : SheetBuffer) → d ≡ (bound s (accepted (sheet_in c)), drop used t) → IsStep d t c used
  unfolding bound
  step-bound s c e = record { inside = i; emits = ap (λ x. x.0.emit) e; rest = ap (λ x. x.1) e; state = ap (λ x. x.0.state) e }

-- At the start of a text where no `#import` stands, by whether a `//` or a `#let` does.
module _ (b : SheetBuffer) {t : List ℕ} (there : 0 < length t) (P : Starts (bytes "#import") t 0 false) {c : Bool} (C : Starts (bytes "//") t 0 c) (i : Records → List ℕ → Names → Answer Records) where
  pub other_comment : c ≡ true → {e : ℕ} → Spans (not_byte 10) t 2 e → IsStep (definition_step b.records.now.limit i (sheet_in b) t) t b e
  unfolding definition_step Reader.◌>>=◌ Reader.◌>>◌ Reader.if_r Reader.ret
  other_comment y X = step-kept X.inside b (rw (mark-yes C y, (spans-but "\n" X).rest) refl)

  module _ (nc : c ≡ false) {d : Bool} (D : Starts (bytes "#let") t 0 d) where
    pub other-let : d ≡ true → {u : List ℕ} → u ≡ drop 4 t → definition_step b.records.now.limit i (sheet_in b) t ≡ let_step b.records.now.limit i (sheet_in b) u
    unfolding definition_step Reader.◌>>=◌ Reader.◌>>◌ Reader.if_r
    other-let y p = rw (mark-no C nc, mark-no P refl, mark-yes D y, p) refl

    pub other-skip : d ≡ false → IsStep (definition_step b.records.now.limit i (sheet_in b) t) t b 1
    unfolding definition_step Reader.◌>>=◌ Reader.◌>>◌ Reader.if_r Reader.ret
    other-skip nd = step-kept there b (rw (mark-no C nc, mark-no P refl, mark-no D nd, skip_at t 0 there) refl)

-- A `#import` is no `//`.
no_comment : (u : List ℕ) → prefix (bytes "#import") u ≡ true → prefix (bytes "//") u ≡ false
unfolding prefix
no_comment [] h = absurd (true≢false (sym h))
no_comment (x ∷ xs) h = rw (sym (eqb-true 35 x (and_l (eqb 35 x) (prefix (bytes "import") xs) h))) refl

pub import-at : (v : View) (levels : ℕ) (g : List ℕ) (L : ℕ) (s : Records) {t : List ℕ} {p : Bool} → Starts (bytes "#import") t 0 p → p ≡ true → {u : List ℕ} → u ≡ drop 7 t → file_step v levels g L s t ≡ import_in v levels g L s u
unfolding definition_step Reader.◌>>=◌ Reader.◌>>◌ Reader.if_r
import-at v levels g L s {t} P y p = rw (mark_of (bytes "//") t false (no_comment t (P.says ∙ y)), mark-yes P y, p) refl

-- IMPORTS, from behind the mark, into the sheet of the buffer b.
module _ (v : View) (levels : ℕ) (g t : List ℕ) (b : SheetBuffer) where
  abbrev Step-of : Did Records × List ℕ
  Step-of = import_in v levels g b.records.now.limit (sheet_in b) t

  module _ {m : Read Import} (I : IsImport v levels g t m) where
    pub import-refused : {k : Refusal} → m.what.file ≡ Err k → guard sheet_length b.records.now.limit Step-of.0 ≡ fail (number k)
    unfolding comes_to
    import-refused e = guard-refused b (ap (λ x. x.0) (I.does b.records.now.limit (sheet_in b)) ∙ (rw e refl)) (same-refl b.records.now)

    pub import-nothing : m.what.file ≡ Ok None → IsStep Step-of t b m.used
    unfolding comes_to
    import-nothing e = step-kept I.inside b (I.does b.records.now.limit (sheet_in b) ∙ (rw e refl))

    -- A file, whose folder is h.
    module _ {f : File} (e : m.what.file ≡ Ok (Some f)) {h : List ℕ} (p : h ≡ parent (text f.path.now)) where
      abbrev Sheet-of : Answer Records
      Sheet-of = file_sheet b.records.now.limit v (imported_sheet b.records.now.limit v (levels - 1)) h f.text.now

      file-comes : (x : Answer Records) → Sheet-of ≡ x → Step-of ≡ (bound (sheet_in b) (x >>= λ o. bind_names b.records.now.limit (sheet_in b) o (names m.what.names.now).0), drop m.used t)
      unfolding comes_to
      file-comes x z = I.does b.records.now.limit (sheet_in b) ∙ (rw (e, sym p, z) refl)

      pub import-stopped : {k : ℕ} → Sheet-of ≡ refused k → {r : RecordBuffer} → SameBuffer b.records.now r → guard sheet_length r.limit Step-of.0 ≡ fail k
      unfolding ◌>>=◌
      import-stopped z s = guard-refused b (ap (λ x. x.0) (file-comes _ z)) s

      -- Its sheet is that of c, and its names are bound in the one that was saved as z.
      module _ (c : SheetBuffer) (Z : Sheet-of ≡ accepted (sheet_in c)) {z : List ℕ} (j : z ≡ bytes_in b.records.now) where
        binding : {L : ℕ} → L ≡ b.records.now.limit → Step-of ≡ (bound (sheet_in b) (bind_names L (records_of z) (sheet_in c) (names m.what.names.now).0), drop m.used t)
        unfolding ◌>>=◌
        binding l = file-comes _ Z ∙ (rw (l, j) refl)

        pub import-over : {L : ℕ} → L ≡ b.records.now.limit → {k : ℕ} → bind_names L (records_of z) (sheet_in c) (names m.what.names.now).0 ≡ refused k → {r : RecordBuffer} → SameBuffer b.records.now r → guard sheet_length r.limit Step-of.0 ≡ fail k
        import-over l y s = guard-refused b (ap (λ x. x.0) (binding l) ∙ ap (bound (sheet_in b)) y) s

        pub import-bound : {L : ℕ} → L ≡ b.records.now.limit → (d : SheetBuffer) → bind_names L (records_of z) (sheet_in c) (names m.what.names.now).0 ≡ accepted (sheet_in d) → IsStep Step-of t d m.used
        import-bound l d y = step-bound I.inside (sheet_in b) d (binding l ∙ ap (λ a. (bound (sheet_in b) a, drop m.used t)) y)

-- A LIMITED RUN, one step at a time.
module _ {S : Type 0} (size : S → ℕ) (L full : ℕ) where
  limited-stops : (r k : ℕ) (d : Did S) (t : Trace S) → guard size L d ≡ fail k → limited size L full r (step d t) ≡ refused k
  limited-stops r k d t h = limited-guarded size L full (step d t) r ∙ (unfold guarded and_then write ◌>>=◌ in (rw h refl))

  limited-goes : (r : ℕ) (d : Did S) (t : Trace S) → d.emit ≡ ok → size d.state ≤ L → limited size L full r (step d t) ≡ limited size L full r t
  unfolding limited check ◌>>◌
  limited-goes r d t e h = rw (le-leb (size d.state) L h, e) (unfold write ◌>>=◌ in (rw sub-zero (at (limited size L full r t))))
    where
      at : (a : Answer (List ℕ × S)) → ◌>>=◌ {B = List ℕ × S} a (λ p. accepted (p.0, p.1)) ≡ a
      at (refused k) = unfold ◌>>=◌ in refl
      at (accepted p) = unfold ◌>>=◌ in refl

-- A FILE, read up to i. w: the buffer before.
pub record Parsing (F : ℕ → Step Records) (t : List ℕ) (w c : SheetBuffer) (i : ℕ) : Type 0 where
  pub inside : i ≤ length t
  pub over : SameSheet w c
  pub is : limited sheet_length w.records.now.limit 11 0 (run (F w.records.now.limit) end 0 t) ≡ limited sheet_length w.records.now.limit 11 0 (run (F w.records.now.limit) (sheet_in c) 0 (drop i t))

pub parsing-start : (F : ℕ → Step Records) (t : List ℕ) (w c : SheetBuffer) → SameSheet w c → bytes_in c.records.now ≡ [] → Parsing F t w c 0
unfolding good_records encode
parsing-start F t w c o e = record {
  inside = omega arith;
  over = o;
  is = ap (λ s. limited sheet_length w.records.now.limit 11 0 (run (F w.records.now.limit) s 0 t)) (sym (ap records_of e ∙ good-records_of end refl refl));
}

-- No bytes are a sheet without records.
pub no-bytes : KeepsLayout []
unfolding good_records encode
no-bytes = good-keeps end refl refl

-- What is left is u.
module _ {F : ℕ → Step Records} {t : List ℕ} {w c : SheetBuffer} {i : ℕ} (Q : Parsing F t w c i) {u : List ℕ} (p : u ≡ drop i t) where
  abbrev L : ℕ
  L = w.records.now.limit

  ahead : limited sheet_length L 11 0 (run (F L) end 0 t) ≡ limited sheet_length L 11 0 (run (F L) (sheet_in c) 0 u)
  ahead = rw p Q.is

  pub parsing-inside : {d : SheetBuffer} {g : Did Records × List ℕ} {used : ℕ} → IsStep g u d used → i + used ≤ length t
  parsing-inside S = omega (arith, S.inside, ap length p, length-drop i t, Q.inside)

  pub parsing-on : {d : SheetBuffer} → SameSheet c d → {used : ℕ} → IsStep (F c.records.now.limit (sheet_in c) u) u d used → 0 < used → Parsing F t w d (i + used)
  parsing-on {d} y {used} S₀ o =
      let S : IsStep (F L (sheet_in c) u) u d used = rw Q.over.over.limit at S₀ in
      let within : sheet_length (F L (sheet_in c) u).0.state ≤ L = omega (arith, sheet-within d, ap sheet_length S.state, y.over.limit, Q.over.over.limit) in
      record {
        inside = parsing-inside S;
        over = sheet-then Q.over y;
        is = ahead ∙ ap (limited sheet_length L 11 0) (run_at (F L) u (sheet_in c) 0 used o S.inside S.rest)
            ∙ limited-goes sheet_length L 11 0 (F L (sheet_in c) u).0 _ S.emits within
            ∙ ap (λ s. limited sheet_length L 11 0 (run (F L) s 0 (drop used u))) S.state
            ∙ ap (λ x. limited sheet_length L 11 0 (run (F L) (sheet_in d) 0 x)) (ap (drop used) p ∙ drop-drop used i t);
      }

  parsing-no : {r : RecordBuffer} → SameBuffer c.records.now r → {k : ℕ} → guard sheet_length r.limit (F c.records.now.limit (sheet_in c) u).0 ≡ fail k → i < length t → limited sheet_length L 11 0 (run (F L) end 0 t) ≡ refused k
  parsing-no y {k} S h =
      let x = run-first (F L) (sheet_in c) u 0 (omega (arith, ap length p, length-drop i t)) in
      ahead ∙ ap (limited sheet_length L 11 0) x.1 ∙ limited-stops sheet_length L 11 0 k (F L (sheet_in c) u).0 x.0 (rw (y.limit, Q.over.over.limit) at S)

module _ {F : ℕ → Step Records} {t : List ℕ} {w c : SheetBuffer} {i : ℕ} (Q : Parsing F t w c i) where
  parsing-done : length t ≤ i → limited sheet_length w.records.now.limit 11 0 (run (F w.records.now.limit) end 0 t) ≡ accepted ([], sheet_in c)
  unfolding run limited
  parsing-done h = Q.is ∙ ap (λ x. limited sheet_length w.records.now.limit 11 0 (run (F w.records.now.limit) (sheet_in c) 0 x)) (drop_of_length-le t {i = i} h)

-- What a file came to.
module _ (v : View) (levels : ℕ) (g : List ℕ) {t : List ℕ} (a : all ascii t ≡ true) {w c : SheetBuffer} {i : ℕ} (Q : Parsing (file_step v levels g) t w c i) where
  pub parsed-no : {u : List ℕ} → u ≡ drop i t → {r : RecordBuffer} → SameBuffer c.records.now r → {k : ℕ} → guard sheet_length r.limit (file_step v levels g c.records.now.limit (sheet_in c) u).0 ≡ fail k → i < length t → file_sheet w.records.now.limit v (imported_sheet w.records.now.limit v levels) g t ≡ refused k
  unfolding file_sheet check ◌>>◌ ◌>>=◌
  parsed-no p y S h = rw (a, parsing-no Q p y S h) refl

  pub parsed : length t ≤ i → file_sheet w.records.now.limit v (imported_sheet w.records.now.limit v levels) g t ≡ accepted (sheet_in c)
  unfolding file_sheet check ◌>>◌ ◌>>=◌
  parsed h = rw (a, parsing-done Q h) refl

-- The sheet of the buffer b, v, is saved at the start of w, which is w₂ then.
module _ (b : SheetBuffer) {v : List ℕ} (e : v ≡ bytes_in b.records.now) where
  saved-long : length v ≡ b.records.now.len
  saved-long = ap length e ∙ length-take-le b.records.now.len b.records.now.bytes.now b.records.now.fits

  module _ (w : List ℕ) {w₂ : List ℕ} (s : w₂ ≡ sets w 0 v) (h : b.records.now.limit ≤ length w) where
    pub saved-bytes : take b.records.now.len w₂ ≡ bytes_in b.records.now
    saved-bytes = ap (λ n. take n w₂) (sym saved-long) ∙ ap (take (length v)) s ∙ stored-first w v (omega (arith, saved-long, b.within)) ∙ e

    pub saved-sheet : KeepsLayout (take b.records.now.len w₂)
    saved-sheet = rw saved-bytes b.sheet

    pub saved-short : length (take b.records.now.len w₂) ≤ b.records.now.limit
    saved-short = omega (arith, ap length saved-bytes, ap length e, saved-long, b.records.now.fits)

-- ROOM. A slot for each import level, and those of a value.
module _ {w : List ℕ} {limit : ℕ} (levels : ℕ) (h : Room w limit (levels + 6)) where
  pub room-value : Room w limit 6
  unfolding slots
  room-value = record { fits = omega (arith, more limit levels, h.fits); most = h.most }
    where
      more : (limit l : ℕ) → slots limit 6 ≤ slots limit (l + 6)
      more limit zero = omega arith
      more limit (suc l) = let e : suc l + 6 ≡ suc (l + 6) = omega arith in rw e (omega (arith, more limit l))

  -- Behind the first slot.
  pub room-inner : 0 < levels → (p : List ℕ) → length p + limit ≡ length w → Room p limit (levels - 1 + 6)
  room-inner k p e = let f : levels + 6 - 1 ≡ levels - 1 + 6 = omega arith in rw f at (room-rest h (λ z. omega arith) p e refl)
