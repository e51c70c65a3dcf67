-- The imports of a file of definitions, up to the file that one names.
use Rattle.std.specs.Prelude.{Option as Maybe, Some, None, Result, Ok, Err, ◌≡◌, List, [], ◌∷◌, Bool, true, false, ℕ, suc, ◌+◌, ◌-◌, ◌≤◌, ◌<◌, length, take, drop}
use Rattle.std.proofs.Math.Path.{refl, sym, ap}
use Rattle.std.proofs.Common.{inl, inr, ◌∙◌, length-append, drop-drop, arith}
use Rattle.rules.specs.Answer.{Answer, refused, accepted, ◌>>=◌, ◌>>◌, check}
use Rattle.rules.specs.Reader.{all, empty, but, either, span}
use Rattle.rules.specs.Bytes.{ascii, blank, is_path, join, parent}
use Rattle.rules.specs.Bundle.{Entry}
use Rattle.rules.specs.Files.{View, view}
use Rattle.rules.specs.Sheet.{Records}
use Rattle.rules.specs.Strings.{literal}
use Rattle.rules.specs.Definitions.{Names, names, bound, import_step}
use Rattle.rules.specs.Imports.{bind_names, import_file, imported, file_sheet, imported_sheet}
use Rattle.scan.specs.Sets.{part, Spans, Sees, byte_is}
use Rattle.scan.specs.Laws.{sees-the, skips-at}
use Rattle.paths.specs.Paths.{path-long}
use Rattle.paths.specs.Joined.{text}
use Rattle.paths.specs.declared.path.Path as Joined
use Rattle.scan.specs.declared.Range.{Range}
use Rattle.bundle.specs.Find.{Finds, file_at}
use Rattle.bundle.specs.declared.Found.{Found}
use Rattle.bundle.specs.declared.Found.TheVariants.{Absent, Folder, File as At}
use Rattle.bundle.specs.Open.{OpensWithin}
use Rattle.refusal.specs.declared.Refusal.{Refusal}
use Rattle.refusal.specs.Numbers.{number}
use Rattle.refusal.specs.declared.Refusal.TheVariants.{Path, File as IsFolder}
use Rattle.std.specs.Borrow.{Bor, MutBor}
use Rattle.std.specs.Result.{result_and}
use Rattle.scan.specs.declared.read.Read.{Read}
use Rattle.buffers.specs.declared.writer.Writer.{Writer}
use Rattle.buffers.specs.Wrote.{Begins, puts-over, puts-first}
use Rattle.strings.specs.Written.{Written}
use Rattle.imported_names.proofs.Words.{names-line}
use Rattle.bundle.specs.declared.File.{File}
use Rattle.definition_imports.specs.declared.Import.{Import}

-- A path r is q, where that keeps the path rule.
abbrev pub JoinsPath : List ℕ → Joined.Path → Result Unit Refusal → Type 0
JoinsPath q r (Ok u) = (text r ≡ q) × (is_path q ≡ true)
JoinsPath q r (Err k) = (is_path q ≡ false) × (number k ≡ 4)

-- What an import comes to in the rules: a refusal; without a file nothing is bound, else the names of the file's sheet are. l: the levels that are left.
unfoldable pub comes_to : ℕ → View → ℕ → Result (Maybe File) Refusal → Records → Names → Answer Records
comes_to L v l (Err k) s n = refused (number k)
comes_to L v l (Ok None) s n = accepted s
comes_to L v l (Ok (Some f)) s n = file_sheet L v (imported_sheet L v (l - 1)) (parent (text f.path.now)) f.text.now >>= λ r. bind_names L s r n

-- An import of the path q; of the path p, joined to the folder g.
abbrev pub at_path : View → ℕ → List ℕ → ℕ → Records → Names → Answer Records
at_path v levels q L s n = import_file L v (imported_sheet L v levels) q (v q) s n

abbrev pub named : View → ℕ → List ℕ → List ℕ → ℕ → Records → Names → Answer Records
named v levels g p L s n = imported L v (imported_sheet L v levels) g s p n

-- A file is there to be read.
unfoldable pub Readable : ℕ → Result (Maybe File) Refusal → Type 0
Readable l (Err k) = Unit {0}
Readable l (Ok None) = Unit {0}
Readable l (Ok (Some f)) = (0 < l) × (all ascii f.text.now ≡ true)

-- What an import comes to is a: its file is f, or its refusal.
pub record Opens (v : View) (levels : ℕ) (a : ℕ → Records → Names → Answer Records) (f : Result (Maybe File) Refusal) : Type 0 where
  pub within : Readable levels f
  pub says : (L : ℕ) (s : Records) (n : Names) → a L s n ≡ comes_to L v levels f s n

-- The text of a literal, if there was room for it.
abbrev pub IsPath : List ℕ → Result (Bor (List ℕ)) Refusal → Type 0
IsPath p (Ok s) = s.now ≡ p
IsPath p (Err k) = (k ≡ Path) × (255 < length p)

-- The import at the start of t, in the folder g.
pub record IsImport (v : View) (levels : ℕ) (g t : List ℕ) (r : Read Import) : Type 0 where
  pub inside : r.used ≤ length t
  pub within : Readable levels r.what.file
  pub does : (L : ℕ) (s : Records) → import_step L (imported L v (imported_sheet L v levels) g) s t ≡ (bound s (comes_to L v levels r.what.file s (names r.what.names.now).0), drop r.used t)

-- LAWS. The file of an import is there to be read.
pub file-there : {v : View} {levels : ℕ} {g t : List ℕ} {r : Read Import} → IsImport v levels g t r → {f : File} → r.what.file ≡ Ok (Some f) → (0 < levels) × (all ascii f.text.now ≡ true)
unfolding Readable
file-there I h = rw h at I.within

-- JOINING.
join-long : (g p : List ℕ) → length p ≤ length (join g p)
unfolding join empty
join-long [] p = omega arith
join-long (x ∷ xs) p = omega (arith, length-append (x ∷ xs) (47 ∷ p))

pub path-over : (g p : List ℕ) → 255 < length p → is_path (join g p) ≡ false
path-over g p h = sym (path-long (join g p) (omega (arith, join-long g p)))

pub joined-over : (q : List ℕ) (p : Joined.Path) {k : Refusal} → (255 < length q) × (number k ≡ 4) → {r : Result Unit Refusal} → r ≡ Err k → JoinsPath q p r
joined-over q p h y = rw y (sym (path-long q h.0), h.1)

-- A path, by what the bundle has there.
module _ (levels : ℕ) (b : List ℕ) (es : List Entry) (q : List ℕ) where
  there : {f : Found} → Finds b es q f → (L : ℕ) (s : Records) (n : Names) → at_path (view es) levels q L s n ≡ import_file L (view es) (imported_sheet L (view es) levels) q (file_at b f) s n
  there F L s n = ap (λ x. import_file L (view es) (imported_sheet L (view es) levels) q x s n) F.seen

  pub open-absent : Finds b es q Absent → Opens (view es) levels (at_path (view es) levels q) (Ok None)
  unfolding Readable comes_to import_file file_at
  open-absent F = record { within = tt; says = there F }

  pub open-folder : Finds b es q Folder → Opens (view es) levels (at_path (view es) levels q) (Err IsFolder)
  unfolding Readable comes_to import_file file_at
  open-folder F = record { within = tt; says = there F }

  -- A file, as it is opened.
  module _ {c : Range} (F : Finds b es q (At c)) {t : List ℕ} (k : t ≡ part b c.from c.to) where
    content : (L : ℕ) (s : Records) (n : Names) → at_path (view es) levels q L s n ≡ (imported_sheet L (view es) levels (parent q) t >>= λ x. bind_names L s x n)
    unfolding import_file file_at
    content L s n = there F L s n ∙ ap (λ x. imported_sheet L (view es) levels (parent q) x >>= λ x. bind_names L s x n) (sym k)

    inner : 0 < levels → (L : ℕ) → imported_sheet L (view es) levels (parent q) t ≡ file_sheet L (view es) (imported_sheet L (view es) (levels - 1)) (parent q) t
    unfolding imported_sheet
    inner h L = let e : levels ≡ suc (levels - 1) = omega arith in ap (λ z. imported_sheet L (view es) z (parent q) t) e

    refused-as : {r : Refusal} → OpensWithin t levels (Err r) → (L : ℕ) (s : Records) (n : Names) → (imported_sheet L (view es) levels (parent q) t >>= λ x. bind_names L s x n) ≡ refused (number r)
    unfolding imported_sheet ◌>>=◌ file_sheet check ◌>>◌
    refused-as (inl h) L s n = rw (h.0, h.1) refl
    refused-as (inr h) L s n = rw (inner h.0 L, h.1, h.2) refl

    pub open-no : {r : Refusal} → OpensWithin t levels (Err r) → Opens (view es) levels (at_path (view es) levels q) (Err r)
    unfolding Readable comes_to
    open-no O = record { within = tt; says = λ L s n. content L s n ∙ refused-as O L s n }

    pub open-file : {p : Bor Joined.Path} → text p.now ≡ q → {s : Bor (List ℕ)} → OpensWithin t levels (Ok s) → Opens (view es) levels (at_path (view es) levels q) (Ok (Some (record { path = p; text = s })))
    unfolding Readable comes_to
    open-file e O = record {
      within = (O.0, rw O.2 O.1);
      says = λ L s n. content L s n ∙ ap (λ x. x >>= λ y. bind_names L s y n) (inner O.0 L ∙ (rw (O.2, e) refl));
    }

-- A PATH p, joined to the folder g.
module _ (v : View) (levels : ℕ) (g p : List ℕ) where
  pub named-four : is_path (join g p) ≡ false → {k : Refusal} → number k ≡ 4 → Opens v levels (named v levels g p) (Err k)
  unfolding imported check ◌>>◌ Readable comes_to
  named-four h e = record { within = tt; says = λ L s n. rw (h, e) refl }

  pub named-long : {r : Result (Bor (List ℕ)) Refusal} {k : Refusal} → IsPath p r → r ≡ Err k → Opens v levels (named v levels g p) (Err k)
  named-long {k = k} h e =
      let x : (k ≡ Path) × (255 < length p) = rw e at h in
      named-four (path-over g p x.1) (ap number x.0)

  named-same : is_path (join g p) ≡ true → (L : ℕ) (s : Records) (n : Names) → named v levels g p L s n ≡ at_path v levels (join g p) L s n
  unfolding imported check ◌>>◌
  named-same h L s n = rw h refl

  pub named-file : {q : List ℕ} → q ≡ join g p → is_path (join g p) ≡ true → {r : Result (Maybe File) Refusal} → Opens v levels (at_path v levels q) r → Opens v levels (named v levels g p) r
  named-file e h O = let F = rw e at O in record { within = F.within; says = λ L s n. named-same h L s n ∙ F.says L s n }

-- The text of a literal is put into 256 bytes, one more than a path may have, by a writer that was w and is w₂; or it is longer.
module _ {u : List ℕ} {out : MutBor (List ℕ)} (n : length out.now ≡ 256) {w w₂ : Writer} (b : Begins out Path w) {z : Read (Result (Unit {0}) Refusal)} (W : Written (literal u) u w w₂ z) where
  pub is-path : (s : Bor (List ℕ)) → s.now ≡ take w₂.at w₂.out.now → {r : Result (Bor (List ℕ)) Refusal} → r ≡ result_and z.what (Ok s) → IsPath (literal u).0 r
  is-path s k {r} e = rw e (at z.what refl)
    where
      at : (q : Result (Unit {0}) Refusal) → z.what ≡ q → IsPath (literal u).0 (result_and q (Ok s))
      at (Ok x) y = k ∙ puts-first W.puts y b.at (b.room ∙ ap (λ x. length x.now) (sym b.same))
      at (Err j) y = let over = puts-over W.puts y in (over.0 ∙ b.full, omega (arith, over.1, b.room, n, b.at))

-- AN IMPORT, by what the scans gave.
module _ (v : View) (levels : ℕ) (g : List ℕ) {t : List ℕ} {i : ℕ} (X : Spans blank t 0 i) {c : Bool} (q : Sees (byte_is 34) t i c) where
  pub import-none : c ≡ false → {e : ℕ} → Spans (but "\n") t i e → {r : Read Import} → r.what.file ≡ Ok None → r.used ≡ e → IsImport v levels g t r
  unfolding import_step Readable comes_to Rattle.rules.specs.Reader.◌>>=◌ Rattle.rules.specs.Reader.◌>>◌ Rattle.rules.specs.Reader.if_r Rattle.rules.specs.Reader.ret
  import-none h Y f u = record {
    inside = omega (arith, Y.inside);
    within = rw f tt;
    does = λ L s. rw (X.rest, (sees-the "\"" q h).says, Y.rest, f, u) refl;
  }

  -- From the literal on, whose text is p.
  module _ (h : c ≡ true) {u : List ℕ} (tail : u ≡ drop (i + 1) t) where
    abbrev Path-of : List ℕ
    Path-of = (literal u).0

    step-is : (L : ℕ) (j : Records → List ℕ → Names → Answer Records) (s : Records) →
        import_step L j s t ≡ (bound s (j s Path-of (names (span (either ":" blank) (literal u).1).1).0), (span (but "\n") (names (span (either ":" blank) (literal u).1).1).1).1)
    unfolding import_step Rattle.rules.specs.Reader.◌>>=◌ Rattle.rules.specs.Reader.◌>>◌ Rattle.rules.specs.Reader.if_r Rattle.rules.specs.Reader.ret
    step-is L j s = rw (X.rest, (sees-the "\"" q h).says, (skips-at t i (q.there h)).rest, tail) refl

    -- It is read, by a writer that was w and is w₂.
    module _ {w w₂ : Writer} {z : Read (Result (Unit {0}) Refusal)} (W : Written (literal u) u w w₂ z) where
      pub import-read : {a m : ℕ} → Spans (either ":" blank) t (i + 1 + z.used) a → Spans (but "\n") t a m → {f : Result (Maybe File) Refusal} → Opens v levels (named v levels g Path-of) f → {r : Read Import} →
          r.what.file ≡ f → r.what.names.now ≡ drop a t → r.used ≡ m → IsImport v levels g t r
      import-read {a} {m} Y Z F {r} x y d = record {
        inside = omega (arith, Z.inside, d);
        within = rw x F.within;
        does = λ L s. step-is L (imported L v (imported_sheet L v levels) g) s ∙ (rw (behind, Y.rest, lines, x, y, d) (ap (λ o. (bound s o, drop m t)) (F.says L s (names (drop a t)).0)));
      }
        where
          behind : (literal u).1 ≡ drop (i + 1 + z.used) t
          behind = W.ends.rest ∙ ap (drop z.used) tail ∙ drop-drop z.used (i + 1) t

          lines : (span (but "\n") (names (drop a t)).1).1 ≡ drop m t
          lines = names-line (drop a t) ∙ Z.rest
