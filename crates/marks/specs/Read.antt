-- What stands at a mark: the step of the rules, read and not yet done.
use Rattle.std.specs.Prelude.{◌≡◌, Bool, not, ltb, length, Option, Some, None}
use Rattle.std.proofs.Math.Path.{refl, sym}
use Rattle.std.proofs.Common.{◌∙◌, arith, add-one, Bor}
use mathlib.Core.List.{List, []}
use Rattle.std.proofs.Math.Bool.{true, false}
use Prim.Native.Nat.{ℕ, ◌+◌, ◌≤◌, ◌<◌}
use Rattle.std.proofs.Math.ListN.{drop, drop_of_length-le}
use Rattle.std.proofs.Math.Seq.{drop-drop, drop-cons}
use Rattle.rules.specs.Reader.{Reader, bytes, the, but, empty, ret, if_r, ◌>>=◌, ◌>>◌}
use Rattle.rules.specs.Run.{Emit, ok, put, Did}
use Rattle.rules.specs.Bytes.{blank, join, trim}
use Rattle.rules.specs.Files.{View, fetch, opened, project_root}
use Rattle.rules.specs.Includes.{quoted, quote, no_paren, with_language, with_path, source_arguments, over_paren, to_newline, behind_source, fenced, wrote, copied, commented, included, include_of, include_mark, source_text, source_of, source_mark, include_step}
use Rattle.scan.specs.Sets.{part, Spans, Skips, Sees, Stands}
use Rattle.scan.specs.Laws.{not_end, skips-at, mark_of}
use Rattle.marks.specs.declared.ahead.Quoted.{Quoted}
use Rattle.marks.specs.declared.read.Reading.{Reading}
use Rattle.marks.specs.declared.read.Reading.TheVariants.{Copied, Include as Included, Source as Shown}
use Rattle.marks.specs.declared.read.Read.{Read}
use Rattle.marks.specs.declared.read.Behind.{Behind}
use Rattle.marks.specs.Ahead.{Finds, quoted_text}
use Rattle.marks.specs.declared.Mark.{Mark}
use Rattle.marks.specs.declared.Mark.TheVariants.{Include, SourceInclude}
use Rattle.marks.specs.Marks.{mark_text, IsMark, mark-is, mark-first, mark-stands, stretch}

-- What is written for what was read. g: the current folder.
unfoldable pub emit_of : View → (List ℕ → List ℕ → Emit) → List ℕ → Reading → Emit
emit_of v inside g (Copied p) = put p.now ok
emit_of v inside g (Included p) = let q = join g p.now in included v inside g q (fetch v q)
emit_of v inside g (Shown p l) = fenced l.now (opened v (join (project_root v g) p.now))

-- The step m at the place i is what was read; reading goes on from j or later.
pub record Reads (m : View → (List ℕ → List ℕ → Emit) → List ℕ → Reader (Did (List ℕ))) (t : List ℕ) (i j : ℕ) (r : Read) : Type 0 where
  pub on : j ≤ r.next
  pub inside : r.next ≤ length t
  pub does : (v : View) (f : List ℕ → List ℕ → Emit) (g : List ℕ) → m v f g (drop i t) ≡ (wrote r.whole (emit_of v f g r.what), drop r.next t)

-- The text p is copied, whole or not; reading goes on from j.
pub record Copies (p : List ℕ) (w : Bool) (j : ℕ) (r : Read) : Type 0 where
  pub emits : (v : View) (f : List ℕ → List ℕ → Emit) (g : List ℕ) → emit_of v f g r.what ≡ put p ok
  pub whole : r.whole ≡ w
  pub next : r.next ≡ j

-- Where reading goes on behind a source.
pub record Behinds (t : List ℕ) (at : ℕ) (r : Behind) : Type 0 where
  pub on : at ≤ r.next
  pub inside : r.next ≤ length t
  pub wholes : not (empty (to_newline (drop at t)).1) ≡ r.whole
  pub rest : behind_source (to_newline (drop at t)).1 (drop at t) ≡ drop r.next t

-- Behind `#source-include` stand `(` and the path q.
pub record HasPath (t : List ℕ) (at : ℕ) (q : Quoted) : Type 0 where
  pub on : at ≤ length t
  pub inside : q.next ≤ length t
  pub says : source_arguments (drop at t) ≡ with_path (quoted q.text.now) (drop q.next t)

-- A mark that is copied.
pub copies : {x : Bor (List ℕ)} {w : Bool} {j : ℕ} → Copies x.now w j (record { what = Copied x; whole = w; next = j })
unfolding emit_of
copies = record { emits = λ v f g. refl; whole = refl; next = refl }

reads-copied : {m : View → (List ℕ → List ℕ → Emit) → List ℕ → Reader (Did (List ℕ))} {k t : List ℕ} {at behind : ℕ} {w : Bool} {r : Read} → Stands k t at behind → Copies (part t at behind) w behind r →
    ((v : View) (f : List ℕ → List ℕ → Emit) (g : List ℕ) → m v f g (drop behind t) ≡ (wrote w (put k ok), drop behind t)) → Reads m t behind behind r
reads-copied st c does = record {
  on = omega (arith, c.next);
  inside = omega (arith, c.next, st.inside);
  does = λ v f g. rw (c.emits v f g, c.whole, c.next, st.text) (does v f g);
}

-- `#include`.
module _ {t : List ℕ} {at behind : ℕ} (st : Stands (bytes "#include") t at behind) {q : Option Quoted} (s : Finds t behind q) where
  pub include_none : q ≡ None → {r : Read} → Copies (part t at behind) false behind r → Reads include_mark t behind behind r
  unfolding include_mark include_of
  include_none e c = reads-copied st c (λ v f g. rw (s.says, e) refl)

  pub include_some : {p : Quoted} → q ≡ Some p → {x : Bor (List ℕ)} → x.now ≡ trim p.text.now → Reads include_mark t behind behind (record { what = Included x; whole = true; next = p.next })
  unfolding emit_of include_mark include_of
  include_some {p} e n = let b = s.behind p e in record {
    on = b.on;
    inside = b.inside;
    does = λ v f g. rw (s.says, e, b.rest, n) refl;
  }

-- BEHIND A SOURCE.
module _ {t : List ℕ} {at paren from to : ℕ} (x : Spans (but ")") t at paren) (k : Skips t paren from) (y : Spans (but "\n") t from to) where
  to-newline : ((over_paren (drop at t)).1 ≡ drop from t) × ((to_newline (drop at t)).1 ≡ drop to t)
  unfolding to_newline over_paren ◌>>◌ ◌>>=◌
  to-newline = (rw x.rest k.rest, rw (x.rest, k.rest) y.rest)

  pub behind-line : to < length t → Behinds t at (record { whole = true; next = to + 1 })
  unfolding behind_source empty
  behind-line h =
      let c = drop-cons t to 0 h in
      record {
        on = omega (arith, x.on, k.on, y.on);
        inside = omega arith;
        wholes = rw (to-newline.1, c) refl;
        rest = rw (to-newline.1, c, add-one) refl;
      }

  pub behind_paren : length t ≤ to → Behinds t at (record { whole = false; next = from })
  unfolding behind_source empty
  behind_paren h =
      let c = drop_of_length-le t {i = to} h in
      record {
        on = omega (arith, x.on, k.on);
        inside = k.inside;
        wholes = rw (to-newline.1, c) refl;
        rest = rw (to-newline.1, c) to-newline.0;
      }

-- `#source-include`.
module _ {t : List ℕ} {at behind : ℕ} (st : Stands (bytes "#source-include") t at behind) {i : ℕ} (b : Spans blank t behind i) where
  pub source-plain : Sees (the "(") t i false → {r : Read} → Copies (part t at behind) (ltb i (length t)) behind r → Reads source_mark t behind behind r
  unfolding source_arguments ◌>>=◌ ◌>>◌ if_r ret source_mark source_of
  source-plain s c = reads-copied st c (λ v f g. rw (arguments, not_end t i) refl)
    where
      arguments : source_arguments (drop behind t) ≡ (no_paren, drop i t)
      arguments = rw (b.rest, s.says) refl

  module _ (s : Sees (the "(") t i true) {q : Option Quoted} (u : Finds t (i + 1) q) where
    arguments-at : source_arguments (drop behind t) ≡ with_path (quote (drop (i + 1) t)).0 (quote (drop (i + 1) t)).1
    unfolding source_arguments ◌>>=◌ ◌>>◌ if_r ret
    arguments-at = rw (b.rest, s.says, (skips-at t i (s.there refl)).rest) refl

    pub source-none : q ≡ None → {r : Read} → Copies (part t at behind) false behind r → Reads source_mark t behind behind r
    unfolding source_mark source_of with_path ret
    source-none e c = reads-copied st c (λ v f g. rw (arguments-at, u.says, e) refl)

    pub has-path : {p : Quoted} → q ≡ Some p → HasPath t behind p
    has-path {p} e = let z = u.behind p e in record {
      on = st.inside;
      inside = z.inside;
      says = rw (arguments-at, u.says, e, z.rest) refl;
    }

module _ {t : List ℕ} {behind : ℕ} {p : Quoted} (a : HasPath t behind p) {q : Option Quoted} (u : Finds t p.next q) {e : Behind} (b : Behinds t behind e) where
  arguments : (source_arguments (drop behind t)).0 ≡ with_language p.text.now (quoted_text q)
  unfolding with_path ◌>>=◌ ret
  arguments = rw (a.says, u.says) refl

  pub source-language : {l : Quoted} → q ≡ Some l → {x : Bor (List ℕ)} → x.now ≡ trim p.text.now → Reads source_mark t behind behind (record { what = Shown x l.text; whole = e.whole; next = e.next })
  unfolding emit_of source_mark source_of source_text with_language
  source-language h n = record {
    on = b.on;
    inside = b.inside;
    does = λ v f g. rw (arguments, h, b.wholes, b.rest, n) refl;
  }

  pub source_none : q ≡ None → {x : Bor (List ℕ)} → x.now ≡ trim p.text.now → {l : Bor (List ℕ)} → l.now ≡ [] → Reads source_mark t behind behind (record { what = Shown x l; whole = false; next = e.next })
  unfolding emit_of source_mark source_of source_text with_language
  source_none h n k = record {
    on = b.on;
    inside = b.inside;
    does = λ v f g. rw (arguments, h, b.rest, n, k) refl;
  }

-- THE MARK, commented or not.
-- What a step does behind the mark, unless it is commented.
abbrev pub mark_step : Mark → View → (List ℕ → List ℕ → Emit) → List ℕ → Reader (Did (List ℕ))
mark_step Include = include_mark
mark_step SourceInclude = source_mark

module _ (t : List ℕ) (from at : ℕ) {c : Bool} (y : c ≡ commented (stretch [] (part t from at))) where
  abbrev Step : View → (List ℕ → List ℕ → Emit) → List ℕ → Reader (Did (List ℕ))
  Step = λ v f g. include_step v f g (stretch [] (part t from at))

  step-at : (m : Mark) → IsMark m (drop at t) → (v : View) (f : List ℕ → List ℕ → Emit) (g : List ℕ) → Step v f g (drop at t) ≡ if_r c (ret (copied (mark_text m))) (mark_step m v f g) (drop (at + length (mark_text m)) t)
  unfolding include_step ◌>>=◌ if_r
  step-at Include e v f g = rw (mark_of (bytes "#include") (drop at t) true (mark-is (drop at t) e), drop-drop 8 at t, sym y) refl
  step-at SourceInclude e v f g = rw (mark_of (bytes "#include") (drop at t) false (mark-first (drop at t) e), mark_of (bytes "#source-include") (drop at t) true (mark-is (drop at t) e), drop-drop 15 at t, sym y) refl

  module _ (l : at ≤ length t) {m : Mark} (e : IsMark m (drop at t)) {n : ℕ} (z : n ≡ length (mark_text m)) {r : Read} where
    pub read-commented : c ≡ true → Copies (part t at (at + n)) true (at + n) r → Reads Step t at (at + length (mark_text m)) r
    unfolding copied if_r ret
    read-commented h w =
        let st = mark-stands t at l e in
        let k : Copies (part t at (at + length (mark_text m))) true (at + length (mark_text m)) r = rw z at w in
        record {
          on = omega (arith, k.next);
          inside = omega (arith, k.next, st.inside);
          does = λ v f g. rw (k.emits v f g, k.whole, k.next, st.text) (step-at m e v f g ∙ rw h refl);
        }

    pub read_taken : c ≡ false → Reads (mark_step m) t (at + n) (at + n) r → Reads Step t at (at + length (mark_text m)) r
    unfolding if_r
    read_taken h k =
        let r = rw z at k in
        record {
          on = r.on;
          inside = r.inside;
          does = λ v f g. step-at m e v f g ∙ rw h (r.does v f g);
        }
