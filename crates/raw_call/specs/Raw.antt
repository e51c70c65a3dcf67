-- What a raw call writes, and the ways through it.
use Rattle.std.specs.Prelude.{Option, Some, None, SomeIff, Result, Ok, Err, ◌≡◌, Bool, true, false, ℕ, ◌+◌, ◌-◌, ◌≤◌, ◌<◌, take, drop}
use Rattle.std.proofs.Math.Path.{refl, ap}
use Rattle.std.proofs.Common.{sym, ◌∙◌, true≢false, arith, take_all}
use mathlib.Core.List.{List, ◌++◌}
use Rattle.std.proofs.Math.ListN.{length, length-append, length-drop}
use Rattle.std.proofs.Math.Seq.{drop-drop}
use Rattle.rules.specs.Reader.{bytes, the, ret, ◌>>=◌, ◌>>◌}
use Rattle.rules.specs.Run.{put, ok}
use Rattle.rules.specs.Bytes.{blank, trim_end}
use Rattle.rules.specs.Files.{View}
use Rattle.rules.specs.Sheet.{Lookup}
use Rattle.rules.specs.Expansion.{hands_back, refuses, outputs, raw_text, raw_end, raw_arguments, raw, content}
use Rattle.scan.specs.declared.read.Read.{Read}
use Rattle.scan.specs.Sets.{part, Spans, Sees, Skips, byte_is}
use Rattle.scan.specs.Laws.{tail-part}
use Rattle.paths.specs.Paths.{trim-first}
use Rattle.refusal.specs.declared.Refusal.{Refusal}
use Rattle.refusal.specs.Numbers.{number}
use Rattle.buffers.specs.declared.writer.Writer.{Writer}
use Rattle.buffers.specs.Emits.{write-full}
use Rattle.buffers.specs.Wrote.{Puts, Wrote, same_writer, puts-over, puts-wrote}
use Rattle.calls.specs.Measure.{Measures}
use Rattle.raw_arguments.specs.declared.Args.{Args}
use Rattle.raw_arguments.specs.Args.{lang_text, Given as GivenArgs, IsArguments}
use Rattle.raw_content.specs.declared.Given.{Given}
use Rattle.raw_content.specs.Content.{content_text, Told, Reads}

-- A text between single backticks; a text as a block, with the language L.
abbrev pub line_of : List ℕ → List ℕ
line_of C = bytes "`" ++ (C ++ bytes "`")

abbrev pub block_of : List ℕ → List ℕ → List ℕ
block_of C L = bytes "```" ++ (L ++ (bytes "\n" ++ (C ++ bytes "\n```\n")))

-- The text v is put whole; or it is refused, and nothing is put.
pub record PutsWhole (v : List ℕ) (w w₂ : Writer) (r : Result (Unit {0}) Refusal) : Type 0 where
  pub wrote : Wrote (put v ok) w w₂ r
  pub none : (k : Refusal) → r ≡ Err k → w₂ ≡ w

-- There is no room; there is.
whole-over : (w : Writer) (v : List ℕ) → w.room < w.at + length v → PutsWhole v w w (Err w.full)
whole-over w v h = record { wrote = record { over = same_writer w; emits = record { size = refl; goes = λ z. absurd (true≢false (sym z)); stops = λ z. write-full (number w.full) (w.room - w.at) v ok (omega (arith, h)) } }; none = λ k x. refl }

whole-put : {w w₂ : Writer} {v : List ℕ} {r : Result (Unit {0}) Refusal} → w.at + length v ≤ w.room → Puts v w w₂ r → PutsWhole v w w₂ r
whole-put h s = record { wrote = puts-wrote s; none = λ k x. absurd (omega (arith, h, (puts-over s x).1)) }

-- C: the content, L: the language.
line-long : (C L : List ℕ) → length (raw_text C L false) ≡ 2 + length C
unfolding raw_text
line-long C L = omega (arith, length-append C (bytes "`"))

block-long : (C L : List ℕ) → length (raw_text C L true) ≡ 9 + length L + length (trim_end C)
unfolding raw_text
block-long C L = omega (arith, length-append L (bytes "\n" ++ (trim_end C ++ bytes "\n```\n")), length-append (trim_end C) (bytes "\n```\n"))

-- THE TEXT of a raw call, by the length for which there is room, if there is.
module _ (w : Writer) (C L : List ℕ) {b : Bool} {o : Option ℕ} where
  module _ (e : b ≡ false) (S : SomeIff o (w.at + (2 + length C) ≤ w.room) (length C)) where
    pub line-over : o ≡ None → PutsWhole (raw_text C L b) w w (Err w.full)
    line-over x = let n : ¬ (w.at + (2 + length C) ≤ w.room) = rw x at S in rw e (whole-over w (raw_text C L false) (omega (arith, n, line-long C L)))

    pub line-put : {n : ℕ} → o ≡ Some n → {w₂ : Writer} {r : Result (Unit {0}) Refusal} → Puts (line_of (take n C)) w w₂ r → PutsWhole (raw_text C L b) w w₂ r
    unfolding raw_text
    line-put {n} x s =
        let y : (w.at + (2 + length C) ≤ w.room) × (n ≡ length C) = rw x at S in
        rw e (whole-put (omega (arith, y.0, line-long C L)) (rw (take_all n C (omega (arith, y.1))) at s))

  module _ (e : b ≡ true) (S : SomeIff o (w.at + (9 + length L + length (trim_end C)) ≤ w.room) (length (trim_end C))) where
    pub block-over : o ≡ None → PutsWhole (raw_text C L b) w w (Err w.full)
    block-over x = let n : ¬ (w.at + (9 + length L + length (trim_end C)) ≤ w.room) = rw x at S in rw e (whole-over w (raw_text C L true) (omega (arith, n, block-long C L)))

    pub block-put : {n : ℕ} → o ≡ Some n → {w₂ : Writer} {r : Result (Unit {0}) Refusal} → Puts (block_of (take n C) L) w w₂ r → PutsWhole (raw_text C L b) w w₂ r
    unfolding raw_text
    block-put {n} x s =
        let y : (w.at + (9 + length L + length (trim_end C)) ≤ w.room) × (n ≡ length (trim_end C)) = rw x at S in
        rw e (whole-put (omega (arith, y.0, block-long C L)) (rw (ap (λ z. take z C) y.1 ∙ trim-first C) at s))

-- THE CALL, by what was read: the content c behind the blanks, which is b from the call on; and the arguments behind that.
module _ (v : View) (look : Lookup) {t : List ℕ} {i : ℕ} (l : Spans blank t 0 i) {room : ℕ} {c : Read (Result (Option Given) Refusal)} (R : Reads room (content v look (part t i (length t))) look (part t i (length t)) c) where
  is_read : Reads room (content v look (drop i t)) look (drop i t) c
  is_read = rw (tail-part t i) at R

  pub content-inside : i + c.used ≤ length t
  content-inside = omega (arith, l.inside, is_read.inside, length-drop i t)

  module _ {b : Read (Result (Option Given) Refusal)} (B : b ≡ record { what = c.what; used = i + c.used }) where
    pub inside : b.used ≤ length t
    inside = omega (arith, content-inside, ap (λ z. z.used) B)

    rest-is : (content v look (drop i t)).1 ≡ drop b.used t
    rest-is = is_read.rest ∙ drop-drop c.used i t ∙ ap (λ z. drop z.used t) (sym B)

    told-is : {q : Result (Option Given) Refusal} → b.what ≡ q → Told room look (content v look (drop i t)).0 q
    told-is x = rw (sym (ap (λ z. z.what) B) ∙ x) at is_read.told

    pub raw-refused : {k : Refusal} → b.what ≡ Err k → (raw v look t).0 ≡ refuses (number k)
    unfolding raw raw_arguments Told ◌>>=◌ ◌>>◌ ret
    raw-refused e = rw (l.rest, told-is e) refl

    pub raw-back : b.what ≡ Ok None → raw v look t ≡ (hands_back, drop b.used t)
    unfolding raw raw_arguments Told ◌>>=◌ ◌>>◌ ret
    raw-back e = rw (l.rest, told-is e, rest-is) refl

    module _ {x : Given} (e : b.what ≡ Ok (Some x)) where
      pub raw-measures : Measures room (content_text look x.content) x.size
      unfolding Told
      raw-measures = (told-is e).1

      module _ {g : Result (Read Args) Refusal} (a : IsArguments look (part t b.used (length t)) g) where
        pub raw-stalled : {k : Refusal} → g ≡ Err k → (raw v look t).0 ≡ refuses (number k)
        unfolding raw raw_arguments raw_end IsArguments Told ◌>>=◌ ◌>>◌ ret
        raw-stalled h = let q = rw (h, tail-part t b.used) at a in rw (l.rest, (told-is e).0, rest-is, q.1, q.0) refl

        module _ {r : Read Args} (h : g ≡ Ok r) where
          given-args : GivenArgs look (drop b.used t) r
          unfolding IsArguments
          given-args = rw (h, tail-part t b.used) at a

          pub arguments-inside : b.used + r.used ≤ length t
          arguments-inside = omega (arith, inside, given-args.inside, length-drop b.used t)

          pub raw-output : {d : Read Args} → d ≡ record { what = r.what; used = b.used + r.used } → {w : Bool} {j : ℕ} → Sees (byte_is 41) t d.used w → Skips t d.used j → raw v look t ≡ (outputs w (raw_text (content_text look x.content) (lang_text look d.what.lang) d.what.block), drop j t)
          unfolding raw raw_arguments raw_end Told the ◌>>=◌ ◌>>◌ ret
          raw-output D = rw D (λ s k. rw (l.rest, (told-is e).0, rest-is, given-args.ends, drop-drop r.used b.used t, s.says, k.rest) refl)
