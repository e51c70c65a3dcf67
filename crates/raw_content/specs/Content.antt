-- A raw call's content.
use Rattle.std.specs.Prelude.{Option, Some, None, MatchOption, Result, Ok, Err, ◌≡◌, List, [], ◌∷◌, Bool, true, false, ℕ, suc, ◌+◌, ◌≤◌, ◌<◌, eqb, length, take, drop}
use Rattle.std.specs.Borrow.{Bor, MutBor}
use Rattle.std.specs.Option.{unwrap_or}
use lib.Pointwise.{pointwise}
use Rattle.std.proofs.Math.Bool.{and-true}
use Rattle.std.proofs.Math.Path.{refl}
use Rattle.std.proofs.Common.{sym, ap, ◌∙◌, true≢false, arith}
use Rattle.std.proofs.Math.ListN.{length-drop}
use Rattle.std.proofs.Math.Nat.{sub-zero}
use Rattle.std.proofs.Math.Seq.{drop-drop}
use Rattle.rules.specs.Answer.{Answer, refused, accepted}
use Rattle.rules.specs.Reader.{bytes, but, prefix, mark, ret, if_r, ◌>>=◌, ◌>>◌}
use Rattle.rules.specs.Bytes.{blank, run_byte, underscored}
use Rattle.rules.specs.Sheet.{Lookup, text_of}
use Rattle.rules.specs.Strings.{reference, expression}
use Rattle.rules.specs.Files.{View, opened}
use Rattle.rules.specs.Expansion.{Content as What, handed_back, no_content, given, raw_content, without_slash, read_call, content}
use Rattle.scan.specs.declared.read.Read.{Read}
use Rattle.scan.specs.Sets.{part, Spans, Skips, Sees, Starts, byte_is}
use Rattle.scan.specs.Laws.{sees-the, skips-at, mark_of, mark-yes, mark-no, tail-part}
use Rattle.bundle.specs.Find.{eqb_comm}
use Rattle.bundle.specs.Open.{long-opened}
use Rattle.refusal.specs.declared.Refusal.TheVariants.{Path as TooLong}
use Rattle.buffers.specs.declared.writer.Writer.{Writer}
use Rattle.buffers.specs.Wrote.{Begins, puts-over, puts-first}
use Rattle.strings.specs.Written.{Written}
use Rattle.refusal.specs.Numbers.{number}
use Rattle.refusal.specs.declared.Refusal.{Refusal}
use Rattle.calls.specs.declared.measure.Measure.{Measure}
use Rattle.calls.specs.Measure.{Measures, MeasuresRead}
use Rattle.raw_content.specs.declared.Content.{Content}
use Rattle.raw_content.specs.declared.Content.TheVariants.{Expression, Text}
use Rattle.raw_content.specs.declared.Given.{Given}

-- A content's text: `look` answers the text that a lookup gives.
unfoldable pub content_text : Lookup → Content → List ℕ
content_text look (Expression t) = (expression look t.now).0
content_text look (Text t) = t.now

-- What the rules read is what is told, and measures what is told, as far as the room goes.
unfoldable pub Told : ℕ → Lookup → What → Result (Option Given) Refusal → Type 0
Told room look c (Ok None) = c ≡ handed_back
Told room look c (Ok (Some g)) = (c ≡ given (content_text look g.content)) × Measures room (content_text look g.content) g.size
Told room look c (Err k) = c ≡ no_content (number k)

-- c: what the rules read from the text t, and its rest.
pub record Reads (room : ℕ) (c : What × List ℕ) (look : Lookup) (t : List ℕ) (r : Read (Result (Option Given) Refusal)) : Type 0 where
  pub inside : r.used ≤ length t
  pub rest : c.1 ≡ drop r.used t
  pub told : Told room look c.0 r.what

-- THE PATH OF A FILE. One leading `/`.
slash-at : (x : ℕ) (xs : List ℕ) (c : Bool) → eqb 47 x ≡ c → without_slash (x ∷ xs) ≡ elim c [ true ↦ xs | false ↦ x ∷ xs ]
unfolding without_slash prefix
slash-at x xs true e = ap (λ z. z.1) (mark_of (bytes "/") (x ∷ xs) true (rw e refl))
slash-at x xs false e = ap (λ z. z.1) (mark_of (bytes "/") (x ∷ xs) false (rw e refl))

slash-is : (p : List ℕ) (c : Bool) → pointwise eqb (take 1 p) (47 ∷ []) ≡ c → without_slash p ≡ elim c [ true ↦ drop 1 p | false ↦ p ]
slash-is [] true e = absurd (true≢false (sym e))
slash-is [] false e = unfold without_slash mark prefix in refl
slash-is (x ∷ xs) c e = slash-at x xs c (eqb_comm 47 x ∙ sym (and-true (eqb x 47)) ∙ e)

-- A path that a leading `/` was taken from, if it has one.
pub stripped : (p : Bor (List ℕ)) (o : Option (Bor (List ℕ))) → MatchOption o (pointwise eqb (take 1 p.now) (47 ∷ []) ≡ false) (λ x. (pointwise eqb (take 1 p.now) (47 ∷ []) ≡ true) × (x.now ≡ drop 1 p.now) × (length x.now + 1 ≡ length p.now)) → without_slash p.now ≡ (unwrap_or o p).now
stripped p None h = slash-is p.now false h
stripped p (Some x) h = slash-is p.now true h.0 ∙ sym h.1

slash-length : (p : List ℕ) → length p ≤ suc (length (without_slash p))
slash-length [] = omega arith
slash-length (x ∷ xs) = at (eqb 47 x) refl
  where
    at : (c : Bool) → eqb 47 x ≡ c → suc (length xs) ≤ suc (length (without_slash (x ∷ xs)))
    at true e = omega (arith, ap length (slash-at x xs true e))
    at false e = omega (arith, ap length (slash-at x xs false e))

-- A path that is too long.
pub path-long : (v : View) (p : List ℕ) → 256 < length p → opened v (without_slash p) ≡ refused 4
path-long v p h = long-opened v (without_slash p) (omega (arith, h, slash-length p))

-- A file that is opened, or refused.
module _ (room : ℕ) (look : Lookup) {a : Answer (List ℕ)} where
  pub file-given : {f : List ℕ} → a ≡ accepted f → (q : Result (Option Given) Refusal) → Told room look (given f) q → Told room look (raw_content a) q
  unfolding raw_content
  file-given e q d = rw e d

  pub file-refused : {k : Refusal} → a ≡ refused (number k) → {q : Result (Option Given) Refusal} → q ≡ Err k → Told room look (raw_content a) q
  unfolding raw_content Told
  file-refused e x = rw (x, e) refl

-- `read`, by what the scans gave.
module _ (room : ℕ) (v : View) (look : Lookup) {t : List ℕ} {i : ℕ} (l : Spans blank t 0 i) {c : Bool} (q : Sees (byte_is 40) t i c) where
  pub read-back : c ≡ false → Reads room (read_call v look t) look t (record { what = Ok None; used = i })
  unfolding read_call Told ◌>>=◌ ◌>>◌ if_r ret
  read-back e = record { inside = l.inside; rest = rw (l.rest, (sees-the "(" q e).says) refl; told = rw (l.rest, (sees-the "(" q e).says) refl }

  abbrev Path : List ℕ
  Path = (expression look (part t (i + 1) (length t))).0

  -- Its path is put by a writer into 256 bytes, one more than a path may have.
  module _ (e : c ≡ true) {p : Read (Result (Unit {0}) Refusal)} {w w₂ : Writer} (P : Written (expression look (part t (i + 1) (length t))) (part t (i + 1) (length t)) w w₂ p) {o : MutBor (List ℕ)} (b : Begins o TooLong w) where
    file-is : (read_call v look t).0 ≡ raw_content (opened v (without_slash Path))
    file-is = behind ∙ ap (λ z. raw_content (opened v (without_slash (expression look z).0))) (sym (tail-part t (i + 1)))
      where
        behind : (read_call v look t).0 ≡ raw_content (opened v (without_slash (expression look (drop (i + 1) t)).0))
        behind = unfold read_call ◌>>=◌ ◌>>◌ if_r ret in (rw (l.rest, (sees-the "(" q e).says, (skips-at t i (q.there e)).rest) refl)

    -- Too long a path.
    pub told-long : length o.now ≡ 256 → {k : Refusal} → p.what ≡ Err k → {f : Result (Option Given) Refusal} → f ≡ Err k → Told room look (read_call v look t).0 f
    told-long n {k} h x =
        let d = puts-over P.puts h in
        let four : number k ≡ 4 = ap number (d.0 ∙ b.full) in
        rw file-is (file-refused room look (path-long v Path (omega (arith, d.1, b.room, n, b.at)) ∙ ap refused (sym four)) x)

    -- It is put.
    pub told-file : {u : Unit {0}} → p.what ≡ Ok u → {x : List ℕ} → x ≡ take w₂.at w₂.out.now → (f : Result (Option Given) Refusal) → Told room look (raw_content (opened v (without_slash x))) f → Told room look (read_call v look t).0 f
    told-file h {x} y f d = rw (file-is ∙ ap (λ z. raw_content (opened v (without_slash z))) (sym (y ∙ puts-first P.puts h b.at (b.room ∙ sym (ap (λ z. length z.now) b.same))))) d

    pub read-file : {j m : ℕ} → Spans (but ")") t (i + 1 + p.used) j → Skips t j m → (f : Result (Option Given) Refusal) → Told room look (read_call v look t).0 f → Reads room (read_call v look t) look t (record { what = f; used = m })
    read-file {j} {m} z s f d = record { inside = s.inside; rest = rest; told = d }
      where
        behind : (expression look (drop (i + 1) t)).1 ≡ drop (i + 1 + p.used) t
        behind = (rw (tail-part t (i + 1)) at P.ends.rest) ∙ drop-drop p.used (i + 1) t

        rest : (read_call v look t).1 ≡ drop m t
        rest = unfold read_call ◌>>=◌ ◌>>◌ if_r ret in (rw (l.rest, (sees-the "(" q e).says, (skips-at t i (q.there e)).rest, behind, z.rest, s.rest) refl)

-- The content, by what the scans gave.
module _ (v : View) (look : Lookup) {t : List ℕ} {c : Bool} (q : Sees (byte_is 34) t 0 c) where
  pub content-expression : c ≡ true → {room : ℕ} {b : Bor (List ℕ)} → b.now ≡ t → {m : Read Measure} → MeasuresRead room (expression look t) t m → Reads room (content v look t) look t (record { what = Ok (Some (record { content = Expression b; size = m.what })); used = m.used })
  unfolding content content_text Told ◌>>=◌ ◌>>◌ if_r ret
  content-expression e h w = record {
    inside = w.ends.inside;
    rest = rw (sees-the "\"" q e).says w.ends.rest;
    told = (rw ((sees-the "\"" q e).says, h) refl, rw h w.size);
  }

  module _ (e : c ≡ false) {d : Bool} (m : Starts (bytes "read") t 0 d) where
    call-is : d ≡ true → content v look t ≡ read_call v look (drop 4 t)
    unfolding content ◌>>=◌ ◌>>◌ if_r ret
    call-is y = rw ((sees-the "\"" q e).says, mark-yes m y) refl

    pub content-read : d ≡ true → {room : ℕ} {r : Read (Result (Option Given) Refusal)} → Reads room (read_call v look (part t 4 (length t))) look (part t 4 (length t)) r → Reads room (content v look t) look t (record { what = r.what; used = 4 + r.used })
    content-read y {room} {r} w₀ =
        let w : Reads room (read_call v look (drop 4 t)) look (drop 4 t) r = rw (tail-part t 4) at w₀ in
        record {
          inside = omega (arith, m.there y, w.inside, length-drop 4 t);
          rest = ap (λ z. z.1) (call-is y) ∙ w.rest ∙ drop-drop r.used 4 t;
          told = rw (call-is y) w.told;
        }

    pub content-reference : d ≡ false → {k : ℕ} → Spans run_byte t 0 k → {x : List ℕ} → x ≡ text_of (look (underscored (take k t))) → {room : ℕ} (g : Result (Option Given) Refusal) → Told room look (given x) g → Reads room (content v look t) look t (record { what = g; used = k })
    unfolding content reference ◌>>=◌ ◌>>◌ if_r ret
    content-reference y r X g w = record {
      inside = r.inside;
      rest = rw ((sees-the "\"" q e).says, mark-no m y, r.rest) refl;
      told = rw ((sees-the "\"" q e).says, mark-no m y, r.took, sub-zero, sym X) w;
    }
