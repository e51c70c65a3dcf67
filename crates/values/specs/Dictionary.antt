-- A value by what stands at its place, and a dictionary entry by entry.
use Rattle.std.specs.Prelude.{◌≡◌, List, [], ◌∷◌, Bool, true, false, ℕ, zero, suc, ◌+◌, ◌-◌, ◌≤◌, ◌<◌, eqb, Option as Maybe, Some, None, Result, Ok, Err, length, drop}
use Rattle.std.proofs.Math.Path.{refl, ap, subst}
use Rattle.std.proofs.Common.{sym, ◌∙◌, true≢false, arith, length-append, length-drop, drop-drop, le-leb, eqb-true}
use Rattle.std.proofs.lemmas.Bool.{lt-leb}
use Rattle.std.specs.Borrow.{Bor}
use Rattle.rules.specs.Answer.{Answer, refused, accepted}
use Rattle.rules.specs.Reader.{Reader, ret, if_r, ◌>>=◌, ◌>>◌, bytes, but, the, either, sees, prefix, rounds, Turn, again, stop}
use Rattle.rules.specs.Bytes.{blank, line_blank, letter, name_byte}
use Rattle.rules.specs.Sheet.{Value, nothing, dictionary, Records, end, encode, field_bytes, word16_bytes, value_length, Lookup, set}
use Rattle.rules.specs.Definitions.{text_value, value, grown, entry_round, dictionary_value}
use Rattle.rules.proofs.Laws.Bool.{and_l}
use Rattle.rules.proofs.Laws.Enough.{Moving, rounds-again, rounds-stop}
use Rattle.rules.proofs.Laws.Entries.{shrinks-dictionary, entry-moving}
use Rattle.scan.specs.Sets.{part, Spans, Sees, Skips, Starts, byte_is, not_byte}
use Rattle.scan.specs.Laws.{sees-the, mark-yes, mark-no}
use Rattle.scan.specs.Stretches.{spans-but, spans-later}
use Rattle.places.specs.Place.{one-some}
use Rattle.places.specs.Mark.{ascending, set-ascending}
use Rattle.refusal.specs.declared.Refusal.{Refusal}
use Rattle.refusal.specs.Numbers.{number}
use Rattle.binding.specs.Write.{IsSource, set-size}
use Rattle.binding.specs.Buffer.{bytes_in, held, Binds, Leaves}
use Rattle.binding.specs.declared.buffer.RecordBuffer.{RecordBuffer}
use Rattle.scan.specs.declared.read.Read.{Read}
use Rattle.values.specs.declared.ValueBytes.{ValueBytes}
use Rattle.values.specs.Values.{IsRead, IsNone, IsDictionary}

-- VALUES. What is read from i on, of a text whose rest the rules read.
module _ {limit : ℕ} {t : List ℕ} {i : ℕ} (h : i ≤ length t) {x y : Answer Value × List ℕ} (e : x ≡ y) {u : List ℕ} (p : u ≡ drop i t) where
  pub read-behind : {r q : Read ValueBytes} → IsRead limit y u r → q ≡ record { what = r.what; used = i + r.used } → IsRead limit x t q
  read-behind {r} {q} R g = rw (e, g) (record {
    v = R.v;
    is = R.is;
    rest = R.rest ∙ ap (drop r.used) p ∙ drop-drop r.used i t;
    inside = omega (arith, R.inside, ap length p, length-drop i t);
    fits = R.fits;
    source = R.source;
  })

read-none : {limit : ℕ} {x : Answer Value × List ℕ} {t : List ℕ} {i : ℕ} → x ≡ (accepted nothing, drop i t) → i ≤ length t → {r : Read ValueBytes} → IsNone i r → IsRead limit x t r
read-none {t = t} {i = i} e h {r} N = record {
  v = nothing;
  is = ap (λ x. x.0) e;
  rest = ap (λ x. x.1) e ∙ ap (λ x. drop x t) (sym N.place);
  inside = omega (arith, N.place);
  fits = omega (arith, ap length N.none);
  source = rw N.none N.source;
}

-- A `(` is no quote.
open-no-quote : (u : List ℕ) → prefix (bytes "(") u ≡ true → sees (the "\"") u ≡ (false, u)
unfolding prefix sees the
open-no-quote [] h = absurd (true≢false (sym h))
open-no-quote (x ∷ xs) h = rw (sym (eqb-true 40 x (and_l (eqb 40 x) (prefix [] xs) h))) refl

-- The line blanks end at i: a dictionary, or what stands there, u.
module _ {t : List ℕ} {i : ℕ} (X : Spans line_blank t 0 i) where
  module _ {d : Bool} (D : Starts (bytes "(") t i d) where
    pub value_open : (limit : ℕ) (look : Lookup) (inner : Reader (Answer Value)) → d ≡ true → {u : List ℕ} → u ≡ drop (i + 1) t → value limit look inner t ≡ inner u
    unfolding value ◌>>=◌ ◌>>◌ if_r
    value_open limit look inner e p = rw (X.rest, open-no-quote (drop i t) (D.says ∙ e), mark-yes D e, p) refl

    pub not-open : d ≡ false → {u : List ℕ} → u ≡ drop i t → Starts (bytes "(") u 0 false
    not-open e p = rw p (record { says = D.says ∙ e; there = λ z. absurd (true≢false (sym z)) })

  module _ {u : List ℕ} (p : u ≡ drop i t) where
    here : Spans line_blank t i i
    here = spans-later X X.on (omega arith)

    pub value_here : (limit : ℕ) (look : Lookup) (inner : Reader (Answer Value)) → value limit look inner t ≡ value limit look inner u
    unfolding value ◌>>=◌ ◌>>◌
    value_here limit look inner = rw (p, X.rest, here.rest) refl

    pub spans-here : Spans line_blank u 0 0
    spans-here = let z : i - i ≡ 0 = omega arith in rw p (record { on = omega arith; inside = omega arith; took = rw z at here.took; rest = here.rest })

-- No line blank and no `(` stands first.
module _ (limit : ℕ) (look : Lookup) (inner : Reader (Answer Value)) {t : List ℕ} (X : Spans line_blank t 0 0) (D : Starts (bytes "(") t 0 false) {q : Bool} (Q : Sees (byte_is 34) t 0 q) where
  pub value-quote : q ≡ true → value limit look inner t ≡ text_value limit look t
  unfolding value ◌>>=◌ ◌>>◌ if_r
  value-quote e = rw (X.rest, (sees-the "\"" Q e).says) refl

  module _ (nq : q ≡ false) {n : Bool} (N : Starts (bytes "none") t 0 n) where
    pub value_none : n ≡ true → {r : Read ValueBytes} → IsNone 4 r → IsRead limit (value limit look inner t) t r
    unfolding value ◌>>=◌ ◌>>◌ if_r ret
    value_none e = read-none (rw (X.rest, (sees-the "\"" Q nq).says, mark-no D refl, mark-yes N e) refl) (N.there e)

    module _ (nn : n ≡ false) {a : Bool} (A : Sees (either "_" letter) t 0 a) where
      pub value-name : a ≡ true → value limit look inner t ≡ text_value limit look t
      unfolding value ◌>>=◌ ◌>>◌ if_r
      value-name e = rw (X.rest, (sees-the "\"" Q nq).says, mark-no D refl, mark-no N nn, A.says, e) refl

      pub value-other : a ≡ false → {e : ℕ} → Spans (not_byte 10) t 0 e → {r : Read ValueBytes} → IsNone e r → IsRead limit (value limit look inner t) t r
      unfolding value ◌>>=◌ ◌>>◌ if_r ret
      value-other g S = read-none (rw (X.rest, (sees-the "\"" Q nq).says, mark-no D refl, mark-no N nn, A.says, g, (spans-but "\n" S).rest) refl) S.inside

-- ENTRIES. What a round comes to behind the name of an entry, where u is left; or behind the `)`, or at the end.
unfoldable pub entry_turn : ℕ → Lookup → Reader (Answer Value) → Records → Maybe (Bor (List ℕ)) → List ℕ → Turn Records (Answer Value) × List ℕ
entry_turn limit look inner d None u = (stop (accepted (dictionary d)), u)
entry_turn limit look inner d (Some k) u = (grown limit look d k.now (value limit look inner u).0, (value limit look inner u).1)

-- What t begins with, whatever the records are: an entry, up to its value, or the end.
pub record NextEntry (t : List ℕ) (r : Read (Maybe (Bor (List ℕ)))) : Type 0 where
  pub inside : r.used ≤ length t
  pub turns : (limit : ℕ) (look : Lookup) (inner : Reader (Answer Value)) (d : Records) → entry_round limit look inner d t ≡ entry_turn limit look inner d r.what (drop r.used t)

module _ {t : List ℕ} {j : ℕ} (X : Spans (either "," blank) t 0 j) {m : Bool} (M : Sees (but ")") t j m) where
  pub entry_none : m ≡ false → {s : ℕ} → Skips t j s → NextEntry t (record { what = None; used = s })
  unfolding entry_turn entry_round ◌>>=◌ ◌>>◌ if_r ret
  entry_none e S = record { inside = S.inside; turns = λ limit look inner d. rw (X.rest, M.says, e, S.rest) refl }

  pub entry-some : m ≡ true → {k : ℕ} → Spans name_byte t j k → {a : ℕ} → Spans (either ":" blank) t k a → {n : Bor (List ℕ)} → n.now ≡ part t j k → NextEntry t (record { what = Some n; used = a })
  unfolding entry_turn entry_round ◌>>=◌ ◌>>◌ if_r ret
  entry-some e K A x = record { inside = A.inside; turns = λ limit look inner d. rw (X.rest, M.says, e, K.rest, K.took, A.rest, x) refl }

-- DICTIONARIES. No level is left.
pub dictionary_seven : (limit : ℕ) (look : Lookup) {l : ℕ} (t : List ℕ) → l ≡ 0 → (dictionary_value limit look l t).0 ≡ refused 7
unfolding dictionary_value ret
dictionary_seven limit look t e = ap (λ x. (dictionary_value limit look x t).0) e

-- How long a dictionary's value is.
dictionary-length : (d : Records) → value_length (dictionary d) ≡ 3 + length (encode d)
unfolding value_length encode field_bytes word16_bytes
dictionary-length d = omega (arith, length-append (encode d) [])

set-some : (d : Records) (k : List ℕ) (v : Value) → 0 < length (encode (set d k v))
set-some d k v = omega (arith, set-size d k v, one-some k v)

module _ (L : ℕ) (look : Lookup) (d : Records) (k : List ℕ) (v : Value) where
  grown-over : L - 3 < length (encode (set d k v)) → grown L look d k (accepted v) ≡ stop (refused 9)
  unfolding grown
  grown-over h = rw (lt-leb (value_length (dictionary (set d k v))) L (omega (arith, dictionary-length (set d k v), set-some d k v)), grown) refl

  grown-fits : length (encode (set d k v)) ≤ L - 3 → grown L look d k (accepted v) ≡ again (set d k v)
  unfolding grown
  grown-fits h = rw (le-leb (value_length (dictionary (set d k v))) L (omega (arith, dictionary-length (set d k v), set-some d k v)), grown) refl

-- The records d stand in b, in order and within its limit, and the text up to i is read.
pub record Entering (limit l : ℕ) (look : Lookup) (t : List ℕ) (b : RecordBuffer) (i : ℕ) : Type 0 where
  pub inside : i ≤ length t
  pub room : b.limit ≡ limit - 3
  pub within : b.len ≤ b.limit
  pub d : Records
  pub bytes : bytes_in b ≡ encode d
  pub order : ascending d ≡ true
  pub left : dictionary_value limit look l t ≡ rounds (entry_round limit look (dictionary_value limit look (l - 1))) (λ d. accepted (dictionary d)) d (drop i t)

dictionary-rounds : (limit l : ℕ) (look : Lookup) (u : List ℕ) → (l ≡ 0 → ⊥) → dictionary_value limit look l u ≡ rounds (entry_round limit look (dictionary_value limit look (l - 1))) (λ d. accepted (dictionary d)) end u
unfolding dictionary_value
dictionary-rounds limit zero look u h = absurd (h refl)
dictionary-rounds limit (suc l) look u h = let e : suc l - 1 ≡ l = omega arith in rw e refl

pub entering-start : (limit l : ℕ) (look : Lookup) (t : List ℕ) (b : RecordBuffer) → b.limit ≡ limit - 3 → b.len ≡ 0 → (l ≡ 0 → ⊥) → Entering limit l look t b 0
unfolding encode ascending
entering-start limit l look t b e z k = record { inside = omega arith; room = e; within = omega arith; d = end; bytes = rw z refl; order = refl; left = dictionary-rounds limit l look t k }

module _ (limit l : ℕ) (look : Lookup) {t : List ℕ} {b : RecordBuffer} {i : ℕ} (E : Entering limit l look t b i) where
  abbrev round : Records → Reader (Turn Records (Answer Value))
  round = entry_round limit look (dictionary_value limit look (l - 1))

  moving : Moving round (λ d. accepted (dictionary d))
  moving = entry-moving limit look (dictionary_value limit look (l - 1)) (shrinks-dictionary limit look (l - 1))

  stopped : {a : Answer Value} → (round E.d (drop i t)).0 ≡ stop a → dictionary_value limit look l t ≡ (a, (round E.d (drop i t)).1)
  stopped {a} h = E.left ∙ rounds-stop round (λ d. accepted (dictionary d)) moving E.d a (drop i t) h

  -- An entry is read from i on, or the end.
  module _ {u : List ℕ} (p : u ≡ drop i t) {n : Read (Maybe (Bor (List ℕ)))} (N : NextEntry u n) {e : Read (Maybe (Bor (List ℕ)))} (z : e ≡ record { what = n.what; used = i + n.used }) where
    turns : round E.d (drop i t) ≡ entry_turn limit look (dictionary_value limit look (l - 1)) E.d e.what (drop e.used t)
    turns = rw z (ap (round E.d) (sym p) ∙ N.turns limit look (dictionary_value limit look (l - 1)) E.d ∙ ap (entry_turn limit look (dictionary_value limit look (l - 1)) E.d n.what) (ap (drop n.used) p ∙ drop-drop n.used i t))

    inside-at : e.used ≤ length t
    inside-at = rw z (omega (arith, N.inside, ap length p, length-drop i t, E.inside))

    pub entering_close : e.what ≡ None → {r : Read ValueBytes} → IsDictionary (bytes_in b) e.used r → IsRead limit (dictionary_value limit look l t) t r
    unfolding entry_turn
    entering_close x {r} C =
        let a : round E.d (drop i t) ≡ (stop (accepted (dictionary E.d)), drop e.used t) = rw x at turns in
        let h = stopped (ap (λ x. x.0) a) in
        record {
          v = dictionary E.d;
          is = ap (λ x. x.0) h;
          rest = ap (λ x. x.1) h ∙ ap (λ x. x.1) a ∙ ap (λ x. drop x t) (sym C.place);
          inside = omega (arith, inside-at, C.place);
          fits = omega (arith, E.room, ap length C.own, held b, E.within);
          source = rw C.own (C.source E.d E.bytes);
        }

    -- Its name is k, and u₂ is left.
    module _ {k : Bor (List ℕ)} (x : e.what ≡ Some k) {u₂ : List ℕ} (p₂ : u₂ ≡ drop e.used t) where
      entry-reads : round E.d (drop i t) ≡ (grown limit look E.d k.now (value limit look (dictionary_value limit look (l - 1)) u₂).0, (value limit look (dictionary_value limit look (l - 1)) u₂).1)
      unfolding entry_turn
      entry-reads = rw p₂ (rw x at turns)

      -- Its value is refused.
      pub entering-no : {q : ℕ} → (value limit look (dictionary_value limit look (l - 1)) u₂).0 ≡ refused q → (dictionary_value limit look l t).0 ≡ refused q
      unfolding grown
      entering-no {q} h = ap (λ x. x.0) (stopped (ap (λ x. x.0) entry-reads ∙ ap (grown limit look E.d k.now) h))

      -- Its value is v.
      module _ {v : Read ValueBytes} (V : IsRead limit (value limit look (dictionary_value limit look (l - 1)) u₂) u₂ v) where
        abbrev further : ℕ
        further = e.used + v.used

        abbrev bound : Records
        bound = set E.d k.now V.v

        turned : round E.d (drop i t) ≡ (grown limit look E.d k.now (accepted V.v), drop further t)
        turned = entry-reads ∙ λ y. (grown limit look E.d k.now (V.is y), (V.rest ∙ ap (drop v.used) p₂ ∙ drop-drop v.used e.used t) y)

        entry-inside : further ≤ length t
        entry-inside = omega (arith, V.inside, ap length p₂, length-drop e.used t, inside-at)

        -- It was bound, or is too long.
        module _ {c : RecordBuffer} {q : Result (Unit {0}) Refusal} (B : (x : Value) → IsSource x v.what.lead v.what.own.now → Binds b k.now x c q) where
          leaves : Leaves b (encode bound) c q
          leaves = (B V.v V.source).leaves E.d E.bytes

          pub entering-over : {y : Refusal} → q ≡ Err y → (dictionary_value limit look l t).0 ≡ refused (number y)
          unfolding Leaves
          entering-over {y} g =
              let h : Leaves {A = Unit {0}} b (encode bound) c (Err y) = rw g at leaves in
              rw h.0 (ap (λ x. x.0) (stopped (ap (λ x. x.0) turned ∙ grown-over limit look E.d k.now V.v (omega (arith, E.room, h.1)))))

          module _ {y : Unit {0}} (g : q ≡ Ok y) where
            stands : (bytes_in c ≡ encode bound) × (length (encode bound) ≤ b.limit)
            unfolding Leaves
            stands = rw g at leaves

            goes_on : (round E.d (drop i t)).0 ≡ again bound
            goes_on = ap (λ x. x.0) turned ∙ grown-fits limit look E.d k.now V.v (omega (arith, stands.1, E.room))

            pub entering-on : Entering limit l look t c further
            entering-on =
                let same = (B V.v V.source).over in
                record {
                  inside = entry-inside;
                  room = same.limit ∙ E.room;
                  within = omega (arith, ap length stands.0, stands.1, held c, same.limit);
                  d = bound;
                  bytes = stands.0;
                  order = set-ascending E.d k.now V.v E.order;
                  left = E.left ∙ rounds-again round (λ d. accepted (dictionary d)) moving E.d bound (drop i t) goes_on ∙ ap (λ y. rounds round (λ d. accepted (dictionary d)) bound y.1) turned;
                }

            pub entering-moves : (i < further) × (further ≤ length t)
            entering-moves =
                let m = moving E.d bound (drop i t) goes_on in
                let y : length (drop further t) < length (drop i t) = subst (λ u. length u < length (drop i t)) (ap (λ u. u.1) turned) m in
                (omega (arith, length-drop further t, length-drop i t, entry-inside), entry-inside)
