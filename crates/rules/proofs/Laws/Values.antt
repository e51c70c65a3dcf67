-- What the readers of strings and definitions (01, sections 3 and 7) answer, on a text of bytes below 128.
use Rattle.std.specs.Prelude.{◌≡◌, Bool, ◌&&◌, leb, length}
use Rattle.std.proofs.Math.Path.{refl}
use mathlib.Core.List.{List, [], ◌∷◌}
use Rattle.std.proofs.Math.Bool.{true, false}
use Prim.Native.Nat.{ℕ, zero, suc}
use Rattle.rules.specs.Answer.{Answer, refused, accepted, is_refusal}
use Rattle.rules.specs.Reader.{Reader, ret, if_r, ◌>>=◌, ◌>>◌, the, all, span, loop, rounds, Turn, again, stop}
use Rattle.rules.specs.Run.{Did}
use Rattle.rules.specs.Bytes.{ascii, word, name_byte, underscored}
use Rattle.rules.specs.Sheet.{Value, dictionary, Records, end, set, value_length, good_value, good_records, Lookup, resolve, text_of}
use Rattle.rules.specs.Strings.{escape, onto, literal_from, literal, reference, plus, expression_round, expression}
use Rattle.rules.specs.Definitions.{measured, text_value, value, grown, entry_round, dictionary_value, Names, star, listed, listed_more, word_round, names, bound, let_bound, import_step, let_step, definition_step}
use Rattle.rules.proofs.Laws.Bool.{and_l, and_r, and_i}
use Rattle.rules.proofs.Laws.Numbers.{numbered_e}
use Rattle.rules.proofs.Laws.Texts.{all_append, span-all, Clean, clean-span, clean-sees, clean-mark, clean-skip, underscored-words}
use Rattle.rules.proofs.Laws.Sheet.{set-good, resolve-ascii}

-- What has P on both sides of a test has it.
if_has : {A : Type 0} (P : A → Type 0) (c : Bool) {a b : A} → P a → P b → P (elim c [ true ↦ a | false ↦ b ])
if_has P true f g = f
if_has P false f g = g

-- Refused with a number of section 8, or accepted with what has p.
unfoldable pub numbered_or : {A : Type 0} → (A → Bool) → Answer A → Bool
numbered_or p (refused k) = is_refusal k
numbered_or p (accepted a) = p a

-- What was read has q, and the text behind it has bytes below 128 only.
pub record Read {A : Type 0} (q : A → Bool) (x : A × List ℕ) : Type 0 where
  pub answer : q x.0 ≡ true
  pub behind : all ascii x.1 ≡ true

-- THE LAW of a reader: what it does to a text of bytes below 128.
pub record Reads {A : Type 0} (q : A → Bool) (r : Reader A) : Type 0 where
  pub reads : (t : List ℕ) → all ascii t ≡ true → Read q (r t)

module _ {A : Type 0} {q : A → Bool} where
  reads-ret : (a : A) → q a ≡ true → Reads q (ret a)
  unfolding ret
  reads-ret a h = record { reads = λ t e. record { answer = h; behind = e } }

  reads_if : (c : Bool) {r p : Reader A} → Reads q r → Reads q p → Reads q (if_r c r p)
  unfolding if_r
  reads_if true g k = g
  reads_if false g k = k

  reads_then : {C : Type 0} {m : Reader C} {f : Reader A} → Clean ascii m → Reads q f → Reads q (m >> f)
  unfolding ◌>>◌
  reads_then {m} M F = record { reads = λ t e. F.reads (m t).1 (M.clean t e) }

  -- Whatever was read before.
  reads-bind : {C : Type 0} {m : Reader C} {f : C → Reader A} → Clean ascii m → ((a : C) → Reads q (f a)) → Reads q (m >>= f)
  unfolding ◌>>=◌
  reads-bind {m} M F = record { reads = λ t e. (F (m t).0).reads (m t).1 (M.clean t e) }

-- Where what was read before has p.
reads_with : {C : Type 0} {p : C → Bool} {m : Reader C} → Reads p m → {A : Type 0} {q : A → Bool} {f : C → Reader A} → ((a : C) → p a ≡ true → Reads q (f a)) → Reads q (m >>= f)
unfolding ◌>>=◌
reads_with {m} M F = record { reads = λ t e. let x = M.reads t e in (F (m t).0 x.answer).reads (m t).1 x.behind }

-- Every byte of a stretch has p.
reads-span : (p : ℕ → Bool) → Reads (all p) (span p)
reads-span p = record { reads = λ t e. let x = span-all ascii p t e in record { answer = x.each; behind = x.rest } }

-- ROUNDS: each goes on with a state that has i, or stops with a result that has q.
unfoldable turned : {S A : Type 0} → (S → Bool) → (A → Bool) → Turn S A → Bool
turned i q (again s) = i s
turned i q (stop a) = q a

turn-has : {S A B : Type 0} (P : B → Type 0) (i : S → Bool) (q : A → Bool) {g : S → B} {h : A → B} (x : Turn S A) → turned i q x ≡ true → ((s : S) → i s ≡ true → P (g s)) → ((a : A) → q a ≡ true → P (h a)) →
    P (elim x [ again s ↦ g s | stop a ↦ h a ])
unfolding turned
turn-has P i q (again s) e G H = G s e
turn-has P i q (stop a) e G H = H a e

module _ {S A : Type 0} (f : S → Reader (Turn S A)) (d : S → A) (i : S → Bool) (q : A → Bool) (one : (s : S) → i s ≡ true → Reads (turned i q) (f s)) (last : (s : S) → i s ≡ true → q (d s) ≡ true) where
  reads-loop : (n : ℕ) (s : S) (t : List ℕ) → i s ≡ true → all ascii t ≡ true → Read q (loop f d n s t)
  unfolding loop all
  reads-loop zero s t h e = record { answer = last s h; behind = refl }
  reads-loop (suc n) s t h e =
      let x = (one s h).reads t e in
      turn-has (Read q) i q (f s t).0 x.answer (λ s' k. reads-loop n s' (f s t).1 k x.behind) (λ a k. record { answer = k; behind = x.behind })

  reads-rounds : (s : S) → i s ≡ true → Reads q (rounds f d s)
  unfolding rounds
  reads-rounds s h = record { reads = λ t e. reads-loop (suc (length t)) s t h e }

-- STRINGS: a literal in a text of bytes below 128 has such bytes only.
escape_ascii : (x : ℕ) → ascii x ≡ true → all ascii (escape x) ≡ true
unfolding escape all ascii
escape_ascii x h =
    let P : List ℕ → Type 0 = λ t. all ascii t ≡ true in
    if_has P (the "n" x) refl (if_has P (the "t" x) refl (if_has P (the "\"" x) refl (if_has P (the "\\" x) refl (and_i (ascii x) true h refl))))

onto-read : (o : List ℕ) (x : List ℕ × List ℕ) → all ascii o ≡ true → Read (all ascii) x → Read (all ascii) (onto o x)
unfolding onto
onto-read o x h r = record { answer = all_append ascii o x.0 h r.answer; behind = r.behind }

literal-read : (t : List ℕ) (b : Bool) → all ascii t ≡ true → Read (all ascii) (literal_from t b)
unfolding literal_from all ascii
literal-read [] false e = record { answer = refl; behind = refl }
literal-read [] true e = record { answer = refl; behind = refl }
literal-read (x ∷ xs) true e = onto-read (escape x) _ (escape_ascii x (and_l (ascii x) (all ascii xs) e)) (literal-read xs false (and_r (ascii x) (all ascii xs) e))
literal-read (x ∷ xs) false e =
    let a = and_l (ascii x) (all ascii xs) e in
    let b = and_r (ascii x) (all ascii xs) e in
    if_has (Read (all ascii)) (the "\"" x) (record { answer = refl; behind = b })
    (if_has (Read (all ascii)) (the "\\" x) (literal-read xs true b) (onto-read (x ∷ []) _ (and_i (ascii x) true a refl) (literal-read xs false b)))

reads-literal : Reads (all ascii) literal
unfolding literal
reads-literal = record { reads = λ t e. literal-read t false e }

-- And an expression, where every lookup answers such a text.
module _ (look : Lookup) (plain : (t : List ℕ) → all ascii (text_of (look t)) ≡ true) where
  reads-reference : Reads (all ascii) (reference look)
  unfolding reference
  reads-reference = search (reads-bind, reads-ret, clean-span, plain)

  reads-plus : (a : List ℕ) → all ascii a ≡ true → Reads (turned (all ascii) (all ascii)) (plus look a)
  unfolding plus turned
  reads-plus a h = search (reads-bind, reads_then, reads_if, reads-ret, clean-span, clean-sees, clean-skip) depth 20

  reads-round : (a : List ℕ) → all ascii a ≡ true → Reads (turned (all ascii) (all ascii)) (expression_round look a)
  unfolding expression_round turned
  reads-round a h = search (reads_with reads-literal, reads_with reads-reference, reads-bind, reads_then, reads_if, reads-ret, clean-span, clean-sees, clean-skip, reads-plus, all_append) depth 20

  reads-expression : Reads (all ascii) (expression look)
  unfolding expression all
  reads-expression = reads-rounds (expression_round look) (λ a. a) (all ascii) (all ascii) reads-round (λ a h. h) [] refl

-- VALUES: refused with a number of section 8, or good with l dictionary levels.
unfoldable value_good : ℕ → Answer Value → Bool
value_good l x = numbered_or (λ v. good_value v l) x

measured-good : (L l : ℕ) (v : Value) → good_value v l ≡ true → value_good l (measured L v) ≡ true
unfolding measured value_good numbered_or is_refusal
measured-good L l v h = if_has (λ x. value_good l x ≡ true) (leb (value_length v) L) h refl

module _ (L : ℕ) (look : Lookup) (plain : (t : List ℕ) → all ascii (text_of (look t)) ≡ true) where
  reads-text : (l : ℕ) → Reads (value_good l) (text_value L look)
  unfolding text_value good_value
  reads-text l = search (reads_with (reads-expression look plain), reads-ret, measured-good)

  reads-value : (l : ℕ) {inner : Reader (Answer Value)} → Reads (value_good l) inner → Reads (value_good l) (value L look inner)
  unfolding value value_good numbered_or good_value
  reads-value l i = search (reads-text, reads-bind, reads_then, reads_if, reads-ret, clean-span, clean-sees, clean-mark) depth 20

  grown-good : (l : ℕ) (d : Records) (k : List ℕ) (x : Answer Value) → good_records d name_byte l ≡ true → all name_byte k ≡ true → value_good l x ≡ true →
      turned (λ r. good_records r name_byte l) (value_good (suc l)) (grown L look d k x) ≡ true
  unfolding grown turned value_good numbered_or is_refusal
  grown-good l d k (refused n) h e q = q
  grown-good l d k (accepted v) h e q =
      if_has (λ x. turned (λ r. good_records r name_byte l) (value_good (suc l)) x ≡ true) (leb (value_length (dictionary (set d k v))) L) (set-good d name_byte l k v h e q) refl

  reads-entry : (l : ℕ) {inner : Reader (Answer Value)} → Reads (value_good l) inner → (d : Records) → good_records d name_byte l ≡ true →
      Reads (turned (λ r. good_records r name_byte l) (value_good (suc l))) (entry_round L look inner d)
  unfolding entry_round turned value_good numbered_or good_value
  reads-entry l i d h = search (reads_with (reads-span name_byte), reads_with (reads-value l i), reads-bind, reads_then, reads_if, reads-ret, clean-span, clean-sees, clean-skip, grown-good) depth 20

  reads-dictionary : (l : ℕ) → Reads (value_good l) (dictionary_value L look l)
  unfolding dictionary_value value_good numbered_or is_refusal good_value good_records
  reads-dictionary zero = reads-ret (refused 7) refl
  reads-dictionary (suc l) = reads-rounds (entry_round L look (dictionary_value L look l)) (λ d. accepted (dictionary d)) (λ r. good_records r name_byte l) (value_good (suc l)) (reads-entry l (reads-dictionary l)) (λ d h. h) end refl

-- NAMES of an import: those listed are words.
unfoldable pub of_words : Names → Bool
of_words star = true
of_words (listed ws) = all (all word) ws

more-words : (ws : List (List ℕ)) (w : List ℕ) → all (all word) ws ≡ true → all word w ≡ true → all (all word) (listed_more ws w) ≡ true
unfolding listed_more
more-words ws [] h e = h
more-words ws (x ∷ xs) h e = all_append (all word) ws ((x ∷ xs) ∷ []) h (unfold all in and_i (all word (x ∷ xs)) true e refl)

reads_word : (ws : List (List ℕ)) → all (all word) ws ≡ true → Reads (turned (all (all word)) of_words) (word_round ws)
unfolding word_round turned of_words
reads_word ws h = search (reads_with (reads-span word), reads-bind, reads_then, reads_if, reads-ret, clean-span, clean-mark, more-words) depth 20

reads-words : (w : List ℕ) → all word w ≡ true → Reads of_words (rounds word_round listed (w ∷ []))
unfolding all of_words
reads-words w h = reads-rounds word_round listed (all (all word)) of_words reads_word (λ ws k. k) (w ∷ []) (and_i (all word w) true h refl)

reads-names : Reads of_words names
unfolding names of_words
reads-names = search (reads_with (reads-span word), reads-words, reads-bind, reads_if, reads-ret, clean-mark) depth 20

-- STEPS: a refusal of the step has a number of section 8, and the state after it has p.
unfoldable pub did_has : {S : Type 0} → (S → Bool) → Did S → Bool
did_has p d = numbered_e d.emit && p d.state

-- The records of a sheet.
abbrev pub sheet_good : Records → Bool
sheet_good s = good_records s word 6

bound-good : (s : Records) (x : Answer Records) → sheet_good s ≡ true → numbered_or sheet_good x ≡ true → did_has sheet_good (bound s x) ≡ true
unfolding bound did_has numbered_or numbered_e
bound-good s (refused k) h n = and_i (is_refusal k) _ n h
bound-good s (accepted r) h n = n

let-good : (s : Records) (n : List ℕ) (x : Answer Value) → sheet_good s ≡ true → all name_byte n ≡ true → value_good 6 x ≡ true → did_has sheet_good (let_bound s (underscored n) x) ≡ true
unfolding let_bound value_good numbered_or
let-good s n (refused k) h e q = bound-good s (refused k) h q
let-good s n (accepted v) h e q = bound-good s (accepted (set s (underscored n) v)) h (set-good s word 6 (underscored n) v h (underscored-words n e) q)

module _ (L : ℕ) (imported : Records → List ℕ → Names → Answer Records) (gives : (s : Records) (p : List ℕ) (n : Names) → sheet_good s ≡ true → of_words n ≡ true → numbered_or sheet_good (imported s p n) ≡ true) where
  reads_same : (s : Records) → sheet_good s ≡ true → Reads (did_has sheet_good) (ret (bound s (accepted s)))
  unfolding numbered_or
  reads_same s h = reads-ret _ (bound-good s (accepted s) h h)

  reads-import : (s : Records) → sheet_good s ≡ true → Reads (did_has sheet_good) (import_step L imported s)
  unfolding import_step
  reads-import s h = search (reads_with reads-literal, reads_with reads-names, reads_same, reads-bind, reads_then, reads_if, reads-ret, clean-span, clean-sees, clean-skip, bound-good, gives) depth 20

  reads-let : (s : Records) → sheet_good s ≡ true → Reads (did_has sheet_good) (let_step L imported s)
  unfolding let_step
  reads-let s h = search (reads_with (reads-span name_byte), reads_with (reads-value L (resolve s) (resolve-ascii s h) 6 (reads-dictionary L (resolve s) (resolve-ascii s h) 6)), reads_then, reads-ret, clean-span, let-good) depth 20

  -- A step of a file of definitions, where an import is refused with a number of section 8 or gives good records.
  pub reads_definition : (s : Records) → sheet_good s ≡ true → Reads (did_has sheet_good) (definition_step L imported s)
  unfolding definition_step
  reads_definition s h = search (reads_same, reads-import, reads-let, reads-bind, reads_then, reads_if, clean-span, clean-mark, clean-skip) depth 20
