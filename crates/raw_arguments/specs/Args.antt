-- The arguments of a raw call, and what the functions that read them promise.
use Rattle.std.specs.Borrow.{Bor}
use Rattle.std.specs.Prelude.{Option, Some, None, Result, Ok, Err, ◌≡◌, List, [], Bool, not, ◌&&◌, ℕ, suc, ◌+◌, ◌-◌, ◌≤◌, ◌<◌}
use Rattle.std.proofs.Math.Path.{refl, sym, ap}
use Rattle.std.proofs.Common.{◌∙◌, arith, drop-cons, leb-true, leb-false, le-leb}
use Rattle.std.proofs.Math.Bool.{true, false, and_assoc}
use Rattle.std.proofs.Math.Dec.{leb}
use Rattle.std.proofs.Math.Nat.{sub-zero}
use Rattle.std.proofs.Math.ListN.{length, take, drop, length-drop}
use Rattle.std.proofs.Math.Seq.{drop-drop}
use Rattle.std.proofs.lemmas.Bool.{lt-leb}
use Rattle.rules.specs.Reader.{Reader, ret, if_r, ◌>>=◌, ◌>>◌, bytes, but, either, empty, same, span, rounds, Turn, again, stop}
use Rattle.rules.specs.Bytes.{blank, letter, word, run_byte, underscored}
use Rattle.rules.specs.Sheet.{Lookup, text_of}
use Rattle.rules.specs.Strings.{literal, reference}
use Rattle.rules.specs.Expansion.{Arguments, stalled, arguments, Round, lang_value, block_value, argument_value, argument_round}
use Rattle.rules.proofs.Laws.Enough.{rounds-again, rounds-stop, argument_moving}
use Rattle.scan.specs.declared.read.Read.{Read}
use Rattle.scan.specs.Sets.{byte_is, part, Spans, Sees}
use Rattle.scan.specs.Laws.{seen, sees-the, skip_at}
use Rattle.scan.specs.Laws.{tail-part}
use Rattle.raw_arguments.specs.declared.Lang.{Lang}
use Rattle.raw_arguments.specs.declared.Lang.TheVariants.{Literal, Reference}
use Rattle.raw_arguments.specs.declared.Setting.{Setting}
use Rattle.raw_arguments.specs.declared.Setting.TheVariants.{Language, Block}
use Rattle.raw_arguments.specs.declared.Args.{Args}
use Rattle.string_ends.specs.Ends.{Ends}
use Rattle.refusal.specs.declared.Refusal.{Refusal}
use Rattle.refusal.specs.declared.Refusal.TheVariants.{Stalled}

-- The text of a language: `look` answers the text that a lookup gives. Without one it is empty.
unfoldable pub lang_text : Lookup → Option Lang → List ℕ
lang_text look None = []
lang_text look (Some (Literal s)) = (literal s.now).0
lang_text look (Some (Reference s)) = text_of (look (underscored s.now))

-- The arguments, from a language and a block on.
abbrev pub arguments_from : Lookup → List ℕ × Bool → Reader Arguments
arguments_from look a = rounds (argument_round look) (λ a. arguments a.0 a.1) a

-- `lang` takes that of r.
pub record IsLanguage (look : Lookup) (t : List ℕ) (r : Read Lang) : Type 0 where
  pub inside : r.used ≤ length t
  pub takes : (k : Bool) → lang_value look k t ≡ (again (lang_text look (Some r.what), k), drop r.used t)

-- The rest of a round, behind the blanks and commas g.
unfoldable pub named : Lookup → List ℕ × Bool → List ℕ → Round
named look a g = do
  n ← span word
  c ← span (either ":" blank)
  argument_value look a n (not (empty g && empty n && empty c))

-- A round without a setting goes on, unless it has moved by nothing.
unfoldable pub unset : List ℕ × Bool → Bool → Turn (List ℕ × Bool) Arguments
unset a true = stop stalled
unset a false = again a

-- What a round comes to by what it sets, by what was set so far and whether it has moved by nothing.
unfoldable pub turn : Lookup → Option Setting → List ℕ × Bool → Bool → Turn (List ℕ × Bool) Arguments
turn look (Some (Language v)) a s = again (lang_text look (Some v), a.1)
turn look (Some (Block d)) a s = again (a.0, d)
turn look None a s = unset a s

-- The argument that t begins with is r.
pub record Sets (look : Lookup) (t : List ℕ) (r : Read (Option Setting)) : Type 0 where
  pub inside : r.used ≤ length t
  pub turns : (a : List ℕ × Bool) (g : List ℕ) → named look a g t ≡ (turn look r.what a (empty g && leb r.used 0), drop r.used t)

-- The arguments are those of r.
pub record Given (look : Lookup) (t : List ℕ) (r : Read Args) : Type 0 where
  pub inside : r.used ≤ length t
  pub ends : arguments_from look ([], false) t ≡ (arguments (lang_text look r.what.lang) r.what.block, drop r.used t)

-- The arguments stall, or are given.
unfoldable pub IsArguments : Lookup → List ℕ → Result (Read Args) Refusal → Type 0
IsArguments look t (Ok r) = Given look t r
IsArguments look t (Err e) = (e ≡ Stalled) × ((arguments_from look ([], false) t).0 ≡ stalled)

-- WHAT `lang` TAKES.
module _ (look : Lookup) {t : List ℕ} {q : Bool} (s : Sees (byte_is 34) t 0 q) where
  pub language-literal : {k : ℕ} {l : Bor (List ℕ)} → q ≡ true → l.now ≡ part t 1 (length t) → Ends (literal l.now) l.now k → IsLanguage look t (record { what = Literal l; used = 1 + k })
  unfolding lang_value ◌>>=◌ ◌>>◌ if_r ret lang_text
  language-literal {k} {l} e x w =
      let h : 0 < length t = s.there e in
      let y : l.now ≡ drop 1 t = x ∙ tail-part t 1 in
      let v : Ends (literal (drop 1 t)) (drop 1 t) k = rw y at w in
      let r : (literal (drop 1 t)).1 ≡ drop (1 + k) t = v.rest ∙ drop-drop k 1 t in
      record {
        inside = omega (arith, simp length-drop at v.inside);
        takes = λ z. rw ((sees-the "\"" s e).says, skip_at t 0 h, r, y) refl;
      }

  pub language-reference : {k : ℕ} {l : Bor (List ℕ)} → q ≡ false → l.now ≡ take k t → Spans run_byte t 0 k → IsLanguage look t (record { what = Reference l; used = k })
  unfolding lang_value reference ◌>>=◌ ◌>>◌ if_r ret lang_text
  language-reference e x n = record {
    inside = n.inside;
    takes = λ z. rw ((sees-the "\"" s e).says, n.took, n.rest, sub-zero, x) refl;
  }

-- ONE ARGUMENT. Is a part empty.
empty-part : (t : List ℕ) (i j : ℕ) → j ≤ length t → empty (part t i j) ≡ leb j i
unfolding empty
empty-part t i j h = at (leb j i) refl
  where
    at : (v : Bool) → leb j i ≡ v → empty (part t i j) ≡ v
    at true e = let z : j - i ≡ 0 = omega (arith, leb-true j i e) in rw z refl
    at false e = let z : j - i ≡ suc (j - suc i) = omega (arith, leb-false j i e) in rw (z, drop-cons t i 0 (omega (arith, leb-false j i e))) refl

-- Two stretches that follow each other have moved by nothing where both have.
leb-both : (i j k : ℕ) → i ≤ j → j ≤ k → (leb j i && leb k j) ≡ leb k i
leb-both i j k h g = at (leb j i) (leb k j) refl refl
  where
    at : (u v : Bool) → leb j i ≡ u → leb k j ≡ v → (u && v) ≡ leb k i
    at true true p q = sym (le-leb k i (omega (arith, leb-true j i p, leb-true k j q)))
    at true false p q = sym (lt-leb k i (omega (arith, leb-false k j q)))
    at false v p q = sym (lt-leb k i (omega (arith, leb-false j i p)))

leb-from : (g n : ℕ) → leb n 0 ≡ leb (g + n) g
leb-from g n = at (leb n 0) refl
  where
    at : (v : Bool) → leb n 0 ≡ v → v ≡ leb (g + n) g
    at true e = sym (le-leb (g + n) g (omega (arith, leb-true n 0 e)))
    at false e = sym (lt-leb (g + n) g (omega (arith, leb-false n 0 e)))

module _ {t : List ℕ} {n c : ℕ} (N : Spans word t 0 n) (C : Spans (either ":" blank) t n c) where
  both-empty : (g : List ℕ) → (empty g && empty (part t 0 n) && empty (part t n c)) ≡ (empty g && leb c 0)
  both-empty g =
      and_assoc (empty g) _ _
      ∙ ap (λ z. empty g && z) (rw (empty-part t 0 n N.inside, empty-part t n c C.inside) (leb-both 0 n c N.on C.on))

  module _ (look : Lookup) where
    named-at : (a : List ℕ × Bool) (g : List ℕ) → named look a g t ≡ argument_value look a (take n t) (not (empty g && leb c 0)) (drop c t)
    unfolding named ◌>>=◌
    named-at a g = rw (N.took, N.rest, C.took, C.rest, both-empty g, sub-zero) refl

    pub sets-language : {q : Bool} {r : Read Lang} → q ≡ same (take n t) (bytes "lang") → q ≡ true → IsLanguage look (part t c (length t)) r → Sets look t (record { what = Some (Language r.what); used = c + r.used })
    unfolding turn argument_value if_r
    sets-language {q} {r} l e s₀ =
        let s : IsLanguage look (drop c t) r = rw tail-part at s₀ in
        record {
          inside = omega (arith, C.inside, simp length-drop at s.inside);
          turns = λ a g. named-at a g ∙ rw (sym l ∙ e) (s.takes a.1 ∙ ap (λ z. (again (lang_text look (Some r.what), a.1), z)) (drop-drop r.used c t));
        }

    module _ {q : Bool} (l : q ≡ same (take n t) (bytes "lang")) (e : q ≡ false) where
      pub sets_block : {p d : Bool} {k : ℕ} → p ≡ same (take n t) (bytes "block") → p ≡ true → Spans letter t c k → d ≡ same (part t c k) (bytes "true") → Sets look t (record { what = Some (Block d); used = k })
      unfolding turn argument_value block_value ◌>>=◌ if_r ret
      sets_block m f s y = record {
        inside = s.inside;
        turns = λ a g. named-at a g ∙ rw (sym l ∙ e, sym m ∙ f, s.took, s.rest, y) refl;
      }

      unset-at : (a : List ℕ × Bool) (u : List ℕ) (s : Bool) → if_r (not s) (ret (again a)) (ret (stop stalled)) u ≡ (unset a s, u)
      unfolding unset if_r ret
      unset-at a u true = refl
      unset-at a u false = refl

      pub sets-nothing : {p : Bool} → p ≡ same (take n t) (bytes "block") → p ≡ false → Sets look t (record { what = None; used = c })
      unfolding turn argument_value if_r
      sets-nothing m f = record {
        inside = C.inside;
        turns = λ a g. named-at a g ∙ rw (sym l ∙ e, sym m ∙ f) (unset-at a (drop c t) (empty g && leb c 0));
      }

-- A ROUND: blanks and commas from i to g, then an argument, or none.
module _ (look : Lookup) (a : List ℕ × Bool) {t : List ℕ} {i g : ℕ} (G : Spans (either "," blank) t i g) where
  round-end : Sees (but ")") t g false → argument_round look a (drop i t) ≡ (stop (arguments a.0 a.1), drop g t)
  unfolding argument_round ◌>>=◌ if_r ret
  round-end M = rw (G.took, G.rest, M.says) refl

  round-named : Sees (but ")") t g true → argument_round look a (drop i t) ≡ named look a (part t i g) (drop g t)
  unfolding argument_round named ◌>>=◌ if_r
  round-named M = rw (G.took, G.rest, M.says) refl

  round-sets : {r : Read (Option Setting)} → Sees (but ")") t g true → Sets look (drop g t) r → argument_round look a (drop i t) ≡ (turn look r.what a (leb (g + r.used) i), drop (g + r.used) t)
  round-sets {r} M s =
      let moved : (empty (part t i g) && leb r.used 0) ≡ leb (g + r.used) i = rw (empty-part t i g G.inside, leb-from g r.used) (leb-both i g (g + r.used) G.on (omega arith)) in
      round-named M ∙ s.turns a (part t i g)
      ∙ λ j. (turn look r.what a (moved j), drop-drop r.used g t j)

-- An argument ends inside the text.
pub sets-inside : {look : Lookup} {t : List ℕ} {i g : ℕ} → Spans (either "," blank) t i g → {r : Read (Option Setting)} → Sets look (part t g (length t)) r → g + r.used ≤ length t
sets-inside {look} {t} G S₀ = let s = rw tail-part at S₀ in omega (arith, G.inside, simp length-drop at s.inside)

-- THE ROUNDS: the arguments are read up to i.
pub record ArgsAt (look : Lookup) (t : List ℕ) (i : ℕ) (lang : Option Lang) (block : Bool) : Type 0 where
  pub inside : i ≤ length t
  pub left : arguments_from look ([], false) t ≡ arguments_from look (lang_text look lang, block) (drop i t)

pub args_start : (look : Lookup) (t : List ℕ) → ArgsAt look t 0 None false
unfolding lang_text
args_start look t = record { inside = omega arith; left = refl }

module _ {look : Lookup} {t : List ℕ} {i : ℕ} {lang : Option Lang} {block : Bool} (x : ArgsAt look t i lang block) where
  abbrev set : List ℕ × Bool
  set = (lang_text look lang, block)

  -- One round more, which has moved.
  args_next : {v : Option Lang} {d : Bool} {k : ℕ} → k ≤ length t → argument_round look set (drop i t) ≡ (again (lang_text look v, d), drop k t) → (i < k) × ArgsAt look t k v d
  args_next {v} {d} {k} j r =
      let m = argument_moving look set _ (drop i t) (ap (λ z. z.0) r) in
      let f : i < k = omega (arith, x.inside, simp length-drop at (rw (ap (λ z. z.1) r) at m)) in (
        f,
        record {
          inside = j;
          left = x.left ∙ rounds-again (argument_round look) (λ a. arguments a.0 a.1) (argument_moving look) set _ (drop i t) (ap (λ z. z.0) r)
              ∙ ap (λ (u : List ℕ). arguments_from look (lang_text look v, d) u) (ap (λ z. z.1) r);
        },
      )

  -- The last round.
  args_stop : {y : Arguments} (k : ℕ) → argument_round look set (drop i t) ≡ (stop y, drop k t) → arguments_from look ([], false) t ≡ (y, drop k t)
  args_stop {y} k r = x.left ∙ rounds-stop (argument_round look) (λ a. arguments a.0 a.1) (argument_moving look) set _ (drop i t) (ap (λ z. z.0) r) ∙ ap (λ z. (y, z.1)) r

  module _ {g : ℕ} (G : Spans (either "," blank) t i g) {m : Bool} (M : Sees (but ")") t g m) where
    -- It ends at `)`, or at the end.
    pub args_end : m ≡ false → IsArguments look t (Ok (record { what = record { lang = lang; block = block }; used = g }))
    unfolding IsArguments
    args_end e = record { inside = G.inside; ends = args_stop g (round-end look set G (seen M e)) }

    -- It has an argument.
    module _ (e : m ≡ true) {r : Read (Option Setting)} (S₀ : Sets look (part t g (length t)) r) where
      round : {f : Option Setting} → r.what ≡ f → argument_round look set (drop i t) ≡ (turn look f set (leb (g + r.used) i), drop (g + r.used) t)
      round h = round-sets look set G (seen M e) (rw tail-part at S₀) ∙ ap (λ z. (turn look z set (leb (g + r.used) i), drop (g + r.used) t)) h

      pub args_language : {f : Setting} {v : Lang} → r.what ≡ Some f → f ≡ Language v → (i < g + r.used) × ArgsAt look t (g + r.used) (Some v) block
      unfolding turn
      args_language {v = v} h y = args_next {v = Some v} (sets-inside G S₀) (round (h ∙ ap Some y))

      pub args_block : {f : Setting} {d : Bool} → r.what ≡ Some f → f ≡ Block d → (i < g + r.used) × ArgsAt look t (g + r.used) lang d
      unfolding turn
      args_block h y = args_next (sets-inside G S₀) (round (h ∙ ap Some y))

      module _ (h : r.what ≡ None) where
        pub args_nothing : (g + r.used ≡ i → ⊥) → (i < g + r.used) × ArgsAt look t (g + r.used) lang block
        unfolding turn unset
        args_nothing n = args_next (sets-inside G S₀) (round h ∙ rw (lt-leb (g + r.used) i (omega (arith, G.on, n))) refl)

        pub args_stalled : g + r.used ≡ i → IsArguments look t (Err Stalled)
        unfolding turn unset IsArguments
        args_stalled n =
            let y : argument_round look set (drop i t) ≡ (stop stalled, drop (g + r.used) t) = round h ∙ rw (le-leb (g + r.used) i (omega arith)) refl in
            (refl, ap (λ y. y.0) (args_stop (g + r.used) y))
