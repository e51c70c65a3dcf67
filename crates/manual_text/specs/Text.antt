-- What `manual` writes: the ways through it.
use Rattle.std.specs.Prelude.{◌≡◌, List, [], ◌++◌, Bool, true, ◌||◌, eqb, ℕ, zero, suc, ◌+◌, ◌-◌, ◌≤◌, ◌<◌, Result, Ok, Err, IfOk, take, drop}
use Rattle.std.proofs.Math.Path.{refl, sym, ap}
use Rattle.std.proofs.Common.{◌∙◌, take-append-drop, length-take-le, le-leb}
use native.Mathlib.Omega.{arith}
use Rattle.std.proofs.Math.ListN.{length}
use Rattle.std.proofs.lemmas.Bool.{lt-leb}
use Rattle.std.proofs.lemmas.Bool.Decides.{nat_tests}
use Rattle.rules.specs.Answer.{Answer, refused, accepted, is_refusal, ◌>>=◌, ◌>>◌, check, or_refuse}
use Rattle.rules.specs.Reader.{bytes}
use Rattle.rules.specs.Bundle.{bundle_of}
use Rattle.rules.specs.Files.{view, fetch}
use Rattle.rules.specs.Calls.{Holds, Setting, zeros, padded, find_file_of, defined_answer, parse_definitions_result, parse_definitions_of, passed_answer, closed_of, pass_result, pass_of}
use Rattle.rules.specs.Manual.{answered, sheet_from, output_from, setting, built, shown, manual, manual_of}
use Rattle.rules.proofs.Laws.Answer.{assoc}
use Rattle.rules.proofs.Laws.Calls.{number_form, parse_definitions_numbered, parse_definitions_holds, pass_holds, find_known}
use Rattle.rules.proofs.Laws.Found.{content_from, content-refused, content-absent, content-there, found-content, found_inside}
use Rattle.buffers.specs.Wrote.{first_bytes}
use Rattle.refusals.specs.Text.{Leaves}
use Rattle.rules.proofs.Laws.Parts.{result_numbered}
use Rattle.refusal.specs.declared.Refusal.{Refusal}
use Rattle.refusal.specs.Numbers.{number}

-- What follows the definitions, from the sheet s on.
unfoldable pub main_text : List ℕ → List ℕ → Answer (List ℕ)
main_text b s = or_refuse 2 (bundle_of b) >>= λ es. fetch (view es) (bytes "main.typ") >>= λ t. output_from (pass_of (setting b) s t)

-- a is built: its text stands at the start of the buffer, and zero behind it; or its refusal is answered.
pub record Builds (a : Answer (List ℕ)) (out out₂ : List ℕ) (r : Result ℕ Refusal) : Type 0 where
  pub size : length out₂ ≡ length out
  pub says : a ≡ first_bytes out₂ r
  pub fits : IfOk r (λ n. n ≤ length out)
  pub behind : IfOk r (λ n. drop n out₂ ≡ zeros (length out₂ - n))

answered-accepted : (k : ℕ) (r : List ℕ) → k ≡ 0 → answered k r ≡ accepted r
unfolding answered
answered-accepted k r h = rw h refl

answered-refused : (k : ℕ) (t : List ℕ) (r : Refusal) → (k ≡ number r) × (0 < k) → answered k t ≡ refused (number r)
unfolding answered
answered-refused zero t r h = absurd (omega (arith, h.1))
answered-refused (suc k) t r h = ap refused h.0

-- Nothing is built.
pub builds-refused : {a : Answer (List ℕ)} {out out₂ : List ℕ} {e : Refusal} → length out₂ ≡ length out → a ≡ refused (number e) → Builds a out out₂ (Err e)
unfolding first_bytes
builds-refused z h = record { size = z; says = h; fits = tt; behind = tt }

pub builds-same : {a c : Answer (List ℕ)} {out out₂ : List ℕ} {r : Result ℕ Refusal} → a ≡ c → Builds c out out₂ r → Builds a out out₂ r
builds-same e s = record { size = s.size; says = e ∙ s.says; fits = s.fits; behind = s.behind }

-- A call's number is 0 or one of section 8.
at-most-11 : (k : ℕ) → (eqb k 0 || is_refusal k) ≡ true → k ≤ 11
unfolding is_refusal
at-most-11 k h = grind (arith, nat_tests)

-- THE PASS.
module _ (b t s : List ℕ) {m n l : ℕ} (o : List ℕ) {m₂ o₂ l₂ : List ℕ} {k x z : ℕ} {c : Bool} (e₁ : 32768 ≡ m) (e₂ : 32768 ≡ n) (e₃ : 1024 ≡ l) (e₄ : n ≡ length o)
    (e : pass_of (record { bundle = b; folder = []; middle_len = m; out_len = n; left_len = l }) s t ≡ record { number = k; len = x; sheet_len = z; closed = c; middle = m₂; out = o₂; left = l₂ }) where
  pub pass-known : k ≤ 11
  unfolding pass_of passed_answer
  pass-known =
      let given : Setting = record { bundle = b; folder = []; middle_len = m; out_len = n; left_len = l } in
      at-most-11 k (rw e at (number_form (passed_answer given (closed_of given s t)) (λ r. r.number) (λ n. refl) (λ y. refl) (pass_result given s t) (result_numbered given s t)))

  pass_says : output_from (pass_of (setting b) s t) ≡ answered k (take x o₂)
  unfolding output_from
  pass_says = (λ i. output_from (pass_of (record { bundle = b; folder = []; middle_len = e₁ i; out_len = e₂ i; left_len = e₃ i }) s t)) ∙ ap output_from e

  pass_output : Holds n x o₂
  pass_output = rw e at (pass_holds (record { bundle = b; folder = []; middle_len = m; out_len = n; left_len = l }) s t).output

  pub pass_refused : (r : Refusal) → (k ≡ number r) × (0 < k) → Builds (output_from (pass_of (setting b) s t)) o o₂ (Err r)
  pass_refused r h = builds-refused (pass_output.size ∙ e₄) (pass_says ∙ answered-refused k _ r h)

  pub pass_builds : k ≡ 0 → Builds (output_from (pass_of (setting b) s t)) o o₂ (Ok x)
  unfolding first_bytes
  pass_builds h = record {
    size = pass_output.size ∙ e₄;
    says = pass_says ∙ answered-accepted k _ h;
    fits = omega (arith, pass_output.fits);
    behind = pass_output.behind ∙ ap (λ i. zeros (i - x)) (sym pass_output.size);
  }

-- The file.
module _ (b s : List ℕ) {k kind i n : ℕ} (f : find_file_of b (bytes "main.typ") ≡ record { number = k; kind = kind; start = i; len = n }) where
  abbrev Then : Answer (List ℕ) → Answer (List ℕ)
  Then a = a >>= λ t. output_from (pass_of (setting b) s t)

  as_found : main_text b s ≡ Then (content_from b (record { number = k; kind = kind; start = i; len = n }))
  unfolding main_text
  as_found = assoc (or_refuse 2 (bundle_of b)) (λ es. fetch (view es) (bytes "main.typ")) _ ∙ ap Then (found-content b (bytes "main.typ") ∙ ap (content_from b) f)

  pub found-known : k ≤ 11
  found-known = at-most-11 k (rw f at (find_known b (bytes "main.typ")))

  pub main_refused : (r : Refusal) → (k ≡ number r) × (0 < k) → main_text b s ≡ refused (number r)
  unfolding ◌>>=◌
  main_refused r h = as_found ∙ ap Then (content-refused b _ (λ z. omega (arith, h.1))) ∙ ap refused h.0

  module _ (e : k ≡ 0) where
    pub main_absent : (kind ≡ 2 → ⊥) → main_text b s ≡ refused 5
    unfolding ◌>>=◌
    main_absent h = as_found ∙ ap Then (content-absent b _ e h)

    pub main_there : kind ≡ 2 → main_text b s ≡ output_from (pass_of (setting b) s (take (i + n - i) (drop i b)))
    unfolding ◌>>=◌
    main_there h =
        let z : n ≡ i + n - i = omega arith in
        as_found ∙ ap Then (content-there b _ e h) ∙ (ap (λ x. output_from (pass_of (setting b) s (take x (drop i b)))) z)

pub main_inside : (b : List ℕ) {k kind i n : ℕ} → find_file_of b (bytes "main.typ") ≡ record { number = k; kind = kind; start = i; len = n } → i + n ≤ length b
main_inside b f = rw f at (found_inside b (bytes "main.typ"))

-- THE DEFINITIONS.
module _ (b : List ℕ) where
  pub built-long : 16384 < length b → built b ≡ refused 2
  unfolding built check ◌>>◌
  built-long h = rw (lt-leb (length b) 16384 h) refl

  module _ (h : length b ≤ 16384) {l w k n : ℕ} (e₁ : 1024 ≡ l) (e₂ : 16384 ≡ w) {s w₂ : List ℕ} (e : parse_definitions_of b (bytes "defs.typ") l w ≡ record { number = k; sheet_len = n; left = s; work = w₂ }) where
    as_defined : built b ≡ (answered k (take n s) >>= main_text b)
    unfolding built sheet_from check main_text ◌>>◌
    as_defined = rw (le-leb (length b) 16384 h) (ap (λ d. sheet_from d >>= main_text b) (rw (sym e₁, sym e₂) at e))

    pub defined-known : k ≤ 11
    unfolding parse_definitions_of defined_answer
    defined-known = at-most-11 k (rw e at (number_form (defined_answer l w) (λ r. r.number) (λ k. refl) (λ a. refl) (parse_definitions_result b (bytes "defs.typ") l w) (parse_definitions_numbered b (bytes "defs.typ") l w)))

    pub built-refused : (r : Refusal) → (k ≡ number r) × (0 < k) → built b ≡ refused (number r)
    unfolding ◌>>=◌
    built-refused r h = as_defined ∙ ap (λ a. a >>= main_text b) (answered-refused k (take n s) r h)

    pub built_main : k ≡ 0 → built b ≡ main_text b (take n s)
    unfolding ◌>>=◌
    built_main z = as_defined ∙ ap (λ a. a >>= main_text b) (answered-accepted k (take n s) z)

    pub sheet-fits : n ≤ length s
    sheet-fits = let h = rw e at (parse_definitions_holds b (bytes "defs.typ") l w) in omega (arith, h.fits, h.size)

-- WHAT IS WRITTEN: n bytes of the buffer o, and zero behind them.
answers : (b : List ℕ) {n : ℕ} (o : List ℕ) {o₂ : List ℕ} → 32768 ≡ length o → n ≤ length o → take n o ≡ manual b → padded (length o) (take n o) ≡ o₂ → manual_of b ≡ record { len = n; out = o₂ }
unfolding manual_of
answers b {n} o l h e z =
    let i : length (manual b) ≡ n = ap length (sym e) ∙ length-take-le n o h in
    let j = ap (λ x. padded x (manual b)) l ∙ ap (padded (length o)) (sym e) ∙ z in
    λ k. record { len = i k; out = j k }

-- A buffer that is zero behind its first n bytes.
padded-take : (o : List ℕ) (n : ℕ) → n ≤ length o → drop n o ≡ zeros (length o - n) → padded (length o) (take n o) ≡ o
unfolding padded
padded-take o n h e = ap (λ i. take n o ++ zeros (length o - i)) (length-take-le n o h) ∙ ap (λ x. take n o ++ x) (sym e) ∙ take-append-drop n o

module _ (b : List ℕ) {o o₂ : List ℕ} (l : 32768 ≡ length o) where
  pub manual-output : {n : ℕ} → Builds (built b) o o₂ (Ok n) → manual_of b ≡ record { len = n; out = o₂ }
  unfolding manual shown first_bytes
  manual-output {n} B =
      let f : n ≤ length o = B.fits in
      let g : n ≤ length o₂ = omega (arith, B.size) in
      answers b o₂ (l ∙ sym B.size) g (sym (ap shown B.says)) (padded-take o₂ n g B.behind)

  pub manual-refused : {r : Refusal} → Builds (built b) o o₂ (Err r) → {o₃ : List ℕ} {n : ℕ} → Leaves (shown (refused (number r))) o₂ o₃ n → manual_of b ≡ record { len = n; out = o₃ }
  unfolding manual manual_of first_bytes
  manual-refused {r} B s =
      let e : manual b ≡ shown (refused (number r)) = ap shown B.says in
      let i = ap length e ∙ s.long in
      let j = (λ k. padded ((l ∙ sym B.size) k) (e k)) ∙ s.is in
      λ k. record { len = i k; out = j k }
