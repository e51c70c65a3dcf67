-- Included files.
use Rattle.std.specs.Prelude.{◌≡◌, refl, List, [], true, false, ℕ, suc, ◌-◌, ◌<◌, length, Result, Ok, Err}
use Rattle.std.proofs.Common.{◌∙◌, inl, inr}
use Rattle.std.proofs.Math.Path.{ap}
use native.Mathlib.Omega.{arith}
use Rattle.rules.specs.Answer.{refused, accepted}
use Rattle.rules.specs.Reader.{bytes, all}
use Rattle.rules.specs.Run.{ok, put, fail, and_then, run, emitted}
use Rattle.rules.specs.Bytes.{ascii, parent}
use Rattle.rules.specs.Files.{View, fetch}
use Rattle.rules.specs.Includes.{included, inside_file, include_step}
use Rattle.std.specs.Borrow.{Bor}
use Rattle.paths.specs.Joined.{text}
use Rattle.bundle.specs.Open.{long-fetch, OpensWithin}
use Rattle.paths.specs.declared.path.Path.{Path}
use Rattle.refusal.specs.declared.Refusal.{Refusal}
use Rattle.refusal.specs.Numbers.{number}
use Rattle.bundle.specs.declared.File.{File}

-- An included file with the path p is r: what it comes to, in any folder g, is its text resolved with one level fewer in its own folder f, then a newline.
pub record IsFile (v : View) (levels : ℕ) (p : List ℕ) (r : File) : Type 0 where
  pub left : 0 < levels
  pub goes : (g : List ℕ) {f : List ℕ} → f ≡ parent (text r.path.now) → included v (inside_file v levels) g p (fetch v p) ≡ and_then (emitted (run (include_step v (inside_file v (levels - 1)) f) [] 0 r.text.now)) (put (bytes "\n") ok)

-- It is opened, or refused.
abbrev pub OpensFile : View → ℕ → List ℕ → Result File Refusal → Type 0
OpensFile v levels p (Ok r) = IsFile v levels p r
OpensFile v levels p (Err k) = (g : List ℕ) → included v (inside_file v levels) g p (fetch v p) ≡ fail (number k)

-- REFUSED before its levels are asked.
module _ (v : View) (levels : ℕ) (p : List ℕ) where
  pub file-refused : {k : ℕ} → fetch v p ≡ refused k → (g : List ℕ) → included v (inside_file v levels) g p (fetch v p) ≡ fail k
  unfolding included
  file-refused e g = rw e refl

  pub file-long : {k : Refusal} → (255 < length p) × (number k ≡ 4) → {r : Result File Refusal} → r ≡ Err k → OpensFile v levels p r
  file-long h y = rw (y, h.1) (file-refused (long-fetch v p h.0))

  -- Its text t is there.
  module _ {t : List ℕ} (e : fetch v p ≡ accepted t) where
    stopped : (k : ℕ) → inside_file v levels (parent p) t ≡ fail k → (g : List ℕ) → included v (inside_file v levels) g p (fetch v p) ≡ fail k
    unfolding included and_then
    stopped k h g = rw (e, h) refl

    -- With a level left, it is asked for bytes from 128.
    inside_here : 0 < levels → inside_file v levels (parent p) t ≡ elim (all ascii t) [ true ↦ emitted (run (include_step v (inside_file v (levels - 1)) (parent p)) [] 0 t) | false ↦ fail 6 ]
    inside_here h = let level : levels ≡ suc (levels - 1) = omega arith in ap (λ x. inside_file v x (parent p) t) level ∙ (unfold inside_file in refl)

    pub file-no : {k : Refusal} → OpensWithin t levels (Err k) → {r : Result File Refusal} → r ≡ Err k → OpensFile v levels p r
    file-no (inl h) y = rw (y, h.1) (stopped 7 (ap (λ z. inside_file v z (parent p) t) h.0 ∙ (unfold inside_file in refl)))
    file-no (inr h) y = rw (y, h.2) (stopped 6 (inside_here h.0 ∙ rw h.1 refl))

    pub file_opened : {q : Bor Path} → text q.now ≡ p → {s : Bor (List ℕ)} → OpensWithin t levels (Ok s) → OpensFile v levels p (Ok (record { path = q; text = s }))
    file_opened x h = record { left = h.0; goes = λ g o. unfold included in (rw (e, inside_here h.0, h.1, o, x, h.2) refl) }
