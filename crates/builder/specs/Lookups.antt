-- What was looked up as the answers of the calls, once the buffer is cleared behind its text.
use Rattle.std.specs.Prelude.{◌≡◌, ◌-◌, ◌≤◌, List, ℕ, Option, Result, Ok, Err, length, take}
use Rattle.std.proofs.Common.{refl, sym, ap, ◌∙◌, arith, length-take-le}
use Rattle.rules.specs.Sheet.{text_of}
use Rattle.rules.specs.Calls.{padded, looked_answer, resolve_of, found_answer, find_file_of}
use Rattle.refusal.specs.declared.Refusal.{Refusal}
use Rattle.refusal.specs.Numbers.{number}
use Rattle.bundle.specs.declared.Found.{Found}
use Rattle.bundle.specs.declared.Found.TheVariants.{Absent, Folder, File}
use Rattle.sheet.specs.declared.lookup.Found.{Found as Value}
use Rattle.sheet.specs.Find.{found_kind}
use Rattle.lookups.specs.Text.{Resolves, text_len}
use Rattle.lookups.specs.Files.{FindsFile, file_answer}
use Rattle.builder.specs.declared.Resolved.{Resolved}
use Rattle.builder.specs.declared.FoundFile.{FoundFile}
use Rattle.builder.specs.Cleared.{behind, all-zero}

-- Number 0, the kind and the length; or the refusal's number.
abbrev pub IsResolvedOf : Result (Option Value) Refusal → Resolved → Type 0
IsResolvedOf (Ok found) answer = answer ≡ record { number = 0; kind = found_kind found; len = text_len found }
IsResolvedOf (Err refusal) answer = answer ≡ record { number = number refusal; kind = 0; len = 0 }

-- Number 0, the kind, and where a file's content stands; or the refusal's number.
abbrev pub IsFoundFileOf : Result Found Refusal → FoundFile → Type 0
IsFoundFileOf (Ok Absent) answer = answer ≡ record { number = 0; kind = 0; start = 0; len = 0 }
IsFoundFileOf (Ok Folder) answer = answer ≡ record { number = 0; kind = 1; start = 0; len = 0 }
IsFoundFileOf (Ok (File content)) answer = answer ≡ record { number = 0; kind = 2; start = content.from; len = content.to - content.from }
IsFoundFileOf (Err refusal) answer = answer ≡ record { number = number refusal; kind = 0; start = 0; len = 0 }

-- LAWS.
module _ {s p o o₂ : List ℕ} where
  pub lookup-cleared : (r : Result (Option Value) Refusal) (t : Resolved) {o₃ : List ℕ} → Resolves s p o o₂ r → IsResolvedOf r t → o₃ ≡ padded (length o₂) (take t.len o₂) → resolve_of s p (length o) ≡ record { number = t.number; kind = t.kind; len = t.len; out = o₃ }
  unfolding resolve_of looked_answer
  lookup-cleared (Ok x) t {o₃} q e z =
      let fits : text_len x ≤ length o = q.fits in
      let y = q.is in
      let n : length (text_of y.0) ≡ text_len x = ap length (sym y.2.text) ∙ length-take-le (text_len x) o₂ (omega (arith, q.size)) in
      let w : padded (length o) (text_of y.0) ≡ o₃ = ap (padded (length o)) (sym y.2.text) ∙ behind o₂ (text_len x) q.size (rw e at z) in
      ap (looked_answer (length o)) y.1 ∙ rw e (λ i. record { number = 0; kind = sym y.2.kind i; len = n i; out = w i })
  lookup-cleared (Err k) t q e z = ap (looked_answer (length o)) q.is ∙ rw e (λ i. record { number = number k; kind = 0; len = 0; out = all-zero o₂ q.size (rw e at z) i })

pub found-answer : (b p : List ℕ) (r : Result Found Refusal) (t : FoundFile) → FindsFile b p r → IsFoundFileOf r t → find_file_of b p ≡ record { number = t.number; kind = t.kind; start = t.start; len = t.len }
unfolding find_file_of found_answer file_answer
found-answer b p (Ok Absent) t h e = ap found_answer h ∙ rw e refl
found-answer b p (Ok Folder) t h e = ap found_answer h ∙ rw e refl
found-answer b p (Ok (File content)) t h e = ap found_answer h ∙ rw e refl
found-answer b p (Err k) t h e = ap found_answer h ∙ rw e refl
