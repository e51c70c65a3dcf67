-- Finding a file: the answer of what was found, and the ways through the call.
use Rattle.std.specs.Prelude.{◌≡◌, refl, List, Bool, true, false, ℕ, ◌+◌, ◌-◌, length, Result, Ok, Err}
use Rattle.std.proofs.Common.{arith, sym, ap, ◌∙◌}
use Rattle.std.proofs.Math.Option.{Option, none, some}
use Rattle.rules.specs.Answer.{refused, accepted, ◌>>=◌, ◌>>◌, check, or_refuse, is_some}
use Rattle.rules.specs.Bytes.{is_path}
use Rattle.rules.specs.Bundle.{Entry, bundle_of}
use Rattle.rules.specs.Files.{entry_at, is_folder_of}
use Rattle.rules.specs.Calls.{Found, found_entry, find_file_result}
use Rattle.rules.proofs.Laws.Bool.{true-some, false-some}
use Rattle.bundle.specs.Find.{entries_of, entries-some, located, Finds}
use Rattle.refusal.specs.declared.Refusal.{Refusal}
use Rattle.refusal.specs.Numbers.{number}
use Rattle.bundle.specs.declared.Found.{Found as Seen}
use Rattle.bundle.specs.declared.Found.TheVariants.{Absent, Folder, File}

-- The answer of each case.
unfoldable pub file_answer : Seen → Found
file_answer Absent = record { number = 0; kind = 0; start = 0; len = 0 }
file_answer Folder = record { number = 0; kind = 1; start = 0; len = 0 }
file_answer (File r) = record { number = 0; kind = 2; start = r.from; len = r.to - r.from }

-- What a path is in the bundle b, or the refusal.
abbrev pub FindsFile : List ℕ → List ℕ → Result Seen Refusal → Type 0
FindsFile b p (Ok found) = find_file_result b p ≡ accepted (file_answer found)
FindsFile b p (Err refusal) = find_file_result b p ≡ refused (number refusal)

located-answer : (e : Option Entry) (f : Bool) → found_entry e f ≡ file_answer (located e f)
unfolding found_entry file_answer located
located-answer (some e) f = let z : e.start + length e.content - e.start ≡ length e.content = omega arith in rw z refl
located-answer none true = refl
located-answer none false = refl

pub find_two : (b p : List ℕ) → is_some (bundle_of b) ≡ false → find_file_result b p ≡ refused 2
unfolding find_file_result or_refuse ◌>>=◌
find_two b p h = rw (false-some (bundle_of b) h)

pub find_four : (b p : List ℕ) → is_some (bundle_of b) ≡ true → is_path p ≡ false → find_file_result b p ≡ refused 4
unfolding find_file_result or_refuse check ◌>>=◌ ◌>>◌
find_four b p h q = rw ((true-some (bundle_of b) h).1, q)

pub find_found : (b p : List ℕ) (f : Seen) → is_some (bundle_of b) ≡ true → is_path p ≡ true → Finds b (entries_of b) p f → find_file_result b p ≡ accepted (file_answer f)
unfolding find_file_result or_refuse check ◌>>=◌ ◌>>◌
find_found b p f h q s =
    let x = true-some (bundle_of b) h in
    let e = entries-some b x.0 x.1 in
    rw (x.1, q) (ap accepted (located-answer (entry_at x.0 p) (is_folder_of x.0 p) ∙ ap (λ z. file_answer (located (entry_at z p) (is_folder_of z p))) (sym e) ∙ ap file_answer (sym s.says)))
