-- DEMAND 3: a manual cut into closed parts. The words are those of 01, section 6, defined in the rules' `Parts`.
use Rattle.std.specs.Prelude.{◌≡◌, List, true, ℕ}
use Rattle.std.proofs.Common.{sym, ◌∙◌}
use Rattle.rules.specs.Calls.{Setting, pass_of}
use Rattle.rules.specs.Parts.{passes, joined, closed_parts, outputs, last_sheet}
use Rattle.rules.proofs.Laws.Parts.{one-is_many, answers}
use Rattle.rules.proofs.Laws.Calls.{pass_accepted}
use Rattle.promises.specs.Cut.{Agree}

-- Any list of one part or more, each but the last closed, beside one accepted pass over the joined text:
-- every pass is accepted, the outputs joined are its output, the last sheet left is its sheet.
pub demand_3 : (k : Setting) (sheet p : List ℕ) (ps : List (List ℕ)) →
    (pass_of k sheet (joined p ps)).number ≡ 0 → closed_parts k sheet p ps ≡ true → Agree k sheet p ps
demand_3 k sheet p ps h c =
    let y = pass_accepted k sheet (joined p ps) h in
    let one = answers k sheet (joined p ps) y.0 y.1 in
    let many = one-is_many k ps sheet p y.0 y.1 c in
    record { accepted = many.accepts; same-output = many.output ∙ sym one.output; same-sheet = many.sheet ∙ sym one.leaves }

-- So any two such lists of parts with the same joined text write the same and leave the same sheet.
pub two_lists : (k : Setting) (sheet p q : List ℕ) (ps qs : List (List ℕ)) → joined p ps ≡ joined q qs →
    (pass_of k sheet (joined p ps)).number ≡ 0 → closed_parts k sheet p ps ≡ true → closed_parts k sheet q qs ≡ true →
    (outputs (passes k sheet p ps) ≡ outputs (passes k sheet q qs)) × (last_sheet (passes k sheet p ps) ≡ last_sheet (passes k sheet q qs))
two_lists k sheet p q ps qs e h c d =
    let a = demand_3 k sheet p ps h c in
    let b = demand_3 k sheet q qs (rw e at h) d in
    (a.same-output ∙ rw e (sym b.same-output), a.same-sheet ∙ rw e (sym b.same-sheet))
