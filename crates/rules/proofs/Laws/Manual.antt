-- What `manual` writes fits its buffer.
use Rattle.std.specs.Prelude.{◌≡◌, refl, List, Bool, true, false, ℕ, zero, suc, ◌≤◌, leb, ltb, length, take}
use Rattle.std.proofs.Common.{ap, arith, length-append, length-take-le}
use Rattle.rules.specs.Answer.{Answer, refused, accepted, or_refuse}
use Rattle.rules.specs.Reader.{bytes}
use Rattle.rules.specs.Bundle.{bundle_of}
use Rattle.rules.specs.Files.{view, fetch}
use Rattle.rules.specs.Calls.{Holds, Passed, parse_definitions_of, pass_of}
use Rattle.rules.specs.Manual.{decimal, answered, sheet_from, output_from, setting, built, shown, manual, manual_of}
use Rattle.rules.proofs.Laws.Answer.{not-both, accepted-same, check_inv, bind_inv}
use Rattle.rules.proofs.Laws.Calls.{holds-padded, pass_holds}

-- A refusal's text.
decimal-short : (k : ℕ) (c : Bool) → ltb k 10 ≡ c → length (decimal k) ≤ 2
unfolding decimal
decimal-short k true q = rw (q, decimal) (omega arith)
decimal-short k false q = rw (q, decimal) (omega arith)

refusal-short : (k : ℕ) → length (shown (refused k)) ≤ 11
unfolding shown
refusal-short k = simp length-append (omega (arith, decimal-short k _ refl))

-- What an accepted pass writes.
answered_inv : (k : ℕ) (r : List ℕ) {o : List ℕ} → answered k r ≡ accepted o → r ≡ o
unfolding answered
answered_inv zero r h = accepted-same h
answered_inv (suc k) r h = absurd (not-both h)

output-fits : {n : ℕ} (p : Passed) {o : List ℕ} → Holds n p.len p.out → output_from p ≡ accepted o → length o ≤ n
unfolding output_from
output-fits p h q = omega (arith, ap length (answered_inv p.number (take p.len p.out) q), length-take-le p.len p.out (omega arith))

built-fits : (b o : List ℕ) → built b ≡ accepted o → length o ≤ 32768
unfolding built
built-fits b o q =
    let c = check_inv _ (leb (length b) _) _ q in
    let s = bind_inv (sheet_from (parse_definitions_of b (bytes "defs.typ") _ _)) _ c.1 in
    let e = bind_inv (or_refuse _ (bundle_of b)) _ s.2 in
    let t = bind_inv (fetch (view e.0) (bytes "main.typ")) _ e.2 in
    output-fits (pass_of (setting b) s.0 t.0) (pass_holds (setting b) s.0 t.0).output t.2

shown-fits : (n : ℕ) (a : Answer (List ℕ)) → 11 ≤ n → ((o : List ℕ) → a ≡ accepted o → length o ≤ n) → length (shown a) ≤ n
unfolding shown
shown-fits n (refused k) l h = omega (arith, refusal-short k)
shown-fits n (accepted o) l h = h o refl

pub manual-fits : (b : List ℕ) → length (manual b) ≤ 32768
unfolding manual
manual-fits b = shown-fits 32768 (built b) (omega arith) (built-fits b)

pub manual-holds : (b : List ℕ) → Holds 32768 (manual_of b).len (manual_of b).out
unfolding manual_of
manual-holds b = holds-padded 32768 (manual b) (manual-fits b)
