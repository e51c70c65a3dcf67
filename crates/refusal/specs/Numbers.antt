-- The number of a refusal (01, section 8).
use Rattle.std.specs.Prelude.{◌≡◌, Bool, true, false, ℕ, Result, Ok, Err}
use Rattle.std.proofs.Common.{true≢false, sym, arith}
use Rattle.refusal.specs.declared.Refusal.{Refusal}
use Rattle.refusal.specs.declared.Refusal.TheVariants.{Work, Bundle, Sheet, Path, File, Byte, Level, Stalled, Limit, Middle, Output, Other}

-- Any other number, as its caller gave it.
unfoldable pub told : ℕ → ℕ
told n = n

abbrev pub number : Refusal → ℕ
number Work = 1
number Bundle = 2
number Sheet = 3
number Path = 4
number File = 5
number Byte = 6
number Level = 7
number Stalled = 8
number Limit = 9
number Middle = 10
number Output = 11
number (Other n) = told n

-- Is it one of section 8's eleven, and not a number of a caller's?
abbrev pub listed : Refusal → Bool
listed Work = true
listed Bundle = true
listed Sheet = true
listed Path = true
listed File = true
listed Byte = true
listed Level = true
listed Stalled = true
listed Limit = true
listed Middle = true
listed Output = true
listed (Other n) = false

-- What is answered is one of the eleven, where it is a refusal.
abbrev pub Listed : {A : Type 0} → Result A Refusal → Type 0
Listed (Ok x) = Unit {0}
Listed (Err k) = listed k ≡ true

-- LAW. Accepted calls have the number 0; none of the eleven has it.
pub number-not-zero : (e : Refusal) → listed e ≡ true → number e ≡ 0 → ⊥
number-not-zero Work l h = omega arith
number-not-zero Bundle l h = omega arith
number-not-zero Sheet l h = omega arith
number-not-zero Path l h = omega arith
number-not-zero File l h = omega arith
number-not-zero Byte l h = omega arith
number-not-zero Level l h = omega arith
number-not-zero Stalled l h = omega arith
number-not-zero Limit l h = omega arith
number-not-zero Middle l h = omega arith
number-not-zero Output l h = omega arith
number-not-zero (Other n) l h = absurd (true≢false (sym l))
