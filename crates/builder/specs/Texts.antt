-- A result as a text's answer.
use Rattle.std.specs.Prelude.{◌≡◌, ℕ, Result, Ok, Err}
use Rattle.refusal.specs.declared.Refusal.{Refusal}
use Rattle.refusal.specs.Numbers.{number}
use Rattle.builder.specs.declared.Text.{Text}

-- Number 0 and the length, or the refusal's number and 0.
abbrev pub IsTextOf : Result ℕ Refusal → Text → Type 0
IsTextOf (Ok n) text = text ≡ record { number = 0; len = n }
IsTextOf (Err refusal) text = text ≡ record { number = number refusal; len = 0 }
