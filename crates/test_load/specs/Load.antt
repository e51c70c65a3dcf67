-- What the call promises.
use Rattle.std.specs.Prelude.{◌≡◌, ℕ, ◌≤◌, Bool, List, Result, IfOk, length}
use Rattle.rules.specs.Calls.{test_load_result}
use Rattle.refusal.specs.declared.Refusal.{Refusal}
use Rattle.buffers.specs.Wrote.{first_bytes}

-- The load of a seed at the start of a buffer, b before and c after; or the refusal.
pub record Loads (seed : ℕ) (definitions : Bool) (b c : List ℕ) (r : Result ℕ Refusal) : Type 0 where
  pub size : length c ≡ length b
  pub fits : IfOk r (λ n. n ≤ length b)
  pub is : test_load_result seed definitions (length b) ≡ first_bytes c r
