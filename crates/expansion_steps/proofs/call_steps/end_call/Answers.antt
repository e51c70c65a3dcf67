use Rattle.std.proofs.Common.{arith}
use Rattle.expansion_steps.specs.Call.{Ends, ends-put, ends-no}
use Rattle.expansion_steps.proofs.call_steps.end_call.Goals as goal

pub returns-in_default : goal.returns-in_default
unfolding Ends
returns-in_default c = rw c.in_default.is c.show.ensures

pub returns-in_err-output : goal.returns-in_err-output
returns-in_err-output c = rw c.in-Some.is (ends-no _ _ _ _ _ c.in_err-output.was (grind arith))

pub returns : goal.returns
returns c = rw c.in-Some.is (ends-put _ _ _ _ _ c.in_ok-output.was)
