use Rattle.rules.specs.Reader.{bytes}
use Rattle.std.proofs.Common.{arith}
use Rattle.expansion_steps.specs.Call.{call-inside, step-plain, step-refused, step-ended}
use Rattle.expansion_steps.proofs.call_steps.raw_step.Goals as goal

pub returns-then-not-at : goal.returns-then-not-at
returns-then-not-at c = step-plain (bytes "#raw") _ _ c.requires c.span-end.ensures c.at.ensures c.if-not-at.true c.show.ensures

pub returns-in_err-called : goal.returns-in_err-called
returns-in_err-called c = step-refused (bytes "#raw") _ _ c.requires c.span-end.ensures c.at.ensures c.if-not-at.false _ _ c.raw.ensures c.in_err-called.was (grind arith)

pub returns : goal.returns
returns c = step-ended (bytes "#raw") _ _ c.requires c.span-end.ensures c.at.ensures c.if-not-at.false _ _ c.raw.ensures c.in_ok-called.was c.end_call.ensures

pub end_call-requires : goal.end_call-requires
end_call-requires c = call-inside _ _ _ _ _ _ c.in_ok-called.ensures (c.at.ensures.there c.if-not-at.false)
