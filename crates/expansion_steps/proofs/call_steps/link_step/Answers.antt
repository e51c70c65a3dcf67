use Rattle.std.specs.Prelude.{refl}
use Rattle.rules.specs.Reader.{bytes}
use Rattle.expansion_steps.specs.Call.{call-inside, step-plain, step-ended}
use Rattle.expansion_steps.proofs.call_steps.link_step.Goals as goal

pub returns-then-not-at : goal.returns-then-not-at
returns-then-not-at c = step-plain (bytes "#link") _ _ c.requires c.span-end.ensures c.at.ensures c.if-not-at.true c.show.ensures

pub returns : goal.returns
returns c = step-ended (bytes "#link") _ _ c.requires c.span-end.ensures c.at.ensures c.if-not-at.false _ _ c.link-called.ensures refl c.end_call.ensures

pub end_call-requires : goal.end_call-requires
end_call-requires c = call-inside _ _ _ _ _ _ c.link-called.ensures (c.at.ensures.there c.if-not-at.false)
