use Rattle.std.proofs.Common.{arith}
use Rattle.expansion_steps.specs.Step.{writes-raw, writes-link, writes-reference, refuses-reference}
use Rattle.expansion_steps.proofs.step.writing_step.Goals as goal

pub returns-then-starts_with : goal.returns-then-starts_with
returns-then-starts_with c = writes-raw _ c.requires c.starts_with.ensures c.if-starts_with.true c.raw_step.ensures

pub returns-then-starts_with-2 : goal.returns-then-starts_with-2
returns-then-starts_with-2 c = writes-link _ c.requires c.starts_with.ensures c.if-starts_with.false c.starts_with-2.ensures c.if-starts_with-2.true c.link_step.ensures

pub returns-in_err-read : goal.returns-in_err-read
returns-in_err-read c = refuses-reference _ c.requires c.starts_with.ensures c.if-starts_with.false c.starts_with-2.ensures c.if-starts_with-2.false c.reference_step-read.ensures c.in_err-read.was (grind arith)

pub returns : goal.returns
returns c = writes-reference _ c.requires c.starts_with.ensures c.if-starts_with.false c.starts_with-2.ensures c.if-starts_with-2.false c.reference_step-read.ensures c.in_ok-read.was
