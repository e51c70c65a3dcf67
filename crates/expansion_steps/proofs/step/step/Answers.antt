use Rattle.std.proofs.Common.{refl, arith, ap, length}
use Rattle.let_steps.specs.Let.{lets-within}
use Rattle.expansion_steps.specs.Step.{steps-import, steps-over, steps-let, steps-kept}
use Rattle.expansion_steps.proofs.step.step.Goals as goal

pub returns-then-starts_with : goal.returns-then-starts_with
returns-then-starts_with c = rw (← c.bytes-bytes.ensures.same) (steps-import _ c.starts_with.ensures _ c.if-starts_with.true c.import_step.ensures)

pub behind-requires : goal.behind-requires
behind-requires c = omega (arith, c.starts_with-2.ensures.there c.if-starts_with-2.true, ap length c.bytes-bytes.ensures.same)

pub let_step-read-requires : goal.let_step-read-requires
let_step-read-requires c = c.args.left.now.sheet

pub invariant_of-left : goal.invariant_of-left
invariant_of-left c = record { sheet = c.let_step-read.ensures.sheet; within = lets-within c.let_step-read.ensures c.args.left.now.within }

pub returns-in_err-read : goal.returns-in_err-read
returns-in_err-read c = steps-over _ (rw c.bytes-bytes.ensures.same at c.starts_with.ensures) _ c.if-starts_with.false (rw c.bytes-bytes.ensures.same at c.starts_with-2.ensures) c.if-starts_with-2.true _ refl (rw c.behind.ensures at c.let_step-read.ensures) c.in_err-read.was (grind arith)

pub returns-then-starts_with-2 : goal.returns-then-starts_with-2
returns-then-starts_with-2 c = steps-let _ (rw c.bytes-bytes.ensures.same at c.starts_with.ensures) _ c.if-starts_with.false (rw c.bytes-bytes.ensures.same at c.starts_with-2.ensures) c.if-starts_with-2.true _ refl (rw c.behind.ensures at c.let_step-read.ensures) c.in_ok-read.was

pub returns : goal.returns
returns c = rw (← c.bytes-bytes.ensures.same) (steps-kept _ c.sheet.ensures c.writing_step.ensures)
