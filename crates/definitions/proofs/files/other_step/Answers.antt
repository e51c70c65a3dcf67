use Rattle.std.proofs.Common.{◌≡◌, Err, ap, arith, length, length-drop}
use Rattle.rules.specs.Answer.{accepted}
use Rattle.definitions.specs.Steps.{step-behind}
use Rattle.definitions.specs.File.{other_comment, other-let, other-skip}
use Rattle.definitions.proofs.files.other_step.Goals as goal

pub returns-then-starts_with-clause-steps : goal.returns-then-starts_with-clause-steps
returns-then-starts_with-clause-steps c = λ i. other_comment c.args.left.now c.requires.0 c.requires.1 (rw c.bytes-bytes.ensures.same at c.starts_with.ensures) i c.if-starts_with.true (rw c.bytes-bytes.ensures.same at c.find.ensures)

pub behind-requires : goal.behind-requires
behind-requires c = omega (arith, c.starts_with-2.ensures.there c.if-starts_with-2.true, ap length c.bytes-bytes.ensures.same)

pub let_step-requires : goal.let_step-requires
let_step-requires c = c.requires.2

pub returns-in_err-used-clause-steps : goal.returns-in_err-used-clause-steps
returns-in_err-used-clause-steps c =
    let gone : c.from_residual.result ≡ Err c.in_err-used.field-0.0 = grind arith in
    let C = rw c.bytes-bytes.ensures.same at c.starts_with.ensures in
    let D = rw c.bytes-bytes.ensures.same at c.starts_with-2.ensures in
    λ i. rw (gone, other-let c.args.left.now c.requires.0 c.requires.1 C i c.if-starts_with.false D c.if-starts_with-2.true c.behind.ensures) (c.in_err-used.ensures.steps i)

pub overflow_add-result : goal.overflow_add-result
overflow_add-result c =
    let h = (c.in_ok-used.ensures.steps (λ s p n. accepted s)).inside in
    record { fits = omega (arith, c.starts_with-2.ensures.there c.if-starts_with-2.true, ap length c.bytes-bytes.ensures.same, ap length c.behind.ensures, length-drop 4 c.args.text.now, h) }

pub returns-then-starts_with-2-clause-steps : goal.returns-then-starts_with-2-clause-steps
returns-then-starts_with-2-clause-steps c =
    let C = rw c.bytes-bytes.ensures.same at c.starts_with.ensures in
    let D = rw c.bytes-bytes.ensures.same at c.starts_with-2.ensures in
    λ i. step-behind (D.there c.if-starts_with-2.true) c.behind.ensures (other-let c.args.left.now c.requires.0 c.requires.1 C i c.if-starts_with.false D c.if-starts_with-2.true c.behind.ensures) (c.in_ok-used.ensures.steps i)

pub returns-clause-steps : goal.returns-clause-steps
returns-clause-steps c = λ i. other-skip c.args.left.now c.requires.0 c.requires.1 (rw c.bytes-bytes.ensures.same at c.starts_with.ensures) i c.if-starts_with.false (rw c.bytes-bytes.ensures.same at c.starts_with-2.ensures) c.if-starts_with-2.false
