use Rattle.std.proofs.Common.{◌≡◌, Err, refl, arith}
use Rattle.rules.specs.Answer.{accepted}
use Rattle.scan.specs.Laws.{tail-part}
use Rattle.binding.specs.Buffer.{same-refl}
use Rattle.binding.specs.Sheets.{sheet-order}
use Rattle.definitions.specs.Steps.{let-no, let-sheet, let-within, let-full, let-bound}
use Rattle.definitions.proofs.steps.let_step.Goals as goal

pub returns-in_err-v-clause-steps : goal.returns-in_err-v-clause-steps
returns-in_err-v-clause-steps c =
    let gone : c.from_residual.result ≡ Err c.in_err-v.field-0.0 = grind arith in
    λ i. rw (gone, ← c.bytes-bytes.ensures.same) (let-no c.args.left.now i c.span-from.ensures c.span-to.ensures c.span-at.ensures (tail-part c.bytes-bytes.result.now c.span-at.result) (rw c.sheet.ensures at c.in_err-v.ensures) (same-refl _))

pub bind_value-requires : goal.bind_value-requires
bind_value-requires c = (sheet-order c.args.left.now, record { v = c.in_ok-v.ensures.v; is = c.in_ok-v.ensures.source })

pub invariant_of-left : goal.invariant_of-left
invariant_of-left c = record {
  sheet = let-sheet c.args.left.now (λ s p n. accepted s) c.span-from.ensures c.span-to.ensures c.span-at.ensures (tail-part c.bytes-bytes.result.now c.span-at.result) (rw c.sheet.ensures at c.in_ok-v.ensures) c.bind_value.ensures (rw c.bytes-bytes.ensures.same c.bytes-bytes.ensures.ascii);
  within = let-within c.args.left.now (λ s p n. accepted s) c.span-from.ensures c.span-to.ensures c.span-at.ensures (tail-part c.bytes-bytes.result.now c.span-at.result) (rw c.sheet.ensures at c.in_ok-v.ensures) c.bind_value.ensures;
}

pub returns-in_err-bind_value-clause-steps : goal.returns-in_err-bind_value-clause-steps
returns-in_err-bind_value-clause-steps c =
    let gone : c.from_residual-in_err-bind_value.result ≡ Err c.in_err-bind_value.field-0.0 = grind arith in
    λ i. rw (gone, ← c.bytes-bytes.ensures.same) (let-full c.args.left.now i c.span-from.ensures c.span-to.ensures c.span-at.ensures (tail-part c.bytes-bytes.result.now c.span-at.result) (rw c.sheet.ensures at c.in_ok-v.ensures) c.bind_value.ensures c.in_err-bind_value.was)

pub returns-clause-steps : goal.returns-clause-steps
returns-clause-steps c = λ i. rw (← c.bytes-bytes.ensures.same) (let-bound c.args.left.now i c.span-from.ensures c.span-to.ensures c.span-at.ensures (tail-part c.bytes-bytes.result.now c.span-at.result) (rw c.sheet.ensures at c.in_ok-v.ensures) c.bind_value.ensures (rw c.bytes-bytes.ensures.same c.bytes-bytes.ensures.ascii) c.in_ok-bind_value.was refl)
