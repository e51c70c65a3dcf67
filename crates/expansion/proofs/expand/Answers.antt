use Rattle.std.proofs.Common.{rules, arith, ◌∙◌, sym, ap, length, drop}
use Rattle.expansion.specs.Run.{expanding-start, expanding-full, expanding-end, hash, expanding-refused, expanding-inside, expanding-smaller, expanding-on}
use Rattle.expansion.proofs.expand.Goals as goal

pub steps-init : goal.steps-init
steps-init c = expanding-start _ _ _ _

pub returns-in_err-put_before : goal.returns-in_err-put_before
returns-in_err-put_before c = rw (← c.bytes-bytes.ensures.same) (expanding-full _ _ _ _ c.steps.invariant c.find-at.ensures c.put_before.ensures c.in_err-put_before.was (grind arith))

pub returns-then-bytes-at : goal.returns-then-bytes-at
returns-then-bytes-at c = rw (← c.bytes-bytes.ensures.same) (expanding-end _ _ _ _ c.steps.invariant c.find-at.ensures c.put_before.ensures c.in_ok-put_before.was (search rules))

pub behind-requires : goal.behind-requires
behind-requires c = omega (arith, c.find-at.ensures.inside, ap length c.bytes-bytes.ensures.same)

pub step-requires : goal.step-requires
step-requires c =
    let p = c.behind.ensures ∙ ap (drop c.find-at.result) (sym c.bytes-bytes.ensures.same) in
    hash _ _ _ _ c.steps.invariant c.find-at.ensures c.put_before.ensures c.in_ok-put_before.was (search rules) p

pub returns-in_err-read : goal.returns-in_err-read
returns-in_err-read c =
    let p = c.behind.ensures ∙ ap (drop c.find-at.result) (sym c.bytes-bytes.ensures.same) in
    rw (← c.bytes-bytes.ensures.same) (expanding-refused _ _ _ _ c.steps.invariant c.find-at.ensures c.put_before.ensures c.in_ok-put_before.was (search rules) p c.step.ensures c.in_err-read.was (grind arith))

pub overflow_add-done : goal.overflow_add-done
overflow_add-done c =
    let p = c.behind.ensures ∙ ap (drop c.find-at.result) (sym c.bytes-bytes.ensures.same) in
    let h = expanding-inside _ _ _ _ c.steps.invariant c.find-at.ensures c.put_before.ensures c.in_ok-put_before.was (search rules) p c.step.ensures c.in_ok-read.was in
    search rules

pub steps-smaller : goal.steps-smaller
steps-smaller c =
    let p = c.behind.ensures ∙ ap (drop c.find-at.result) (sym c.bytes-bytes.ensures.same) in
    expanding-smaller _ _ _ _ c.steps.invariant c.find-at.ensures c.put_before.ensures c.in_ok-put_before.was (search rules) p c.step.ensures c.in_ok-read.was

pub steps-preserved : goal.steps-preserved
steps-preserved c =
    let p = c.behind.ensures ∙ ap (drop c.find-at.result) (sym c.bytes-bytes.ensures.same) in
    expanding-on _ _ _ _ c.steps.invariant c.find-at.ensures c.put_before.ensures c.in_ok-put_before.was (search rules) p c.step.ensures c.in_ok-read.was
