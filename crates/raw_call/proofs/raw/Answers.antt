use Rattle.std.proofs.Common.{Ok, ap, ◌∙◌, arith}
use Rattle.calls.specs.Called.{calls-back, calls-refused, calls-output}
use Rattle.raw_call.specs.Raw.{inside, raw-refused, raw-back, raw-measures, raw-stalled, raw-output, arguments-inside}
use Rattle.raw_call.proofs.raw.Goals as goal

pub returns-in_err-given : goal.returns-in_err-given
returns-in_err-given c = calls-refused _ _ _ (raw-refused _ _ c.span-from.ensures c.raw_content.ensures c.behind-read.ensures c.in_err-given.was) (grind arith)

pub returns-in_default : goal.returns-in_default
returns-in_default c = calls-back _ _ (raw-back _ _ c.span-from.ensures c.raw_content.ensures c.behind-read.ensures (c.in_ok-given.was ∙ ap Ok c.in_default.is)) (inside _ _ c.span-from.ensures c.raw_content.ensures c.behind-read.ensures)

pub returns-in_err-arguments : goal.returns-in_err-arguments
returns-in_err-arguments c = calls-refused _ _ _ (raw-stalled _ _ c.span-from.ensures c.raw_content.ensures c.behind-read.ensures (c.in_ok-given.was ∙ ap Ok c.in-Some.is) (c.arguments.ensures _) c.in_err-arguments.was) (grind arith)

pub behind-args-requires : goal.behind-args-requires
behind-args-requires c = let h = arguments-inside _ _ c.span-from.ensures c.raw_content.ensures c.behind-read.ensures (c.in_ok-given.was ∙ ap Ok c.in-Some.is) (c.arguments.ensures _) c.in_ok-arguments.was in omega (arith, h)

pub skip-used-requires : goal.skip-used-requires
skip-used-requires c = let h = arguments-inside _ _ c.span-from.ensures c.raw_content.ensures c.behind-read.ensures (c.in_ok-given.was ∙ ap Ok c.in-Some.is) (c.arguments.ensures _) c.in_ok-arguments.was in rw c.behind-args.ensures h

pub put_raw-put-requires : goal.put_raw-put-requires
put_raw-put-requires c = raw-measures _ _ c.span-from.ensures c.raw_content.ensures c.behind-read.ensures (c.in_ok-given.was ∙ ap Ok c.in-Some.is)

pub returns : goal.returns
returns c = calls-output _ (raw-output _ _ c.span-from.ensures c.raw_content.ensures c.behind-read.ensures (c.in_ok-given.was ∙ ap Ok c.in-Some.is) (c.arguments.ensures _) c.in_ok-arguments.was c.behind-args.ensures c.at-whole.ensures c.skip-used.ensures) c.skip-used.ensures.inside c.put_raw-put.ensures.wrote
