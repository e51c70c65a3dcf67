use Rattle.std.proofs.Common.{rules, arith, length}
use Rattle.arguments.specs.Given.{limit-le}
use Rattle.runs.specs.Sheets.{stored-holds}
use Rattle.runs.specs.Expansion.{from-stored}
use Rattle.runs.specs.Pass.{passes-refused, run-stopped, run-ascii, run-refused, run-done}
use Rattle.runs.proofs.pass_call.pass.Goals as goal

pub returns-in_err-given : goal.returns-in_err-given
returns-in_err-given c = passes-refused (rw c.sheet_limit.ensures at c.in_err-given.ensures) (grind arith)

pub returns-in_err-whole : goal.returns-in_err-whole
returns-in_err-whole c = run-stopped _ _ (rw c.sheet_limit.ensures at c.in_ok-given.ensures.2) c.new-first.ensures (rw c.in_ok-given.ensures.0 at c.resolve.ensures) (search rules) c.in_err-whole.was (grind arith)

pub new-requires : goal.new-requires
new-requires c = run-ascii c.args.out.now _ (rw c.sheet_limit.ensures at c.in_ok-given.ensures.2) c.new-first.ensures (rw c.in_ok-given.ensures.0 at c.resolve.ensures) (search rules) c.in_ok-whole.was

pub store_sheet-len-requires : goal.store_sheet-len-requires
store_sheet-len-requires c = let g = rw c.sheet_limit.ensures at c.in_ok-given.ensures.2 in rw c.in_ok-given.ensures.1 (omega (arith, g.fits, limit-le (length c.args.left.now)))

pub expand_from-requires : goal.expand_from-requires
expand_from-requires c = let g = rw c.sheet_limit.ensures at c.in_ok-given.ensures.2 in stored-holds c.store_sheet-len.ensures (rw c.in_ok-given.ensures.1 g.fits) (search rules)

pub returns-in_err-ran : goal.returns-in_err-ran
returns-in_err-ran c =
    run-refused _ _ (rw c.sheet_limit.ensures at c.in_ok-given.ensures.2) c.new-first.ensures (rw c.in_ok-given.ensures.0 at c.resolve.ensures) (search rules) c.in_ok-whole.was
    (from-stored (rw c.in_ok-given.ensures.1 at c.store_sheet-len.ensures) (search rules) (rw (c.in_ok-given.ensures.0, c.new.ensures) at c.expand_from.ensures)) c.in_err-ran.was (grind arith)

pub returns : goal.returns
returns c =
    run-done _ _ (rw c.sheet_limit.ensures at c.in_ok-given.ensures.2) c.new-first.ensures (rw c.in_ok-given.ensures.0 at c.resolve.ensures) (search rules) c.in_ok-whole.was
    (from-stored (rw c.in_ok-given.ensures.1 at c.store_sheet-len.ensures) (search rules) (rw (c.in_ok-given.ensures.0, c.new.ensures) at c.expand_from.ensures)) c.in_ok-ran.was c.ends_in_newline.ensures
