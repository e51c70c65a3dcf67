use Rattle.std.proofs.Common.{rules, arith, length}
use Rattle.arguments.specs.Given.{limit-le}
use Rattle.runs.specs.Sheets.{stored-holds}
use Rattle.runs.specs.Expansion.{from-stored, expansion-refused, expansion-run}
use Rattle.runs.proofs.expansion_call.preprocess_typst.Goals as goal

pub returns-in_err-given : goal.returns-in_err-given
returns-in_err-given c = expansion-refused (rw c.sheet_limit.ensures at c.in_err-given.ensures) (grind arith)

pub store_sheet-len-requires : goal.store_sheet-len-requires
store_sheet-len-requires c = let g = rw c.sheet_limit.ensures at c.in_ok-given.ensures.2 in rw c.in_ok-given.ensures.1 (omega (arith, g.fits, limit-le (length c.args.left.now)))

pub new-requires : goal.new-requires
new-requires c = c.in_ok-given.ensures.2.texts

pub expand_from-requires : goal.expand_from-requires
expand_from-requires c = let g = rw c.sheet_limit.ensures at c.in_ok-given.ensures.2 in stored-holds c.store_sheet-len.ensures (rw c.in_ok-given.ensures.1 g.fits) (search rules)

pub returns : goal.returns
returns c =
    let S = rw c.in_ok-given.ensures.1 at c.store_sheet-len.ensures in
    expansion-run (rw c.sheet_limit.ensures at c.in_ok-given.ensures.2) (from-stored S (search rules) (rw (c.in_ok-given.ensures.0, c.new.ensures) at c.expand_from.ensures))
