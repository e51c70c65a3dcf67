use Rattle.std.proofs.Common.{rules, arith}
use Rattle.places.specs.Mark.{begins-first}
use Rattle.runs.specs.Sheets.{sheet-room}
use Rattle.runs.specs.Expansion.{from-stopped, from-done}
use Rattle.runs.proofs.expand_from.Goals as goal

pub invariant_of-records : goal.invariant_of-records
invariant_of-records c =
    let r = sheet-room c.args.len c.args.left.now c.sheet_limit-limit.ensures c.requires.within in
    record { fits = omega (arith, r.0, r.1); room = r.1; small = r.2; place = λ x _ _. begins-first x }

pub invariant_of-bound : goal.invariant_of-bound
invariant_of-bound c = record { sheet = c.requires.layout; within = rw c.sheet_limit-limit.ensures c.requires.within }

pub returns-in_err-whole : goal.returns-in_err-whole
returns-in_err-whole c = from-stopped c.new-w.ensures c.expand.ensures c.sheet_limit-limit.ensures (search rules) (search rules) c.in_err-whole.was (grind arith)

pub returns : goal.returns
returns c = from-done c.new-w.ensures c.expand.ensures c.sheet_limit-limit.ensures (search rules) (search rules) c.in_ok-whole.was (search rules)
