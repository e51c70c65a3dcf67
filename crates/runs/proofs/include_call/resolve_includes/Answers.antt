use Rattle.std.proofs.Common.{rules, arith}
use Rattle.runs.specs.Includes.{included-size, included-stops, included-goes, text-refused, text-stopped, text-done}
use Rattle.runs.proofs.include_call.resolve_includes.Goals as goal

pub returns-in_err-given : goal.returns-in_err-given
returns-in_err-given c = text-refused c.in_err-given.ensures (grind arith)

pub returns-in_err-resolve : goal.returns-in_err-resolve
returns-in_err-resolve c =
    let R = rw c.in_ok-given.ensures.0 at c.resolve.ensures in
    text-stopped c.in_ok-given.ensures.2 (included-size _ _ _ c.new-w.ensures R (search rules)) (included-stops _ _ _ c.new-w.ensures R c.in_err-resolve.was) (grind arith)

pub returns : goal.returns
returns c =
    let R = rw c.in_ok-given.ensures.0 at c.resolve.ensures in
    text-done c.in_ok-given.ensures.2 (included-size _ _ _ c.new-w.ensures R (search rules)) (included-goes _ _ _ c.new-w.ensures R (search rules) c.in_ok-resolve.was)
