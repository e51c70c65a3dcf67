use Rattle.std.specs.Prelude.{◌-◌}
use Rattle.sheet_layout.specs.Check.{Running}
use Rattle.sheet_layout.proofs.+inside.Given as goal

abbrev pub decreases-inside : goal.decreases-inside
decreases-inside l = l.levels

abbrev pub invariant-loop : goal.invariant-loop
invariant-loop l = Running l.s l.fn.o.next l.fn.o.count l.levels l.i (l.end - l.counter) l.last
