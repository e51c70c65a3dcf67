use Rattle.std.proofs.Common.{length}
use Rattle.sheet.specs.Name.{asked}
use Rattle.sheet.specs.Order.{SameTo}
use Rattle.sheet.proofs.lookup.order.Given as goal

abbrev pub invariant-loop-x : goal.invariant-loop-x
invariant-loop-x l = SameTo l.a (asked l.b) (length l.yielded)
