use Rattle.bundle_layout.specs.Order.{Agreeing}
use Rattle.bundle_layout.proofs.order.agree.Given as goal

abbrev pub invariant-loop-i : goal.invariant-loop-i
invariant-loop-i l = Agreeing l.x l.q l.i
