use Rattle.std.proofs.Common.{rules}
use Rattle.bundle_layout.specs.Order.{agreeing-start, agreeing-on, agreeing-end, agreeing_differ}
use Rattle.bundle_layout.proofs.order.agree.Goals as goal

pub loop-i-init : goal.loop-i-init
loop-i-init c = agreeing-start _ _

pub returns-then-x-i : goal.returns-then-x-i
returns-then-x-i c = agreeing_differ c.loop-i.invariant c.if-x-i.true

pub loop-i-preserved : goal.loop-i-preserved
loop-i-preserved c = agreeing-on c.loop-i.invariant (search rules) (search rules) c.if-x-i.false

pub returns : goal.returns
returns c = agreeing-end c.loop-i.invariant c.min-n.ensures c.loop-i-test.false
