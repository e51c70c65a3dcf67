use Rattle.std.proofs.Common.{rules}
use Rattle.bundle_layout.specs.Order.{ordered-none, ordered_end, ordered-byte}
use Rattle.bundle_layout.proofs.order.ordered.Goals as goal

pub returns-then-q-k : goal.returns-then-q-k
returns-then-q-k c = ordered-none c.requires (search rules)

pub returns-then-x-k : goal.returns-then-x-k
returns-then-x-k c = ordered_end c.requires (search rules) (search rules)

pub returns : goal.returns
returns c = ordered-byte c.requires (search rules) (search rules)
