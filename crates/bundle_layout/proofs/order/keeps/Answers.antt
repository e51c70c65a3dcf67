use Rattle.std.proofs.Common.{rules}
use Rattle.bundle_layout.specs.Order.{keeps-path, keeps-order, keeps-clash, order-inside}
use Rattle.bundle_layout.proofs.order.keeps.Goals as goal

pub returns-then-not-is_path : goal.returns-then-not-is_path
returns-then-not-is_path c = keeps-path _ _ _ _ c.is_path.ensures c.if-not-is_path.true

pub ordered-requires : goal.ordered-requires
ordered-requires c = c.requires.0

pub returns-then-not-ordered : goal.returns-then-not-ordered
returns-then-not-ordered c = keeps-order _ _ _ _ c.is_path.ensures c.if-not-is_path.false c.ordered.ensures c.if-not-ordered.true

pub clashes-requires : goal.clashes-requires
clashes-requires c = (order-inside c.requires.0 c.ordered.ensures c.if-not-ordered.false, search rules)

pub returns : goal.returns
returns c = keeps-clash _ _ _ _ c.is_path.ensures c.if-not-is_path.false c.ordered.ensures c.if-not-ordered.false c.clashes.ensures
