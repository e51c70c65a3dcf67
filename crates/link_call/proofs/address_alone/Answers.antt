use Rattle.std.proofs.Common.{rules}
use Rattle.link_call.specs.Link.{alone_empty, alone_same}
use Rattle.link_call.proofs.address_alone.Goals as goal

pub returns-then-text-eq0 : goal.returns-then-text-eq0
returns-then-text-eq0 c = alone_empty _ _ (search rules)

pub returns : goal.returns
returns c = alone_same _ _ (search rules) c.is_text.ensures
