use Rattle.std.proofs.Common.{refl}
use Rattle.link_call.specs.Link.{end_block, end_paren}
use Rattle.link_call.proofs.call_end.Goals as goal

pub returns-then-at : goal.returns-then-at
returns-then-at c = rw c.behind.ensures (end_block c.span-i.ensures c.at.ensures c.if-at.true c.content_block_end.ensures)

pub returns : goal.returns
returns c = end_paren c.span-i.ensures c.at.ensures c.if-at.false c.find-j.ensures c.at-2.ensures c.skip.ensures refl
