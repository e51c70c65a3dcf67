use Rattle.std.proofs.Common.{refl}
use Rattle.link_call.specs.Link.{block_none, block_text_lem}
use Rattle.link_call.proofs.content_block_end.Goals as goal

pub returns-then-not-at : goal.returns-then-not-at
returns-then-not-at c = block_none c.span-i.ensures c.at.ensures c.if-not-at.true refl

pub returns : goal.returns
returns c = block_text_lem c.span-i.ensures c.at.ensures c.if-not-at.false c.find-j.ensures c.at-2.ensures c.skip.ensures refl
