use Rattle.std.proofs.Common.{refl}
use Rattle.raw_content.specs.Content.{content-expression, content-read, content-reference}
use Rattle.raw_content.proofs.raw_content.Goals as goal

pub returns-then-at : goal.returns-then-at
returns-then-at c = content-expression _ _ c.at.ensures c.if-at.true refl c.expression-read.ensures

pub returns-then-starts_with : goal.returns-then-starts_with
returns-then-starts_with c = rw c.behind.ensures (content-read _ _ c.at.ensures c.if-at.false c.starts_with.ensures c.if-starts_with.true c.read_call.ensures)

pub returns : goal.returns
returns c = content-reference _ _ c.at.ensures c.if-at.false c.starts_with.ensures c.if-starts_with.false c.span-end.ensures c.find_text-found.ensures _ (c.text_content.ensures _)
