use Rattle.marks.specs.Marks.{comment_says}
use Rattle.marks.proofs.commented.Goals as goal

pub returns : goal.returns
returns c = comment_says _ c.last_line.ensures c.span-k.ensures c.starts_with.ensures
