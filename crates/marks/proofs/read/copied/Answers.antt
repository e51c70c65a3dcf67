use Rattle.marks.specs.Read.{copies}
use Rattle.marks.proofs.read.copied.Goals as goal

pub returns : goal.returns
returns c = copies
