use Rattle.std.proofs.Common.{rules}
use Rattle.scan.proofs.Library.{skips-min}
use Rattle.scan.proofs.skip.Goals as goal

pub returns : goal.returns
returns c = rw c.min.ensures (skips-min _ _ (search rules))
