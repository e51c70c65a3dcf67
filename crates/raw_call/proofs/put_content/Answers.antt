use Rattle.std.proofs.Common.{rules, refl}
use Rattle.strings.specs.Written.{puts-all}
use Rattle.raw_call.proofs.put_content.Goals as goal

pub returns : goal.returns
returns c = let n = c.put_first.ensures.same in puts-all c.put_first.ensures refl (search rules)
