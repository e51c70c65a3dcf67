use Rattle.std.proofs.Common.{rules, refl}
use Rattle.strings.specs.Puts.{on-more}
use Rattle.strings.specs.Written.{puts-all}
use Rattle.raw_call.proofs.put_block.Goals as goal

pub returns : goal.returns
returns c =
    let r = on-more c.take.ensures (on-more c.put.ensures (on-more c.take-2.ensures (on-more c.put_first.ensures c.take-3.ensures))) in
    let n = r.same in
    puts-all r refl (search rules)
