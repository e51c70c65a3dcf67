use Rattle.std.proofs.Common.{rules}
use mathlib.Core.Path.{refl}
use Rattle.buffers.proofs.Library.{cleared}
use Rattle.buffers.proofs.clear_from.Goals as goal

pub returns : goal.returns
returns c = cleared c.args.out.now c.args.from (search rules) refl (c.fill.ensures.after (λ y k. search rules))
