use Rattle.std.specs.Prelude.{refl}
use Rattle.rules.specs.Reader.{but}
use Rattle.let_steps.specs.Let.{line-is}
use Rattle.let_steps.proofs.let_line.Goals as goal

pub returns : goal.returns
unfolding but
returns c = line-is c.span-from.ensures c.span-to.ensures c.span-behind.ensures c.find-newline.ensures refl c.trim-trimmed.ensures c.skip.ensures
