use Rattle.let_steps.specs.Let.{lets}
use Rattle.let_steps.proofs.let_step.Goals as goal

pub returns : goal.returns
returns c = lets (rw c.bytes.ensures.same at c.let_line-line.ensures) c.bytes.ensures.ascii _ c.requires c.bind_line.ensures
