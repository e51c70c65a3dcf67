use Rattle.rules.specs.Reader.{but}
use Rattle.let_steps.specs.Let.{imports}
use Rattle.let_steps.proofs.import_step.Goals as goal

pub returns : goal.returns
unfolding but
returns c = imports c.find-end.ensures c.skip.ensures
