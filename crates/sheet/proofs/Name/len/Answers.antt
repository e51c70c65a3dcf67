use Rattle.sheet.specs.Name.{asked-long}
use Rattle.sheet.proofs.Name.len.Goals as goal

pub returns : goal.returns
returns c = asked-long c.args.self c.text.ensures
