use Rattle.builder.specs.Lookups.{found-answer}
use Rattle.builder.proofs.find_file.Goals as goal

pub returns : goal.returns
returns c = found-answer _ _ c.find_file.result _ c.find_file.ensures c.from.ensures
