use Rattle.builder.specs.Runs.{expansion-cleared}
use Rattle.builder.proofs.preprocess_typst.Goals as goal

pub returns : goal.returns
returns c = expansion-cleared _ _ c.preprocess_typst.ensures c.from-expanded.ensures c.clear_from.ensures c.clear_from-2.ensures
