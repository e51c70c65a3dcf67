use Rattle.rules.specs.Calls.{test_load_of}
use Rattle.builder.specs.Cleared.{text-cleared}
use Rattle.builder.proofs.test_load.Goals as goal

pub returns : goal.returns
unfolding test_load_of
returns c = let t = c.test_load.ensures in text-cleared _ t.size _ _ t.fits t.is c.from-load.ensures c.clear_from.ensures
