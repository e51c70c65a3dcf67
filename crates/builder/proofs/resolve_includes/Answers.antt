use Rattle.rules.specs.Calls.{resolve_includes_of}
use Rattle.builder.specs.Cleared.{text-cleared}
use Rattle.builder.proofs.resolve_includes.Goals as goal

pub returns : goal.returns
unfolding resolve_includes_of
returns c = let t = c.resolve_includes.ensures in text-cleared _ t.size _ _ t.fits t.is c.from-included.ensures c.clear_from.ensures
