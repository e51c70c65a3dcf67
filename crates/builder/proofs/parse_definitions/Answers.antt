use Rattle.rules.specs.Calls.{parse_definitions_of}
use Rattle.builder.specs.Definitions.{definitions-cleared}
use Rattle.builder.proofs.parse_definitions.Goals as goal

pub returns : goal.returns
unfolding parse_definitions_of
returns c = definitions-cleared c.parse_definitions.result _ c.parse_definitions.ensures c.from-defined.ensures c.clear_from.ensures c.clear_from-2.ensures
