use Rattle.std.proofs.Common.{◌∙◌}
use Rattle.scan.specs.Fields.{word_is}
use Rattle.scan.proofs.fields.word.Goals as goal

pub returns : goal.returns
returns c = word_is _ _ _ c.requires (c.from.ensures ∙ c.from_le_bytes.ensures)
