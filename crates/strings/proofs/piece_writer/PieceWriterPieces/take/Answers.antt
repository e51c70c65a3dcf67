use Rattle.std.proofs.Common.{rules, sym, ◌∙◌}
use Rattle.strings.specs.Puts.{on-room, on-past}
use Rattle.strings.proofs.piece_writer.PieceWriterPieces.take.Goals as goal

pub returns-then-is_ok : goal.returns-then-is_ok
returns-then-is_ok c = on-room _ (sym c.is_ok.ensures.value ∙ c.if-is_ok.true) (search rules) (search rules)

pub returns-else-is_ok : goal.returns-else-is_ok
returns-else-is_ok c = on-past _ _ (sym c.is_ok.ensures.value ∙ c.if-is_ok.false)
