use Rattle.sheet.specs.Heads.{value-text, value-no-text, text-map, text-bit}
use Rattle.sheet.proofs.head.text_head.Goals as goal

pub returns-in_err-text : goal.returns-in_err-text
returns-in_err-text c = rw c.from_residual.ensures (value-no-text _ 2 c.args.name _ text-map text-bit c.in_err-text.ensures)

pub returns : goal.returns
returns c = value-text _ 2 _ _ text-map text-bit c.in_ok-text.ensures
