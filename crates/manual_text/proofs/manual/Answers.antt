use Rattle.std.proofs.Common.{rules}
use Rattle.manual_text.specs.Text.{manual-output, manual-refused}
use Rattle.manual_text.proofs.manual.Goals as goal

pub returns-in-Ok : goal.returns-in-Ok
returns-in-Ok c = manual-output _ (search rules) c.in-Ok.ensures

pub returns-in-Err : goal.returns-in-Err
returns-in-Err c = manual-refused _ (search rules) c.in-Err.ensures (rw c.into.ensures at c.refusal_text.ensures)
