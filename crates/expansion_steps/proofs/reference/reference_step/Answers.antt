use Rattle.std.proofs.Common.{refl}
use Rattle.scan.specs.Laws.{sees-the}
use Rattle.expansion_steps.specs.Reference.{refers-other, refers-called, refers-text}
use Rattle.expansion_steps.proofs.reference.reference_step.Goals as goal

pub returns-then-not-sees : goal.returns-then-not-sees
returns-then-not-sees c = refers-other _ c.sees.ensures c.if-not-sees.true c.put_byte.ensures

pub returns-then-at : goal.returns-then-at
returns-then-at c = refers-called _ c.sees.ensures c.if-not-sees.false c.span-end.ensures (sees-the "(" c.at.ensures refl) c.if-at.true c.put_run-what.ensures

pub returns-else-at : goal.returns-else-at
returns-else-at c = refers-text _ c.sees.ensures c.if-not-sees.false c.span-end.ensures (sees-the "(" c.at.ensures refl) c.if-at.false (rw c.text.ensures at c.put-what.ensures)
