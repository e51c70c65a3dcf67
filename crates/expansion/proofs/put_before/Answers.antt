use Rattle.std.proofs.lemmas.List.{nil_from_length}
use Rattle.buffers.specs.Wrote.{puts-none}
use Rattle.expansion.proofs.put_before.Goals as goal

pub returns-then-text-eq0 : goal.returns-then-text-eq0
returns-then-text-eq0 c = rw (nil_from_length _ c.if-text-eq0.true) (puts-none _ _)
