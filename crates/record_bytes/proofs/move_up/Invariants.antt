use Rattle.std.proofs.Common.{◌≡◌, ◌+◌, ◌≤◌, length}
use Rattle.std.proofs.lemmas.List.Edits.{sets}
use Rattle.scan.specs.Sets.{part}
use Rattle.record_bytes.proofs.move_up.Given as goal

abbrev pub invariant-loop-k : goal.invariant-loop-k
invariant-loop-k l = (l.from ≤ l.k) × (length l.buf ≡ length l.initial.buf) × (l.buf ≡ sets l.initial.buf (l.k + l.by) (part l.initial.buf l.k l.end))
