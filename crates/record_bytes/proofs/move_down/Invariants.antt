use Rattle.std.proofs.Common.{◌≡◌, ◌-◌, length}
use Rattle.std.proofs.lemmas.List.Edits.{sets}
use Rattle.scan.specs.Sets.{part}
use Rattle.record_bytes.proofs.move_down.Given as goal

abbrev pub invariant-loop-k : goal.invariant-loop-k
invariant-loop-k l = (length l.buf ≡ length l.initial.buf) × (sets l.buf (l.k - l.by) (part l.buf l.k l.end) ≡ sets l.initial.buf l.to (part l.initial.buf l.from l.end))
