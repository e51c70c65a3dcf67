use Rattle.std.proofs.Common.{◌≡◌, ◌+◌, length, drop}
use lib.Seq.{sets}
use Rattle.sheet.specs.Name.{asked}
use Rattle.record_bytes.proofs.put_name.Given as goal

abbrev pub invariant-loop-i : goal.invariant-loop-i
invariant-loop-i l = (length l.buf ≡ length l.initial.buf) × (sets l.buf (l.at + l.i) (drop l.i (asked l.name)) ≡ sets l.initial.buf l.at (asked l.name))
