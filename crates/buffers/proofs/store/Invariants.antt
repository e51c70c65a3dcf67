use Rattle.std.proofs.Common.{◌≡◌, length, take}
use lib.Seq.{sets}
use Rattle.buffers.proofs.store.Given as goal

abbrev pub invariant-loop-i : goal.invariant-loop-i
invariant-loop-i l = (length l.out ≡ length l.initial.out) × (l.out ≡ sets l.initial.out l.at (take l.i l.text))
