use Rattle.std.proofs.Common.{◌≡◌, ◌+◌, ◌++◌, take}
use Rattle.paths.proofs.path.Path.push.Given as goal

abbrev pub invariant-loop-i : goal.invariant-loop-i
invariant-loop-i l = (l.self.len ≡ l.end) × (take (l.end + l.i) l.self.bytes ≡ take l.end l.initial.self.bytes ++ take l.i l.more)
