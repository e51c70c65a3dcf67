use Rattle.std.proofs.Common.{◌≡◌, ◌%◌, ◌^◌, count_by, length, not}
use Rattle.cases.proofs.replay.Given as goal

-- What was yielded is counted.
abbrev pub invariant-loop-same : goal.invariant-loop-same
invariant-loop-same g l = record {
  cases : l.tally.cases ≡ length l.yielded % 2 ^ 64;
  differing : l.tally.differing ≡ count_by not l.yielded % 2 ^ 64;
}
