use Rattle.std.proofs.Common.{length}
use Rattle.rules.specs.Files.{view}
use Rattle.bundle.specs.Find.{entries_of}
use Rattle.bundle.specs.Open.{Rising}
use Rattle.bundle.proofs.Bundle.project_root.Given as goal

abbrev pub invariant-loop-upward : goal.invariant-loop-upward
invariant-loop-upward l = Rising (view (entries_of l.self)) l.folder l.upward

abbrev pub decreases-loop-upward : goal.decreases-loop-upward
decreases-loop-upward l = length l.upward
