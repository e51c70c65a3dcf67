use Rattle.std.proofs.Common.{◌≡◌}
use Prim.Native.Nat.{◌+◌, ◌-◌, ◌*◌}
use lib.ListN.{length}
use Rattle.rules.specs.Files.{view}
use Rattle.rules.specs.Includes.{inside_file}
use Rattle.bundle.specs.Find.{entries_of}
use Rattle.includes.specs.Resolve.{Resolving}
use Rattle.includes.proofs.+resolve.Given as goal

abbrev pub decreases-put_mark : goal.decreases-put_mark
decreases-put_mark l = 2 * l.levels

abbrev pub decreases-resolve : goal.decreases-resolve
decreases-resolve l = 2 * l.levels + 1

abbrev pub invariant-resolve-marks : goal.invariant-resolve-marks
invariant-resolve-marks l = record { reads : l.reader ≡ l.text; resolving : Resolving (view (entries_of l.bundle)) (inside_file (view (entries_of l.bundle)) l.levels) l.folder l.text l.initial.w l.w l.done l.whole }

abbrev pub decreases-resolve-marks : goal.decreases-resolve-marks
decreases-resolve-marks l = length l.text - l.done
