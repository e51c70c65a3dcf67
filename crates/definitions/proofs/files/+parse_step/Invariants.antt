use Prim.Native.Nat.{◌+◌, ◌-◌, ◌*◌}
use lib.ListN.{length}
use Rattle.rules.specs.Files.{view}
use Rattle.bundle.specs.Find.{entries_of}
use Rattle.definitions.specs.File.{file_step, Parsing}
use Rattle.definitions.proofs.files.+parse_step.Given as goal

abbrev pub decreases-parse : goal.decreases-parse
decreases-parse l = 3 * l.levels + 2

abbrev pub decreases-step : goal.decreases-step
decreases-step l = 3 * l.levels + 1

abbrev pub decreases-import_step : goal.decreases-import_step
decreases-import_step l = 3 * l.levels

abbrev pub invariant-parse-steps : goal.invariant-parse-steps
invariant-parse-steps l = Parsing (file_step (view (entries_of l.bundle)) l.levels l.folder) l.bytes l.fn.left l.left l.done

abbrev pub decreases-parse-steps : goal.decreases-parse-steps
decreases-parse-steps l = length l.bytes - l.done
