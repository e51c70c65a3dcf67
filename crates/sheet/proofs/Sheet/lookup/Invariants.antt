use Prim.Native.Nat.{◌≤◌, ◌-◌}
use lib.ListN.{length}
use Rattle.sheet.specs.Name.{asked}
use Rattle.sheet.specs.Records.{records_of}
use Rattle.sheet.specs.Look.{Walking}
use Rattle.sheet.proofs.Sheet.lookup.Given as goal

abbrev pub invariant-pieces : goal.invariant-pieces
invariant-pieces l = (l.p ≤ length l.text) × Walking l.s l.level.from l.level.to l.p (records_of l.s) (asked l.path)

abbrev pub decreases-pieces : goal.decreases-pieces
decreases-pieces l = length l.text - l.p
