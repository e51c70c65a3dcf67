use Prim.Native.Nat.{◌-◌}
use lib.ListN.{length}
use Rattle.rules.specs.Sheet.{Lookup}
use Rattle.raw_arguments.specs.Args.{ArgsAt}
use Rattle.raw_arguments.proofs.arguments.Given as goal

abbrev pub invariant-rounds : goal.invariant-rounds
invariant-rounds l = (look : Lookup) → ArgsAt look l.text l.i l.lang l.block

abbrev pub decreases-rounds : goal.decreases-rounds
decreases-rounds l = length l.text - l.i
