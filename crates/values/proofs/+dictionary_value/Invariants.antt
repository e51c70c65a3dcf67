use Prim.Native.Nat.{◌+◌, ◌-◌, ◌*◌}
use lib.ListN.{length}
use Rattle.rules.specs.Sheet.{resolve}
use Rattle.sheet.specs.Records.{records_of}
use Rattle.values.specs.Dictionary.{Entering}
use Rattle.values.proofs.+dictionary_value.Given as goal

abbrev pub decreases-dictionary : goal.decreases-dictionary
decreases-dictionary l = 2 * l.work.levels

abbrev pub invariant-dictionary-entries : goal.invariant-dictionary-entries
invariant-dictionary-entries l = Entering l.limit l.levels (resolve (records_of l.sheet)) l.text l.records l.i

abbrev pub decreases-dictionary-entries : goal.decreases-dictionary-entries
decreases-dictionary-entries l = length l.text - l.i

abbrev pub decreases-value : goal.decreases-value
decreases-value l = 2 * l.work.levels + 1
