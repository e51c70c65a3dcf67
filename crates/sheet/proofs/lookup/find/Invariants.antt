use Rattle.sheet.specs.Name.{asked}
use Rattle.sheet.specs.Find.{Level, Seeking}
use Rattle.sheet.proofs.lookup.find.Given as goal

abbrev pub invariant-loop-o : goal.invariant-loop-o
invariant-loop-o v = (l : Level v.s v.fn.level.from v.fn.level.to) → Seeking v.o-iterator v.s v.fn.level.to l.r (asked v.name)
