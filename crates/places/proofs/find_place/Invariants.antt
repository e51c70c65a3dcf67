use Rattle.rules.specs.Sheet.{Records}
use Rattle.sheet.specs.Name.{asked}
use Rattle.places.specs.Mark.{Marked}
use Rattle.places.specs.Place.{Walking}
use Rattle.places.proofs.find_place.Given as goal

abbrev pub invariant-loop-i : goal.invariant-loop-i
invariant-loop-i l = (r : Records) → Marked l.s r l.fn.last → Walking l.i-iterator l.s r (asked l.name)
