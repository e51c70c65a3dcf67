use Rattle.marks.specs.Ahead.{known_stretch}
use Rattle.marks.proofs.ahead.Search.next.Goals as goal

pub returns-then-known-clause-finds : goal.returns-then-known-clause-finds
returns-then-known-clause-finds g c = rw (← c.self.view_is) (known_stretch c.self.invariant c.if-known.true)
