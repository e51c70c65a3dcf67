use Rattle.std.proofs.Common.{refl, ap}
use Rattle.scan.specs.Sets.{part}
use Rattle.scan.specs.Stretches.{spans-but}
use Rattle.marks.specs.Ahead.{finds-quoted, finds-none}
use Rattle.marks.proofs.ahead.Quotes.next.Goals as goal

pub returns-then-to-text-clause-finds : goal.returns-then-to-text-clause-finds
returns-then-to-text-clause-finds c = rw (← c.self.view_is) (finds-quoted (spans-but "\"" c.next-open.ensures.finds) (rw c.text-text.ensures at c.skip-from.ensures) (spans-but "\"" (rw c.self.invariant at c.next-to.ensures.finds)) (rw c.text-text.ensures at c.if-to-text.true) (ap (λ z. part z c.skip-from.result c.next-to.result) c.text-text.ensures) refl)

pub returns-clause-finds : goal.returns-clause-finds
returns-clause-finds c = rw (← c.self.view_is) (finds-none (spans-but "\"" c.next-open.ensures.finds) (rw c.text-text.ensures at c.skip-from.ensures) (spans-but "\"" (rw c.self.invariant at c.next-to.ensures.finds)) (rw c.text-text.ensures at c.if-to-text.false))
