use Rattle.std.proofs.Common.{rules}
use mathlib.Core.Path.{refl}
use Rattle.scan.specs.Laws.{sees-the}
use Rattle.string_ends.specs.Ends.{Begins}
use Rattle.string_ends.specs.Text.{literal-round, reference-round, no-round}
use Rattle.string_ends.proofs.round_start.Goals as goal

pub returns-then-at : goal.returns-then-at
unfolding Begins
returns-then-at c = let h = c.at.ensures.there c.if-at.true in (search rules, λ look k w. literal-round look c.span-i.ensures (sees-the "\"" c.at.ensures refl) c.if-at.true w)

pub returns-then-sees : goal.returns-then-sees
unfolding Begins
returns-then-sees c = (c.span-to.ensures.on, c.span-to.ensures.inside, λ look. reference-round look c.span-i.ensures (sees-the "\"" c.at.ensures refl) c.if-at.false c.sees.ensures c.if-sees.true c.span-to.ensures)

pub returns : goal.returns
unfolding Begins
returns c = λ look. no-round look c.span-i.ensures (sees-the "\"" c.at.ensures refl) c.if-at.false c.sees.ensures c.if-sees.false
