use Rattle.std.proofs.Common.{rules}
use native.Mathlib.Omega.{arith}
use Rattle.sheet.specs.Items.{first, first-at, left-small, left-on, left_end}
use Rattle.sheet.proofs.lookup.skip.Goals as goal

pub item-o-requires : goal.item-o-requires
item-o-requires c = first-at (first _ _ _ _ (c.loop-remaining.invariant _ _ c.requires.holds) (search rules))

pub overflow_add-remaining : goal.overflow_add-remaining
overflow_add-remaining c = let f = first _ _ _ _ (c.loop-remaining.invariant _ _ c.requires.holds) (search rules) in
    omega (arith, left-small (left-on f (c.item-o.ensures _ _ _ _ f.part)))

pub loop-remaining-smaller : goal.loop-remaining-smaller
loop-remaining-smaller c = let f = first _ _ _ _ (c.loop-remaining.invariant _ _ c.requires.holds) (search rules) in
    let d = c.item-o.ensures _ _ _ _ f.part in
    omega (arith, d.on, left-small (left-on f d))

pub loop-remaining-preserved : goal.loop-remaining-preserved
loop-remaining-preserved c = λ r j h.
    let f = first _ _ _ _ (c.loop-remaining.invariant r j h) (search rules) in
    left-on f (c.item-o.ensures _ _ _ _ f.part)

pub returns : goal.returns
returns c = λ r j h. left_end (c.loop-remaining.invariant r j h) (search rules)
