use Rattle.std.proofs.Common.{rules}
use mathlib.Core.Path.{refl}
use native.Mathlib.Omega.{arith}
use Rattle.sheet.specs.Walk.{Walks, walk-held, walk-end, walk-at, walk-can, walk-meets, walk-on}
use Rattle.sheet.proofs.lookup.WalkIterator.next.Goals as goal

pub skip-i-requires : goal.skip-i-requires
skip-i-requires c = walk-held c.requires.over

pub returns-then-self-i-clause-steps : goal.returns-then-self-i-clause-steps
unfolding Walks
returns-then-self-i-clause-steps c = λ s e r k. walk-end k c.skip-i.ensures c.if-self-i.true

pub item-o-requires : goal.item-o-requires
item-o-requires c = walk-at c.requires.over c.skip-i.ensures (search rules)

pub returns-clause-steps : goal.returns-clause-steps
unfolding Walks
returns-clause-steps c = λ s e r k. walk-meets k c.skip-i.ensures (search rules) c.item-o.ensures _ refl refl refl refl

pub returns-clause-goes : goal.returns-clause-goes
returns-clause-goes c =
    let k = c.requires.over in
    let m = walk-meets k c.skip-i.ensures (search rules) c.item-o.ensures (record { bytes = c.args.self.now.bytes; at = c.item-o.result.next; held = c.item-o.result.count; end = c.args.self.now.end }) refl refl refl refl in
    let o = walk-on k c.skip-i.ensures (search rules) c.item-o.ensures in
    record { on = λ f. (walk-can m.over, f, omega (arith, o.0, o.1)); keeps = walk-can m.over; rests = λ f. f }
