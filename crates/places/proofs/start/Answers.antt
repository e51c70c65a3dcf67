use Rattle.std.proofs.Common.{rules}
use mathlib.Core.Path.{◌∙◌, sym}
use Rattle.std.proofs.lemmas.Cmp.{is_gt_index}
use Rattle.places.specs.Place.{place-start}
use Rattle.places.specs.Mark.{there, there-at, place-there}
use Rattle.places.proofs.start.Goals as goal

pub returns-then-last-eq0 : goal.returns-then-last-eq0
returns-then-last-eq0 c = λ r m. place-start m.bytes

pub returns-then-s-last : goal.returns-then-s-last
returns-then-s-last c = λ r m. place-start m.bytes

pub item-o-requires : goal.item-o-requires
item-o-requires c = there-at (there c.requires.marked (search rules))

pub returns-then-behind : goal.returns-then-behind
returns-then-behind c = λ r m. place-start m.bytes

pub returns : goal.returns
returns c = λ r m.
    let k = there m (search rules) in
    let d = c.item-o.ensures _ _ _ _ k.part in
    place-there (m.order c.if-last-eq0.false) k d.name c.order.ensures (is_gt_index _ ∙ sym c.eq-behind.ensures ∙ c.if-behind.false)
