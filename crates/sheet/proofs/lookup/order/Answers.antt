use Rattle.std.proofs.Common.{rules, ap, ◌∙◌, length, length-append}
use Rattle.std.specs.Prelude.{min}
use Rattle.std.specs.Ordering.{nat_cmp}
use Rattle.std.proofs.lemmas.Slice.Zip.{zip_turn, zip_end}
use Rattle.sheet.specs.Name.{asked-long, asked-next}
use Rattle.sheet.specs.Order.{order_end, order_found, order_on}
use Rattle.sheet.proofs.lookup.order.Goals as goal

pub returns-then-is_ne : goal.returns-then-is_ne
returns-then-is_ne c =
    let z = zip_turn c.args.a.now c.text.result.now c.loop-x.yielded c.into_iter-x-iterator.result c.loop-x.x-iterator c.next.new.self c.next.result (search rules) (search rules) c.loop-x.yielded_by (c.in-Some.x, c.in-Some.y) c.in-Some.is c.next.ensures.steps in
    let n = c.text.ensures in
    order_found c.loop-x.invariant z.0 (rw (asked-long c.args.b n) at z.1) (z.2 0) (asked-next c.args.b n z.1 (z.3 0) c.byte.ensures) c.cmp-o.ensures (search rules)

pub loop-x-preserved : goal.loop-x-preserved
loop-x-preserved c =
    let z = zip_turn c.args.a.now c.text.result.now c.loop-x.yielded c.into_iter-x-iterator.result c.loop-x.x-iterator c.next.new.self c.next.result (search rules) (search rules) c.loop-x.yielded_by (c.in-Some.x, c.in-Some.y) c.in-Some.is c.next.ensures.steps in
    let n = c.text.ensures in
    rw length-append (order_on c.loop-x.invariant z.0 (rw (asked-long c.args.b n) at z.1) (z.2 0) (asked-next c.args.b n z.1 (z.3 0) c.byte.ensures) c.cmp-o.ensures (search rules))

pub returns : goal.returns
returns c =
    let z = zip_end c.args.a.now c.text.result.now c.loop-x.yielded c.into_iter-x-iterator.result c.loop-x.x-iterator c.next.new.self c.next.result (search rules) (search rules) c.loop-x.yielded_by c.in-None.is c.next.ensures.steps in
    order_end c.loop-x.invariant (z ∙ ap (min (length c.args.a.now)) (asked-long c.args.b c.text.ensures)) (c.cmp.ensures ∙ ap (nat_cmp (length c.args.a.now)) c.len.ensures)
