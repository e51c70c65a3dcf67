use Rattle.std.proofs.Common.{rules, refl}
use Rattle.strings.specs.Puts.{on-more}
use Rattle.strings.specs.Written.{puts-all}
use Rattle.link_call.specs.Link.{link_alone, link_block}
use Rattle.link_call.proofs.put_link.Goals as goal

pub returns-then-alone : goal.returns-then-alone
returns-then-alone c = let r = c.read_expression.ensures.text in let n = r.same in rw (link_alone _ _ c.address_alone-alone.ensures c.if-alone.true) (puts-all r refl (search rules))

pub returns : goal.returns
returns c =
    let r = on-more c.take.ensures (on-more c.read_expression-2.ensures.text (on-more c.take-2.ensures (on-more c.take-3.ensures c.take-4.ensures))) in
    let n = r.same in
    rw (link_block _ _ c.address_alone-alone.ensures c.if-alone.false) (puts-all r refl (search rules))
