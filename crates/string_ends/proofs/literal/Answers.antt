use Rattle.string_ends.specs.Text.{literal_start, literal_end, literal_quote, literal_last, literal_escape}
use Rattle.string_ends.proofs.literal.Goals as goal

pub loop-i-init : goal.loop-i-init
loop-i-init g c = literal_start (g.met.P.Pieces.none _) _

pub returns-then-text-j : goal.returns-then-text-j
returns-then-text-j g c = literal_end g.met.P.Pieces.more c.loop-i.invariant c.span-j.ensures c.take.ensures (g.met.P.Pieces.none _) c.if-text-j.true

pub returns-then-text-j-eq34 : goal.returns-then-text-j-eq34
returns-then-text-j-eq34 g c = literal_quote g.met.P.Pieces.more c.loop-i.invariant c.span-j.ensures c.take.ensures c.if-text-j.false (g.met.P.Pieces.none _) c.if-text-j-eq34.true

pub returns-then-text-j-eq1 : goal.returns-then-text-j-eq1
returns-then-text-j-eq1 g c = literal_last g.met.P.Pieces.more c.loop-i.invariant c.span-j.ensures c.take.ensures c.if-text-j.false c.if-text-j-eq34.false c.if-text-j-eq1.true c.take-then-text-j-eq1.ensures

pub loop-i-preserved : goal.loop-i-preserved
loop-i-preserved g c = literal_escape g.met.P.Pieces.more c.loop-i.invariant c.span-j.ensures c.take.ensures c.if-text-j.false c.if-text-j-eq34.false c.if-text-j-eq1.false c.escape.ensures
