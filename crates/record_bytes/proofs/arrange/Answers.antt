use Rattle.std.proofs.Common.{rules}
use Rattle.record_bytes.specs.Moves.{arrange_down, arrange_below, arrange_above, arrange_across}
use Rattle.record_bytes.proofs.arrange.Goals as goal

pub returns-then-e-to : goal.returns-then-e-to
returns-then-e-to c = arrange_down c.requires c.if-e-to.true c.shift.ensures c.shift-then-e-to.ensures

pub returns-then-b-to : goal.returns-then-b-to
returns-then-b-to c = arrange_below c.requires (search rules) c.shift-2.ensures c.if-b-to.true c.shift-then-b-to.ensures

pub returns-then-to-a : goal.returns-then-to-a
returns-then-to-a c = arrange_above c.requires (search rules) c.shift-2.ensures c.if-to-a.true c.shift-then-to-a.ensures

pub returns : goal.returns
returns c = arrange_across c.requires (search rules) c.shift-2.ensures (search rules) (search rules) c.shift-3.ensures c.shift-4.ensures
