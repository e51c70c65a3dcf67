use Rattle.std.proofs.Common.{rules}
use mathlib.Core.Path.{refl, sym, ◌∙◌}
use Rattle.sheet.specs.Heads.{reads_end, reads-map, reads_plain, reads-named, reads-no-name}
use Rattle.sheet.proofs.head.read.Goals as goal

pub returns-then-s-i : goal.returns-then-s-i
returns-then-s-i c = reads_end _ _ c.if-s-i.true

pub returns-then-not-allowed : goal.returns-then-not-allowed
returns-then-not-allowed c = reads-map _ _ (search rules) (sym c.allowed.ensures ∙ c.if-not-allowed.true)

pub value_head-requires : goal.value_head-requires
value_head-requires c = (search rules, sym c.allowed.ensures ∙ c.if-not-allowed.false)

pub returns-then-m-eq0 : goal.returns-then-m-eq0
returns-then-m-eq0 c = reads_plain _ _ (search rules) _ c.if-m-eq0.true refl c.value_head.ensures

pub returns-in_err-name : goal.returns-in_err-name
returns-in_err-name c = rw c.from_residual.ensures (reads-no-name _ _ (search rules) c.if-m-eq0.false c.in_err-name.ensures)

pub value_head-requires-2 : goal.value_head-requires-2
value_head-requires-2 c = (c.in_ok-name.ensures.within.inside, sym c.allowed.ensures ∙ c.if-not-allowed.false)

pub returns : goal.returns
returns c = reads-named _ _ (search rules) _ c.if-m-eq0.false c.in_ok-name.ensures c.value_head-2.ensures
