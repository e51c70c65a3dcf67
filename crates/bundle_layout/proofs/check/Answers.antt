use Rattle.std.proofs.Common.{rules, sym, ◌∙◌, eq-eqb, ne_eqb}
use Rattle.bundle_entries.specs.Whole.{check-short}
use Rattle.bundle_layout.specs.Check.{walking_start, walking_on, walking-no, walking-end}
use Rattle.bundle_layout.proofs.check.Goals as goal

pub returns-then-b-lt2 : goal.returns-then-b-lt2
returns-then-b-lt2 c = sym (check-short _ (search rules))

pub loop-done-init : goal.loop-done-init
loop-done-init c = walking_start _ (search rules) c.word-done-end.ensures c.start-walk.ensures

pub returns-in_err-next : goal.returns-in_err-next
returns-in_err-next c = rw c.from_residual.ensures (walking-no _ (search rules) c.loop-done.invariant c.next.new.self c.in_err-next.ensures)

pub loop-done-preserved : goal.loop-done-preserved
loop-done-preserved c = walking_on c.args.b.now {k = c.loop-done.done} (search rules) c.loop-done.invariant _ c.in_ok-next.ensures

pub returns-then-not-ended : goal.returns-then-not-ended
returns-then-not-ended c = walking-end _ (search rules) c.loop-done.invariant ∙ ne_eqb _ _ c.if-not-ended.true

pub new-requires : goal.new-requires
new-requires c = walking-end _ (search rules) c.loop-done.invariant ∙ eq-eqb _ _ c.if-not-ended.false

pub returns : goal.returns
returns c = record { bytes = c.new.ensures; layout = walking-end _ (search rules) c.loop-done.invariant ∙ eq-eqb _ _ c.if-not-ended.false }
