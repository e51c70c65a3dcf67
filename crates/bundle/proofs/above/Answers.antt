use Rattle.bundle.specs.Find.{above-no, above_at}
use Rattle.bundle.proofs.above.Goals as goal

pub returns-then-not-starts_with : goal.returns-then-not-starts_with
returns-then-not-starts_with c = above-no _ _ c.starts_with.ensures c.if-not-starts_with.true

pub returns : goal.returns
returns c = above_at _ _ c.starts_with.ensures c.if-not-starts_with.false c.at.ensures
