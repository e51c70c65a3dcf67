use Rattle.calls.specs.Meter.{measures-read}
use Rattle.calls.proofs.measure.literal.Goals as goal

pub returns : goal.returns
returns c = let r = c.literal-used.ensures in measures-read c.start-to.ensures r.ends r.text
