use Rattle.calls.specs.Meter.{measures-read}
use Rattle.calls.proofs.measure.expression.Goals as goal

pub returns : goal.returns
returns c = let r = c.read_expression-used.ensures in measures-read c.start-to.ensures r.ends r.text
