use Rattle.std.proofs.Math.Path.{ap}
use Rattle.std.proofs.Common.{◌∙◌}
use Rattle.rules.specs.Bytes.{trim_end}
use Rattle.scan.specs.Laws.{tail-part}
use Rattle.paths.specs.Paths.{trims}
use Rattle.paths.proofs.trim.Goals as goal

pub returns : goal.returns
returns c = c.trim_end.ensures ∙ ap trim_end (tail-part c.args.text.now c.span-start.result) ∙ trims _ _ c.span-start.ensures
