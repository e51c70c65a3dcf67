use Rattle.std.proofs.Common.{ap, ◌∙◌, length}
use Rattle.std.proofs.Math.Seq.{length-sets}
use Rattle.runs.specs.Sheets.{stored-sheet}
use Rattle.runs.proofs.store_sheet.Goals as goal

pub returns : goal.returns
returns c = record {
  long = ap length c.store.ensures ∙ length-sets c.args.left.now 0 c.bytes-bytes.result.now;
  size = ap length c.bytes-bytes.ensures.same;
  is = stored-sheet c.args.left.now c.store.ensures c.bytes-bytes.ensures.same c.requires;
  layout = c.bytes-bytes.ensures.layout;
}
