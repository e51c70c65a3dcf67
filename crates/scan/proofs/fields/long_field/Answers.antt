use native.Mathlib.Omega.{arith}
use Rattle.scan.specs.Fields.{long_of, long-end}
use Rattle.scan.proofs.fields.long_field.Goals as goal

pub returns-then-saturating_sub-lt2 : goal.returns-then-saturating_sub-lt2
returns-then-saturating_sub-lt2 c = long-end c.args.text.now c.args.at (omega arith)

pub returns : goal.returns
returns c = long_of c.args.text.now c.args.at c.word.ensures _ c.body.ensures
