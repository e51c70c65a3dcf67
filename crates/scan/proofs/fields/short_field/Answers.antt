use Rattle.std.proofs.Common.{rules}
use Rattle.scan.specs.Fields.{short-of, short-end}
use Rattle.scan.proofs.fields.short_field.Goals as goal

pub returns-then-text-at : goal.returns-then-text-at
returns-then-text-at c = short-end c.args.text.now c.args.at (search rules)

pub returns : goal.returns
returns c = short-of c.args.text.now c.args.at (search rules) c.from.ensures _ c.body.ensures
