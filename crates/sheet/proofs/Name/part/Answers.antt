use Rattle.sheet.specs.Name.{underscored-part}
use Rattle.sheet.proofs.Name.part.Goals as goal

pub returns-in-Reference : goal.returns-in-Reference
returns-in-Reference c = rw c.in-Reference.is (underscored-part c.args.from c.args.to c.in-Reference.text.now)
