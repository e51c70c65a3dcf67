use Rattle.scan.specs.Fields.{body-no, body_ok}
use Rattle.scan.proofs.fields.body.Goals as goal

pub returns-then-len-text : goal.returns-then-len-text
returns-then-len-text c = body-no _ _ _ c.requires c.if-len-text.true

pub returns : goal.returns
returns c = body_ok _ _ _ c.requires c.if-len-text.false
