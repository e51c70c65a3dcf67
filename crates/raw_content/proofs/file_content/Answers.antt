use Rattle.std.proofs.Common.{arith}
use Rattle.raw_content.specs.Content.{stripped, file-given, file-refused}
use Rattle.raw_content.proofs.file_content.Goals as goal

pub returns-in_err-file : goal.returns-in_err-file
returns-in_err-file c = λ look. file-refused _ look {k = c.in_err-file.field-0.0} (rw (stripped c.args.path c.strip_prefix.result c.strip_prefix.ensures.cases) (rw c.unwrap_or.ensures at c.in_err-file.ensures)) (grind arith)

pub returns : goal.returns
returns c = λ look. file-given _ look (rw (stripped c.args.path c.strip_prefix.result c.strip_prefix.ensures.cases) (rw c.unwrap_or.ensures at c.in_ok-file.ensures)) _ (c.text_content.ensures look)
