use Rattle.std.proofs.Common.{refl}
use Rattle.raw_arguments.specs.Args.{language-literal, language-reference}
use Rattle.raw_arguments.proofs.language.Goals as goal

pub returns-then-at : goal.returns-then-at
returns-then-at c = λ look. language-literal look c.at.ensures c.if-at.true refl c.literal_end.ensures

pub returns : goal.returns
returns c = λ look. language-reference look c.at.ensures c.if-at.false refl c.span-used.ensures
