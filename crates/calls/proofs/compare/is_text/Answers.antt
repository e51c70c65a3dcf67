use Rattle.std.proofs.Common.{refl, sym, ◌∙◌}
use Rattle.calls.specs.Met.{all-same}
use Rattle.calls.proofs.compare.is_text.Goals as goal

pub returns-then-begins_otherwise : goal.returns-then-begins_otherwise
returns-then-begins_otherwise c = sym ((c.begins_otherwise.ensures c.if-begins_otherwise.true).differs _)

pub returns : goal.returns
returns c = c.all.ensures ∙ all-same _ _ _ (c.expression.ensures.taken _ refl).1
