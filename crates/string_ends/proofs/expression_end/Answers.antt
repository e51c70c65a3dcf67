use Rattle.string_ends.proofs.expression_end.Goals as goal

pub returns : goal.returns
returns c = c.expression.ensures.ends (λ d. d)
