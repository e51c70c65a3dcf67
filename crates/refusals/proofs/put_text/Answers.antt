use Rattle.std.proofs.Common.{rules}
use Rattle.refusals.specs.Text.{refusal-one, refusal-two}
use Rattle.refusals.proofs.put_text.Goals as goal

pub returns-then-one_digit : goal.returns-then-one_digit
returns-then-one_digit c = refusal-one _ (search rules) c.requires c.store.ensures c.store-then-one_digit.ensures

pub returns : goal.returns
returns c = refusal-two _ (search rules) c.requires c.store.ensures c.store-2.ensures
