use mathlib.Core.Path.{◌∙◌}
use Rattle.let_steps.specs.Let.{line-text, line-there, line-found}
use Rattle.let_steps.proofs.bind_line.Goals as goal

pub returns-in-None : goal.returns-in-None
returns-in-None c = line-text c.args.left.now _ (c.new.ensures ∙ c.records.ensures) _ c.lookup-value.ensures c.in-None.is c.bind_text.ensures

pub bind_found-requires : goal.bind_found-requires
bind_found-requires c = (record { r = _; bytes = c.requires.written }, line-there c.args.left.now _ (c.new.ensures ∙ c.records.ensures) _ c.lookup-value.ensures c.in-Some.is)

pub returns-in-Some : goal.returns-in-Some
returns-in-Some c = line-found c.args.left.now _ (c.new.ensures ∙ c.records.ensures) _ c.lookup-value.ensures c.in-Some.is c.bind_found.ensures
