use Rattle.std.proofs.Common.{sym, ◌∙◌}
use Rattle.lookups.specs.Files.{find_two, find_four, find_found}
use Rattle.lookups.proofs.find_file.Goals as goal

pub returns-in_default : goal.returns-in_default
returns-in_default c = find_two _ _ c.in_default.ensures

pub returns-then-not-is_path : goal.returns-then-not-is_path
returns-then-not-is_path c = find_four _ _ c.in-Some.ensures.layout (sym c.is_path.ensures ∙ c.if-not-is_path.true)

pub returns : goal.returns
returns c = find_found _ _ _ c.in-Some.ensures.layout (sym c.is_path.ensures ∙ c.if-not-is_path.false) (rw c.in-Some.ensures.bytes at c.find.ensures)
