use Rattle.calls.specs.Compare.{told-other}
use Rattle.calls.proofs.compare.begins_otherwise.Goals as goal

pub returns : goal.returns
returns c = told-other _ _ _ c.in-len2-up.len_at_least c.in-len1-up.len_at_least c.member.ensures
