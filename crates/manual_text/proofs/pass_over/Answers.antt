use Rattle.std.proofs.Common.{refl, rules}
use Rattle.std.proofs.lemmas.Result.{err_from_is_err_and}
use Rattle.manual_text.specs.Text.{pass-known, pass_refused, pass_builds}
use Rattle.manual_text.proofs.pass_over.Goals as goal

pub check-requires : goal.check-requires
check-requires c = pass-known _ _ _ _ (search rules) (search rules) (search rules) refl c.pass-r.ensures

pub returns-in_err-check : goal.returns-in_err-check
returns-in_err-check c = let p = err_from_is_err_and c.from_residual.result c.from_residual.ensures.1 in rw (p.1, p.2) (pass_refused _ _ _ _ (search rules) (search rules) (search rules) refl c.pass-r.ensures _ c.in_err-check.ensures.reads)

pub returns : goal.returns
returns c = pass_builds _ _ _ _ (search rules) (search rules) (search rules) refl c.pass-r.ensures c.in_ok-check.ensures.reads
