use Rattle.std.proofs.Common.{◌≡◌, Err, arith}
use Rattle.definition_imports.specs.Import.{named-long, named-four, named-file}
use Rattle.definition_imports.proofs.named_file.Goals as goal

pub returns-in_err-path-clause-opens : goal.returns-in_err-path-clause-opens
returns-in_err-path-clause-opens c = λ p h.
    let gone : c.from_residual.result ≡ Err c.in_err-path.field-0.0 = grind arith in
    rw gone (named-long _ _ _ p h c.in_err-path.was)

pub returns-in_err-join_path-clause-opens : goal.returns-in_err-join_path-clause-opens
returns-in_err-join_path-clause-opens c = λ p h.
    let gone : c.from_residual-in_err-join_path.result ≡ Err c.in_err-join_path.field-0.0 = grind arith in
    let is : c.in_ok-path.field-0.now ≡ p = rw c.in_ok-path.was at h in
    rw (gone, ← is) (named-four _ _ _ _ c.in_err-join_path.ensures.joins.0 c.in_err-join_path.ensures.joins.1)

pub returns-clause-opens : goal.returns-clause-opens
returns-clause-opens c = λ p h.
    let is : c.in_ok-path.field-0.now ≡ p = rw c.in_ok-path.was at h in
    rw (← is) (named-file _ _ _ _ c.in_ok-join_path.ensures.joins.0 c.in_ok-join_path.ensures.joins.1 c.open_import.ensures.opens)
