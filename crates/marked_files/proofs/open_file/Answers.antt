use Rattle.std.specs.Prelude.{◌≡◌, Err}
use Rattle.std.proofs.Common.{◌∙◌, arith}
use Rattle.marked_files.specs.Files.{file-refused, file-long, file-no, file_opened}
use Rattle.marked_files.proofs.open_file.Goals as goal

pub returns-in_err-join_within-clause-opens : goal.returns-in_err-join_within-clause-opens
returns-in_err-join_within-clause-opens c = file-long _ _ _ c.in_err-join_within.ensures.joins (grind arith)

pub returns-in_err-text-clause-opens : goal.returns-in_err-text-clause-opens
returns-in_err-text-clause-opens c =
    let gone : c.from_residual-in_err-text.result ≡ Err c.in_err-text.field-0.0 = grind arith in
    rw gone (file-refused _ _ _ (rw (c.as_bytes.ensures ∙ c.in_ok-join_within.ensures.joins) at c.in_err-text.ensures.answers))

pub returns-in_err-opened-clause-opens : goal.returns-in_err-opened-clause-opens
returns-in_err-opened-clause-opens c = file-no _ _ _ (rw (c.as_bytes.ensures ∙ c.in_ok-join_within.ensures.joins) at c.in_ok-text.ensures.answers) c.in_err-opened.ensures (grind arith)

pub returns-clause-opens : goal.returns-clause-opens
returns-clause-opens c = file_opened _ _ _ (rw (c.as_bytes.ensures ∙ c.in_ok-join_within.ensures.joins) at c.in_ok-text.ensures.answers) c.in_ok-join_within.ensures.joins c.in_ok-opened.ensures
