use Rattle.std.proofs.Common.{refl, rules, arith}
use Rattle.std.proofs.lemmas.Result.{err_from_is_err_and}
use Rattle.manual_text.specs.Text.{builds-refused, builds-same, found-known, main_refused, main_absent, main_there, main_inside}
use Rattle.manual_text.proofs.pass_main.Goals as goal

pub check-requires : goal.check-requires
check-requires c = found-known _ c.args.sheet.now c.find_file-f.ensures

pub returns-in_err-check : goal.returns-in_err-check
returns-in_err-check c = let p = err_from_is_err_and c.from_residual.result c.from_residual.ensures.1 in rw (p.1, p.2) (builds-refused refl (main_refused _ _ c.find_file-f.ensures _ c.in_err-check.ensures.reads))

pub returns-then-f-ne2 : goal.returns-then-f-ne2
returns-then-f-ne2 c = builds-refused refl (main_absent _ _ c.find_file-f.ensures c.in_ok-check.ensures.reads c.if-f-ne2.true)

pub overflow_add-f : goal.overflow_add-f
overflow_add-f c = omega (arith, main_inside _ c.find_file-f.ensures)

pub slice_bounds-pass_over-end : goal.slice_bounds-pass_over-end
slice_bounds-pass_over-end c = main_inside _ c.find_file-f.ensures

pub returns : goal.returns
returns c = builds-same (main_there _ _ c.find_file-f.ensures c.in_ok-check.ensures.reads (search rules)) c.pass_over.ensures
