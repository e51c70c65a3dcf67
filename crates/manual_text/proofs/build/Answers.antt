use Rattle.std.proofs.Common.{refl, rules, sym, length-take-le}
use Rattle.manual_text.specs.Text.{builds-refused, builds-same, built-long, defined-known, built-refused, built_main, sheet-fits}
use Rattle.manual_text.proofs.build.Goals as goal

pub returns-then-bundle-gt16384 : goal.returns-then-bundle-gt16384
returns-then-bundle-gt16384 c = builds-refused refl (built-long _ c.if-bundle-gt16384.true)

pub check-requires : goal.check-requires
check-requires c = defined-known _ (search rules) (search rules) (search rules) c.parse_definitions-d.ensures

pub returns-in-Err : goal.returns-in-Err
returns-in-Err c = builds-refused refl (built-refused _ (search rules) (search rules) (search rules) c.parse_definitions-d.ensures _ c.in-Err.ensures.reads)

pub slice_bounds-sheet-end : goal.slice_bounds-sheet-end
slice_bounds-sheet-end c = sheet-fits _ (search rules) (search rules) (search rules) c.parse_definitions-d.ensures

pub slice_bounds-pass_main-end : goal.slice_bounds-pass_main-end
slice_bounds-pass_main-end c = sym (length-take-le _ _ (sheet-fits _ (search rules) (search rules) (search rules) c.parse_definitions-d.ensures))

pub returns-in-Ok : goal.returns-in-Ok
returns-in-Ok c = builds-same (built_main _ (search rules) (search rules) (search rules) c.parse_definitions-d.ensures c.in-Ok.ensures.reads) c.pass_main.ensures
