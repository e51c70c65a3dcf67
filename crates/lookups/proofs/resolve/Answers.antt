use Rattle.std.proofs.Common.{◌≡◌, Err, refl, sym, ◌∙◌, arith, rules}
use Rattle.buffers.specs.Wrote.{puts-wrote, stands-ok, stands-no}
use Rattle.lookups.specs.Laws.{resolve-three, resolve-six, resolve_eleven, resolve_text}
use Rattle.lookups.proofs.resolve.Goals as goal

pub returns-in_default : goal.returns-in_default
returns-in_default c = resolve-three _ _ _ c.in_default.ensures

pub returns-then-not-is_ascii : goal.returns-then-not-is_ascii
returns-then-not-is_ascii c = resolve-six _ _ _ c.in-Some.ensures.1.layout (sym c.is_ascii.ensures ∙ c.if-not-is_ascii.true)

pub returns-in_err-put : goal.returns-in_err-put
returns-in_err-put c =
    let gone : c.from_residual.result ≡ Err c.in_err-put.field-0.0 = grind arith in
    rw gone (resolve_eleven _ _ _ c.in-Some.ensures.1.layout (sym c.is_ascii.ensures ∙ c.if-not-is_ascii.false) (rw c.in-Some.ensures.0 at (c.found_text.ensures _ c.lookup-found.ensures)) (stands-no c.new-w.ensures (puts-wrote c.put.ensures) (search rules) c.in_err-put.was refl))

pub returns : goal.returns
returns c =
    let z = c.in-Some.ensures.0 in
    resolve_text _ _ _ c.in-Some.ensures.1.layout (sym c.is_ascii.ensures ∙ c.if-not-is_ascii.false) (rw z at (c.found_text.ensures _ c.lookup-found.ensures)) (stands-ok c.new-w.ensures (puts-wrote c.put.ensures) (search rules) c.in_ok-put.was) c.lookup-found.result (rw z at c.lookup-found.ensures)
