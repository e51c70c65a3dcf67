use mathlib.Core.Path.{ap}
use native.Mathlib.Omega.{arith}
use lib.ListN.{length, length-set}
use lib.Seq.{length-sets}
use Rattle.sheet.specs.Name.{asked}
use Rattle.record_bytes.specs.Opening.{counted-some, opening-plain, opening-numbered, open_wide, open_numbered}
use Rattle.record_bytes.proofs.put_opening.Goals as goal

pub put_field-requires : goal.put_field-requires
put_field-requires c = let a = c.args in (c.requires.short, simp length-set (omega (arith, c.requires.room, open_wide (length (asked a.name)) a.lead)))

pub put_number-requires : goal.put_number-requires
put_number-requires c =
    let a = c.args in
    let e = c.number.ensures in
    let f = c.in-Some.is in (
      omega (arith, c.requires.small, counted-some a.lead e f),
      omega (arith, c.requires.room, open_numbered (length (asked a.name)) a.lead (rw c.len-len.ensures at c.sized.ensures) e f, simp (length-sets, length-set) at (ap length c.put_field.ensures)),
    )

pub returns-in-Some : goal.returns-in-Some
returns-in-Some c = let e = c.len-len.ensures in
    opening-numbered _ _ _ _ (rw e at c.map_of.ensures) c.put_field.ensures c.number.ensures c.in-Some.is (rw e at c.sized.ensures) c.put_number.ensures

pub returns-in-None : goal.returns-in-None
returns-in-None c = opening-plain _ _ _ _ (rw c.len-len.ensures at c.map_of.ensures) c.put_field.ensures c.number.ensures c.in-None.is
