use Rattle.std.proofs.Common.{rules}
use native.Mathlib.Omega.{arith}
use Rattle.sheet.specs.Name.{asked-long}
use Rattle.sheet.specs.Look.{walk_start, walk-last, walk-missing, walk-stop, walk-on, asked-to}
use Rattle.sheet.proofs.Sheet.lookup.Goals as goal

pub pieces-init : goal.pieces-init
pieces-init c = (search rules, walk_start _ c.self.invariant)

pub find-found-requires : goal.find-found-requires
find-found-requires c = c.pieces.invariant.1.level

pub returns-then-q-text : goal.returns-then-q-text
returns-then-q-text c =
    let w = c.pieces.invariant.1 in
    let n = c.text-text.ensures in
    rw (← c.self.view_is) (walk-last w (asked-to c.args.path n c.span-q.ensures) _ (omega (arith, c.if-q-text.true, asked-long c.args.path n)) (rw c.part.ensures at (c.find-found.ensures w.level)))

pub returns-in_err-records : goal.returns-in_err-records
returns-in_err-records c =
    let w = c.pieces.invariant.1 in
    let n = c.text-text.ensures in
    rw (c.from_residual.ensures, ← c.self.view_is) (walk-missing w (asked-to c.args.path n c.span-q.ensures) (omega (arith, c.if-q-text.false, c.span-q.ensures.inside, asked-long c.args.path n)) (rw c.part.ensures at (c.in_err-records.ensures w.level)))

pub returns-in_default : goal.returns-in_default
returns-in_default c =
    let w = c.pieces.invariant.1 in
    let n = c.text-text.ensures in
    rw (← c.self.view_is) (walk-stop w (asked-to c.args.path n c.span-q.ensures) (omega (arith, c.if-q-text.false, c.span-q.ensures.inside, asked-long c.args.path n)) _ (rw c.part.ensures at (c.in_ok-records.ensures w.level)) c.in_default.not-Dictionary)

pub pieces-preserved : goal.pieces-preserved
pieces-preserved c =
    let w = c.pieces.invariant.1 in
    let n = c.text-text.ensures in
    (search rules, walk-on w (asked-to c.args.path n c.span-q.ensures) (omega (arith, c.if-q-text.false, c.span-q.ensures.inside, asked-long c.args.path n)) _ (rw c.part.ensures at (c.in_ok-records.ensures w.level)) c.in-Dictionary.is)
