use native.Mathlib.Omega.{arith}
use Rattle.string_ends.specs.Text.{literal-inside, reference-inside, literal-taken, reference-taken, nothing-taken}
use Rattle.string_ends.proofs.read_round.Goals as goal

pub slice_bounds-literal-count : goal.slice_bounds-literal-count
slice_bounds-literal-count g c = literal-inside _ c.round_start.ensures c.in-Literal.is

pub slice_bounds-literal-start : goal.slice_bounds-literal-start
slice_bounds-literal-start g c = let h = literal-inside _ c.round_start.ensures c.in-Literal.is in omega (arith, h)

pub slice_bounds-reference-count : goal.slice_bounds-reference-count
slice_bounds-reference-count g c = (reference-inside _ c.round_start.ensures c.in-Reference.is).0

pub slice_bounds-reference-start : goal.slice_bounds-reference-start
slice_bounds-reference-start g c = let h = reference-inside _ c.round_start.ensures c.in-Reference.is in omega (arith, h.0, h.1)

pub slice_bounds-reference-end : goal.slice_bounds-reference-end
slice_bounds-reference-end g c = let h = reference-inside _ c.round_start.ensures c.in-Reference.is in omega (arith, h.0, h.1)

pub returns-in-Literal : goal.returns-in-Literal
returns-in-Literal g c = literal-taken _ c.round_start.ensures c.in-Literal.is c.literal.ensures

pub returns-in-Reference : goal.returns-in-Reference
returns-in-Reference g c = reference-taken _ c.round_start.ensures c.in-Reference.is c.reference.ensures

pub returns-in-Nothing : goal.returns-in-Nothing
returns-in-Nothing g c = nothing-taken _ c.round_start.ensures c.in-Nothing.is (g.met.P.Pieces.none _)
