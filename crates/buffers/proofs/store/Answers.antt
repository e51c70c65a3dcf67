use Rattle.std.specs.Prelude.{◌≡◌, List, ℕ, ◌+◌, ◌<◌, length, take, get_or, set}
use Rattle.std.proofs.Common.{arith, get_or-take, length-take}
use mathlib.Core.Path.{◌∙◌}
use lib.ListN.{length-set}
use lib.Seq.{sets}
use Rattle.buffers.specs.Laws.{sets_more, sets_clipped}
use Rattle.buffers.proofs.store.Goals as goal

-- A byte that is stored, as the text has it.
next-byte : (b : List ℕ) (p : ℕ) (t : List ℕ) (i : ℕ) (c : List ℕ) (x : ℕ) → x ≡ get_or t i 0 → c ≡ sets b p (take i t) → i < length t → set c (p + i) x ≡ sets b p (take (i + 1) t)
next-byte b p t i c x e q h = rw e (sets_more b p t i c q h)

pub loop-i-preserved : goal.loop-i-preserved
loop-i-preserved c =
    let t = c.args.text.now in
    let n = c.min-n.result in
    let l = length-take n t in
    (simp length-set c.loop-i.invariant.0, next-byte _ c.args.at t c.loop-i.i _ _ (grind (arith, get_or-take)) c.loop-i.invariant.1 (omega (arith, l, c.loop-i-test.true)))

pub returns : goal.returns
returns c =
    let l = length-take c.min-n.result c.args.text.now in
    c.loop-i.invariant.1 ∙ sets_clipped _ c.args.at c.args.text.now c.loop-i.i (omega (arith, l)) (omega (arith, l))
