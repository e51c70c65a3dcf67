use Rattle.std.proofs.Common.{rules, arith, ℕ, length-drop, ◌-◌, eqb, length, take, drop}
use mathlib.Core.Path.{sym, ◌∙◌}
use borrow.Author.Tests.{tests}
use Rattle.std.proofs.lemmas.Iterator.{YieldsList-from_slice}
use Rattle.std.proofs.lemmas.Iterator.Search.{position_from_yields_List}
use Rattle.scan.specs.Laws.{spanning-then}
use Rattle.scan.proofs.Library.{over, found, found-none}
use Rattle.scan.proofs.find.Goals as goal

pub loop-i-preserved : goal.loop-i-preserved
loop-i-preserved c = over c.args.c c.args.text.now c.args.at c.loop-i.i 32 c.loop-i.invariant (omega (arith, length-drop {A = ℕ})) (sym c.contains.ensures.value ∙ c.if-not-contains.true)

pub returns-in-Some : goal.returns-in-Some
returns-in-Some c =
    let t = c.args.text.now in
    let i = c.loop-i.i in
    spanning-then _ _ _ _ c.loop-i.invariant (found c.args.c t i (search rules) (position_from_yields_List (λ x. eqb x c.args.c) _ _ c.position.result c.position.ensures.ran (YieldsList-from_slice (take (length t - i) (drop i t)) cc) (λ x b q k. search (rules, tests))) c.in-Some.is)

pub returns-in-None : goal.returns-in-None
returns-in-None c =
    let t = c.args.text.now in
    let i = c.loop-i.i in
    spanning-then _ _ _ _ c.loop-i.invariant (found-none c.args.c t i (search rules) (position_from_yields_List (λ x. eqb x c.args.c) _ _ c.position.result c.position.ensures.ran (YieldsList-from_slice (take (length t - i) (drop i t)) cc) (λ x b q k. search (rules, tests))) c.in-None.is)
