use mathlib.Core.Option.{none}
use lib.ListN.{length-take, length-drop}
use Rattle.std.proofs.Common.{rules}
use Rattle.raw_arguments.specs.Args.{sets-language, sets_block, sets-nothing}
use Rattle.raw_arguments.proofs.argument.Goals as goal

pub returns-then-same : goal.returns-then-same
returns-then-same c = λ look. sets-language c.span-end.ensures c.span-from.ensures look c.same.ensures c.if-same.true (c.language-read.ensures look)

pub returns-then-same-2 : goal.returns-then-same-2
returns-then-same-2 c = λ look. sets_block c.span-end.ensures c.span-from.ensures look c.same.ensures c.if-same.false c.same-2.ensures c.if-same-2.true c.span-used.ensures c.same-on.ensures

pub returns : goal.returns
returns c = λ look. sets-nothing c.span-end.ensures c.span-from.ensures look c.same.ensures c.if-same.false c.same-2.ensures c.if-same-2.false

pub overflow_add-result : goal.overflow_add-result
overflow_add-result c = let h = simp (length-take, length-drop) at (c.language-read.ensures (λ z. none)).inside in let k = c.span-from.ensures.inside in search rules
