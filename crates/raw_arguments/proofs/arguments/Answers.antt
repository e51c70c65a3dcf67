use mathlib.Core.Option.{none}
use native.Mathlib.Omega.{arith}
use Rattle.rules.specs.Sheet.{Lookup}
use Rattle.std.proofs.Common.{rules}
use Rattle.raw_arguments.specs.Args.{sets-inside, args_start, args_end, args_language, args_block, args_nothing, args_stalled}
use Rattle.raw_arguments.proofs.arguments.Goals as goal

nothing : Lookup
nothing = λ x. none

pub rounds-init : goal.rounds-init
rounds-init c = λ look. args_start look _

pub span-from-requires : goal.span-from-requires
span-from-requires c = (c.rounds.invariant nothing).inside

pub returns-then-not-sees : goal.returns-then-not-sees
returns-then-not-sees c = λ look. args_end (c.rounds.invariant look) c.span-from.ensures c.sees.ensures c.if-not-sees.true

pub returns-then-next-i : goal.returns-then-next-i
returns-then-next-i c = λ look. args_stalled (c.rounds.invariant look) c.span-from.ensures c.sees.ensures c.if-not-sees.false (c.argument-read.ensures look) c.in-None.is c.if-next-i.true

pub overflow_add-next : goal.overflow_add-next
overflow_add-next c = let h = sets-inside c.span-from.ensures (c.argument-read.ensures nothing) in search rules

pub rounds-smaller-in-Some-Language : goal.rounds-smaller-in-Some-Language
rounds-smaller-in-Some-Language c = let h = args_language (c.rounds.invariant nothing) c.span-from.ensures c.sees.ensures c.if-not-sees.false (c.argument-read.ensures nothing) c.in-Some-Language.is (rw c.in-Some-Language.is at c.in-Some-Language.field-0-is) in omega (arith, h.0, h.1.inside)

pub rounds-preserved-in-Some-Language : goal.rounds-preserved-in-Some-Language
rounds-preserved-in-Some-Language c = λ look. (args_language (c.rounds.invariant look) c.span-from.ensures c.sees.ensures c.if-not-sees.false (c.argument-read.ensures look) c.in-Some-Language.is (rw c.in-Some-Language.is at c.in-Some-Language.field-0-is)).1

pub rounds-smaller-in-Some-Block : goal.rounds-smaller-in-Some-Block
rounds-smaller-in-Some-Block c = let h = args_block (c.rounds.invariant nothing) c.span-from.ensures c.sees.ensures c.if-not-sees.false (c.argument-read.ensures nothing) c.in-Some-Block.is (rw c.in-Some-Block.is at c.in-Some-Block.field-0-is) in omega (arith, h.0, h.1.inside)

pub rounds-preserved-in-Some-Block : goal.rounds-preserved-in-Some-Block
rounds-preserved-in-Some-Block c = λ look. (args_block (c.rounds.invariant look) c.span-from.ensures c.sees.ensures c.if-not-sees.false (c.argument-read.ensures look) c.in-Some-Block.is (rw c.in-Some-Block.is at c.in-Some-Block.field-0-is)).1

pub rounds-smaller : goal.rounds-smaller
rounds-smaller c = let h = args_nothing (c.rounds.invariant nothing) c.span-from.ensures c.sees.ensures c.if-not-sees.false (c.argument-read.ensures nothing) c.in-None.is c.if-next-i.false in omega (arith, h.0, h.1.inside)

pub rounds-preserved : goal.rounds-preserved
rounds-preserved c = λ look. (args_nothing (c.rounds.invariant look) c.span-from.ensures c.sees.ensures c.if-not-sees.false (c.argument-read.ensures look) c.in-None.is c.if-next-i.false).1
