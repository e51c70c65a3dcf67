use mathlib.Core.Path.{refl}
use Rattle.binding.specs.Sheets.{still-sheet, still-within, bound-one}
use Rattle.imported_names.proofs.Names.{limit-only}
use Rattle.imported_names.proofs.bind_one.Goals as goal

pub invariant_of-left : goal.invariant_of-left
invariant_of-left c = let w = c.bind_from.ensures _ c.requires.1.tells in record { sheet = still-sheet c.args.left.now w c.requires.0 c.requires.1.good; within = still-within c.args.left.now w c.requires.0 c.requires.1.good }

pub returns : goal.returns
returns c = λ v t g. record { over = record { same = refl; over = (c.bind_from.ensures v t).over }; only = limit-only c.args.left.now (c.bind_from.ensures v t); comes = bound-one c.args.left.now (c.bind_from.ensures v t) c.requires.0 g _ refl }
