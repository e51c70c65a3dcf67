use Rattle.imported_names.proofs.Names.{BindingAll}
use Rattle.imported_names.proofs.bind_all.Given as goal

abbrev pub invariant-loop-o : goal.invariant-loop-o
invariant-loop-o l = BindingAll l.s l.initial.left l.left l.o-iterator
