use Rattle.std.proofs.Common.{◌-◌, map}
use Rattle.test_load.specs.Laws.{Loading}
use Rattle.test_load.proofs.put_load.Given as goal

abbrev pub invariant-pieces : goal.invariant-pieces
invariant-pieces l = Loading (map (λ p. p.now) l.pieces) l.seed l.initial.w (l.count - l.counter) l.generator.state l.w
