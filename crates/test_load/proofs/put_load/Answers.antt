use Rattle.std.proofs.Common.{arith}
use Rattle.std.proofs.Math.ListN.{get_or-map}
use Rattle.test_load.specs.Laws.{loading-starts, loading-goes, loading-no, loading-ends}
use Rattle.test_load.proofs.put_load.Goals as goal

pub pieces-init : goal.pieces-init
pieces-init c = loading-starts _ _ _ (omega arith) c.draw-count.ensures.value c.draw-count.ensures.state

pub pieces-preserved : goal.pieces-preserved
pieces-preserved c = loading-goes _ _ _ c.pieces.invariant c.pieces-test.true c.draw-k.ensures.value (get_or-map _ c.args.pieces c.draw-k.result _) c.draw-k.ensures.state c.put.ensures c.in_ok-put.was

pub returns-in_err-put : goal.returns-in_err-put
returns-in_err-put c = loading-no _ _ _ c.pieces.invariant c.pieces-test.true c.draw-k.ensures.value (get_or-map _ c.args.pieces c.draw-k.result _) c.draw-k.ensures.state c.put.ensures c.in_err-put.was (grind arith)

pub returns : goal.returns
returns c = loading-ends _ _ _ c.pieces.invariant (omega arith)
