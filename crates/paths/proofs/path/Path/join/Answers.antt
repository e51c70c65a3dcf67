use Rattle.std.proofs.Common.{ℕ, arith, length-append}
use Rattle.paths.specs.Joined.{join-top, join-below, join-length, joins-pushed}
use Rattle.paths.proofs.path.Path.join.Goals as goal
use Rattle.paths.proofs.path.Path.join.Goals.{then-folder-ne0+in_ok-push+in_ok-push-2, else-folder-ne0}

pub returns-in_err-push : goal.returns-in_err-push
returns-in_err-push c = rw c.from_residual.ensures (omega (arith, c.in_err-push.ensures, join-length c.args.folder.now c.args.path.now c.if-folder-ne0.true))

pub returns-in_err-push-2 : goal.returns-in_err-push-2
returns-in_err-push-2 c = rw c.from_residual-in_err-push-2.ensures (let h = rw c.in_ok-push.ensures at c.in_err-push-2.ensures in omega (arith, length-append {A = ℕ}, join-length c.args.folder.now c.args.path.now c.if-folder-ne0.true))

pub returns : goal.returns
returns c = joins-pushed _ _ c.if-folder-ne0.self c.push-2.new.self (elim c.if-folder-ne0.branch [
  | then-folder-ne0+in_ok-push+in_ok-push-2 w ↦ rw (w.self-is, w.in_ok-push-2.ensures, w.in_ok-push.ensures) (join-below _ _ w.if-folder-ne0.true)
  | else-folder-ne0 w ↦ rw w.self-is (join-top _ _ w.if-folder-ne0.false)
]) _ c.push-2.ensures
