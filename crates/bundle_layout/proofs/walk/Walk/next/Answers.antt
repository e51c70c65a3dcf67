use Rattle.std.proofs.Common.{refl}
use Rattle.bundle_layout.specs.Check.{next-no-entry, next-no-path, next_broken, next_follow}
use Rattle.bundle_layout.proofs.walk.Walk.next.Goals as goal

pub returns-in_err-entry : goal.returns-in_err-entry
returns-in_err-entry c = rw c.from_residual.ensures (next-no-entry c.args.b.now c.args.self.now c.args.self.now c.in_err-entry.ensures)

pub returns-in_err-path_of : goal.returns-in_err-path_of
returns-in_err-path_of c = rw c.from_residual-in_err-path_of.ensures (next-no-path c.args.b.now c.args.self.now c.in_ok-entry.ensures c.args.self.now c.in_err-path_of.ensures)

pub returns-in_err-follow : goal.returns-in_err-follow
returns-in_err-follow c = rw c.from_residual-in_err-follow.ensures (next_broken c.args.b.now c.args.self.now c.in_ok-entry.ensures c.path_of.new.path c.in_ok-path_of.ensures c.follow.new.self c.follow.new.self c.in_err-follow.ensures)

pub returns : goal.returns
returns c = next_follow c.args.b.now c.args.self.now c.in_ok-entry.ensures c.path_of.new.path c.in_ok-path_of.ensures c.follow.new.self _ c.in_ok-follow.ensures refl refl refl
