use Rattle.std.proofs.Common.{refl, arith, ap, length}
use Rattle.paths.specs.Joined.{text-short}
use Rattle.bundle_layout.specs.Check.{follow_no, follow_yes, keeps-inside}
use Rattle.bundle_layout.proofs.walk.Walk.follow.Goals as goal

pub returns-then-not-keeps : goal.returns-then-not-keeps
returns-then-not-keeps c = follow_no c.args.self.now c.args.path.now c.as_bytes-last.ensures c.as_bytes-next.ensures c.agree-k.ensures c.keeps.ensures c.args.self.now c.if-not-keeps.true

pub mark-requires : goal.mark-requires
mark-requires c = (keeps-inside c.agree-k.ensures _ c.keeps.ensures c.if-not-keeps.false, omega (arith, ap length c.as_bytes-next.ensures, text-short c.args.path.now))

pub returns : goal.returns
returns c = follow_yes c.args.self.now c.args.path.now c.as_bytes-last.ensures c.as_bytes-next.ensures c.agree-k.ensures c.keeps.ensures c.if-not-keeps.false _ refl c.mark.ensures
