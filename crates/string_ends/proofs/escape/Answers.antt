use Rattle.rules.specs.Reader.{the}
use Rattle.rules.specs.Strings.{escape}
use Rattle.string_ends.specs.Text.{escape-both}
use Rattle.string_ends.proofs.escape.Goals as goal

pub returns-in-110 : goal.returns-in-110
unfolding escape the
returns-in-110 g c = rw c.in-110.is c.take.ensures

pub returns-in-116 : goal.returns-in-116
unfolding escape the
returns-in-116 g c = rw c.in-116.is c.take-in-116.ensures

pub returns-in-34 : goal.returns-in-34
unfolding escape the
returns-in-34 g c = rw c.in-34.is c.take-in-34.ensures

pub returns-in-92 : goal.returns-in-92
unfolding escape the
returns-in-92 g c = rw c.in-92.is c.take-in-92.ensures

pub returns-in_default : goal.returns-in_default
returns-in_default g c = let r = c.in_default.in_default-own.rest in rw (escape-both _ r.0.0.0.1 r.0.0.1 r.0.1 r.1) c.take-in_default.ensures
