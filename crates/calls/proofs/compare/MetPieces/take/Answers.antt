use Rattle.std.proofs.Common.{refl}
use Rattle.std.proofs.lemmas.Bool.Decides.{Decides-eqb}
use Rattle.std.proofs.lemmas.Slice.Eq.{strip_prefix_is}
use Rattle.calls.specs.Met.{Leaves}
use Rattle.calls.proofs.compare.MetPieces.take.Goals as goal

pub returns-in-Some : goal.returns-in-Some
unfolding Leaves
returns-in-Some c = (refl, rw c.in-Some.is (strip_prefix_is Decides-eqb _ _ _ c.strip_prefix-self.ensures.cases))

pub returns-in_default : goal.returns-in_default
unfolding Leaves
returns-in_default c = (refl, rw c.in_default.is refl)
