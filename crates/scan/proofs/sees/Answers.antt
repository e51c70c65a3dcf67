use Rattle.std.proofs.Common.{rules}
use borrow.Author.Tests.{tests}
use Rattle.scan.proofs.Library.{get-sees}
use Rattle.scan.proofs.sees.Goals as goal

pub returns : goal.returns
returns c = get-sees _ _ _ c.get.result _ c.get.ensures.lookup c.is_some_and.ensures (λ x q. search (rules, tests))
