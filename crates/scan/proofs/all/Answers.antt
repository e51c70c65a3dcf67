use Rattle.std.proofs.Common.{rules}
use mathlib.Core.Path.{◌∙◌}
use borrow.Author.Tests.{tests}
use Rattle.std.proofs.lemmas.Iterator.{YieldsList-from_slice}
use Rattle.std.proofs.lemmas.Iterator.Search.{all_from_yields_List}
use Rattle.scan.specs.Sets.{member}
use Rattle.scan.proofs.Library.{list_all-is}
use Rattle.scan.proofs.all.Goals as goal

pub returns : goal.returns
returns c = all_from_yields_List (member c.args.set) _ _ _ c.all.ensures.ran (YieldsList-from_slice c.args.text.now cc) (λ x b q k. search (rules, tests)) ∙ list_all-is _ _
