use Rattle.std.proofs.Common.{rules}
use mathlib.Core.Path.{◌∙◌}
use borrow.Author.Tests.{tests}
use Rattle.std.specs.Prelude.{true, ◌&&◌}
use Rattle.std.proofs.lemmas.Iterator.{YieldsList-from_slice}
use Rattle.std.proofs.lemmas.Iterator.Consumers.{fold_from_yields_List}
use Rattle.rules.specs.Bytes.{ascii}
use Rattle.scan.proofs.Library.{fold-all}
use Rattle.scan.proofs.is_ascii.Goals as goal

pub returns : goal.returns
unfolding ascii
returns c = fold_from_yields_List _ (λ b x. b && ascii x) true _ c.fold.ensures.ran (YieldsList-from_slice c.args.text.now cc) (λ b x r q k. search (rules, tests)) ∙ fold-all ascii _ true
