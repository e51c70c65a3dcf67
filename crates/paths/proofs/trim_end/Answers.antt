use Rattle.std.proofs.Common.{rules}
use mathlib.Core.Path.{◌∙◌}
use borrow.Author.Tests.{tests}
use Rattle.std.specs.Prelude.{reverse}
use Rattle.std.proofs.lemmas.Iterator.Adapters.{YieldsList-from_rev_slice}
use Rattle.std.proofs.lemmas.Iterator.Search.{YieldsList-from_take_while}
use Rattle.std.proofs.lemmas.Iterator.Consumers.{count_from_yields_List}
use Rattle.std.proofs.lemmas.List.Folds.{length-prefix_len}
use Rattle.rules.specs.Bytes.{blank}
use Rattle.paths.specs.Paths.{trims-end}
use Rattle.paths.proofs.trim_end.Goals as goal

pub returns : goal.returns
returns c =
    let t = c.args.text.now in
    let n = count_from_yields_List c.take_while.result _ c.count-blanks.ensures.ran (YieldsList-from_take_while _ blank (YieldsList-from_rev_slice t cc) c.take_while.ensures.closure c.take_while.ensures.done (λ x b q k. search (rules, tests))) ∙ length-prefix_len blank (reverse t) in
    rw n (trims-end t).text
