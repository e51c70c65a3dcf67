use Rattle.std.proofs.Common.{rules, ◌-◌, take, drop, length}
use mathlib.Core.Path.{ap, ◌∙◌}
use borrow.Author.Tests.{tests}
use Rattle.std.specs.List.{prefix_len}
use Rattle.std.proofs.lemmas.Iterator.{YieldsList-from_slice}
use Rattle.std.proofs.lemmas.Iterator.Search.{YieldsList-from_take_while}
use Rattle.std.proofs.lemmas.Iterator.Consumers.{count_from_yields_List}
use Rattle.std.proofs.lemmas.List.Folds.{length-prefix_len}
use Rattle.scan.specs.Sets.{member}
use Rattle.scan.specs.Laws.{tail-part}
use Rattle.scan.proofs.Library.{spans_prefix}
use Rattle.scan.proofs.span.Goals as goal

pub returns : goal.returns
returns c =
    let p = member c.args.set in
    spans_prefix p _ _ _ (search rules) (
    count_from_yields_List c.take_while.result _ c.count.ensures.ran
    (YieldsList-from_take_while _ p (YieldsList-from_slice (take (length c.args.text.now - c.args.at) (drop c.args.at c.args.text.now)) cc) c.take_while.ensures.closure c.take_while.ensures.done (λ x b q k. search (rules, tests)))
    ∙ length-prefix_len p _
    ∙ ap (prefix_len p) (tail-part c.args.text.now c.args.at)
    )
