-- `order::label::spans_ok` meets its contract. Assumes nothing.
use mathlib.Core.Path.{◌∙◌}
use borrow.Author.Rules.{rules}
use borrow.Author.Tests.{tests}
use Rattle.std.proofs.lemmas.Iterator.{YieldsList-from_slice}
use Rattle.std.proofs.lemmas.Iterator.Search.{all_from_yields_List}
use Rattle.order.specs.Labels.{counted, span_ok}
use Rattle.order.proofs.Comparing.{every-all}
use Rattle.order.proofs.label.spans_ok.Goals as goal

pub returns : goal.returns
returns c =
    all_from_yields_List span_ok _ _ _ c.all.ensures.ran (YieldsList-from_slice (counted c.args.label) cc) (λ x b q k. search (rules, tests))
    ∙ every-all span_ok (counted c.args.label)
