-- `verdict::pairs::before_least` meets its contract. Assumes nothing.
use mathlib.Core.Path.{◌∙◌, ap}
use mathlib.Core.Bool.{Bool, not, ◌||◌}
use Rattle.verdict.specs.Accesses.{lex_less, key_of}
use Rattle.verdict.specs.declared.pairs.Key.{Key}
use Rattle.verdict.proofs.NameOrder.{key-order}
use Rattle.verdict.proofs.pairs.before_least.Goals as goal

pub returns : goal.returns
returns c =
    let r = c.args.race in
    ap (λ (b : Bool). not c.args.sum.found || b)
    (c.lt.ensures ∙ key-order _ _
    ∙ ap (λ (k : Key). lex_less (key_of r.witness r.first r.second) (key_of k.witness k.first k.second)) c.least_key.ensures)
