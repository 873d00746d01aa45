-- `verdict::pairs::above` meets its contract. Assumes nothing.
use mathlib.Core.Path.{◌∙◌, sym, ap}
use Rattle.std.specs.declared.option.Option as Rust
use Rattle.verdict.specs.Tallying.{above_at}
use Rattle.verdict.specs.declared.pairs.Key.{Key}
use Rattle.verdict.proofs.NameOrder.{key-order}
use Rattle.verdict.proofs.pairs.above.Goals as goal

pub returns-in-Some : goal.returns-in-Some
returns-in-Some c =
    let r = c.args.race in
    c.lt.ensures ∙ key-order _ _ ∙ sym (ap (λ (k : Rust.Option Key). above_at k r.witness r.first r.second) c.in-Some.is)

pub returns-in-None : goal.returns-in-None
returns-in-None c =
    let r = c.args.race in sym (ap (λ (k : Rust.Option Key). above_at k r.witness r.first r.second) c.in-None.is)
