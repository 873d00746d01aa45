-- `verdict::lineage::Lineages::counted_apart` meets its contract. Assumes nothing.
use mathlib.Core.Path.{◌∙◌, ap}
use Rattle.verdict.specs.Linking.{row_side}
use Rattle.verdict.specs.declared.pairs.Placed.{Placed}
use Rattle.verdict.proofs.LinkLaws.{one-linked, other-linked, sides-fit, sides_apart}
use Rattle.verdict.proofs.lineage.Lineages.counted_apart.Goals as goal

pub side_of-requires : goal.side_of-requires
side_of-requires c = one-linked _ c.requires.0

pub side_of-requires-2 : goal.side_of-requires-2
side_of-requires-2 c = rw (ap (λ (x : Placed). x.at) c.place_at.ensures) (other-linked _ c.requires.0)

pub apart-requires : goal.apart-requires
apart-requires c =
    sides-fit _ c.requires.0 c.args.one.row c.place_at.result.row c.requires.1 (ap (λ (x : Placed). x.row) c.place_at.ensures) c.side_of.ensures
    (c.side_of-2.ensures ∙ ap (λ (x : Placed). row_side c.args.self.links.now x.at c.place_at.result.row) c.place_at.ensures)

pub returns : goal.returns
returns c =
    c.apart.ensures
    ∙ sides_apart _ c.requires.0 c.args.one.row c.place_at.result.row c.side_of.ensures
    (c.side_of-2.ensures ∙ ap (λ (x : Placed). row_side c.args.self.links.now x.at c.place_at.result.row) c.place_at.ensures)
    (ap (λ (x : Placed). x.row) c.place_at.ensures)
