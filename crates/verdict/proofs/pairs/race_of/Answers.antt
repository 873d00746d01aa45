-- `verdict::pairs::race_of` meets its contract. Assumes nothing.
use Rattle.verdict.proofs.pairs.race_of.Goals as goal

pub returns : goal.returns
returns c =
    rw (
      c.row_element-2.ensures,
      c.name_in-2.ensures,
      c.row_element.ensures,
      c.name_in.ensures,
      c.row_in-other.ensures,
      c.row_in-one.ensures,
    )
