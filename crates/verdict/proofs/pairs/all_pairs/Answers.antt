-- `verdict::pairs::all_pairs` meets its contract. Assumes nothing.
use Prim.Native.Nat.{ℕ}
use mathlib.Core.Path.{◌∙◌}
use lib.ListN.{length-replicate}
use Rattle.verdict.proofs.LinkLaws.{all-around}
use Rattle.verdict.proofs.pairs.all_pairs.Goals as goal

pub linked-links-requires : goal.linked-links-requires
linked-links-requires c =
    record {
      few = c.requires.0.few;
      whole = c.requires.0.rows_whole;
      few_regions = c.requires.1.few;
      long = length-replicate {A = ℕ} 1536 0;
    }

pub add_rows-requires : goal.add_rows-requires
add_rows-requires c = (c.requires.0, all-around c.requires.1 c.linked-links.ensures)

pub tally_of-requires : goal.tally_of-requires
tally_of-requires c = c.requires.0.rows_whole

pub returns : goal.returns
returns c = c.tally_of.ensures ∙ c.add_rows.ensures
