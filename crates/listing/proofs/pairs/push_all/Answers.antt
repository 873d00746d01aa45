-- `listing::pairs::push_all` meets its contract. Assumes nothing.
use Prim.Native.Nat.{ℕ}
use lib.ListN.{length-replicate}
use Rattle.verdict.proofs.LinkLaws.{all-around}
use Rattle.listing.proofs.pairs.push_all.Goals as goal

pub linked-links-requires : goal.linked-links-requires
linked-links-requires c =
    let pre = c.requires in
    record {
      few = pre.0.few;
      whole = pre.0.rows_whole;
      few_regions = pre.1.few;
      long = length-replicate {A = ℕ} 1536 0;
    }

pub push_rows-requires : goal.push_rows-requires
push_rows-requires c = let pre = c.requires in (pre.0, all-around pre.1 c.linked-links.ensures)
