-- To unfold this is to unfold all definitions of the three crates, so that examples compute.
use Rattle.verdict.specs.GraphTests.{same_node, same_border, is_barrier, barrier_from, joins, same_pair, linked, edges_of, through, closed, closure_of, reaches}
use Rattle.verdict.specs.Judge.{verdict_of, judgement_of, race_above, over_work, judged_of, judge_of, next_above, next_of}
use Rattle.verdict.specs.Accesses.{access_at, accesses_in, accesses_of, lex_less, name_key, name_below, key_of, race_key, race_below, writes, atomic, race_at}
use Rattle.verdict.specs.Lineages.{holder_of, above_from, lineage, has_team, up_to_parting, counts_lock}
use Rattle.verdict.specs.SegmentOrder.{label_at, order_in, sort_key}
use Rattle.verdict.specs.RaceLists.{common_counted, clashes, race_with, race_of, insert_race, in_order, races_among, races_of}
use Rattle.verdict.specs.Table.{triple, lent, answered, root, member0, member1, member1_later, E, counts, range, overlap, last_read, last_taken, row, after, table}
use Rattle.bundle.proofs.Computing.{bundle-computes}
use Rattle.order.proofs.Computing.{order-computes}

unfoldable pub verdict-computes : Unit {0}
unfolding same_node same_border is_barrier barrier_from joins same_pair linked edges_of through closed closure_of reaches verdict_of judgement_of race_above over_work judged_of judge_of next_above next_of access_at accesses_in accesses_of lex_less name_key name_below key_of race_key race_below writes atomic holder_of above_from lineage has_team up_to_parting counts_lock common_counted clashes race_at race_with race_of insert_race in_order races_among races_of label_at order_in sort_key triple lent answered root member0 member1 member1_later E counts range overlap last_read last_taken row after table bundle-computes order-computes
verdict-computes = tt
