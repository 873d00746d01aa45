-- To unfold this is to unfold all definitions of this crate and of bundle, so that examples compute.
use Rattle.order.specs.Climbing.{joins_before, joined_before, opened_in, state_by_rows, triple_of, extended, chunk_label_of}
use Rattle.order.specs.Labels.{last_triple, fork_label, segment_label, label_of, counted, blank, holding, span_ok, root_span, label_ok, same_triple, compare_triples, compare_from, compare_of}
use Rattle.order.specs.Pairs.{element_from, pair_meeting}
use Rattle.order.specs.Ranges.{shared_of}
use Rattle.order.specs.SharedBytes.{touched, least_with, least, shared_byte, covers, lowest_element, overlap_at, overlap_of}
use Rattle.bundle.proofs.Computing.{bundle-computes}

unfoldable pub order-computes : Unit {0}
unfolding joins_before joined_before opened_in state_by_rows triple_of extended chunk_label_of last_triple fork_label segment_label label_of counted blank holding span_ok root_span label_ok same_triple compare_triples compare_from compare_of element_from pair_meeting touched least_with least shared_byte covers lowest_element overlap_at overlap_of shared_of bundle-computes
order-computes = tt
