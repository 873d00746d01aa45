-- To unfold this is to unfold all definitions of the crate, so that examples compute.
use Rattle.bundle.specs.Walk.{borders, opens_segment, adds_access, entries_from, entries_of, barriers_of, fork_at, forks_in, forks_of, opening_at, segments_from, segments_in, segments_of}
use Rattle.bundle.specs.Check.{fork_of, size_of, depth_from, depth_of, failing, forked_before, stray, lacks_chunk, complete_in, lowest_complete, unlike_lowest, beyond_complete, refused_at, shape_of, check_of, find_of}
use Rattle.bundle.specs.Chunks.{fresh, after_barrier, after_join, after_acquire, after_release, after_command, after_commands, follow, front_from, front_of, gather_one, gather, chunks_of, commands_of, is_end, complete, part_of, is_of, chunk_of}
use Rattle.bundle.specs.Commands.{low_first, number_at, kind_of, kind_byte, access_byte, form_of, code_of, sum, width_of, widths_of, operands_from, operand_bytes, command_at, bytes_of, size_ok, stride_ok, last_byte, range_ok, operands_ok, fit_widths, in_range, decode_byte, decode_at, ranged, read_at, written, put_at}
use Rattle.bundle.specs.Find.{ends_of}
use Rattle.bundle.specs.Locks.{holds, acquired, released, common_lock}
use Rattle.bundle.specs.Scan.{is_member, misplaced, differs, of_other_group, above_own_team, misuses_lock, too_many, fault_of, start, scanned, finish, walk, scan_of}

unfoldable pub bundle-computes : Unit {0}
unfolding borders opens_segment adds_access entries_from entries_of barriers_of fork_at forks_in forks_of opening_at segments_from segments_in segments_of fork_of size_of depth_from depth_of failing forked_before stray lacks_chunk complete_in lowest_complete unlike_lowest beyond_complete refused_at shape_of check_of find_of fresh after_barrier after_join after_acquire after_release after_command after_commands follow front_from front_of gather_one gather chunks_of commands_of is_end complete part_of is_of chunk_of low_first number_at kind_of kind_byte access_byte form_of code_of sum width_of widths_of operands_from operand_bytes command_at bytes_of size_ok stride_ok last_byte range_ok operands_ok fit_widths in_range decode_byte decode_at ranged read_at written put_at ends_of holds acquired released common_lock is_member misplaced differs of_other_group above_own_team misuses_lock too_many fault_of start scanned finish walk scan_of
bundle-computes = tt
