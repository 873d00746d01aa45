-- `verdict::fill::Cursor::note` meets its contract. Assumes nothing.
use Rattle.verdict.proofs.NotedCases.{member-room, region-room, barrier-room, access-room, row_room, access-counts, noted-member, noted-closing, noted-region, noted-barrier, noted-acquire, noted-release, noted-access}
use native.Mathlib.Omega.{arith}
use Rattle.bundle.proofs.Delimiters.{closes}
use Rattle.verdict.proofs.fill.Cursor.note.Goals as goal

pub open_segment-requires : goal.open_segment-requires
open_segment-requires c = member-room c.requires c.enter-after.ensures

pub close_chunk-requires : goal.close_chunk-requires
close_chunk-requires c = omega (arith, c.requires.segment)

pub open_segment-requires-in-Region : goal.open_segment-requires-in-Region
open_segment-requires-in-Region c = region-room c.requires c.in-Region.is c.advance-after.ensures

pub open_segment-requires-in-Barrier : goal.open_segment-requires-in-Barrier
open_segment-requires-in-Barrier c = barrier-room c.requires c.in-Barrier.is c.advance-after-in-Barrier.ensures

pub row_here-requires : goal.row_here-requires
row_here-requires c = access-room c.requires c.in-Access.is

pub add_access-requires : goal.add_access-requires
add_access-requires c = row_room c.requires c.in-Access.is c.row_here.ensures

pub advance-requires-in-Access : goal.advance-requires-in-Access
advance-requires-in-Access c = access-counts c.requires c.in-Access.is

pub close_chunk-requires-in-Cut : goal.close_chunk-requires-in-Cut
close_chunk-requires-in-Cut c = omega (arith, c.requires.segment)

pub returns-in-Member : goal.returns-in-Member
returns-in-Member c =
    let opened = c.open_segment.ensures in
    rw opened.ends_kept (noted-member c.requires c.in-Member.is c.enter-after.ensures c.fork_code.ensures opened.opened)

pub returns-in-End : goal.returns-in-End
unfolding closes
returns-in-End c =
    let closed = c.close_chunk.ensures in
    rw (closed.opens_kept.0, closed.opens_kept.1) (noted-closing c.requires (rw c.in-End.is) closed.closed.0 closed.closed.1)

pub returns-in-Region : goal.returns-in-Region
returns-in-Region c =
    let opened = c.open_segment-in-Region.ensures in
    rw opened.ends_kept (noted-region c.requires c.in-Region.is c.after_join.ensures c.fork_end.ensures c.advance-after.ensures c.join_code.ensures opened.opened)

pub returns-in-Barrier : goal.returns-in-Barrier
returns-in-Barrier c =
    let opened = c.open_segment-in-Barrier.ensures in
    rw opened.ends_kept (noted-barrier c.requires c.in-Barrier.is c.after_barrier.ensures c.barrier_end.ensures c.advance-after-in-Barrier.ensures c.barrier_code.ensures opened.opened)

pub returns-in-Acquire : goal.returns-in-Acquire
returns-in-Acquire c = noted-acquire c.requires c.in-Acquire.is c.after_acquire.ensures c.advance.ensures

pub returns-in-Release : goal.returns-in-Release
returns-in-Release c = noted-release c.requires c.in-Release.is c.after_release.ensures c.advance-in-Release.ensures

pub returns-in-Access : goal.returns-in-Access
returns-in-Access c = noted-access c.requires c.in-Access.is c.row_here.ensures c.add_access.ensures c.advance-in-Access.ensures

pub returns-in-Cut : goal.returns-in-Cut
unfolding closes
returns-in-Cut c =
    let closed = c.close_chunk-in-Cut.ensures in
    rw (closed.opens_kept.0, closed.opens_kept.1) (noted-closing c.requires (rw c.in-Cut.is) closed.closed.0 closed.closed.1)
