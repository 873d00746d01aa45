-- `bundle::command::put_command` meets its contract. Assumes nothing.
use mathlib.Core.Path.{sym, ◌∙◌}
use lib.ListN.{length}
use native.Mathlib.Omega.{arith}
use Rattle.bundle.proofs.Copying.{encoded-length, encoded-prefix, room, put-out-of-range, put-no-room, put_written}
use Rattle.bundle.proofs.command.put_command.Goals as goal

pub returns-then-not-in_range : goal.returns-then-not-in_range
returns-then-not-in_range c = put-out-of-range _ _ _ (sym c.in_range.ensures ∙ c.if-not-in_range.true)

pub returns-then-saturating_sub-length : goal.returns-then-saturating_sub-length
returns-then-saturating_sub-length c =
    let ranged = sym c.in_range.ensures ∙ c.if-not-in_range.false in
    put-no-room _ c.encode-encoded.ensures _ _ ranged (rw c.saturating_sub.ensures at c.if-saturating_sub-length.true)

pub slice_bounds-copy_in-end : goal.slice_bounds-copy_in-end
slice_bounds-copy_in-end c = encoded-prefix _ c.encode-encoded.ensures

pub copy_in-requires : goal.copy_in-requires
copy_in-requires c =
    rw (← encoded-prefix _ c.encode-encoded.ensures)
    (room _ c.encode-encoded.ensures _ _ (rw c.saturating_sub.ensures at c.if-saturating_sub-length.false))

pub overflow_add-result : goal.overflow_add-result
overflow_add-result c =
    omega (
      arith,
      room _ c.encode-encoded.ensures (length c.args.buffer.now) c.args.position
          (rw c.saturating_sub.ensures at c.if-saturating_sub-length.false),
    )

pub returns : goal.returns
returns c =
    put_written _ c.encode-encoded.ensures _ _ _
    (sym c.in_range.ensures ∙ c.if-not-in_range.false)
    (rw c.saturating_sub.ensures at c.if-saturating_sub-length.false)
    c.copy_in.ensures
