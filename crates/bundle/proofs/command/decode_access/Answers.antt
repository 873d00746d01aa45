-- `bundle::command::decode_access` meets its contract. Assumes nothing.
use mathlib.Core.Path.{◌∙◌}
use mathlib.Core.Bool.{true, false}
use Rattle.bundle.specs.Commands.{sum}
use Rattle.bundle.proofs.Arms.{access-cut, wide_at, narrow_at, wide-to, narrow-to}
use Rattle.bundle.proofs.command.decode_access.Goals as goal

pub returns-then-bytes-position-lt14 : goal.returns-then-bytes-position-lt14
unfolding sum
returns-then-bytes-position-lt14 c =
    c.cut_off.ensures
    ∙ access-cut _ _ true (wide_at _ _ c.requires c.if-bytes-position-ge56.true) c.if-bytes-position-lt14.true

pub decode_operands-requires : goal.decode_operands-requires
decode_operands-requires c = wide-to _ _ c.requires c.if-bytes-position-ge56.true c.if-bytes-position-lt14.false

pub returns-then-bytes-position-ge56 : goal.returns-then-bytes-position-ge56
returns-then-bytes-position-ge56 c = c.decode_operands.ensures

pub returns-then-bytes-position-lt12 : goal.returns-then-bytes-position-lt12
unfolding sum
returns-then-bytes-position-lt12 c =
    c.cut_off-then-bytes-position-lt12.ensures
    ∙ access-cut _ _ false (narrow_at _ _ c.requires c.if-bytes-position-ge56.false) c.if-bytes-position-lt12.true

pub decode_operands-requires-2 : goal.decode_operands-requires-2
decode_operands-requires-2 c = narrow-to _ _ c.requires c.if-bytes-position-ge56.false c.if-bytes-position-lt12.false

pub returns : goal.returns
returns c = c.decode_operands-2.ensures
