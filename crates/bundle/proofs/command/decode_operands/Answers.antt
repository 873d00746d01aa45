-- `bundle::command::decode_operands` meets its contract. Assumes nothing.
use Rattle.bundle.proofs.Arms.{access-decoded}
use Rattle.bundle.proofs.command.decode_operands.Goals as goal

pub returns : goal.returns
returns c =
    access-decoded _ _ _ _
    c.requires
    c.kind_of-kind.ensures
    c.site_at-site.ensures
    c.four_bytes-base.ensures
    c.two_bytes-stride.ensures
    c.two_bytes-count.ensures
