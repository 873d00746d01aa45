-- `bundle::command::encode_access` meets its contract. Assumes nothing.
use mathlib.Core.Bool.{true, false}
use borrow.Author.Rules.{rules}
use Rattle.bundle.specs.Commands.{low_first, operand_bytes}
use Rattle.bundle.proofs.Forms.{encoded-as}
use Rattle.bundle.proofs.command.encode_access.Goals as goal

pub returns-then-access : goal.returns-then-access
unfolding low_first operand_bytes
returns-then-access c = encoded-as _ true c.access_byte-byte.ensures c.if-access.true (search rules)

pub returns : goal.returns
unfolding low_first operand_bytes
returns c = encoded-as _ false c.access_byte-byte.ensures c.if-access.false (search rules)
