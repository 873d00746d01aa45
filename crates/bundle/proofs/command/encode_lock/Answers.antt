-- `bundle::command::encode_lock` meets its contract. Assumes nothing.
use Rattle.bundle.specs.Commands.{low_first, operand_bytes}
use borrow.Author.Rules.{rules}
use Rattle.bundle.proofs.command.encode_lock.Goals as goal

pub returns : goal.returns
unfolding low_first operand_bytes
returns c = search rules
