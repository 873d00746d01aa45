-- `exports::commands::put_words` meets its contract: words that stand for no command are refused with the number of the definition. Assumes nothing.
use Rattle.exports.proofs.Widths.{put-refused}
use Rattle.exports.proofs.commands.put_words.Goals as goal

pub returns-in-Err : goal.returns-in-Err
returns-in-Err c = rw c.from.ensures (put-refused _ c.in-Err.bad _ _ c.in-Err.ensures)
