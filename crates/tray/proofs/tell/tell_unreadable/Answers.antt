-- `tray::tell::tell_unreadable` meets its contract. Assumes nothing.
use Rattle.bundle.specs.Answer.{answer_of}
use Rattle.tray.proofs.TellLaws.{told-unreadable}
use Rattle.tray.proofs.tell.tell_unreadable.Goals as goal

pub returns : goal.returns
returns c = told-unreadable c.args.word (answer_of c.put_unreadable.result) _ _ c.after.ensures.value c.put_unreadable.ensures
