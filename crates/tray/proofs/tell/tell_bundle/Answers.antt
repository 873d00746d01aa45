-- `tray::tell::tell_bundle` meets its contract. Assumes nothing.
use Rattle.bundle.specs.Answer.{answer_of}
use Rattle.tray.proofs.TellLaws.{told}
use Rattle.tray.proofs.tell.tell_bundle.Goals as goal

pub returns : goal.returns
returns c =
    told _ (answer_of c.judge-judged.result) (answer_of c.put_bundle.result) _ _
    c.judge-judged.ensures.work_value
    c.outcome_of.ensures
    c.after.ensures.value
    c.put_bundle.ensures
