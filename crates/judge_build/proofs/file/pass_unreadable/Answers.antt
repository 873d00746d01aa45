-- `judge_build::file::pass_unreadable` meets its contract. Assumes nothing.
use Rattle.bundle.specs.Answer.{answer_of}
use Rattle.tray.proofs.TellLaws.{unreadable-within}
use Rattle.judge_build.proofs.file.pass_unreadable.Goals as goal

pub print_line-requires : goal.print_line-requires
print_line-requires g c = unreadable-within c.args.word (answer_of c.tell_unreadable-told.result.line) _ c.tell_unreadable-told.ensures
