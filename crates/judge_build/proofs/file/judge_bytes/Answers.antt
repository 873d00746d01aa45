-- `judge_build::file::judge_bytes` meets its contract. Assumes nothing.
use Rattle.bundle.specs.Answer.{answer_of}
use Rattle.tray.proofs.TellLaws.{told-within}
use Rattle.judge_build.proofs.file.judge_bytes.Goals as goal

pub print_line-requires : goal.print_line-requires
print_line-requires g c = told-within _ _ (answer_of c.tell_bundle-told.result.line) _ c.tell_bundle-told.ensures
