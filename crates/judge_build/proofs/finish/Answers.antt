-- `judge_build::finish` meets its contract. Assumes nothing.
use Rattle.bundle.specs.Answer.{answer_of}
use Rattle.tray.proofs.Adding.{put-within}
use Rattle.judge_build.proofs.finish.Goals as goal

pub print_line-requires : goal.print_line-requires
print_line-requires g c = put-within _ _ (answer_of c.put_build.result) c.put_build.ensures
