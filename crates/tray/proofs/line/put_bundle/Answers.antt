-- `tray::line::put_bundle` meets its contract. Assumes nothing.
use mathlib.Core.Path.{sym, ap, ◌∙◌}
use Rattle.bundle.specs.Answer.{answer_of}
use Rattle.text.specs.Lines.{refused_line}
use Rattle.tray.specs.Texts.{bundle_line}
use Rattle.text.proofs.Printing.{printed-as}
use Rattle.tray.proofs.line.put_bundle.Goals as goal

pub returns-in-Ok : goal.returns-in-Ok
unfolding bundle_line
returns-in-Ok c = printed-as _ _ (ap (λ a. bundle_line (answer_of a)) c.in-Ok.is) c.put_judged.ensures

pub returns-in-Err : goal.returns-in-Err
unfolding bundle_line
returns-in-Err c = printed-as _ _ (ap (λ a. bundle_line (answer_of a)) c.in-Err.is ∙ ap (λ n. refused_line n c.in-Err.refusal.place) (sym c.from.ensures)) c.put_refused.ensures
