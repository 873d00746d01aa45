-- For callers: a line that was put at the front of a buffer lies in it.
use Prim.Native.Nat.{ℕ, ◌-◌, ◌≤◌}
use mathlib.Core.Path.{◌≡◌, ap, subst}
use mathlib.Core.List.{List}
use native.Mathlib.Nat.{zero-add}
use lib.ListN.{length}
use lib.Dec.{leb}
use Rattle.std.specs.declared.result.Result.{Result}
use Rattle.std.specs.declared.result.Result.TheVariants.{Ok}
use Rattle.bundle.specs.Answer.{answer_of}
use Rattle.bundle.specs.declared.refusal.Refusal.{Refusal}
use Rattle.bundle.proofs.Tests.{cond-elim}
use Rattle.bundle.proofs.Fitting.{Fits, fits_refused, fits-written}
use Rattle.text.specs.Lines.{printed_at}

pub fits-printed : (line buffer : List ℕ) → Fits (printed_at line buffer 0)
unfolding printed_at
fits-printed line buffer =
    cond-elim Fits (leb (length line) (length buffer - 0)) _ _
    (λ e. rw (zero-add (length line)) (fits-written buffer line))
    (λ e. fits_refused 17 0 buffer)

pub line-fits :
    (line buffer : List ℕ) {after : List ℕ} (r : Result ℕ Refusal) {size : ℕ}
    → printed_at line buffer 0 ≡ record { answer = answer_of r; buffer = after }
    → r ≡ Ok size
    → size ≤ length after
line-fits line buffer r {size} e q = subst Fits e (fits-printed line buffer) size (ap answer_of q)
