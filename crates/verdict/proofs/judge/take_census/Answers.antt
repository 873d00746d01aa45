-- `verdict::judge::take_census` meets its contract. Assumes nothing.
use mathlib.Core.Path.{refl, ap, ◌∙◌}
use Prim.Native.Nat.{ℕ}
use lib.ListN.{replicate}
use native.Mathlib.Omega.{arith}
use Rattle.verdict.proofs.judge.take_census.Goals as goal

pub returns-then-work-lt-WORK_WORDS : goal.returns-then-work-lt-WORK_WORDS
returns-then-work-lt-WORK_WORDS c =
    record { small = λ h. (refl, refl); large = λ h. absurd (omega (arith, h, c.if-work-lt-WORK_WORDS.true)) }

pub returns : goal.returns
returns c =
    let counted = c.count_in-counted.ensures in
    record {
      small = λ h. absurd (omega (arith, h, c.if-work-lt-WORK_WORDS.false));
      large = λ h. (counted.0, c.clear.ensures ∙ ap (λ (n : ℕ). replicate n 0) counted.1);
    }
