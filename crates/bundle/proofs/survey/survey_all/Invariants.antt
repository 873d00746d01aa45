-- `bundle::survey::survey_all` meets its contract. The invariant: what the rest of the bundle adds is the whole. The measure: the bytes
-- left. Assumes nothing.
use Prim.Native.Nat.{◌-◌}
use lib.ListN.{length}
use Rattle.bundle.specs.Survey.{Surveying}
use Rattle.bundle.proofs.survey.survey_all.Given as goal

abbrev pub invariant-loop-pass : goal.invariant-loop-pass
invariant-loop-pass l = Surveying l.bytes l.pass l.chunks l.forks

abbrev pub decreases-loop-pass : goal.decreases-loop-pass
decreases-loop-pass l = length l.bytes - l.pass.at
