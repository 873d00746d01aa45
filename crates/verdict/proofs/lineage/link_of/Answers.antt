-- `verdict::lineage::link_of` meets its contract. Assumes nothing.
use mathlib.Core.Path.{◌∙◌, ap}
use native.Mathlib.Omega.{arith}
use Rattle.verdict.specs.Linking.{fork_for}
use Rattle.verdict.proofs.LinkLaws.{link-before}
use Rattle.verdict.proofs.lineage.link_of.Goals as goal

pub team_at-requires : goal.team_at-requires
team_at-requires c =
    record { below = omega (arith, c.requires.0.below, c.if-i-gt0.true); whole = c.requires.0.whole }

pub word_at-requires : goal.word_at-requires
word_at-requires c =
    omega (arith, c.requires.0.below, c.requires.2, c.if-i-gt0.true)

pub returns-then-team_at-team : goal.returns-then-team_at-team
returns-then-team_at-team c =
    link-before _ _ _ _ _ _ c.requires.1 c.if-i-gt0.true (omega (arith, c.if-i-gt0.true)) c.team_at.ensures c.team_at-team.ensures
    c.if-team_at-team.true c.word_at.ensures

pub returns : goal.returns
returns c = c.link_to.ensures ∙ ap (fork_for _ _) c.team_at-team.ensures
