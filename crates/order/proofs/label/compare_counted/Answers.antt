-- `order::label::compare_counted` meets its contract: the first triples that differ decide the answer, else the lengths. Assumes nothing.
use mathlib.Core.Path.{sym, ◌∙◌}
use native.Mathlib.Omega.{arith}
use Rattle.std.proofs.lemmas.Grind.{common_steps}
use Rattle.order.specs.Labels.{compare_from}
use Rattle.order.proofs.Comparing.{span-positive, first-differ, both_end, first_ends, second-ends}
use Rattle.order.proofs.label.compare_counted.Goals as goal

pub compare_triples-requires : goal.compare_triples-requires
compare_triples-requires c =
    let within = rw c.counted-firsts.ensures at c.in-Some.ensures.within.0 in
    rw c.counted-firsts.ensures (span-positive _ c.requires.0 c.in-Some.number within)

pub returns-in-Some : goal.returns-in-Some
returns-in-Some c =
    rw (← c.counted-firsts.ensures, ← c.counted-seconds.ensures) (c.compare_triples.ensures ∙ first-differ _ _ c.in-Some.ensures.first)

pub returns-in-Less : goal.returns-in-Less
unfolding compare_from
returns-in-Less c =
    rw (← c.counted-firsts.ensures, ← c.counted-seconds.ensures) (sym (first_ends _ _ c.in-None.ensures.first (grind (arith, common_steps))))

pub returns-in-Equal : goal.returns-in-Equal
unfolding compare_from
returns-in-Equal c =
    rw (← c.counted-firsts.ensures, ← c.counted-seconds.ensures) (sym (both_end _ _ c.in-None.ensures.first (grind (arith, common_steps))))

pub returns-in-Greater : goal.returns-in-Greater
unfolding compare_from
returns-in-Greater c =
    rw (← c.counted-firsts.ensures, ← c.counted-seconds.ensures) (sym (second-ends _ _ c.in-None.ensures.first (grind (arith, common_steps))))
