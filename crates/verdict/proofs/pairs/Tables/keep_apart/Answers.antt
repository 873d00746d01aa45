-- `verdict::pairs::Tables::keep_apart` meets its contract. The invariant: the bits passed say which clash with all locks that count. Assumes nothing.
use native.Mathlib.Omega.{arith}
use Rattle.verdict.proofs.ClashWords.{kept-none, kept_more, kept-all, pair_fits}
use Rattle.verdict.proofs.pairs.Tables.keep_apart.Goals as goal

pub loop-k-init : goal.loop-k-init
loop-k-init c = kept-none _ _ _ _ _ _ _

pub overflow_sub-count : goal.overflow_sub-count
overflow_sub-count c = c.requires.rows_fit.ordered

pub overflow_add-first : goal.overflow_add-first
overflow_add-first c = record { fits = omega (arith, c.loop-k-test.true, c.requires.rows_fit.tables.few) }

pub clash_counted-stays-requires : goal.clash_counted-stays-requires
clash_counted-stays-requires c =
    pair_fits _ _ _ _ _ _ _ _ _ _ c.requires (omega (arith, c.loop-k-test.true, c.requires.rows_fit.ordered))

pub overflow_shl-kept : goal.overflow_shl-kept
overflow_shl-kept c = omega (arith, c.loop-k-test.true, c.requires.rows_fit.short)

pub loop-k-preserved : goal.loop-k-preserved
loop-k-preserved c =
    kept_more _ _ _ _ _ _ _ _ _ _ c.requires c.clash_counted-stays.result c.loop-k.invariant
    (omega (arith, c.loop-k-test.true, c.requires.rows_fit.ordered)) c.clash_counted-stays.ensures

pub returns : goal.returns
returns c = kept-all _ _ _ _ _ _ _ _ _ _ c.requires c.loop-k.invariant (omega (arith, c.loop-k-test.false, c.requires.rows_fit.ordered))
