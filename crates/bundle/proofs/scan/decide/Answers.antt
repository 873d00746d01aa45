-- `bundle::scan::decide` meets its contract. Assumes nothing.

use Rattle.bundle.proofs.scan.decide.Goals as goal

pub returns-then-misplaced : goal.returns-then-misplaced
returns-then-misplaced c = rw c.if-misplaced.true c.refuse.ensures

pub returns-then-foreign : goal.returns-then-foreign
returns-then-foreign c = rw (c.if-misplaced.false, c.if-foreign.true) c.refuse-then-foreign.ensures

pub returns-then-beyond : goal.returns-then-beyond
returns-then-beyond c = rw (c.if-misplaced.false, c.if-foreign.false, c.if-beyond.true) c.refuse-then-beyond.ensures

pub returns-then-misused : goal.returns-then-misused
returns-then-misused c = rw (c.if-misplaced.false, c.if-foreign.false, c.if-beyond.false, c.if-misused.true) c.refuse-then-misused.ensures

pub returns-then-many : goal.returns-then-many
returns-then-many c = rw (c.if-misplaced.false, c.if-foreign.false, c.if-beyond.false, c.if-misused.false, c.if-many.true) c.refuse-then-many.ensures

pub returns : goal.returns
returns c = rw (c.if-misplaced.false, c.if-foreign.false, c.if-beyond.false, c.if-misused.false, c.if-many.false)
