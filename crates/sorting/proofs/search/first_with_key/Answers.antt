-- `sorting::search::first_with_key` meets its contract. Assumes nothing.
use Rattle.sorting.proofs.KeyOrder.{key-large, key-past, key-found, key-other}
use Rattle.sorting.proofs.search.first_with_key.Goals as goal

pub returns-then-key-ge281474976710656 : goal.returns-then-key-ge281474976710656
returns-then-key-ge281474976710656 c = key-large _ _ c.if-key-ge281474976710656.true

pub returns-then-order-at : goal.returns-then-order-at
returns-then-order-at c = key-past _ _ _ c.if-key-ge281474976710656.false c.lower_bound-at.ensures c.if-order-at.true

pub returns-then-word-key : goal.returns-then-word-key
returns-then-word-key c = key-found _ _ _ c.if-key-ge281474976710656.false c.lower_bound-at.ensures c.if-order-at.false c.if-word-key.true

pub returns : goal.returns
returns c = key-other _ _ _ c.if-key-ge281474976710656.false c.lower_bound-at.ensures c.if-order-at.false c.if-word-key.false
