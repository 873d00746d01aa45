-- `verdict::pairs::passing` meets its contract. The invariant: the bits below k are the tests of their accesses. Assumes nothing.
use Prim.Native.Nat.{ℕ}
use Rattle.verdict.specs.Working.{access_row_at}
use Rattle.verdict.specs.Tallying.{rows_pass}
use Rattle.verdict.proofs.WordBits.{BitsTo}
use Rattle.verdict.proofs.pairs.passing.Given as goal

abbrev pub invariant-loop-k : goal.invariant-loop-k
invariant-loop-k l = BitsTo (λ (j : ℕ). rows_pass l.one (access_row_at l.rows j)) l.first l.word l.k
