-- P1 to P14: the definitions give what the table wants.
use mathlib.Core.Path.{◌≡◌, refl}
use mathlib.Core.List.{map}
use Rattle.verdict.specs.Table.{PaperExample, answered, table}
use Rattle.verdict.proofs.Computing.{verdict-computes}

pub examples : map (λ (r : PaperExample). answered r.question) table ≡ map (λ (r : PaperExample). r.wanted) table
unfolding verdict-computes
examples = refl
