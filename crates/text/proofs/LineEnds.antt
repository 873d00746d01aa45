-- Each line ends in 0x0a, and no byte before that is below 0x20, so that there is no other 0x0a. Assumes nothing.
use mathlib.Core.Path.{◌≡◌, refl}
use mathlib.Core.Bool.{true}
use mathlib.Core.List.{List, [], ◌∷◌, ◌++◌}
use Prim.Native.Nat.{ℕ, zero, suc, ◌+◌, ◌-◌, ◌/◌, ◌%◌, ◌^◌, ◌≤◌}
use Prim.Native.String.{String}
use native.Mathlib.Omega.{arith}
use borrow.Author.Tests.{le-leb, leb-true}
use lib.Dec.{leb, ltb}
use lib.ListN.{length, length-append}
use Rattle.bundle.specs.Lists.{all}
use Rattle.bundle.proofs.Tests.{both, and_left, and_right, cond-elim}
use Rattle.verdict.specs.declared.race.Name.{Name}
use Rattle.verdict.specs.declared.race.Race.{Race}
use Rattle.text.specs.Digits.{ascii, digit_byte, digits, decimal, hexadecimal, width_of}
use Rattle.text.specs.Lines.{line_end, name_text, counts_line, race_line, pairs_line, race_free_line, refused_line}

-- bytes of which none is lower
abbrev pub From : ℕ → List ℕ → Type 0
From low bytes = all (leb low) bytes ≡ true

from-append : (low : ℕ) (xs ys : List ℕ) → From low xs → From low ys → From low (xs ++ ys)
from-append low [] ys p q = q
from-append low (x ∷ xs) ys p q = both (and_left (leb low x) (all (leb low) xs) p) (from-append low xs ys (and_right (leb low x) (all (leb low) xs) p) q)

from-lower : (xs : List ℕ) → From 0x30 xs → From 0x20 xs
from-lower [] p = refl
from-lower (x ∷ xs) p =
    both (le-leb 0x20 x (omega (arith, leb-true 0x30 x (and_left (leb 0x30 x) (all (leb 0x30) xs) p)))) (from-lower xs (and_right (leb 0x30 x) (all (leb 0x30) xs) p))

-- digits are 0x30 or above
digit-from : (d : ℕ) → leb 0x30 (digit_byte d) ≡ true
unfolding digit_byte
digit-from d =
    cond-elim (λ (b : ℕ). leb 0x30 b ≡ true) (ltb d 10) (0x30 + d) (0x61 + (d - 10)) (λ t. le-leb 0x30 (0x30 + d) (omega arith))
    (λ t. le-leb 0x30 (0x61 + (d - 10)) (omega arith))

pub digits_from : (base k n : ℕ) → From 0x30 (digits base k n)
unfolding digits
digits_from base zero n = refl
digits_from base (suc k) n = both (digit-from (n / base ^ k % base)) (digits_from base k n)

-- a line: bytes that are 0x20 or above, and 0x0a
pub record IsLine (line : List ℕ) : Type 0 where
  pub body : List ℕ
  pub ended : line ≡ body ++ line_end
  pub clean : From 0x20 body

pub line-some : {line : List ℕ} → IsLine line → 1 ≤ length line
line-some l = rw l.ended (omega (arith, length-append l.body line_end))

-- the pieces of a line
record Clean (xs : List ℕ) : Type 0 where
  from : From 0x20 xs

infixl 65 ◌then◌
◌then◌ : {xs ys : List ℕ} → Clean xs → Clean ys → Clean (xs ++ ys)
◌then◌ {xs} {ys} p q = record { from = from-append 0x20 xs ys p.from q.from }

ended_by : {xs : List ℕ} → Clean xs → IsLine (xs ++ line_end)
ended_by {xs} p = record { body = xs; ended = refl; clean = p.from }

word : (s : String) → From 0x20 (ascii s) → Clean (ascii s)
word s p = record { from = p }

number : (n : ℕ) → Clean (decimal n)
number n = record { from = from-lower (decimal n) (digits_from 10 (width_of 10 n) n) }

witness : (n : ℕ) → Clean (hexadecimal n)
witness n = record { from = from-lower (hexadecimal n) (digits_from 16 8 n) }

name : (n : Name) → Clean (name_text n)
unfolding name_text
name n = number n.team then word "." refl then number n.member then word "." refl then number n.number

-- each line is one
pub counts-ends : (chunks segments accesses : ℕ) → IsLine (counts_line chunks segments accesses)
unfolding counts_line
counts-ends chunks segments accesses =
    ended_by (word "chunks " refl then number chunks then word " segments " refl then number segments then word " accesses " refl then number accesses)

pub race-ends : (r : Race) → IsLine (race_line r)
unfolding race_line
race-ends r =
    ended_by
    (word "race " refl
    then witness r.witness
    then word " " refl
    then name r.first
    then word " " refl
    then number r.first_site
    then word " " refl
    then name r.second
    then word " " refl
    then number r.second_site)

pub pairs-ends : (n : ℕ) → IsLine (pairs_line n)
unfolding pairs_line
pairs-ends n = ended_by (word "pairs " refl then number n)

pub race-free-ends : IsLine race_free_line
unfolding race_free_line
race-free-ends = ended_by (word "race-free" refl)

pub refused-ends : (n place : ℕ) → IsLine (refused_line n place)
unfolding refused_line
refused-ends n place = ended_by (word "refused " refl then number n then word " at " refl then number place)
