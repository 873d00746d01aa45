-- How long the lines are, by the widths of the numbers that they show. Assumes nothing.
use mathlib.Core.Path.{◌≡◌, refl}
use mathlib.Core.List.{List, ◌++◌}
use Prim.Native.Nat.{ℕ, ◌+◌, ◌≤◌, ◌<◌}
use Prim.Native.String.{String}
use native.Mathlib.Omega.{arith}
use lib.ListN.{length, length-append}
use Rattle.verdict.specs.declared.race.Name.{Name}
use Rattle.verdict.specs.declared.race.Race.{Race}
use Rattle.text.specs.Digits.{ascii, decimal, hexadecimal, width_of}
use Rattle.text.specs.Lines.{line_end, name_text, counts_line, race_line, pairs_line}
use Rattle.text.specs.Inner.{access_text}
use Rattle.text.proofs.Widths.{length_digits, two, width-most}

-- at most so many bytes
pub record Within (k : ℕ) (xs : List ℕ) : Type 0 where
  pub most : length xs ≤ k

infixl 65 ◌then◌
pub ◌then◌ : {j k : ℕ} {xs ys : List ℕ} → Within j xs → Within k ys → Within (j + k) (xs ++ ys)
◌then◌ {xs = xs} {ys = ys} p q = record { most = omega (arith, p.most, q.most, length-append xs ys) }

pub within : {j : ℕ} {xs : List ℕ} (k : ℕ) → j ≤ k → Within j xs → Within k xs
within k h p = record { most = omega (arith, p.most) }

pub word : (s : String) (k : ℕ) → length (ascii s) ≡ k → Within k (ascii s)
word s k e = record { most = omega (arith, e) }

pub end : Within 1 line_end
end = record { most = omega arith }

short : (n : ℕ) → n < 65536 → Within 5 (decimal n)
short n h = record { most = omega (arith, length_digits 10 (width_of 10 n) n, width-most 10 two 4 n (omega arith)) }

pub long : (n : ℕ) → n < 4294967296 → Within 10 (decimal n)
long n h = record { most = omega (arith, length_digits 10 (width_of 10 n) n, width-most 10 two 9 n (omega arith)) }

-- a number of 64 bits
pub longest : (n : ℕ) → n < 18446744073709551616 → Within 20 (decimal n)
longest n h = record { most = omega (arith, length_digits 10 (width_of 10 n) n, width-most 10 two 19 n (omega arith)) }

-- and lies in a line with so much room
pub longest-fits : (size room n : ℕ) → n < 18446744073709551616 → size + 20 ≤ room → size + length (decimal n) ≤ room
longest-fits size room n h r = omega (arith, r, (longest n h).most)

witness : (n : ℕ) → Within 8 (hexadecimal n)
witness n = record { most = omega (arith, length_digits 16 8 n) }

-- a name whose numbers fit their widths
pub record Named (n : Name) : Type 0 where
  pub team : n.team < 65536
  pub member : n.member < 256
  pub number : n.number < 65536

name : (n : Name) → Named n → Within 17 (name_text n)
unfolding name_text
name n f =
    short n.team f.team
    then word "." 1 refl
    then short n.member (omega (arith, f.member))
    then word "." 1 refl
    then short n.number f.number

-- the text of an access
pub access-length : (n : Name) (site : ℕ) → Named n → site < 4294967296 → Within 29 (access_text n site)
unfolding access_text
access-length n site f s = word " " 1 refl then name n f then word " " 1 refl then long site s

pub race-length : (r : Race) → Named r.first → r.first_site < 4294967296 → Named r.second → r.second_site < 4294967296 → Within 72 (race_line r)
unfolding race_line
race-length r first first-site second second-site =
    word "race " 5 refl
    then witness r.witness
    then word " " 1 refl
    then name r.first first
    then word " " 1 refl
    then long r.first_site first-site
    then word " " 1 refl
    then name r.second second
    then word " " 1 refl
    then long r.second_site second-site
    then end

pub counts-length : (chunks segments accesses : ℕ) → chunks < 4294967296 → segments < 4294967296 → accesses < 4294967296 → Within 58 (counts_line chunks segments accesses)
unfolding counts_line
counts-length chunks segments accesses c s a =
    word "chunks " 7 refl then long chunks c then word " segments " 10 refl then long segments s then word " accesses " 10 refl then long accesses a then end

pub pairs-length : (n : ℕ) → n < 4294967296 → Within 17 (pairs_line n)
unfolding pairs_line
pairs-length n h = word "pairs " 6 refl then long n h then end
