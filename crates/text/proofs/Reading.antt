-- What is written reads back: digits in any base up to 16, and the numbers of a race's line. Assumes nothing.
use mathlib.Core.Path.{◌≡◌, refl, sym, ap, ap₂, ◌∙◌}
use mathlib.Core.Bool.{cond}
use mathlib.Core.List.{List, [], ◌∷◌, ◌++◌, append_assoc, append-nil}
use Prim.Native.Nat.{ℕ, zero, suc, ◌+◌, ◌-◌, ◌*◌, ◌/◌, ◌%◌, ◌^◌, ◌≤◌, ◌<◌}
use native.Mathlib.Nat.{mul-pos, mod-one, mod-lt, mod-eq_of_lt, pow-zero, pow-succ', div-lt_iff_lt-mul, le-div_iff_mul-le, one-mul}
use native.Mathlib.Decide.{dec_lt}
use native.Mathlib.Omega.{arith}
use borrow.Author.Tests.{lt-ltb, le-ltb, leb-true}
use lib.Arith.{mod-mul}
use lib.Dec.{ltb, leb}
use lib.ListN.{length, get_or}
use Rattle.bundle.specs.Lists.{all}
use Rattle.bundle.proofs.Tests.{and_left, and_right}
use Rattle.verdict.specs.declared.race.Race.{Race}
use Rattle.verdict.proofs.RaceElements.{with_elements}
use Rattle.text.specs.Digits.{ascii, digit_byte, digits, width_of, decimal, hexadecimal}
use Rattle.text.specs.Lines.{line_end, name_text, race_line}
use Rattle.text.proofs.Widths.{length_digits, width_some, width_fits, width-least, two}
use Rattle.text.proofs.LineEnds.{From, digits_from}

-- a digit's value, by its byte
value_of : ℕ → ℕ
value_of byte = cond (ltb byte 0x61) (byte - 0x30) (byte - 0x61 + 10)

digit_value : (d : ℕ) → d < 16 → value_of (digit_byte d) ≡ d
unfolding digit_byte value_of
digit_value d h = go (dec_lt d 10)
  where
    go : Dec (d < 10) → value_of (digit_byte d) ≡ d
    go (yes l) = rw (lt-ltb d 10 l, lt-ltb (0x30 + d) 0x61 (omega arith)) (omega arith)
    go (no l) = rw (le-ltb d 10 (omega arith), le-ltb (0x61 + (d - 10)) 0x61 (omega arith)) (omega arith)

-- the number that digits say, each by its place
pub number_in : ℕ → List ℕ → ℕ
number_in base [] = 0
number_in base (byte ∷ bytes) = value_of byte * base ^ length bytes + number_in base bytes

module _ (base : ℕ) (low : 2 ≤ base) (high : base ≤ 16) where
  power-some : (k : ℕ) → 0 < base ^ k
  power-some zero = rw (pow-zero base) (omega arith)
  power-some (suc k) = rw (pow-succ' base k) (mul-pos {m = base} (omega arith) (power-some k))

  last_digits : (k n : ℕ) → number_in base (digits base k n) ≡ n % base ^ k
  unfolding digits number_in
  last_digits zero n = rw (pow-zero base) (sym (mod-one n))
  last_digits (suc k) n =
      ap₂ (λ (d m : ℕ). d * base ^ m + number_in base (digits base k n))
      (digit_value (n / base ^ k % base) (omega (arith, mod-lt (n / base ^ k) {m = base} (omega arith))))
      (length_digits base k n)
      ∙ ap (λ (m : ℕ). (n / base ^ k % base) * base ^ k + m) (last_digits k n)
      ∙ sym (mod-mul n {m = base} {c = base ^ k} (omega arith) (power-some k))
      ∙ ap (λ (m : ℕ). n % m) (sym (pow-succ' base k))

  -- a number reads back at any width that holds it
  pub digits-read : (k n : ℕ) → n < base ^ k → number_in base (digits base k n) ≡ n
  digits-read k n h = last_digits k n ∙ mod-eq_of_lt h

  -- and without leading zeros its first digit is none
  first-digit : (k n : ℕ) → 1 ≤ n → width_of base n ≡ suc k → digit_byte (n / base ^ k % base) ≡ 0x30 → ⊥
  unfolding value_of
  first-digit k n some e zeroed =
      let least : 1 ≤ n / base ^ k = (le-div_iff_mul-le {k = base ^ k} (power-some k)).1 (rw (one-mul (base ^ k)) (width-least base low n k some e)) in
      let fits : n < base * base ^ k = rw (e, pow-succ' base k) at (width_fits base low n) in
      let below : n / base ^ k < base = (div-lt_iff_lt-mul {k = base ^ k} (power-some k)).1 fits in
      let none : value_of (digit_byte (n / base ^ k % base)) ≡ 0 = ap value_of zeroed in
      omega (
        arith,
        none,
        mod-eq_of_lt below,
        digit_value (n / base ^ k % base) (omega (arith, mod-lt (n / base ^ k) {m = base} (omega arith))),
      )

  pub no-leading-zero : (n : ℕ) → 1 ≤ n → get_or (digits base (width_of base n) n) 0 0 ≡ 0x30 → ⊥
  unfolding digits
  no-leading-zero n some zeroed =
      let e : width_of base n ≡ suc (width_of base n - 1) = omega (arith, width_some base low n) in
      first-digit (width_of base n - 1) n some e (rw e at zeroed)

pub decimal-read : (n : ℕ) → number_in 10 (decimal n) ≡ n
decimal-read n = digits-read 10 two (omega arith) (width_of 10 n) n (width_fits 10 two n)

pub hexadecimal-read : (n : ℕ) → n < 4294967296 → number_in 16 (hexadecimal n) ≡ n
hexadecimal-read n h = digits-read 16 (omega arith) (omega arith) 8 n h

-- a line cut at each byte below 0x30: a space, a dot, the end
pub start_field : ℕ → List (List ℕ) → List (List ℕ)
start_field byte [] = (byte ∷ []) ∷ []
start_field byte (f ∷ fs) = (byte ∷ f) ∷ fs

pub fields_of : List ℕ → List (List ℕ)
fields_of [] = [] ∷ []
fields_of (byte ∷ bytes) = cond (ltb byte 0x30) ([] ∷ fields_of bytes) (start_field byte (fields_of bytes))

field-first : (xs : List ℕ) (byte : ℕ) (rest : List ℕ) → From 0x30 xs → byte < 0x30 → fields_of (xs ++ byte ∷ rest) ≡ xs ∷ fields_of rest
unfolding fields_of start_field
field-first [] byte rest p h = rw (lt-ltb byte 0x30 h)
field-first (x ∷ xs) byte rest p h =
    rw (le-ltb x 0x30 (leb-true 0x30 x (and_left (leb 0x30 x) (all (leb 0x30) xs) p)))
    (ap (start_field x) (field-first xs byte rest (and_right (leb 0x30 x) (all (leb 0x30) xs) p) h))

-- fields, each with the byte that ends it
record Field : Type 0 where
  text : List ℕ
  end : ℕ
  shown : From 0x30 text
  low : end < 0x30

line_of : List Field → List ℕ
line_of [] = []
line_of (f ∷ fs) = f.text ++ f.end ∷ line_of fs

texts_of : List Field → List (List ℕ)
texts_of [] = [] ∷ []
texts_of (f ∷ fs) = f.text ∷ texts_of fs

fields_back : (fs : List Field) → fields_of (line_of fs) ≡ texts_of fs
unfolding fields_of line_of texts_of
fields_back [] = refl
fields_back (f ∷ fs) =
    field-first f.text f.end (line_of fs) f.shown f.low ∙ ap (λ (l : List (List ℕ)). f.text ∷ l) (fields_back fs)

word : Field
word = record { text = ascii "race"; end = 0x20; shown = refl; low = omega arith }

witness : ℕ → Field
witness n = record { text = hexadecimal n; end = 0x20; shown = digits_from 16 8 n; low = omega arith }

number : ℕ → (end : ℕ) → end < 0x30 → Field
number n end low = record { text = decimal n; end = end; shown = digits_from 10 (width_of 10 n) n; low = low }

race_fields : Race → List Field
race_fields r =
    word
    ∷ witness r.witness
    ∷ number r.first.team 0x2e (omega arith)
    ∷ number r.first.member 0x2e (omega arith)
    ∷ number r.first.number 0x20 (omega arith)
    ∷ number r.first_site 0x20 (omega arith)
    ∷ number r.second.team 0x2e (omega arith)
    ∷ number r.second.member 0x2e (omega arith)
    ∷ number r.second.number 0x20 (omega arith)
    ∷ number r.second_site 0x0a (omega arith)
    ∷ []

regroup : (w g h d e a b c x a' b' c' x' : List ℕ)
    → w ++ (g ++ (h ++ (g ++ (a ++ (d ++ (b ++ (d ++ (c ++ (g ++ (x ++ (g ++ (a' ++ (d ++ (b' ++ (d ++ (c' ++ (g ++ (x' ++ (e ++ [])))))))))))))))))))
    ≡ w ++ g ++ h ++ g ++ (a ++ d ++ b ++ d ++ c) ++ g ++ x ++ g ++ (a' ++ d ++ b' ++ d ++ c') ++ g ++ x' ++ e
regroup w g h d e a b c x a' b' c' x' = simp (append_assoc, append-nil)

race-fields : (r : Race) → line_of (race_fields r) ≡ race_line r
unfolding line_of race_fields word witness number race_line name_text
race-fields r =
    regroup (ascii "race") (ascii " ") (hexadecimal r.witness) (ascii ".") line_end (decimal r.first.team) (decimal r.first.member)
    (decimal r.first.number) (decimal r.first_site) (decimal r.second.team) (decimal r.second.member) (decimal r.second.number)
    (decimal r.second_site)

-- "The listing is unchanged" (A.2): a race's line does not look at the element numbers
pub same_line : (r : Race) (i j : ℕ) → race_line (with_elements r i j) ≡ race_line r
unfolding race_line
same_line r i j = refl

-- a race, read from its line, with 0 for the element numbers, which are not in it
pub read_race : List ℕ → Race
read_race line =
    let at : ℕ → List ℕ = λ i. get_or (fields_of line) i [] in
    record {
      witness = number_in 16 (at 1);
      first = record { team = number_in 10 (at 2); member = number_in 10 (at 3); number = number_in 10 (at 4) };
      first_site = number_in 10 (at 5);
      first_element = 0;
      second = record { team = number_in 10 (at 6); member = number_in 10 (at 7); number = number_in 10 (at 8) };
      second_site = number_in 10 (at 9);
      second_element = 0;
    }

pub race-read : (r : Race) → r.witness < 4294967296 → read_race (race_line r) ≡ with_elements r 0 0
unfolding read_race race_fields word witness number texts_of
race-read r h =
    rw (← race-fields r, fields_back (race_fields r))
    (simp (decimal-read, hexadecimal-read r.witness h))

-- two races with one line are one, but for the element numbers
pub race-lines-differ :
    (r q : Race) → r.witness < 4294967296 → q.witness < 4294967296 → race_line r ≡ race_line q → with_elements r 0 0 ≡ with_elements q 0 0
race-lines-differ r q h k e = sym (race-read r h) ∙ ap read_race e ∙ race-read q k
