-- The element numbers that a race carries (A.2): "The order of races doesn't look at them."
use Prim.Native.Nat.{ℕ}
use mathlib.Core.Path.{◌≡◌, refl}
use Rattle.verdict.specs.Accesses.{race_key, race_below}
use Rattle.verdict.specs.declared.race.Race.{Race}

-- a race with other element numbers
abbrev pub with_elements : Race → ℕ → ℕ → Race
with_elements r element other =
    record {
      witness = r.witness;
      first = r.first;
      first_site = r.first_site;
      first_element = element;
      second = r.second;
      second_site = r.second_site;
      second_element = other;
    }

pub same_key : (r : Race) (i j : ℕ) → race_key (with_elements r i j) ≡ race_key r
unfolding race_key
same_key r i j = refl

pub same-order : (r q : Race) (i j k l : ℕ) → race_below (with_elements r i j) (with_elements q k l) ≡ race_below r q
unfolding race_below race_key
same-order r q i j k l = refl
