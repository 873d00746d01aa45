-- What the inner functions of filling a page promise.
use Rattle.std.specs.Prelude.{◌≡◌, cond, List, [], ℕ, ◌+◌, ◌-◌, ◌*◌, ◌<◌, leb, length, get_or}
use Rattle.bundle.specs.Commands.{written}
use Rattle.text.specs.Inner.{access_text}
use Rattle.listing.specs.Listing.{name_of, site_of}

-- a line put at a position where it fits there; else nothing changes
pub record PutNext (line before : List ℕ) (at r : ℕ) (after : List ℕ) : Type 0 where
  pub next : r ≡ cond (leb (length line) (length before - at)) (at + length line) at
  pub bytes : after ≡ cond (leb (length line) (length before - at)) (written before at line) before

-- the text of the i-th access, by its two words
abbrev pub text_of : List ℕ → ℕ → List ℕ
text_of names i = access_text (name_of (get_or names (2 * i) 0)) (site_of (get_or names (2 * i + 1) 0))

-- the texts of the first accesses
abbrev pub AreTexts : List ℕ → List (List ℕ) → Type 0
AreTexts names texts = (i : ℕ) → i < length texts → get_or texts i [] ≡ text_of names i
