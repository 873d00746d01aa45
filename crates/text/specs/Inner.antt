-- What the inner functions of making a line promise: how wide a number is, and the text of an access.
use Rattle.std.specs.Prelude.{◌≡◌, ℕ, ◌≤◌, List, ◌++◌}
use Rattle.verdict.specs.declared.race.Name.{Name}
use Rattle.text.specs.Digits.{ascii, decimal, width_of}
use Rattle.text.specs.Lines.{name_text}

-- how many digits a number has in decimal, at most so many as `most` says
pub record Width (number r most : ℕ) : Type 0 where
  pub exact : r ≡ width_of 10 number
  pub some : 1 ≤ r
  pub small : r ≤ most

-- a name and a site, each with a space before it
unfoldable pub access_text : Name → ℕ → List ℕ
access_text name site = ascii " " ++ name_text name ++ ascii " " ++ decimal site
