-- Converting by computation: document 01's example E in both groups, sites about 65,535, bundles that are refused, and buffers of several
-- lengths.
use Prim.Native.Nat.{ℕ}
use mathlib.Core.Path.{◌≡◌, refl}
use mathlib.Core.Bool.{Bool, true, false}
use mathlib.Core.List.{List, [], ◌∷◌, ◌++◌, map}
use lib.ListN.{length, replicate}
use Rattle.bundle.specs.Answer.{gives, refuses}
use Rattle.bundle.specs.Commands.{Lent}
use Rattle.bundle.proofs.Computing.{bundle-computes}
use Rattle.rewrite.specs.Rewriting.{filling_of}
use Rattle.rewrite.specs.Converting.{in_group, regrouped, commands_in, converted, to_wide, site_over, first_over, to_narrow, handed_to, convert_of}

root : List ℕ
root = 0x01 ∷ 0x00 ∷ 0x00 ∷ 0x00 ∷ 0x10 ∷ 0x01 ∷ 0x00 ∷ 0x02 ∷ 0x02 ∷ []

-- a chunk of team 1 with one access: its member, the command byte and the site's bytes, and the range's
chunk : ℕ → List ℕ → List ℕ → List ℕ
chunk m access range = 0x01 ∷ 0x01 ∷ 0x00 ∷ m ∷ access ++ range ++ (0x11 ∷ 0x02 ∷ [])

range : List ℕ
range = 0x00 ∷ 0x10 ∷ 0x00 ∷ 0x00 ∷ 0x08 ∷ 0x00 ∷ 0x02 ∷ 0x00 ∷ 0x04 ∷ []

other : List ℕ
other = 0x0a ∷ 0x10 ∷ 0x00 ∷ 0x00 ∷ 0x00 ∷ 0x00 ∷ 0x01 ∷ 0x00 ∷ 0x04 ∷ []

-- E: 45 bytes, and 49 in the wide group
narrow : List ℕ
narrow = root ++ chunk 0x00 (0x31 ∷ 0x0a ∷ 0x00 ∷ []) range ++ chunk 0x01 (0x30 ∷ 0x14 ∷ 0x00 ∷ []) other

wide : List ℕ
wide = root ++ chunk 0x00 (0x39 ∷ 0x0a ∷ 0x00 ∷ 0x00 ∷ 0x00 ∷ []) range ++ chunk 0x01 (0x38 ∷ 0x14 ∷ 0x00 ∷ 0x00 ∷ 0x00 ∷ []) other

-- sites 65,535 in both groups; sites 65,536 and 4,294,967,295; the second access alone of the wide group
most : List ℕ
most = root ++ chunk 0x00 (0x33 ∷ 0xff ∷ 0xff ∷ []) range ++ chunk 0x01 (0x32 ∷ 0xff ∷ 0xff ∷ []) other

most_wide : List ℕ
most_wide = root ++ chunk 0x00 (0x3b ∷ 0xff ∷ 0xff ∷ 0x00 ∷ 0x00 ∷ []) range ++ chunk 0x01 (0x3a ∷ 0xff ∷ 0xff ∷ 0x00 ∷ 0x00 ∷ []) other

over : List ℕ
over = chunk 0x00 (0x3b ∷ 0x00 ∷ 0x00 ∷ 0x01 ∷ 0x00 ∷ []) range ++ root ++ chunk 0x01 (0x3a ∷ 0xff ∷ 0xff ∷ 0xff ∷ 0xff ∷ []) other

over_once : List ℕ
over_once = chunk 0x00 (0x3b ∷ 0xff ∷ 0xff ∷ 0x00 ∷ 0x00 ∷ []) range ++ root ++ chunk 0x01 (0x3a ∷ 0xff ∷ 0xff ∷ 0xff ∷ 0xff ∷ []) other

mixed : List ℕ
mixed = root ++ chunk 0x00 (0x31 ∷ 0x0a ∷ 0x00 ∷ []) range ++ chunk 0x01 (0x38 ∷ 0x14 ∷ 0x00 ∷ 0x00 ∷ 0x00 ∷ []) other

-- a bundle without accesses
without : List ℕ
without = 0x01 ∷ 0x00 ∷ 0x00 ∷ 0x00 ∷ 0x20 ∷ 0x30 ∷ 0x03 ∷ []

-- a buffer of so many bytes
lent : ℕ → List ℕ
lent n = replicate n 0x55

pub record Example : Type 0 where
  pub to_wide : Bool
  pub bundle : List ℕ
  pub buffer : List ℕ
  pub wanted : Lent ℕ

fills : Bool → List ℕ → ℕ → List ℕ → ℕ → Example
fills w s n result more =
    record { to_wide = w; bundle = s; buffer = lent n; wanted = record { answer = gives (length result); buffer = result ++ lent more } }

refused : Bool → List ℕ → ℕ → ℕ → ℕ → Example
refused w s n number place =
    record { to_wide = w; bundle = s; buffer = lent n; wanted = record { answer = refuses number place; buffer = lent n } }

pub examples : List Example
unfolding root chunk range other narrow wide most most_wide over over_once mixed without lent fills refused
examples =
    fills true narrow 49 wide 0
    ∷ fills true narrow 52 wide 3
    ∷ fills false wide 45 narrow 0
    ∷ fills false wide 49 narrow 4
    ∷ fills true wide 49 wide 0
    ∷ fills false narrow 46 narrow 1
    ∷ fills true most 49 most_wide 0
    ∷ fills false most_wide 45 most 0
    ∷ fills true over 49 over 0
    ∷ fills true without 7 without 0
    ∷ fills false without 8 without 1
    ∷ refused true narrow 48 17 0
    ∷ refused false wide 44 17 0
    ∷ refused false over 49 21 4
    ∷ refused false over 0 21 4
    ∷ refused false over_once 45 21 33
    ∷ refused true mixed 49 20 31
    ∷ refused false mixed 0 20 31
    ∷ refused true [] 3 10 0
    ∷ refused false (root ++ root) 0 8 13
    ∷ []

pub convert-examples : map (λ (e : Example). convert_of e.to_wide e.bundle e.buffer) examples ≡ map (λ (e : Example). e.wanted) examples
unfolding bundle-computes in_group regrouped commands_in converted to_wide site_over first_over to_narrow handed_to convert_of filling_of examples
convert-examples = refl
