-- Rewriting by computation: the chunks of document 01's example E in other orders, teams 2 and 256, and buffers of several lengths.
use Prim.Native.Nat.{ℕ}
use mathlib.Core.Path.{◌≡◌, refl}
use mathlib.Core.List.{List, [], ◌∷◌, ◌++◌, map}
use lib.ListN.{replicate}
use Rattle.bundle.specs.Answer.{gives, refuses}
use Rattle.bundle.specs.Commands.{Lent}
use Rattle.bundle.proofs.Computing.{bundle-computes}
use Rattle.verdict.specs.Accesses.{lex_less}
use Rattle.rewrite.specs.Rewriting.{insert_by, sorted_by, chunk_name, rewritten, filling_of, rewrite_as, rewrite_of}

root : List ℕ
root = 0x01 ∷ 0x00 ∷ 0x00 ∷ 0x00 ∷ 0x10 ∷ 0x01 ∷ 0x00 ∷ 0x02 ∷ 0x02 ∷ []

first : List ℕ
first =
    0x01 ∷ 0x01 ∷ 0x00 ∷ 0x00
    ∷ 0x31 ∷ 0x0a ∷ 0x00 ∷ 0x00 ∷ 0x10 ∷ 0x00 ∷ 0x00 ∷ 0x08 ∷ 0x00 ∷ 0x02 ∷ 0x00 ∷ 0x04
    ∷ 0x11 ∷ 0x02 ∷ []

second : List ℕ
second =
    0x01 ∷ 0x01 ∷ 0x00 ∷ 0x01
    ∷ 0x30 ∷ 0x14 ∷ 0x00 ∷ 0x0a ∷ 0x10 ∷ 0x00 ∷ 0x00 ∷ 0x00 ∷ 0x00 ∷ 0x01 ∷ 0x00 ∷ 0x04
    ∷ 0x11 ∷ 0x02 ∷ []

-- MEMBER 0 0, REGION 256 1, REGION 2 2, END; the only member of team 256; members 0 and 1 of team 2
forks : List ℕ
forks = 0x01 ∷ 0x00 ∷ 0x00 ∷ 0x00 ∷ 0x10 ∷ 0x00 ∷ 0x01 ∷ 0x01 ∷ 0x10 ∷ 0x02 ∷ 0x00 ∷ 0x02 ∷ 0x02 ∷ []

high : List ℕ
high = 0x01 ∷ 0x00 ∷ 0x01 ∷ 0x00 ∷ 0x02 ∷ []

low : ℕ → List ℕ
low m = 0x01 ∷ 0x02 ∷ 0x00 ∷ m ∷ 0x02 ∷ []

-- a buffer of so many bytes
lent : ℕ → List ℕ
lent n = replicate n 0x55

pub record Example : Type 0 where
  pub bundle : List ℕ
  pub buffer : List ℕ
  pub wanted : Lent ℕ

fills : List ℕ → ℕ → List ℕ → ℕ → Example
fills s n w more = record { bundle = s; buffer = lent n; wanted = record { answer = gives 45; buffer = w ++ lent more } }

refused : List ℕ → ℕ → ℕ → ℕ → Example
refused s n number place = record { bundle = s; buffer = lent n; wanted = record { answer = refuses number place; buffer = lent n } }

pub examples : List Example
unfolding root first second forks high low lent fills refused
examples =
    fills (root ++ first ++ second) 45 (root ++ first ++ second) 0
    ∷ fills (second ++ first ++ root) 45 (root ++ first ++ second) 0
    ∷ fills (first ++ root ++ second) 46 (root ++ first ++ second) 1
    ∷ fills (second ++ root ++ first) 50 (root ++ first ++ second) 5
    ∷ refused (second ++ first ++ root) 44 17 0
    ∷ refused (root ++ first ++ second) 0 17 0
    ∷ refused (second ++ first) 45 9 0
    ∷ refused (second ++ first) 0 9 0
    ∷ refused [] 3 10 0
    ∷ record {
      bundle = high ++ low 1 ++ forks ++ low 0;
      buffer = lent 30;
      wanted = record { answer = gives 28; buffer = forks ++ low 0 ++ low 1 ++ high ++ lent 2 };
    }
    ∷ []

pub rewrite-examples : map (λ (e : Example). rewrite_of e.bundle e.buffer) examples ≡ map (λ (e : Example). e.wanted) examples
unfolding bundle-computes lex_less insert_by sorted_by chunk_name rewritten filling_of rewrite_as rewrite_of examples
rewrite-examples = refl
