-- The accesses of a bundle, their names, and what a race carries; the order of names and of races.
use Rattle.std.specs.Prelude.{ℕ, Bool, true, false, ◌&&◌, ◌||◌, List, [], ◌∷◌, ◌++◌, eqb, ltb}
use Rattle.bundle.specs.Lists.{concat_map}
use Rattle.bundle.specs.Cases.{on_access}
use Rattle.bundle.specs.Chunks.{Chunk}
use Rattle.bundle.specs.Walk.{Node, Entry, entries_of}
use Rattle.bundle.specs.declared.command.AccessKind.{AccessKind}
use Rattle.bundle.specs.declared.command.AccessKind.TheVariants as Kind
use Rattle.bundle.specs.declared.command.Access.{Access}
use Rattle.verdict.specs.declared.race.Name.{Name}
use Rattle.verdict.specs.declared.race.Race.{Race}

-- "An access is named by team, member and its number in the chunk from 0"; it "stands in the segment last opened before it in its
-- chunk"; "the locks of an access are those its own chunk holds there"
pub record NamedAccess : Type 0 where
  pub name : Name
  pub node : Node
  pub access : Access
  pub locks : ℕ

unfoldable pub access_at : ℕ → ℕ → Entry → List NamedAccess
access_at t m e =
    on_access []
    (λ a.
    record {
      name = record { team = t; member = m; number = e.accesses };
      node = record { team = t; member = m; number = e.segment };
      access = a;
      locks = e.state.locks;
    }
    ∷ [])
    e.command

unfoldable pub accesses_in : Chunk → List NamedAccess
accesses_in c = concat_map (access_at c.team c.member) (entries_of c)

unfoldable pub accesses_of : List Chunk → List NamedAccess
accesses_of cs = concat_map accesses_in cs

-- lists of numbers in their order: by the first number in which they differ
unfoldable pub lex_less : List ℕ → List ℕ → Bool
lex_less [] [] = false
lex_less [] (y ∷ ys) = true
lex_less (x ∷ xs) [] = false
lex_less (x ∷ xs) (y ∷ ys) = ltb x y || eqb x y && lex_less xs ys

-- names are compared by team, member and number
unfoldable pub name_key : Name → List ℕ
name_key n = n.team ∷ n.member ∷ n.number ∷ []

unfoldable pub name_below : Name → Name → Bool
name_below a b = lex_less (name_key a) (name_key b)

-- "Races are ordered by witness, then first name, then second"
unfoldable pub key_of : ℕ → Name → Name → List ℕ
key_of witness first second = witness ∷ name_key first ++ name_key second

unfoldable pub race_key : Race → List ℕ
race_key r = key_of r.witness r.first r.second

unfoldable pub race_below : Race → Race → Bool
race_below r q = lex_less (race_key r) (race_key q)

-- "an atomic write counting as writing"
unfoldable pub writes : AccessKind → Bool
writes Kind.Read = false
writes Kind.Write = true
writes Kind.AtomicRead = false
writes Kind.AtomicWrite = true

unfoldable pub atomic : AccessKind → Bool
atomic Kind.Read = false
atomic Kind.Write = false
atomic Kind.AtomicRead = true
atomic Kind.AtomicWrite = true

-- the race of two accesses at a byte that these elements cover "carries both sites"; A.2: the judge and next race "carry both numbers in a
-- race"
unfoldable pub race_at : NamedAccess → NamedAccess → ℕ → ℕ → ℕ → Race
race_at x y witness element otherElement =
    record {
      witness = witness;
      first = x.name;
      first_site = x.access.site;
      first_element = element;
      second = y.name;
      second_site = y.access.site;
      second_element = otherElement;
    }
