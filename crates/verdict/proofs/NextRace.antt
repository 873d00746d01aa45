-- The next race: the least of the bundle's races above the key, or none.
use Prim.Native.Nat.{ℕ}
use mathlib.Core.Path.{◌≡◌, refl}
use mathlib.Core.Logic.{◌⊎◌, inl, inr}
use mathlib.Core.Bool.{Bool, true, false, cond}
use mathlib.Core.List.Memᴰ
use mathlib.Core.List.{List, Memᴰ}
use mathlib.Core.Option.{Option, none, some}
use Rattle.bundle.specs.Answer.{gives}
use Rattle.bundle.specs.Chunks.{Chunk, chunks_of}
use Rattle.bundle.specs.Check.{Accepted}
use Rattle.bundle.proofs.Tests.{not-both}
use Rattle.bundle.proofs.ListLaws.{first_some, first-none}
use Rattle.verdict.specs.Accesses.{lex_less, race_key, race_below}
use Rattle.verdict.specs.Races.{IsRace}
use Rattle.verdict.specs.RaceLists.{races_of}
use Rattle.verdict.specs.Judge.{race_above, next_above}
use Rattle.verdict.specs.Demand.{Ascending}
use Rattle.verdict.specs.declared.race.Race.{Race}
use Rattle.bundle.proofs.Reorder.{distinct-members}
use Rattle.verdict.proofs.RaceList.{races-elim, races-intro, races-ascending}

-- a race above the key
abbrev pub Above : List ℕ → Race → Type 0
Above key r = lex_less key (race_key r) ≡ true

module _ (key : List ℕ) where
  pub above-found : (rs : List Race) {r : Race} → race_above key rs ≡ some r → Memᴰ r rs × Above key r
  unfolding race_above
  above-found rs e = first_some (λ (r : Race). lex_less key (race_key r)) rs e

  -- every other race above the key comes later
  pub above-least :
      {rs : List Race} {r : Race}
      → Ascending rs
      → race_above key rs ≡ some r
      → (q : Race)
      → Memᴰ q rs
      → Above key q
      → (q ≡ r) ⊎ (race_below r q ≡ true)
  unfolding race_above
  above-least Ascending.none e q m h = absurd (Memᴰ.not-nil m)
  above-least {r = r} (Ascending.more {r = x} {rs = xs} least d) e q m h =
      go (λ e' l. above-least d e' q l h) (lex_less key (race_key x)) refl e (Memᴰ.cases_cons m)
    where
      go :
          (race_above key xs ≡ some r → Memᴰ q xs → (q ≡ r) ⊎ (race_below r q ≡ true))
          → (t : Bool)
          → lex_less key (race_key x) ≡ t
          → cond t (some x) (race_above key xs) ≡ some r
          → (q ≡ x) ⊎ Memᴰ q xs
          → (q ≡ r) ⊎ (race_below r q ≡ true)
      go ih true p e' (inl o) = inl (cc)
      go ih true p e' (inr l) = let o : x ≡ r = cc in inr (rw o at (least q l))
      go ih false p e' (inl o) = not-both (rw o at h) p
      go ih false p e' (inr l) = ih e' l

  pub above-none : (rs : List Race) → race_above key rs ≡ none → (q : Race) → Memᴰ q rs → Above key q → ⊥
  unfolding race_above
  above-none rs e q m h = first-none (λ (r : Race). lex_less key (race_key r)) e m h

-- what the next race of an accepted bundle is
pub record NextRace (b key : List ℕ) : Type 0 where
  pub found : Option Race
  pub answer : next_above b key ≡ gives found
  pub a_race : (r : Race) → found ≡ some r → IsRace (chunks_of b) r
  pub above : (r : Race) → found ≡ some r → Above key r
  pub the_least :
      (r : Race) → found ≡ some r → (q : Race) → IsRace (chunks_of b) q → Above key q → (q ≡ r) ⊎ (race_below r q ≡ true)
  pub no_more : found ≡ none → (q : Race) → IsRace (chunks_of b) q → Above key q → ⊥

pub next-race : (b key : List ℕ) → Accepted b → NextRace b key
unfolding next_above
next-race b key ok =
    record {
      found = race_above key rs;
      answer = rw ok;
      a_race = λ r e. races-elim cs (above-found key rs e).0;
      above = λ r e. (above-found key rs e).1;
      the_least =
          λ r e q i. above-least key (races-ascending cs (distinct-members b ok)) e q (races-intro cs i);
      no_more = λ e q i. above-none key rs e q (races-intro cs i);
    }
  where
    cs : List Chunk
    cs = chunks_of b

    rs : List Race
    rs = races_of cs
