-- Demand 3.
use Prim.Native.Nat.{ℕ, ◌≤◌}
use mathlib.Core.Path.{◌≡◌, refl, ◌∙◌}
use mathlib.Core.Logic.{◌⊎◌, inl, inr, ⊎_elim}
use mathlib.Core.Bool.{true}
use mathlib.Core.List.Memᴰ
use mathlib.Core.List.{List, [], ◌∷◌, map, Memᴰ}
use native.Mathlib.Omega.{arith}
use lib.ListN.{length}
use borrow.Author.Tests.{le-ltb}
use Rattle.bundle.specs.Answer.{gives}
use Rattle.bundle.specs.Chunks.{Chunk, chunks_of}
use Rattle.bundle.specs.Check.{Accepted}
use Rattle.bundle.proofs.ListLaws.{Distinct}
use Rattle.bundle.proofs.Places.{member_key}
use Rattle.verdict.specs.Accesses.{race_below}
use Rattle.verdict.specs.RaceLists.{races_of}
use Rattle.verdict.specs.Judge.{verdict_of, judgement_of, over_work, judged_of, judge_of}
use Rattle.verdict.specs.Demand.{Ascending, Exact, Demand3}
use Rattle.verdict.specs.declared.race.Race.{Race}
use Rattle.std.specs.declared.option.Option.TheVariants.{Some, None}
use Rattle.bundle.proofs.Reorder.{reordered, distinct-members}
use Rattle.bundle.proofs.Onward.{legible}
use Rattle.verdict.proofs.RaceList.{races-elim, races-intro, races-ascending}
use Rattle.verdict.proofs.SameRaces.{same-judgement}

-- what the verdict over a list of races says
pub free-elim : (rs : List Race) → verdict_of rs ≡ None → (r : Race) → Memᴰ r rs → ⊥
unfolding verdict_of
free-elim [] e r m = Memᴰ.not-nil m
free-elim (x ∷ xs) e r m = let z : ◌≡◌ {A = ℕ} 0 1 = cc in omega arith

pub free-intro : (rs : List Race) → ((r : Race) → Memᴰ r rs → ⊥) → verdict_of rs ≡ None
unfolding verdict_of
free-intro [] h = refl
free-intro (x ∷ xs) h = absurd (h x (Memᴰ.head refl))

pub least-in : (rs : List Race) (r : Race) → verdict_of rs ≡ Some r → Memᴰ r rs
unfolding verdict_of
least-in [] r e = let z : ◌≡◌ {A = ℕ} 0 1 = cc in absurd (omega arith)
least-in (x ∷ xs) r e = Memᴰ.head {x = x} (cc)

pub least_first :
    {rs : List Race} → Ascending rs → (r : Race) → verdict_of rs ≡ Some r → (q : Race) → Memᴰ q rs → (q ≡ r) ⊎ (race_below r q ≡ true)
unfolding verdict_of
least_first Ascending.none r e q m = absurd (Memᴰ.not-nil m)
least_first (Ascending.more {r = x} least d) r e q m =
    let p : x ≡ r = cc in
    ⊎_elim (λ (o : q ≡ x). inl (o ∙ p)) (λ l. inr (rw p at (least q l))) (Memᴰ.cases_cons m)

-- an accepted bundle and a work area of the size are judged
pub judges : (s work : List ℕ) → Accepted s → 16384 ≤ length work → (judge_of s work).answer ≡ gives (judgement_of (chunks_of s))
unfolding judge_of over_work judged_of
judges s work ok large = rw (le-ltb (length work) 16384 large, ok)

-- what is judged of a bundle is exact
pub exactly : (b : List ℕ) → Distinct (map member_key (chunks_of b)) → Exact b (judgement_of (chunks_of b))
unfolding judgement_of
exactly b members =
    record {
      race_free = (
        λ e r i. free-elim rs e r (races-intro cs i),
        λ h. free-intro rs (λ r m. h r (races-elim cs m)),
      );
      a_race = λ r e. races-elim cs (least-in rs r e);
      the_least = λ r e q i. least_first (races-ascending cs members) r e q (races-intro cs i);
      races = rs;
      ascending = races-ascending cs members;
      all-races = λ r. (races-elim cs, races-intro cs);
      race_count = refl;
      chunk_count = refl;
      segment_count = refl;
      access_count = refl;
    }
  where
    cs : List Chunk
    cs = chunks_of b

    rs : List Race
    rs = races_of cs

-- demand 3
pub demand3 : Demand3
demand3 b c v w bytes ok re large large' =
    let r = reordered b c bytes ok re in
    record {
      accepted_too = r.0;
      judgement = judgement_of (chunks_of b);
      answer = judges b v ok large;
      same_answer =
          rw (same-judgement (chunks_of b) (chunks_of c) r.1 (legible b ok).shaped (legible c r.0).shaped)
          (judges c w r.0 large');
      exact = exactly b (distinct-members b ok);
    }
