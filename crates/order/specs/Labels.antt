-- Offset-span labels: the label of a segment, found by climbing, and the comparison of two labels.
use Rattle.std.specs.Prelude.{ℕ, zero, suc, ◌+◌, ◌-◌, ◌*◌, ◌%◌, ◌≡◌, Bool, false, cond, not, ◌&&◌, List, [], ◌∷◌, ◌++◌, length, take, replicate, eqb, ltb, leb}
use Rattle.std.proofs.Math.ListN.{get_elem?}
use Rattle.bundle.specs.Answer.{Answer, gives, refuses, when_given}
use Rattle.bundle.specs.Lists.{all, from_option}
use Rattle.bundle.specs.Chunks.{Chunk, chunks_of, chunk_of}
use Rattle.bundle.specs.Walk.{Segment, segments_in, forks_of}
use Rattle.bundle.specs.Check.{fork_of, size_of, check_of}
use Rattle.bundle.specs.declared.chunk.ChunkState.{ChunkState}
use Rattle.bundle.specs.declared.index.Fork.{Fork}
use Rattle.order.specs.declared.label.Triple.{Triple}
use Rattle.order.specs.declared.label.Label.{Label}
use Rattle.order.specs.declared.label.Order.{Order}
use Rattle.order.specs.declared.label.Order.TheVariants as Ord
use Rattle.std.specs.declared.result.Result.{Result}
use Rattle.bundle.specs.Answer.{answer_of}
use Rattle.bundle.specs.declared.refusal.Refusal.{Refusal}

-- "The last triple of a segment has offset = member + span times regions joined before it in its chunk, span = team size, interval =
-- barriers passed"
unfoldable pub last_triple : List Fork → ℕ → ℕ → ChunkState → Triple
last_triple fs t m k =
    record { offset = m + size_of fs t * k.regions; span = size_of fs t; interval = k.barriers }

-- "Before it stands the label of the segment that forked the team"; the team number falls at each climb
unfoldable pub fork_label : ℕ → List Fork → ℕ → List Triple
fork_label zero fs t = []
fork_label (suc fuel) fs t =
    from_option []
    (λ (f : Fork). fork_label fuel fs f.parent ++ (last_triple fs f.parent f.member f.state ∷ []))
    (fork_of fs t)

unfoldable pub segment_label : List Fork → ℕ → ℕ → ChunkState → List Triple
segment_label fs t m k = fork_label (suc t) fs t ++ (last_triple fs t m k ∷ [])

-- "Label of a segment (team, member, segment number)": as check, then 14, at 0
unfoldable pub label_of : List ℕ → ℕ → ℕ → ℕ → Answer (List Triple)
label_of s t m number =
    when_given (check_of s)
    (λ u.
    from_option (refuses 14 0)
    (λ (c : Chunk).
    from_option (refuses 14 0)
    (λ (g : Segment). gives (segment_label (forks_of (chunks_of s)) t m g.state))
    (get_elem? (segments_in c) number))
    (chunk_of (chunks_of s) t m))

-- the counted triples of a label as it is lent: "Triples past a label's count are not looked at"
unfoldable pub counted : Label → List Triple
counted l = take l.count l.triples

-- a label that holds these triples, at most 5: past them it is 0
unfoldable pub blank : Triple
blank = record { offset = 0; span = 0; interval = 0 }

unfoldable pub holding : List Triple → Label
holding ts = record { count = length ts; triples = ts ++ replicate (5 - length ts) blank }

-- 15: a label with 0 or over 5 triples, a span of 0 or over 64, or a first span not 1
unfoldable pub span_ok : Triple → Bool
span_ok t = leb 1 t.span && leb t.span 64

unfoldable pub root_span : List Triple → Bool
root_span [] = false
root_span (t ∷ ts) = eqb t.span 1

unfoldable pub label_ok : Label → Bool
label_ok l = leb 1 l.count && leb l.count 5 && all span_ok (counted l) && root_span (counted l)

unfoldable pub same_triple : Triple → Triple → Bool
same_triple a b = eqb a.offset b.offset && eqb a.span b.span && eqb a.interval b.interval

abbrev pub differs : Triple × Triple → Bool
differs p = not (same_triple p.0 p.1)

-- "take the first differing triples: unequal spans are refused; unequal intervals put the lower before; equal intervals with
-- offsets equal modulo the span put the lower offset before; else the two are concurrent"
unfoldable pub compare_triples : ℕ → Triple → Triple → Answer Order
compare_triples number a b =
    cond (not (eqb a.span b.span)) (refuses 16 number)
    (cond (ltb a.interval b.interval) (gives Ord.Before)
    (cond (ltb b.interval a.interval) (gives Ord.After)
    (cond (eqb (a.offset % a.span) (b.offset % a.span))
    (cond (ltb a.offset b.offset) (gives Ord.Before) (gives Ord.After))
    (gives Ord.Concurrent))))

-- "Equal labels are the same. A proper prefix is before." The number is that of the next triple
unfoldable pub compare_from : ℕ → List Triple → List Triple → Answer Order
compare_from number [] [] = gives Ord.Same
compare_from number [] (b ∷ bs) = gives Ord.Before
compare_from number (a ∷ as') [] = gives Ord.After
compare_from number (a ∷ as') (b ∷ bs) =
    cond (same_triple a b) (compare_from (suc number) as' bs) (compare_triples number a b)

-- "Compare labels": 15 at 1 or 2 for the label, the first tested first; then 16 at the triple's number from 0
unfoldable pub compare_of : Label → Label → Answer Order
compare_of a b =
    cond (label_ok a) (cond (label_ok b) (compare_from 0 (counted a) (counted b)) (refuses 15 2)) (refuses 15 1)

-- what the code's answer says
abbrev pub labelling_of : Result Label Refusal → Answer (List Triple)
labelling_of r = when_given (answer_of r) (λ (l : Label). gives (counted l))

-- the label that holds an answer's triples
abbrev pub label_held : Answer (List Triple) → Answer Label
label_held a = when_given a (λ (ts : List Triple). gives (holding ts))

-- the code's answer, and the label in it, are those of this answer
pub record Labelled (r : Result Label Refusal) (a : Answer (List Triple)) : Type 0 where
  pub answer : labelling_of r ≡ a
  pub label : answer_of r ≡ label_held a
