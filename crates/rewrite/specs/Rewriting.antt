-- The rewriter: "puts an accepted bundle into a second lent buffer by team, then member".
use Rattle.std.specs.Prelude.{ℕ, cond, List, [], ◌∷◌, map, length, ltb}
use Rattle.bundle.specs.Answer.{Answer, gives, refuses}
use Rattle.bundle.specs.Lists.{back_to_back}
use Rattle.bundle.specs.Commands.{Lent, written}
use Rattle.bundle.specs.Chunks.{Chunk, chunks_of, part_of}
use Rattle.bundle.specs.Check.{check_of}
use Rattle.verdict.specs.Accesses.{lex_less}

-- a list put into the order of its elements' keys
unfoldable pub insert_by : {A : Type 0} → (A → List ℕ) → A → List A → List A
insert_by key x [] = x ∷ []
insert_by key x (y ∷ ys) = cond (lex_less (key x) (key y)) (x ∷ y ∷ ys) (y ∷ insert_by key x ys)

unfoldable pub sorted_by : {A : Type 0} → (A → List ℕ) → List A → List A
sorted_by key [] = []
sorted_by key (x ∷ xs) = insert_by key x (sorted_by key xs)

-- "by team, then member"
unfoldable pub chunk_name : Chunk → List ℕ
chunk_name c = c.team ∷ c.member ∷ []

-- the bundle's chunks, MEMBER to END or CUT each, back to back in that order
unfoldable pub rewritten : List ℕ → List ℕ
rewritten s = back_to_back (map (part_of s) (sorted_by chunk_name (chunks_of s)))

-- bytes put over the front of a lent buffer: "A short output buffer is 17, at 0"; "what fills a lent buffer answers how many bytes it
-- wrote, and any refusal leaves that buffer untouched. Bytes past the result are untouched too"
unfoldable pub filling_of : List ℕ → List ℕ → Lent ℕ
filling_of buffer bytes =
    cond (ltb (length buffer) (length bytes))
    (record { answer = refuses 17 0; buffer = buffer })
    (record { answer = gives (length bytes); buffer = written buffer 0 bytes })

-- the answer and the buffer afterwards; 17 is "tested after check's refusals"
unfoldable pub rewrite_as : List ℕ → List ℕ → Answer (Unit {0}) → Lent ℕ
rewrite_as s buffer (gives u) = filling_of buffer (rewritten s)
rewrite_as s buffer (refuses n p) = record { answer = refuses n p; buffer = buffer }

unfoldable pub rewrite_of : List ℕ → List ℕ → Lent ℕ
rewrite_of s buffer = rewrite_as s buffer (check_of s)
