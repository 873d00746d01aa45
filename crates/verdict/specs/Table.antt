-- The settled cases P1 to P14 of the format (docs/FORMAT.md) as data, each with what is wanted. `proofs/Examples.antt` proves that the definitions agree.
use Rattle.std.specs.Prelude.{ℕ, false, List, [], ◌∷◌, ◌++◌, length, take, replicate}
use Rattle.std.proofs.Math.Option.{Option, none, some}
use Rattle.bundle.specs.Answer.{Answer, gives, refuses}
use Rattle.bundle.specs.Commands.{read_at}
use Rattle.bundle.specs.declared.command.AccessKind.TheVariants as Kind
use Rattle.bundle.specs.declared.command.Range.{Range}
use Rattle.bundle.specs.declared.command.Taken.{Taken}
use Rattle.bundle.specs.declared.command.Command.TheVariants as Com
use Rattle.order.specs.Labels.{label_of, compare_of}
use Rattle.order.specs.Ranges.{shared_of}
use Rattle.order.specs.declared.range.Overlap.{Overlap}
use Rattle.order.specs.declared.label.Triple.{Triple}
use Rattle.order.specs.declared.label.Label.{Label}
use Rattle.order.specs.declared.label.Order.{Order}
use Rattle.order.specs.declared.label.Order.TheVariants as Ord
use Rattle.verdict.specs.Judge.{judged_of}
use Rattle.std.specs.declared.option.Option as Rust
use Rattle.std.specs.declared.option.Option.TheVariants.{Some, None}
use Rattle.verdict.specs.declared.race.Race.{Race}
use Rattle.verdict.specs.declared.race.Judgement.{Judgement}

-- what an operation is asked, and what it answers
pub data Question : Type 0 where
  judging : List ℕ → Question
  labelling : List ℕ → ℕ → ℕ → ℕ → Question
  comparing : List Triple → List Triple → Question
  sharing : Range → Range → Question
  reading : List ℕ → ℕ → Question

pub data Reply : Type 0 where
  judged : Answer Judgement → Reply
  labelled : Answer (List Triple) → Reply
  compared : Answer Order → Reply
  shared : Answer (Option Overlap) → Reply
  taken : Answer Taken → Reply

unfoldable pub triple : ℕ → ℕ → ℕ → Triple
triple offset span interval = record { offset = offset; span = span; interval = interval }

-- a label as it is lent: its triples, and others behind them that are not looked at
unfoldable pub lent : List Triple → Label
lent ts = record { count = length ts; triples = take 5 (ts ++ replicate 5 (triple 0 0 0)) }

unfoldable pub answered : Question → Reply
answered (judging s) = judged (judged_of s)
answered (labelling s t m n) = labelled (label_of s t m n)
answered (comparing a b) = compared (compare_of (lent a) (lent b))
answered (sharing a b) = shared (shared_of a b)
answered (reading s at) = taken (read_at s at)

-- E's chunks: the root, member 0 and member 1 of team 1, and member 1 with its read after its barrier
unfoldable pub root : List ℕ
root = 0x01 ∷ 0x00 ∷ 0x00 ∷ 0x00 ∷ 0x10 ∷ 0x01 ∷ 0x00 ∷ 0x02 ∷ 0x02 ∷ []

unfoldable pub member0 : List ℕ
member0 =
    0x01 ∷ 0x01 ∷ 0x00 ∷ 0x00 ∷ 0x31 ∷ 0x0a ∷ 0x00 ∷ 0x00 ∷ 0x10 ∷ 0x00 ∷ 0x00 ∷ 0x08 ∷ 0x00 ∷ 0x02 ∷ 0x00 ∷ 0x04 ∷ 0x11 ∷ 0x02 ∷ []

unfoldable pub member1 : List ℕ
member1 =
    0x01 ∷ 0x01 ∷ 0x00 ∷ 0x01 ∷ 0x30 ∷ 0x14 ∷ 0x00 ∷ 0x0a ∷ 0x10 ∷ 0x00 ∷ 0x00 ∷ 0x00 ∷ 0x00 ∷ 0x01 ∷ 0x00 ∷ 0x04 ∷ 0x11 ∷ 0x02 ∷ []

unfoldable pub member1_later : List ℕ
member1_later =
    0x01 ∷ 0x01 ∷ 0x00 ∷ 0x01 ∷ 0x11 ∷ 0x30 ∷ 0x14 ∷ 0x00 ∷ 0x0a ∷ 0x10 ∷ 0x00 ∷ 0x00 ∷ 0x00 ∷ 0x00 ∷ 0x01 ∷ 0x00 ∷ 0x04 ∷ 0x02 ∷ []

unfoldable pub E : List ℕ
E = root ++ member0 ++ member1

unfoldable pub counts : ℕ → ℕ → ℕ → ℕ → Rust.Option Race → Reply
counts chunks segments accesses races verdict =
    judged
    (gives (record { chunks = chunks; segments = segments; accesses = accesses; races = races; least = verdict }))

unfoldable pub range : ℕ → ℕ → ℕ → ℕ → Range
range base stride count size = record { base = base; stride = stride; count = count; size = size }

-- a shared byte, and the elements of the two ranges that cover it
unfoldable pub overlap : ℕ → ℕ → ℕ → Overlap
overlap byte first second = record { byte = byte; first_element = first; second_element = second }

-- the bytes of a read at site 0 of the last byte of all and those behind it, and that command
unfoldable pub last_read : ℕ → List ℕ
last_read size = 0x30 ∷ 0x00 ∷ 0x00 ∷ 0xff ∷ 0xff ∷ 0xff ∷ 0xff ∷ 0x00 ∷ 0x00 ∷ 0x01 ∷ 0x00 ∷ size ∷ []

unfoldable pub last_taken : Taken
last_taken =
    record { command = Com.Access (record { kind = Kind.Read; wide = false; site = 0; range = range 4294967295 0 1 1 }); next = 12 }

pub record PaperExample : Type 0 where
  pub question : Question
  pub wanted : Reply

unfoldable pub row : Question → Reply → PaperExample
row q w = record { question = q; wanted = w }

-- a comparison after a common (0,1,0)
unfoldable pub after : List Triple → List Triple → Order → PaperExample
after a b o = row (comparing (triple 0 1 0 ∷ a) (triple 0 1 0 ∷ b)) (compared (gives o))

unfoldable pub table : List PaperExample
table =
    -- P1 to P3
    row (judging E)
    (counts 3 6 2 1
    (Some
    (record {
      witness = 0x100a;
      first = record { team = 1; member = 0; number = 0 };
      first_site = 10;
      first_element = 1;
      second = record { team = 1; member = 1; number = 0 };
      second_site = 20;
      second_element = 0;
    })))
    ∷ row (judging (root ++ member0 ++ member1_later)) (counts 3 6 2 0 None)
    ∷ row (judging []) (judged (refuses 10 0))
    -- P4, P5
    ∷ row (labelling E 0 0 1) (labelled (gives (triple 1 1 0 ∷ [])))
    ∷ row (labelling E 1 1 1) (labelled (gives (triple 0 1 0 ∷ triple 1 2 1 ∷ [])))
    -- P6 to P10
    ∷ after (triple 0 2 0 ∷ []) (triple 1 2 0 ∷ []) Ord.Concurrent
    ∷ after (triple 0 2 0 ∷ []) (triple 2 2 0 ∷ []) Ord.Before
    ∷ after (triple 1 2 0 ∷ []) (triple 2 2 0 ∷ []) Ord.Concurrent
    ∷ after (triple 0 2 0 ∷ []) (triple 1 2 1 ∷ []) Ord.Before
    ∷ after (triple 0 2 0 ∷ triple 0 2 1 ∷ []) (triple 1 2 0 ∷ []) Ord.Concurrent
    -- P11 to P13
    ∷ row (sharing (range 0 8 4 4) (range 4 8 4 4)) (shared (gives none))
    ∷ row (sharing (range 0 8 4 4) (range 4 0 1 8)) (shared (gives (some (overlap 8 1 0))))
    ∷ row (sharing (range 0 3 3 1) (range 1 2 3 1)) (shared (gives (some (overlap 3 1 1))))
    -- P14
    ∷ row (reading (last_read 1) 0) (taken (gives last_taken))
    ∷ row (reading (last_read 2) 0) (taken (refuses 5 0))
    ∷ []
