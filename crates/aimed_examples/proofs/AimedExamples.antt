-- Examples aimed at single points of docs/FORMAT.md, with the second reader's answers. tests/write_examples writes this file.
use Prim.Native.Nat.{ℕ}
use mathlib.Core.Bool.{true, false}
use mathlib.Core.Path.{◌≡◌, refl}
use mathlib.Core.List.{List, [], ◌∷◌, map}
use mathlib.Core.Option.{Option, none, some}
use lib.ListN.{replicate}
use Rattle.bundle.specs.Answer.{Answer, gives, refuses, when_given}
use Rattle.std.specs.declared.option.Option.TheVariants.{Some}
use Rattle.bundle.specs.Commands.{Lent, read_at}
use Rattle.bundle.specs.Check.{check_of}
use Rattle.bundle.specs.declared.command.AccessKind.TheVariants as Kind
use Rattle.bundle.specs.declared.command.Command.TheVariants as Com
use Rattle.bundle.specs.declared.command.Taken.{Taken}
use Rattle.order.specs.Labels.{label_of, compare_of}
use Rattle.order.specs.Ranges.{shared_of}
use Rattle.order.specs.declared.label.Triple.{Triple}
use Rattle.order.specs.declared.label.Label.{Label}
use Rattle.order.specs.declared.label.Order.{Order}
use Rattle.order.specs.declared.label.Order.TheVariants as Ord
use Rattle.order.specs.declared.range.Overlap.{Overlap}
use Rattle.verdict.specs.Accesses.{key_of}
use Rattle.verdict.specs.Graph.{Node}
use Rattle.verdict.specs.SegmentOrder.{order_in}
use Rattle.verdict.specs.Judge.{judge_of, race_above, next_of}
use Rattle.verdict.specs.Table.{triple, range}
use Rattle.verdict.specs.declared.race.Name.{Name}
use Rattle.verdict.specs.declared.race.Race.{Race}
use Rattle.verdict.specs.declared.race.Judgement.{Judgement}
use Rattle.verdict.proofs.Computing.{verdict-computes}
use Rattle.verdict.proofs.SmallBundles.{bytes, race}

-- what the definitions give, and what is wanted
pub record AimedExample (A : Type 0) : Type 0 where
  pub given : A
  pub wanted : A

unfoldable pub row : {A : Type 0} → A → A → AimedExample A
row g w = record { given = g; wanted = w }

unfoldable pub name : ℕ → ℕ → ℕ → Name
name t m n = record { team = t; member = m; number = n }

unfoldable pub node : ℕ → ℕ → ℕ → Node
node t m n = record { team = t; member = m; number = n }

unfoldable pub label : ℕ → List Triple → Label
label count triples = record { count = count; triples = triples }

unfoldable pub overlap : ℕ → ℕ → ℕ → Overlap
overlap b e e' = record { byte = b; first_element = e; second_element = e' }

-- reading a command: a refusal, or the position after it
unfoldable pub reads : List (AimedExample (Answer ℕ))
reads =
    row (when_given (read_at (bytes 4 0x10000002) 0) (λ (t : Taken). gives t.next)) (refuses 5 0) ∷
    row (when_given (read_at (bytes 4 0x10010001) 0) (λ (t : Taken). gives t.next)) (gives 4) ∷
    row (when_given (read_at (bytes 5 0x1001000000) 0) (λ (t : Taken). gives t.next)) (refuses 5 0) ∷
    row (when_given (read_at (bytes 4 0x10ffff40) 0) (λ (t : Taken). gives t.next)) (gives 4) ∷
    row (when_given (read_at (bytes 4 0x10010041) 0) (λ (t : Taken). gives t.next)) (refuses 5 0) ∷
    row (when_given (read_at (bytes 5 0x1100100000) 1) (λ (t : Taken). gives t.next)) (refuses 2 1) ∷
    row (when_given (read_at (bytes 1 0x03) 0) (λ (t : Taken). gives t.next)) (gives 1) ∷
    row (when_given (read_at (bytes 2 0x0301) 0) (λ (t : Taken). gives t.next)) (gives 1) ∷
    row (when_given (read_at (bytes 2 0x0203) 1) (λ (t : Taken). gives t.next)) (gives 2) ∷
    row (when_given (read_at (bytes 4 0x01000040) 0) (λ (t : Taken). gives t.next)) (refuses 5 0) ∷
    row (when_given (read_at (bytes 4 0x0100003f) 0) (λ (t : Taken). gives t.next)) (gives 4) ∷
    row (when_given (read_at (bytes 2 0x2040) 0) (λ (t : Taken). gives t.next)) (refuses 5 0) ∷
    row (when_given (read_at (bytes 2 0x213f) 0) (λ (t : Taken). gives t.next)) (gives 2) ∷
    row (when_given (read_at (bytes 2 0x2140) 0) (λ (t : Taken). gives t.next)) (refuses 5 0) ∷
    row (when_given (read_at (bytes 2 0x1111) 1) (λ (t : Taken). gives t.next)) (gives 2) ∷
    row (when_given (read_at (bytes 2 0x1111) 2) (λ (t : Taken). gives t.next)) (refuses 18 2) ∷
    row (when_given (read_at (bytes 2 0x1112) 1) (λ (t : Taken). gives t.next)) (refuses 2 1) ∷
    row (when_given (read_at (bytes 3 0x100100) 0) (λ (t : Taken). gives t.next)) (refuses 3 0) ∷
    []

pub reads-agree : map (λ (r : AimedExample (Answer ℕ)). r.given) reads ≡ map (λ (r : AimedExample (Answer ℕ)). r.wanted) reads
unfolding verdict-computes bytes race row name label reads
reads-agree = refl

-- refusals of check, and bundles that it accepts
unfoldable pub checks : List (AimedExample (Answer (Unit {0})))
checks =
    row (check_of (bytes 5 0x0100000002)) (gives tt) ∷
    row (check_of (bytes 45 0x01000000100100020201010000310a000010000008000200041102010100013014000a10000000000100041102)) (gives tt) ∷
    row (check_of (bytes 45 0x01000000100100020201010000310a00001000000800020004110201010001113014000a100000000001000402)) (gives tt) ∷
    row (check_of (bytes 41 0x0100000010010001020101000010020001020102000010030001020103000010040001020104000002)) (gives tt) ∷
    row (check_of (bytes 23 0x0102000002010100001002000102010000001001000102)) (gives tt) ∷
    row (check_of (bytes 27 0x010000002000203f10010001112100213f0201010000203f213f02)) (gives tt) ∷
    row (check_of (bytes 13 0x01000000200521052005210502)) (gives tt) ∷
    row (check_of (bytes 7 0x01000000111102)) (gives tt) ∷
    row (check_of (bytes 17 0x01000000310100f8ffffff000001000802)) (gives tt) ∷
    row (check_of (bytes 17 0x01000000310100f6ffffff080002000202)) (gives tt) ∷
    row (check_of (bytes 38 0x0100000011100100021002000202010100001111020101000111110201020000020102000102)) (gives tt) ∷
    row (check_of (bytes 1 0x00)) (refuses 2 0) ∷
    row (check_of (bytes 7 0x01000000110502)) (refuses 2 5) ∷
    row (check_of (bytes 6 0x0100000002ff)) (refuses 2 5) ∷
    row (check_of (bytes 5 0x0100000034)) (refuses 2 4) ∷
    row (check_of (bytes 2 0x1202)) (refuses 2 0) ∷
    row (check_of (bytes 6 0x010000002220)) (refuses 2 4) ∷
    row (check_of (bytes 5 0x010000002f)) (refuses 2 4) ∷
    row (check_of (bytes 14 0x010000011001000210010002020f)) (refuses 2 13) ∷
    row (check_of (bytes 1 0x01)) (refuses 3 0) ∷
    row (check_of (bytes 3 0x010000)) (refuses 3 0) ∷
    row (check_of (bytes 7 0x01000000020101)) (refuses 3 5) ∷
    row (check_of (bytes 5 0x0100000010)) (refuses 3 4) ∷
    row (check_of (bytes 7 0x01000000100100)) (refuses 3 4) ∷
    row (check_of (bytes 5 0x0100000020)) (refuses 3 4) ∷
    row (check_of (bytes 5 0x0100000021)) (refuses 3 4) ∷
    row (check_of (bytes 5 0x0100000030)) (refuses 3 4) ∷
    row (check_of (bytes 15 0x010000003301000000000000000100)) (refuses 3 4) ∷
    row (check_of (bytes 5 0x3101000000)) (refuses 3 0) ∷
    row (check_of (bytes 6 0x010000000220)) (refuses 3 5) ∷
    row (check_of (bytes 2 0x1001)) (refuses 3 0) ∷
    row (check_of (bytes 7 0x01000000010100)) (refuses 3 4) ∷
    row (check_of (bytes 7 0x01000000100000)) (refuses 3 4) ∷
    row (check_of (bytes 7 0x01050000100500)) (refuses 3 4) ∷
    row (check_of (bytes 15 0x010000003101000000000000000000)) (refuses 3 4) ∷
    row (check_of (bytes 7 0x01000000200121)) (refuses 3 6) ∷
    row (check_of (bytes 14 0x0100000110010002100100020201)) (refuses 3 13) ∷
    row (check_of (bytes 1 0x02)) (refuses 4 0) ∷
    row (check_of (bytes 1 0x11)) (refuses 4 0) ∷
    row (check_of (bytes 5 0x1001000102)) (refuses 4 0) ∷
    row (check_of (bytes 2 0x2001)) (refuses 4 0) ∷
    row (check_of (bytes 2 0x2101)) (refuses 4 0) ∷
    row (check_of (bytes 17 0x3001000000000000000100010100000002)) (refuses 4 0) ∷
    row (check_of (bytes 17 0x3101000000000000000100010100000002)) (refuses 4 0) ∷
    row (check_of (bytes 17 0x3201000000000000000100010100000002)) (refuses 4 0) ∷
    row (check_of (bytes 17 0x3301000000000000000100010100000002)) (refuses 4 0) ∷
    row (check_of (bytes 6 0x010000000202)) (refuses 4 5) ∷
    row (check_of (bytes 15 0x010000001001000102110101000002)) (refuses 4 9) ∷
    row (check_of (bytes 9 0x010000000101000002)) (refuses 4 4) ∷
    row (check_of (bytes 11 0x0100000011010000000202)) (refuses 4 5) ∷
    row (check_of (bytes 4 0x01000000)) (refuses 4 4) ∷
    row (check_of (bytes 8 0x0100000010010001)) (refuses 4 8) ∷
    row (check_of (bytes 14 0x0100000010010001020101000011)) (refuses 4 14) ∷
    row (check_of (bytes 6 0x010000002001)) (refuses 4 6) ∷
    row (check_of (bytes 17 0x0100000110010002100100020201000001)) (refuses 4 17) ∷
    row (check_of (bytes 9 0x010000000100004002)) (refuses 4 4) ∷
    row (check_of (bytes 2 0x2040)) (refuses 4 0) ∷
    row (check_of (bytes 2 0x21ff)) (refuses 4 0) ∷
    row (check_of (bytes 4 0x10010000)) (refuses 4 0) ∷
    row (check_of (bytes 9 0x010000000210000001)) (refuses 4 5) ∷
    row (check_of (bytes 12 0x310100000000000000000001)) (refuses 4 0) ∷
    row (check_of (bytes 12 0x320100000000000000010003)) (refuses 4 0) ∷
    row (check_of (bytes 7 0x01000000022101)) (refuses 4 5) ∷
    row (check_of (bytes 13 0x01000000200121010220012001)) (refuses 4 9) ∷
    row (check_of (bytes 2 0x1100)) (refuses 4 0) ∷
    row (check_of (bytes 2 0x0201)) (refuses 4 0) ∷
    row (check_of (bytes 14 0x0100000110010002100100020202)) (refuses 4 13) ∷
    row (check_of (bytes 5 0x0100004002)) (refuses 5 0) ∷
    row (check_of (bytes 10 0x0100000002010100ff02)) (refuses 5 5) ∷
    row (check_of (bytes 9 0x010000001000000102)) (refuses 5 4) ∷
    row (check_of (bytes 9 0x010000001001000002)) (refuses 5 4) ∷
    row (check_of (bytes 9 0x010000001001004102)) (refuses 5 4) ∷
    row (check_of (bytes 18 0x010000001003000102010300001003000102)) (refuses 5 13) ∷
    row (check_of (bytes 18 0x010000001003000102010300001002000102)) (refuses 5 13) ∷
    row (check_of (bytes 9 0x01ffff0010ffff0102)) (refuses 5 4) ∷
    row (check_of (bytes 9 0x0100010010ff000102)) (refuses 5 4) ∷
    row (check_of (bytes 7 0x01000000204002)) (refuses 5 4) ∷
    row (check_of (bytes 17 0x0100000030010000000000000000000102)) (refuses 5 4) ∷
    row (check_of (bytes 17 0x0100000030010000000000040000000102)) (refuses 5 4) ∷
    row (check_of (bytes 17 0x0100000031010000000000000002000102)) (refuses 5 4) ∷
    row (check_of (bytes 17 0x0100000032010000000000010001000102)) (refuses 5 4) ∷
    row (check_of (bytes 17 0x0100000033010000000000000001000002)) (refuses 5 4) ∷
    row (check_of (bytes 17 0x0100000033010000000000000001000302)) (refuses 5 4) ∷
    row (check_of (bytes 17 0x0100000033010000000000000001000502)) (refuses 5 4) ∷
    row (check_of (bytes 17 0x0100000033010000000000000001000602)) (refuses 5 4) ∷
    row (check_of (bytes 17 0x0100000033010000000000000001000702)) (refuses 5 4) ∷
    row (check_of (bytes 17 0x0100000033010000000000000001000902)) (refuses 5 4) ∷
    row (check_of (bytes 17 0x0100000033010000000000000001001002)) (refuses 5 4) ∷
    row (check_of (bytes 17 0x010000003301000000000000000100ff02)) (refuses 5 4) ∷
    row (check_of (bytes 17 0x01000000310100ffffffff000001000202)) (refuses 5 4) ∷
    row (check_of (bytes 17 0x01000000310100f7ffffff080002000202)) (refuses 5 4) ∷
    row (check_of (bytes 17 0x01000000310100ffffffffffffffff0802)) (refuses 5 4) ∷
    row (check_of (bytes 7 0x01000000214002)) (refuses 5 4) ∷
    row (check_of (bytes 9 0x010000002041204102)) (refuses 5 4) ∷
    row (check_of (bytes 7 0x01000000204000)) (refuses 5 4) ∷
    row (check_of (bytes 6 0x010000002040)) (refuses 5 4) ∷
    row (check_of (bytes 9 0x010000002040210302)) (refuses 5 4) ∷
    row (check_of (bytes 18 0x010000011001000210010002020100004002)) (refuses 5 13) ∷
    row (check_of (bytes 11 0x0100000020032003210302)) (refuses 6 6) ∷
    row (check_of (bytes 12 0x010000002000203f11200002)) (refuses 6 9) ∷
    row (check_of (bytes 7 0x01000000210302)) (refuses 6 4) ∷
    row (check_of (bytes 9 0x010000002003210402)) (refuses 6 6) ∷
    row (check_of (bytes 11 0x0100000020032103210302)) (refuses 6 8) ∷
    row (check_of (bytes 20 0x0100000010010001200321030201010000210302)) (refuses 6 17) ∷
    row (check_of (bytes 7 0x01000000203f02)) (refuses 6 6) ∷
    row (check_of (bytes 11 0x0100000020002001210002)) (refuses 6 10) ∷
    row (check_of (bytes 7 0x01000000210300)) (refuses 6 4) ∷
    row (check_of (bytes 8 0x0100000020010202)) (refuses 6 6) ∷
    row (check_of (bytes 9 0x010000002103204002)) (refuses 6 4) ∷
    row (check_of (bytes 20 0x0100000110010002100100020201000001210002)) (refuses 6 17) ∷
    row (check_of (bytes 18 0x010000001001000110010001020101000002)) (refuses 8 8) ∷
    row (check_of (bytes 32 0x0100000010010002020101000010020001020101000110020001020102000002)) (refuses 8 22) ∷
    row (check_of (bytes 27 0x010100001002000102010000001001000110020001020102000002)) (refuses 8 17) ∷
    row (check_of (bytes 23 0x0100000010010001100100020201010000020101000102)) (refuses 8 8) ∷
    row (check_of (bytes 22 0x01000000100100011001000110010001020101000002)) (refuses 8 8) ∷
    row (check_of (bytes 31 0x01000000100100011002000110020001100100010201010000020102000002)) (refuses 8 12) ∷
    row (check_of (bytes 23 0x0109000002010000001001000110010001020101000002)) (refuses 8 13) ∷
    row (check_of (bytes 22 0x01000000100200011001000110010001020101000002)) (refuses 8 12) ∷
    row (check_of (bytes 13 0x01000000100100011001000102)) (refuses 8 8) ∷
    row (check_of (bytes 54 0x010000001001000102010100001002000102010200001003000102010300001004000102010400001005000110050001020105000002)) (refuses 8 44) ∷
    row (check_of (bytes 33 0x010100010201010000110201000000100100021002000110020001020102000002)) (refuses 8 23) ∷
    row (check_of (bytes 10 0x01000000020101000002)) (refuses 9 5) ∷
    row (check_of (bytes 10 0x01010000020100000002)) (refuses 9 0) ∷
    row (check_of (bytes 5 0x0101000002)) (refuses 9 0) ∷
    row (check_of (bytes 19 0x01000000100101010201010000020101010002)) (refuses 9 9) ∷
    row (check_of (bytes 19 0x01000000100100010201010000020101000102)) (refuses 9 14) ∷
    row (check_of (bytes 24 0x0101003f0201000000100100020201010000020101000102)) (refuses 9 0) ∷
    row (check_of (bytes 10 0x01000000020100000102)) (refuses 9 5) ∷
    row (check_of (bytes 5 0x0100000102)) (refuses 9 0) ∷
    row (check_of (bytes 10 0x01000000020100000002)) (refuses 9 5) ∷
    row (check_of (bytes 19 0x01000000100100010201010000020101000002)) (refuses 9 14) ∷
    row (check_of (bytes 19 0x01010000020101000002010000001001000102)) (refuses 9 5) ∷
    row (check_of (bytes 15 0x010000000201000000020100000002)) (refuses 9 5) ∷
    row (check_of (bytes 29 0x0100000010010001020101000002010100010201010000020102000002)) (refuses 9 14) ∷
    row (check_of (bytes 29 0x0100000010010001020101000002010200000201010001020101000002)) (refuses 9 14) ∷
    row (check_of (bytes 29 0x0100000010010001020101000002010100000201020000020101000102)) (refuses 9 14) ∷
    row (check_of (bytes 19 0x01000000100100020201010000020102000002)) (refuses 9 14) ∷
    row (check_of (bytes 14 0x0103000010040001020104000002)) (refuses 9 0) ∷
    row (check_of (bytes 55 0x01000000100100010201010000100200010201020000100300010201030000100400010201040000100500010201050000020106000002)) (refuses 9 50) ∷
    row (check_of (bytes 25 0x01000000100100020201010000110201010001020101000202)) (refuses 9 20) ∷
    row (check_of (bytes 11 0x0100000002010000001102)) (refuses 9 5) ∷
    row (check_of (bytes 0 0x0)) (refuses 10 0) ∷
    row (check_of (bytes 9 0x010000001001000102)) (refuses 10 4) ∷
    row (check_of (bytes 19 0x01000000100100030201010000020101000102)) (refuses 10 4) ∷
    row (check_of (bytes 14 0x0100000010010002020101000102)) (refuses 10 4) ∷
    row (check_of (bytes 19 0x01010000020101000202010000001001000302)) (refuses 10 14) ∷
    row (check_of (bytes 23 0x0100000010010001020101000010020002020102000002)) (refuses 10 13) ∷
    row (check_of (bytes 22 0x01000000100300011002000110010001020103000002)) (refuses 10 8) ∷
    row (check_of (bytes 22 0x01010000100200010201000000100100011003000102)) (refuses 10 4) ∷
    row (check_of (bytes 45 0x010000001001000102010100001002000102010200001003000102010300001004000102010400001005000102)) (refuses 10 40) ∷
    row (check_of (bytes 54 0x010400001005000102010500000201000000100100011009000102010100001002000102010200001003000102010300001004000102)) (refuses 10 22) ∷
    row (check_of (bytes 24 0x010100001102010100010201000000100100021002000102)) (refuses 10 19) ∷
    row (check_of (bytes 20 0x0101000111020101000202010000001001000302)) (refuses 10 15) ∷
    row (check_of (bytes 50 0x0100000010010001020101000010020001020102000010030001020103000010040001020104000010050001020105000002)) (refuses 11 40) ∷
    row (check_of (bytes 59 0x0100000010010001020101000010020001020102000010030001020103000010040001020104000010050001020105000010060001020106000002)) (refuses 11 40) ∷
    row (check_of (bytes 59 0x0105000010060001020106000002010000001001000102010100001002000102010200001003000102010300001004000102010400001005000102)) (refuses 11 4) ∷
    row (check_of (bytes 59 0x0100000010010001020101000010020001020102000010030001020103000010040001020104000010060001100500010201050000020106000002)) (refuses 11 40) ∷
    row (check_of (bytes 56 0x0105000111020105000002010000001001000102010100001002000102010200001003000102010300001004000102010400001005000202)) (refuses 11 51) ∷
    row (check_of (bytes 20 0x0100000010010002020101000011020101000102)) (refuses 12 15) ∷
    row (check_of (bytes 20 0x0100000010010002020101000002010100011102)) (refuses 12 14) ∷
    row (check_of (bytes 20 0x0101000102010000001001000202010100001102)) (refuses 12 0) ∷
    row (check_of (bytes 25 0x01000000100100030201010000110201010002020101000102)) (refuses 12 15) ∷
    row (check_of (bytes 28 0x01000000100100030201010000110201010001110201010002111102)) (refuses 12 21) ∷
    row (check_of (bytes 35 0x0100000010010002100200020201020000020102000111020101000002010100011102)) (refuses 12 18) ∷
    row (check_of (bytes 29 0x0100000010010002020101000011020101000110020001020102000002)) (refuses 12 15) ∷
    row (check_of (bytes 47 0x0100000010010001020101000010020001020102000010030001020103000010040002020104000011020104000102)) (refuses 12 42) ∷
    []

pub checks-agree : map (λ (r : AimedExample (Answer (Unit {0}))). r.given) checks ≡ map (λ (r : AimedExample (Answer (Unit {0}))). r.wanted) checks
unfolding verdict-computes bytes race row name label checks
checks-agree = refl

-- the same with cut chunks
unfoldable pub cut-checks : List (AimedExample (Answer (Unit {0})))
cut-checks =
    row (check_of (bytes 46 0x01000000100100020301010000111004000110020002030101000103010400000201020000110301020001200303)) (gives tt) ∷
    row (check_of (bytes 44 0x01000000100100020301010000310a000010000008000200040301010001113014000a100000000001000403)) (gives tt) ∷
    row (check_of (bytes 5 0x0100000003)) (gives tt) ∷
    row (check_of (bytes 6 0x010000001103)) (gives tt) ∷
    row (check_of (bytes 7 0x01000000203f03)) (gives tt) ∷
    row (check_of (bytes 13 0x01000000200020012100203f03)) (gives tt) ∷
    row (check_of (bytes 20 0x0100000010010001200303010100002003210302)) (gives tt) ∷
    row (check_of (bytes 19 0x01010001030100000010010002030101000003)) (gives tt) ∷
    row (check_of (bytes 20 0x0100000010010002020101000011020101000103)) (gives tt) ∷
    row (check_of (bytes 22 0x01000000100100020201010000111102010100011103)) (gives tt) ∷
    row (check_of (bytes 21 0x010000001001000202010100001102010100011103)) (gives tt) ∷
    row (check_of (bytes 28 0x01000000100100030201010000030101000111110201010002111102)) (gives tt) ∷
    row (check_of (bytes 26 0x0100000010010003020101000003010100011103010100021102)) (gives tt) ∷
    row (check_of (bytes 27 0x010000001001000302010100001111020101000103010100021103)) (gives tt) ∷
    row (check_of (bytes 27 0x010000001001000302010100001103010100010301010002111103)) (gives tt) ∷
    row (check_of (bytes 37 0x01000000100100020201010000020101000110020001100300010301020000030103000002)) (gives tt) ∷
    row (check_of (bytes 23 0x0100000010010001030101000010020001030102000003)) (gives tt) ∷
    row (check_of (bytes 1 0x03)) (refuses 4 0) ∷
    row (check_of (bytes 15 0x010000001001000102030101000002)) (refuses 4 9) ∷
    row (check_of (bytes 6 0x010000000303)) (refuses 4 5) ∷
    row (check_of (bytes 6 0x010000000302)) (refuses 4 5) ∷
    row (check_of (bytes 7 0x01000000031102)) (refuses 4 5) ∷
    row (check_of (bytes 15 0x010000000310010001020101000002)) (refuses 4 5) ∷
    row (check_of (bytes 18 0x010000000330010000000000000001000102)) (refuses 4 5) ∷
    row (check_of (bytes 9 0x010000002001032101)) (refuses 4 7) ∷
    row (check_of (bytes 10 0x01000000010100000303)) (refuses 4 4) ∷
    row (check_of (bytes 13 0x01000000100100010301010000)) (refuses 4 13) ∷
    row (check_of (bytes 7 0x01000000020300)) (refuses 4 5) ∷
    row (check_of (bytes 6 0x010000000301)) (refuses 3 5) ∷
    row (check_of (bytes 6 0x010000000305)) (refuses 2 5) ∷
    row (check_of (bytes 18 0x010000002003100100010301010000200302)) (refuses 6 17) ∷
    row (check_of (bytes 9 0x010000002003200303)) (refuses 6 6) ∷
    row (check_of (bytes 7 0x01000000210303)) (refuses 6 4) ∷
    row (check_of (bytes 18 0x010000001001000120030301010000210302)) (refuses 6 15) ∷
    row (check_of (bytes 18 0x010000001001000110010001030101000003)) (refuses 8 8) ∷
    row (check_of (bytes 10 0x01000000030100000002)) (refuses 9 5) ∷
    row (check_of (bytes 10 0x01000000020100000003)) (refuses 9 5) ∷
    row (check_of (bytes 10 0x01000000030101000003)) (refuses 9 5) ∷
    row (check_of (bytes 14 0x0100000010010002030101000003)) (refuses 10 4) ∷
    row (check_of (bytes 50 0x0100000010010001030101000010020001030102000010030001030103000010040001030104000010050001030105000003)) (refuses 11 40) ∷
    row (check_of (bytes 33 0x010100011103010100000201000000100100021002000110020001020102000002)) (refuses 8 23) ∷
    row (check_of (bytes 25 0x01000000100100020201010000020101000111030102000003)) (refuses 9 20) ∷
    row (check_of (bytes 24 0x010100011103010100000201000000100100021002000103)) (refuses 10 19) ∷
    row (check_of (bytes 56 0x0105000111030105000002010000001001000102010100001002000102010200001003000102010300001004000102010400001005000202)) (refuses 11 51) ∷
    row (check_of (bytes 28 0x01000000100100030201010000110301010001111102010100021102)) (refuses 12 22) ∷
    row (check_of (bytes 25 0x01000000100100030201010000030101000111020101000202)) (refuses 12 20) ∷
    row (check_of (bytes 36 0x010100040201010003110201010000030101000103010000001001000502010100021102)) (refuses 12 0) ∷
    row (check_of (bytes 32 0x0100000010010004030101000003010100030201010002111102010100011102)) (refuses 12 14) ∷
    row (check_of (bytes 27 0x010100001111030100000010010003020101000102010100021102)) (refuses 12 21) ∷
    row (check_of (bytes 35 0x0101000002010100011103010000001001000210020002030102000002010200011102)) (refuses 12 29) ∷
    row (check_of (bytes 27 0x010000001001000302010100000201010001110301010002111102)) (refuses 12 20) ∷
    row (check_of (bytes 20 0x0100000010010002020101000002010100011103)) (refuses 19 14) ∷
    row (check_of (bytes 20 0x0100000010010002020101000011030101000102)) (refuses 19 9) ∷
    row (check_of (bytes 23 0x0100000010010002020101000011020101000111111103)) (refuses 19 15) ∷
    row (check_of (bytes 35 0x0100000010010004020101000011020101000203010100031111030101000111111103)) (refuses 19 20) ∷
    row (check_of (bytes 28 0x01000000100100030201010000110201010001110301010002111103)) (refuses 19 21) ∷
    row (check_of (bytes 29 0x0100000010010003020101000111110301010000111103010100021102)) (refuses 19 9) ∷
    row (check_of (bytes 28 0x01000000100100030201010000110301010001111103010100021102)) (refuses 19 15) ∷
    row (check_of (bytes 35 0x0100000010010002100200020301020000020102000111030101000002010100011103)) (refuses 19 18) ∷
    row (check_of (bytes 35 0x0100000010010002100200020301010000030101000111030102000002010200011103)) (refuses 19 29) ∷
    row (check_of (bytes 20 0x0101000111030101000002010000001001000203)) (refuses 19 0) ∷
    row (check_of (bytes 31 0x01000000100100020201010000110201010001111002000111030102000002)) (refuses 19 15) ∷
    row (check_of (bytes 47 0x0100000010010001020101000010020001020102000010030001020103000010040002020104000002010400011103)) (refuses 19 41) ∷
    row (check_of (bytes 22 0x01010001110301000000100100020201010000200102)) (refuses 6 21) ∷
    row (check_of (bytes 21 0x010000001001000202010100000201010001110303)) (refuses 4 20) ∷
    row (check_of (bytes 19 0x01010001110301000000100100020201010000)) (refuses 4 19) ∷
    []

pub cut-checks-agree : map (λ (r : AimedExample (Answer (Unit {0}))). r.given) cut-checks ≡ map (λ (r : AimedExample (Answer (Unit {0}))). r.wanted) cut-checks
unfolding verdict-computes bytes race row name label cut-checks
cut-checks-agree = refl

-- labels of segments
unfoldable pub labels : List (AimedExample (Answer (List Triple)))
labels =
    row (label_of (bytes 46 0x01000000100100020201010000110201010001111004000110020002020104000002010200001102010200011102) 1 0 1) (gives (triple 0 1 0 ∷ triple 0 2 1 ∷ [])) ∷
    row (label_of (bytes 46 0x01000000100100020201010000110201010001111004000110020002020104000002010200001102010200011102) 1 1 1) (gives (triple 0 1 0 ∷ triple 1 2 1 ∷ [])) ∷
    row (label_of (bytes 46 0x01000000100100020201010000110201010001111004000110020002020104000002010200001102010200011102) 1 1 2) (gives (triple 0 1 0 ∷ triple 3 2 1 ∷ [])) ∷
    row (label_of (bytes 46 0x01000000100100020201010000110201010001111004000110020002020104000002010200001102010200011102) 1 1 3) (gives (triple 0 1 0 ∷ triple 5 2 1 ∷ [])) ∷
    row (label_of (bytes 46 0x01000000100100020201010000110201010001111004000110020002020104000002010200001102010200011102) 4 0 0) (gives (triple 0 1 0 ∷ triple 1 2 1 ∷ triple 0 1 0 ∷ [])) ∷
    row (label_of (bytes 46 0x01000000100100020201010000110201010001111004000110020002020104000002010200001102010200011102) 2 0 0) (gives (triple 0 1 0 ∷ triple 3 2 1 ∷ triple 0 2 0 ∷ [])) ∷
    row (label_of (bytes 46 0x01000000100100020201010000110201010001111004000110020002020104000002010200001102010200011102) 2 1 0) (gives (triple 0 1 0 ∷ triple 3 2 1 ∷ triple 1 2 0 ∷ [])) ∷
    row (label_of (bytes 46 0x01000000100100020201010000110201010001111004000110020002020104000002010200001102010200011102) 2 1 1) (gives (triple 0 1 0 ∷ triple 3 2 1 ∷ triple 1 2 1 ∷ [])) ∷
    row (label_of (bytes 46 0x01000000100100020201010000110201010001111004000110020002020104000002010200001102010200011102) 3 0 0) (refuses 14 0) ∷
    row (label_of (bytes 46 0x01000000100100020201010000110201010001111004000110020002020104000002010200001102010200011102) 2 2 0) (refuses 14 0) ∷
    row (label_of (bytes 46 0x01000000100100020201010000110201010001111004000110020002020104000002010200001102010200011102) 2 1 2) (refuses 14 0) ∷
    row (label_of (bytes 42 0x010000001001000102010100001002000102010200001003000102010300001004000102010400001102) 3 0 1) (gives (triple 0 1 0 ∷ triple 0 1 0 ∷ triple 0 1 0 ∷ triple 1 1 0 ∷ [])) ∷
    row (label_of (bytes 42 0x010000001001000102010100001002000102010200001003000102010300001004000102010400001102) 4 0 1) (gives (triple 0 1 0 ∷ triple 0 1 0 ∷ triple 0 1 0 ∷ triple 0 1 0 ∷ triple 0 1 1 ∷ [])) ∷
    row (label_of (bytes 46 0x01000000100100020301010000111004000110020002030101000103010400000201020000110301020001200303) 1 0 3) (gives (triple 0 1 0 ∷ triple 4 2 1 ∷ [])) ∷
    row (label_of (bytes 46 0x01000000100100020301010000111004000110020002030101000103010400000201020000110301020001200303) 1 1 0) (gives (triple 0 1 0 ∷ triple 1 2 0 ∷ [])) ∷
    row (label_of (bytes 46 0x01000000100100020301010000111004000110020002030101000103010400000201020000110301020001200303) 1 1 1) (refuses 14 0) ∷
    row (label_of (bytes 46 0x01000000100100020301010000111004000110020002030101000103010400000201020000110301020001200303) 2 0 1) (gives (triple 0 1 0 ∷ triple 2 2 1 ∷ triple 0 2 1 ∷ [])) ∷
    row (label_of (bytes 46 0x01000000100100020301010000111004000110020002030101000103010400000201020000110301020001200303) 2 1 1) (refuses 14 0) ∷
    []

pub labels-agree : map (λ (r : AimedExample (Answer (List Triple))). r.given) labels ≡ map (λ (r : AimedExample (Answer (List Triple))). r.wanted) labels
unfolding verdict-computes bytes race row name label labels
labels-agree = refl

-- comparisons of labels, both ways
unfoldable pub comparisons : List (AimedExample (Answer Order))
comparisons =
    row (compare_of (label 1 (triple 0 1 0 ∷ triple 7 0 7 ∷ triple 7 0 7 ∷ triple 7 0 7 ∷ triple 7 0 7 ∷ [])) (label 1 (triple 0 1 0 ∷ triple 7 0 7 ∷ triple 7 0 7 ∷ triple 7 0 7 ∷ triple 7 0 7 ∷ []))) (gives Ord.Same) ∷
    row (compare_of (label 1 (triple 0 1 0 ∷ triple 7 0 7 ∷ triple 7 0 7 ∷ triple 7 0 7 ∷ triple 7 0 7 ∷ [])) (label 1 (triple 0 1 0 ∷ triple 0 1 0 ∷ triple 0 1 0 ∷ triple 0 1 0 ∷ triple 0 1 0 ∷ []))) (gives Ord.Same) ∷
    row (compare_of (label 5 (triple 0 1 0 ∷ triple 1 2 3 ∷ triple 4 5 6 ∷ triple 7 64 9 ∷ triple 63 64 0 ∷ [])) (label 5 (triple 0 1 0 ∷ triple 1 2 3 ∷ triple 4 5 6 ∷ triple 7 64 9 ∷ triple 63 64 0 ∷ []))) (gives Ord.Same) ∷
    row (compare_of (label 1 (triple 0 1 0 ∷ triple 7 0 7 ∷ triple 7 0 7 ∷ triple 7 0 7 ∷ triple 7 0 7 ∷ [])) (label 2 (triple 0 1 0 ∷ triple 0 2 0 ∷ triple 7 0 7 ∷ triple 7 0 7 ∷ triple 7 0 7 ∷ []))) (gives Ord.Before) ∷
    row (compare_of (label 2 (triple 0 1 0 ∷ triple 0 2 0 ∷ triple 7 0 7 ∷ triple 7 0 7 ∷ triple 7 0 7 ∷ [])) (label 1 (triple 0 1 0 ∷ triple 7 0 7 ∷ triple 7 0 7 ∷ triple 7 0 7 ∷ triple 7 0 7 ∷ []))) (gives Ord.After) ∷
    row (compare_of (label 4 (triple 0 1 0 ∷ triple 1 2 3 ∷ triple 4 5 6 ∷ triple 7 64 9 ∷ triple 7 0 7 ∷ [])) (label 5 (triple 0 1 0 ∷ triple 1 2 3 ∷ triple 4 5 6 ∷ triple 7 64 9 ∷ triple 63 64 0 ∷ []))) (gives Ord.Before) ∷
    row (compare_of (label 5 (triple 0 1 0 ∷ triple 1 2 3 ∷ triple 4 5 6 ∷ triple 7 64 9 ∷ triple 63 64 0 ∷ [])) (label 4 (triple 0 1 0 ∷ triple 1 2 3 ∷ triple 4 5 6 ∷ triple 7 64 9 ∷ triple 7 0 7 ∷ []))) (gives Ord.After) ∷
    row (compare_of (label 1 (triple 0 1 0 ∷ triple 7 0 7 ∷ triple 7 0 7 ∷ triple 7 0 7 ∷ triple 7 0 7 ∷ [])) (label 5 (triple 0 1 0 ∷ triple 1 2 3 ∷ triple 4 5 6 ∷ triple 7 64 9 ∷ triple 63 64 0 ∷ []))) (gives Ord.Before) ∷
    row (compare_of (label 5 (triple 0 1 0 ∷ triple 1 2 3 ∷ triple 4 5 6 ∷ triple 7 64 9 ∷ triple 63 64 0 ∷ [])) (label 1 (triple 0 1 0 ∷ triple 7 0 7 ∷ triple 7 0 7 ∷ triple 7 0 7 ∷ triple 7 0 7 ∷ []))) (gives Ord.After) ∷
    row (compare_of (label 1 (triple 0 1 0 ∷ triple 7 0 7 ∷ triple 7 0 7 ∷ triple 7 0 7 ∷ triple 7 0 7 ∷ [])) (label 2 (triple 1 1 0 ∷ triple 0 2 0 ∷ triple 7 0 7 ∷ triple 7 0 7 ∷ triple 7 0 7 ∷ []))) (gives Ord.Before) ∷
    row (compare_of (label 2 (triple 1 1 0 ∷ triple 0 2 0 ∷ triple 7 0 7 ∷ triple 7 0 7 ∷ triple 7 0 7 ∷ [])) (label 1 (triple 0 1 0 ∷ triple 7 0 7 ∷ triple 7 0 7 ∷ triple 7 0 7 ∷ triple 7 0 7 ∷ []))) (gives Ord.After) ∷
    row (compare_of (label 1 (triple 3 1 1 ∷ triple 7 0 7 ∷ triple 7 0 7 ∷ triple 7 0 7 ∷ triple 7 0 7 ∷ [])) (label 1 (triple 4 1 0 ∷ triple 7 0 7 ∷ triple 7 0 7 ∷ triple 7 0 7 ∷ triple 7 0 7 ∷ []))) (gives Ord.After) ∷
    row (compare_of (label 1 (triple 4 1 0 ∷ triple 7 0 7 ∷ triple 7 0 7 ∷ triple 7 0 7 ∷ triple 7 0 7 ∷ [])) (label 1 (triple 3 1 1 ∷ triple 7 0 7 ∷ triple 7 0 7 ∷ triple 7 0 7 ∷ triple 7 0 7 ∷ []))) (gives Ord.Before) ∷
    row (compare_of (label 2 (triple 0 1 0 ∷ triple 0 2 0 ∷ triple 7 0 7 ∷ triple 7 0 7 ∷ triple 7 0 7 ∷ [])) (label 2 (triple 0 1 0 ∷ triple 1 2 0 ∷ triple 7 0 7 ∷ triple 7 0 7 ∷ triple 7 0 7 ∷ []))) (gives Ord.Concurrent) ∷
    row (compare_of (label 2 (triple 0 1 0 ∷ triple 1 2 0 ∷ triple 7 0 7 ∷ triple 7 0 7 ∷ triple 7 0 7 ∷ [])) (label 2 (triple 0 1 0 ∷ triple 0 2 0 ∷ triple 7 0 7 ∷ triple 7 0 7 ∷ triple 7 0 7 ∷ []))) (gives Ord.Concurrent) ∷
    row (compare_of (label 2 (triple 0 1 0 ∷ triple 0 2 0 ∷ triple 7 0 7 ∷ triple 7 0 7 ∷ triple 7 0 7 ∷ [])) (label 2 (triple 0 1 0 ∷ triple 2 2 0 ∷ triple 7 0 7 ∷ triple 7 0 7 ∷ triple 7 0 7 ∷ []))) (gives Ord.Before) ∷
    row (compare_of (label 2 (triple 0 1 0 ∷ triple 2 2 0 ∷ triple 7 0 7 ∷ triple 7 0 7 ∷ triple 7 0 7 ∷ [])) (label 2 (triple 0 1 0 ∷ triple 0 2 0 ∷ triple 7 0 7 ∷ triple 7 0 7 ∷ triple 7 0 7 ∷ []))) (gives Ord.After) ∷
    row (compare_of (label 2 (triple 0 1 0 ∷ triple 1 2 0 ∷ triple 7 0 7 ∷ triple 7 0 7 ∷ triple 7 0 7 ∷ [])) (label 2 (triple 0 1 0 ∷ triple 2 2 0 ∷ triple 7 0 7 ∷ triple 7 0 7 ∷ triple 7 0 7 ∷ []))) (gives Ord.Concurrent) ∷
    row (compare_of (label 2 (triple 0 1 0 ∷ triple 2 2 0 ∷ triple 7 0 7 ∷ triple 7 0 7 ∷ triple 7 0 7 ∷ [])) (label 2 (triple 0 1 0 ∷ triple 1 2 0 ∷ triple 7 0 7 ∷ triple 7 0 7 ∷ triple 7 0 7 ∷ []))) (gives Ord.Concurrent) ∷
    row (compare_of (label 2 (triple 0 1 0 ∷ triple 0 2 0 ∷ triple 7 0 7 ∷ triple 7 0 7 ∷ triple 7 0 7 ∷ [])) (label 2 (triple 0 1 0 ∷ triple 1 2 1 ∷ triple 7 0 7 ∷ triple 7 0 7 ∷ triple 7 0 7 ∷ []))) (gives Ord.Before) ∷
    row (compare_of (label 2 (triple 0 1 0 ∷ triple 1 2 1 ∷ triple 7 0 7 ∷ triple 7 0 7 ∷ triple 7 0 7 ∷ [])) (label 2 (triple 0 1 0 ∷ triple 0 2 0 ∷ triple 7 0 7 ∷ triple 7 0 7 ∷ triple 7 0 7 ∷ []))) (gives Ord.After) ∷
    row (compare_of (label 2 (triple 0 1 0 ∷ triple 5 2 0 ∷ triple 7 0 7 ∷ triple 7 0 7 ∷ triple 7 0 7 ∷ [])) (label 2 (triple 0 1 0 ∷ triple 0 2 1 ∷ triple 7 0 7 ∷ triple 7 0 7 ∷ triple 7 0 7 ∷ []))) (gives Ord.Before) ∷
    row (compare_of (label 2 (triple 0 1 0 ∷ triple 0 2 1 ∷ triple 7 0 7 ∷ triple 7 0 7 ∷ triple 7 0 7 ∷ [])) (label 2 (triple 0 1 0 ∷ triple 5 2 0 ∷ triple 7 0 7 ∷ triple 7 0 7 ∷ triple 7 0 7 ∷ []))) (gives Ord.After) ∷
    row (compare_of (label 3 (triple 0 1 0 ∷ triple 0 2 0 ∷ triple 0 2 1 ∷ triple 7 0 7 ∷ triple 7 0 7 ∷ [])) (label 2 (triple 0 1 0 ∷ triple 1 2 0 ∷ triple 7 0 7 ∷ triple 7 0 7 ∷ triple 7 0 7 ∷ []))) (gives Ord.Concurrent) ∷
    row (compare_of (label 2 (triple 0 1 0 ∷ triple 1 2 0 ∷ triple 7 0 7 ∷ triple 7 0 7 ∷ triple 7 0 7 ∷ [])) (label 3 (triple 0 1 0 ∷ triple 0 2 0 ∷ triple 0 2 1 ∷ triple 7 0 7 ∷ triple 7 0 7 ∷ []))) (gives Ord.Concurrent) ∷
    row (compare_of (label 3 (triple 0 1 0 ∷ triple 0 2 0 ∷ triple 9 9 9 ∷ triple 7 0 7 ∷ triple 7 0 7 ∷ [])) (label 3 (triple 0 1 0 ∷ triple 0 2 1 ∷ triple 0 3 0 ∷ triple 7 0 7 ∷ triple 7 0 7 ∷ []))) (gives Ord.Before) ∷
    row (compare_of (label 3 (triple 0 1 0 ∷ triple 0 2 1 ∷ triple 0 3 0 ∷ triple 7 0 7 ∷ triple 7 0 7 ∷ [])) (label 3 (triple 0 1 0 ∷ triple 0 2 0 ∷ triple 9 9 9 ∷ triple 7 0 7 ∷ triple 7 0 7 ∷ []))) (gives Ord.After) ∷
    row (compare_of (label 2 (triple 0 1 0 ∷ triple 1 64 0 ∷ triple 7 0 7 ∷ triple 7 0 7 ∷ triple 7 0 7 ∷ [])) (label 2 (triple 0 1 0 ∷ triple 65 64 0 ∷ triple 7 0 7 ∷ triple 7 0 7 ∷ triple 7 0 7 ∷ []))) (gives Ord.Before) ∷
    row (compare_of (label 2 (triple 0 1 0 ∷ triple 65 64 0 ∷ triple 7 0 7 ∷ triple 7 0 7 ∷ triple 7 0 7 ∷ [])) (label 2 (triple 0 1 0 ∷ triple 1 64 0 ∷ triple 7 0 7 ∷ triple 7 0 7 ∷ triple 7 0 7 ∷ []))) (gives Ord.After) ∷
    row (compare_of (label 2 (triple 0 1 0 ∷ triple 4294967295 64 4294967295 ∷ triple 7 0 7 ∷ triple 7 0 7 ∷ triple 7 0 7 ∷ [])) (label 2 (triple 0 1 0 ∷ triple 63 64 4294967295 ∷ triple 7 0 7 ∷ triple 7 0 7 ∷ triple 7 0 7 ∷ []))) (gives Ord.After) ∷
    row (compare_of (label 2 (triple 0 1 0 ∷ triple 63 64 4294967295 ∷ triple 7 0 7 ∷ triple 7 0 7 ∷ triple 7 0 7 ∷ [])) (label 2 (triple 0 1 0 ∷ triple 4294967295 64 4294967295 ∷ triple 7 0 7 ∷ triple 7 0 7 ∷ triple 7 0 7 ∷ []))) (gives Ord.Before) ∷
    row (compare_of (label 2 (triple 0 1 0 ∷ triple 0 2 0 ∷ triple 7 0 7 ∷ triple 7 0 7 ∷ triple 7 0 7 ∷ [])) (label 2 (triple 0 1 0 ∷ triple 0 3 0 ∷ triple 7 0 7 ∷ triple 7 0 7 ∷ triple 7 0 7 ∷ []))) (refuses 16 1) ∷
    row (compare_of (label 2 (triple 0 1 0 ∷ triple 0 3 0 ∷ triple 7 0 7 ∷ triple 7 0 7 ∷ triple 7 0 7 ∷ [])) (label 2 (triple 0 1 0 ∷ triple 0 2 0 ∷ triple 7 0 7 ∷ triple 7 0 7 ∷ triple 7 0 7 ∷ []))) (refuses 16 1) ∷
    row (compare_of (label 3 (triple 0 1 0 ∷ triple 0 1 0 ∷ triple 0 2 0 ∷ triple 7 0 7 ∷ triple 7 0 7 ∷ [])) (label 3 (triple 0 1 0 ∷ triple 0 1 0 ∷ triple 1 3 1 ∷ triple 7 0 7 ∷ triple 7 0 7 ∷ []))) (refuses 16 2) ∷
    row (compare_of (label 3 (triple 0 1 0 ∷ triple 0 1 0 ∷ triple 1 3 1 ∷ triple 7 0 7 ∷ triple 7 0 7 ∷ [])) (label 3 (triple 0 1 0 ∷ triple 0 1 0 ∷ triple 0 2 0 ∷ triple 7 0 7 ∷ triple 7 0 7 ∷ []))) (refuses 16 2) ∷
    row (compare_of (label 5 (triple 0 1 0 ∷ triple 1 2 3 ∷ triple 4 5 6 ∷ triple 7 64 9 ∷ triple 0 63 0 ∷ [])) (label 5 (triple 0 1 0 ∷ triple 1 2 3 ∷ triple 4 5 6 ∷ triple 7 64 9 ∷ triple 0 64 1 ∷ []))) (refuses 16 4) ∷
    row (compare_of (label 5 (triple 0 1 0 ∷ triple 1 2 3 ∷ triple 4 5 6 ∷ triple 7 64 9 ∷ triple 0 64 1 ∷ [])) (label 5 (triple 0 1 0 ∷ triple 1 2 3 ∷ triple 4 5 6 ∷ triple 7 64 9 ∷ triple 0 63 0 ∷ []))) (refuses 16 4) ∷
    row (compare_of (label 0 (triple 0 1 0 ∷ triple 0 1 0 ∷ triple 0 1 0 ∷ triple 0 1 0 ∷ triple 0 1 0 ∷ [])) (label 1 (triple 0 1 0 ∷ triple 7 0 7 ∷ triple 7 0 7 ∷ triple 7 0 7 ∷ triple 7 0 7 ∷ []))) (refuses 15 1) ∷
    row (compare_of (label 1 (triple 0 1 0 ∷ triple 7 0 7 ∷ triple 7 0 7 ∷ triple 7 0 7 ∷ triple 7 0 7 ∷ [])) (label 0 (triple 0 1 0 ∷ triple 0 1 0 ∷ triple 0 1 0 ∷ triple 0 1 0 ∷ triple 0 1 0 ∷ []))) (refuses 15 2) ∷
    row (compare_of (label 6 (triple 0 1 0 ∷ triple 0 1 0 ∷ triple 0 1 0 ∷ triple 0 1 0 ∷ triple 0 1 0 ∷ [])) (label 1 (triple 0 1 0 ∷ triple 7 0 7 ∷ triple 7 0 7 ∷ triple 7 0 7 ∷ triple 7 0 7 ∷ []))) (refuses 15 1) ∷
    row (compare_of (label 1 (triple 0 1 0 ∷ triple 7 0 7 ∷ triple 7 0 7 ∷ triple 7 0 7 ∷ triple 7 0 7 ∷ [])) (label 6 (triple 0 1 0 ∷ triple 0 1 0 ∷ triple 0 1 0 ∷ triple 0 1 0 ∷ triple 0 1 0 ∷ []))) (refuses 15 2) ∷
    row (compare_of (label 4294967295 (triple 0 1 0 ∷ triple 0 1 0 ∷ triple 0 1 0 ∷ triple 0 1 0 ∷ triple 0 1 0 ∷ [])) (label 1 (triple 0 1 0 ∷ triple 7 0 7 ∷ triple 7 0 7 ∷ triple 7 0 7 ∷ triple 7 0 7 ∷ []))) (refuses 15 1) ∷
    row (compare_of (label 1 (triple 0 1 0 ∷ triple 7 0 7 ∷ triple 7 0 7 ∷ triple 7 0 7 ∷ triple 7 0 7 ∷ [])) (label 4294967295 (triple 0 1 0 ∷ triple 0 1 0 ∷ triple 0 1 0 ∷ triple 0 1 0 ∷ triple 0 1 0 ∷ []))) (refuses 15 2) ∷
    row (compare_of (label 2 (triple 0 1 0 ∷ triple 0 0 0 ∷ triple 7 0 7 ∷ triple 7 0 7 ∷ triple 7 0 7 ∷ [])) (label 1 (triple 0 1 0 ∷ triple 7 0 7 ∷ triple 7 0 7 ∷ triple 7 0 7 ∷ triple 7 0 7 ∷ []))) (refuses 15 1) ∷
    row (compare_of (label 1 (triple 0 1 0 ∷ triple 7 0 7 ∷ triple 7 0 7 ∷ triple 7 0 7 ∷ triple 7 0 7 ∷ [])) (label 2 (triple 0 1 0 ∷ triple 0 0 0 ∷ triple 7 0 7 ∷ triple 7 0 7 ∷ triple 7 0 7 ∷ []))) (refuses 15 2) ∷
    row (compare_of (label 2 (triple 0 1 0 ∷ triple 0 65 0 ∷ triple 7 0 7 ∷ triple 7 0 7 ∷ triple 7 0 7 ∷ [])) (label 1 (triple 0 1 0 ∷ triple 7 0 7 ∷ triple 7 0 7 ∷ triple 7 0 7 ∷ triple 7 0 7 ∷ []))) (refuses 15 1) ∷
    row (compare_of (label 1 (triple 0 1 0 ∷ triple 7 0 7 ∷ triple 7 0 7 ∷ triple 7 0 7 ∷ triple 7 0 7 ∷ [])) (label 2 (triple 0 1 0 ∷ triple 0 65 0 ∷ triple 7 0 7 ∷ triple 7 0 7 ∷ triple 7 0 7 ∷ []))) (refuses 15 2) ∷
    row (compare_of (label 5 (triple 0 1 0 ∷ triple 0 1 0 ∷ triple 0 1 0 ∷ triple 0 1 0 ∷ triple 0 65 0 ∷ [])) (label 1 (triple 0 1 0 ∷ triple 7 0 7 ∷ triple 7 0 7 ∷ triple 7 0 7 ∷ triple 7 0 7 ∷ []))) (refuses 15 1) ∷
    row (compare_of (label 1 (triple 0 1 0 ∷ triple 7 0 7 ∷ triple 7 0 7 ∷ triple 7 0 7 ∷ triple 7 0 7 ∷ [])) (label 5 (triple 0 1 0 ∷ triple 0 1 0 ∷ triple 0 1 0 ∷ triple 0 1 0 ∷ triple 0 65 0 ∷ []))) (refuses 15 2) ∷
    row (compare_of (label 1 (triple 0 0 0 ∷ triple 7 0 7 ∷ triple 7 0 7 ∷ triple 7 0 7 ∷ triple 7 0 7 ∷ [])) (label 1 (triple 0 1 0 ∷ triple 7 0 7 ∷ triple 7 0 7 ∷ triple 7 0 7 ∷ triple 7 0 7 ∷ []))) (refuses 15 1) ∷
    row (compare_of (label 1 (triple 0 1 0 ∷ triple 7 0 7 ∷ triple 7 0 7 ∷ triple 7 0 7 ∷ triple 7 0 7 ∷ [])) (label 1 (triple 0 0 0 ∷ triple 7 0 7 ∷ triple 7 0 7 ∷ triple 7 0 7 ∷ triple 7 0 7 ∷ []))) (refuses 15 2) ∷
    row (compare_of (label 1 (triple 0 2 0 ∷ triple 7 0 7 ∷ triple 7 0 7 ∷ triple 7 0 7 ∷ triple 7 0 7 ∷ [])) (label 1 (triple 0 1 0 ∷ triple 7 0 7 ∷ triple 7 0 7 ∷ triple 7 0 7 ∷ triple 7 0 7 ∷ []))) (refuses 15 1) ∷
    row (compare_of (label 1 (triple 0 1 0 ∷ triple 7 0 7 ∷ triple 7 0 7 ∷ triple 7 0 7 ∷ triple 7 0 7 ∷ [])) (label 1 (triple 0 2 0 ∷ triple 7 0 7 ∷ triple 7 0 7 ∷ triple 7 0 7 ∷ triple 7 0 7 ∷ []))) (refuses 15 2) ∷
    row (compare_of (label 0 (triple 0 1 0 ∷ triple 0 1 0 ∷ triple 0 1 0 ∷ triple 0 1 0 ∷ triple 0 1 0 ∷ [])) (label 2 (triple 0 1 0 ∷ triple 0 0 0 ∷ triple 7 0 7 ∷ triple 7 0 7 ∷ triple 7 0 7 ∷ []))) (refuses 15 1) ∷
    row (compare_of (label 1 (triple 0 2 0 ∷ triple 7 0 7 ∷ triple 7 0 7 ∷ triple 7 0 7 ∷ triple 7 0 7 ∷ [])) (label 1 (triple 0 2 0 ∷ triple 7 0 7 ∷ triple 7 0 7 ∷ triple 7 0 7 ∷ triple 7 0 7 ∷ []))) (refuses 15 1) ∷
    row (compare_of (label 2 (triple 0 1 0 ∷ triple 0 2 0 ∷ triple 7 0 7 ∷ triple 7 0 7 ∷ triple 7 0 7 ∷ [])) (label 3 (triple 0 1 0 ∷ triple 0 3 0 ∷ triple 0 0 0 ∷ triple 7 0 7 ∷ triple 7 0 7 ∷ []))) (refuses 15 2) ∷
    row (compare_of (label 3 (triple 0 1 0 ∷ triple 0 2 0 ∷ triple 0 65 0 ∷ triple 7 0 7 ∷ triple 7 0 7 ∷ [])) (label 2 (triple 0 1 0 ∷ triple 0 3 0 ∷ triple 7 0 7 ∷ triple 7 0 7 ∷ triple 7 0 7 ∷ []))) (refuses 15 1) ∷
    []

pub comparisons-agree : map (λ (r : AimedExample (Answer Order)). r.given) comparisons ≡ map (λ (r : AimedExample (Answer Order)). r.wanted) comparisons
unfolding verdict-computes bytes race row name label comparisons
comparisons-agree = refl

-- segments compared by their labels: concurrent is not transitive; cut chunks
unfoldable pub orders : List (AimedExample (Answer Order))
orders =
    row (order_in (bytes 28 0x01000000100100020201010000100200010201010001020102000002) (node 1 0 0) (node 1 1 0)) (gives Ord.Concurrent) ∷
    row (order_in (bytes 28 0x01000000100100020201010000100200010201010001020102000002) (node 1 1 0) (node 1 0 1)) (gives Ord.Concurrent) ∷
    row (order_in (bytes 28 0x01000000100100020201010000100200010201010001020102000002) (node 1 0 0) (node 1 0 1)) (gives Ord.Before) ∷
    row (order_in (bytes 20 0x0100000010010002030101000003010100011103) (node 1 0 0) (node 1 1 0)) (gives Ord.Concurrent) ∷
    row (order_in (bytes 20 0x0100000010010002030101000003010100011103) (node 1 0 0) (node 1 1 1)) (gives Ord.Before) ∷
    []

pub orders-agree : map (λ (r : AimedExample (Answer Order)). r.given) orders ≡ map (λ (r : AimedExample (Answer Order)). r.wanted) orders
unfolding verdict-computes bytes race row name label node orders
orders-agree = refl

-- the lowest shared byte of two ranges, and the lowest element of each that covers it
unfoldable pub shares : List (AimedExample (Answer (Option Overlap)))
shares =
    row (shared_of (range 0 8 4 4) (range 4 8 4 4)) (gives none) ∷
    row (shared_of (range 0 8 4 4) (range 4 0 1 8)) (gives (some (overlap 8 1 0))) ∷
    row (shared_of (range 0 3 3 1) (range 1 2 3 1)) (gives (some (overlap 3 1 1))) ∷
    row (shared_of (range 5 0 1 8) (range 12 0 1 1)) (gives (some (overlap 12 0 0))) ∷
    row (shared_of (range 60 1 8 8) (range 67 0 1 1)) (gives (some (overlap 67 0 0))) ∷
    row (shared_of (range 60 1 8 8) (range 68 0 1 1)) (gives (some (overlap 68 1 0))) ∷
    row (shared_of (range 60 1 8 8) (range 70 0 1 1)) (gives (some (overlap 70 3 0))) ∷
    row (shared_of (range 60 1 8 8) (range 74 0 1 1)) (gives (some (overlap 74 7 0))) ∷
    row (shared_of (range 60 1 8 8) (range 75 0 1 1)) (gives none) ∷
    row (shared_of (range 100 2 8 8) (range 111 0 1 2)) (gives (some (overlap 111 2 0))) ∷
    row (shared_of (range 100 2 8 8) (range 112 0 1 2)) (gives (some (overlap 112 3 0))) ∷
    row (shared_of (range 100 3 8 8) (range 120 0 1 4)) (gives (some (overlap 120 5 0))) ∷
    row (shared_of (range 100 3 8 8) (range 122 0 1 1)) (gives (some (overlap 122 5 0))) ∷
    row (shared_of (range 100 3 8 8) (range 123 0 1 1)) (gives (some (overlap 123 6 0))) ∷
    row (shared_of (range 0 7 5 8) (range 14 0 1 1)) (gives (some (overlap 14 1 0))) ∷
    row (shared_of (range 0 7 5 8) (range 15 0 1 1)) (gives (some (overlap 15 2 0))) ∷
    row (shared_of (range 10 1 5 2) (range 13 0 1 1)) (gives (some (overlap 13 2 0))) ∷
    row (shared_of (range 0 3 4 4) (range 6 0 1 2)) (gives (some (overlap 6 1 0))) ∷
    row (shared_of (range 20 1 9 4) (range 27 0 1 4)) (gives (some (overlap 27 4 0))) ∷
    row (shared_of (range 64 16 4 4) (range 70 1 8 8)) (gives (some (overlap 80 1 3))) ∷
    row (shared_of (range 0 10 5 1) (range 31 1 3 8)) (gives (some (overlap 40 4 2))) ∷
    row (shared_of (range 0 20 4 8) (range 44 1 4 8)) (gives (some (overlap 44 2 0))) ∷
    row (shared_of (range 3 7 9 2) (range 20 11 4 2)) (gives (some (overlap 31 4 1))) ∷
    row (shared_of (range 0 9 6 4) (range 14 11 5 4)) (gives (some (overlap 27 3 1))) ∷
    row (shared_of (range 0 1 4 8) (range 9 2 4 8)) (gives (some (overlap 9 2 0))) ∷
    row (shared_of (range 0 1 4 8) (range 11 1 4 8)) (gives none) ∷
    row (shared_of (range 4294967281 1 8 8) (range 4294967295 0 1 1)) (gives (some (overlap 4294967295 7 0))) ∷
    row (shared_of (range 1 2 3 1) (range 0 3 3 1)) (gives (some (overlap 3 1 1))) ∷
    row (shared_of (range 70 1 8 8) (range 64 16 4 4)) (gives (some (overlap 80 3 1))) ∷
    row (shared_of (range 31 1 3 8) (range 0 10 5 1)) (gives (some (overlap 40 2 4))) ∷
    row (shared_of (range 20 11 4 2) (range 3 7 9 2)) (gives (some (overlap 31 1 4))) ∷
    row (shared_of (range 14 11 5 4) (range 0 9 6 4)) (gives (some (overlap 27 1 3))) ∷
    row (shared_of (range 0 0 0 1) (range 0 0 1 1)) (refuses 5 1) ∷
    row (shared_of (range 0 0 1 1) (range 0 0 0 1)) (refuses 5 2) ∷
    row (shared_of (range 0 0 1 3) (range 0 0 1 1)) (refuses 5 1) ∷
    row (shared_of (range 0 0 1 1) (range 0 0 1 3)) (refuses 5 2) ∷
    row (shared_of (range 4294967295 0 1 2) (range 0 0 1 1)) (refuses 5 1) ∷
    row (shared_of (range 0 0 1 1) (range 4294967295 0 1 2)) (refuses 5 2) ∷
    row (shared_of (range 0 0 0 1) (range 0 0 1 3)) (refuses 5 1) ∷
    []

pub shares-agree : map (λ (r : AimedExample (Answer (Option Overlap))). r.given) shares ≡ map (λ (r : AimedExample (Answer (Option Overlap))). r.wanted) shares
unfolding verdict-computes bytes race row name label overlap shares
shares-agree = refl

-- the races of five bundles; small-bundles has the bundles
unfoldable pub four : List Race
four = race 64 1 0 0 1 0 1 1 0 3 0 ∷ race 64 1 0 0 1 0 1 1 1 4 0 ∷ race 64 1 0 1 2 0 1 1 0 3 0 ∷ race 64 1 0 1 2 0 1 1 1 4 0 ∷ []

unfoldable pub three : List Race
three = race 0 1 0 0 10 0 1 1 0 20 0 ∷ race 0 1 0 0 10 0 1 2 0 30 0 ∷ race 0 1 1 0 20 0 1 2 0 30 0 ∷ []

unfoldable pub teams : List Race
teams = race 7 255 1 0 5 0 256 0 0 6 0 ∷ race 7 256 0 0 6 0 257 0 0 7 0 ∷ []

unfoldable pub witnesses : List Race
witnesses = race 15 1 0 1 2 0 1 1 0 3 0 ∷ race 16 1 0 0 1 0 1 1 1 4 0 ∷ []

unfoldable pub elements : List Race
elements = race 64 1 0 0 1 3 1 1 0 3 2 ∷ race 64 1 0 0 1 3 1 1 1 4 0 ∷ race 64 1 0 1 2 1 1 1 0 3 2 ∷ race 64 1 0 1 2 1 1 1 1 4 0 ∷ []

-- the least race above a key
unfoldable pub aboves : List (AimedExample (Option Race))
aboves =
    row (race_above (key_of 0 (name 0 0 0) (name 0 0 0)) four) (some (race 64 1 0 0 1 0 1 1 0 3 0)) ∷
    row (race_above (key_of 4294967295 (name 65535 255 65535) (name 65535 255 65535)) four) none ∷
    row (race_above (key_of 0 (name 0 0 0) (name 0 0 0)) three) (some (race 0 1 0 0 10 0 1 1 0 20 0)) ∷
    row (race_above (key_of 4294967295 (name 65535 255 65535) (name 65535 255 65535)) three) none ∷
    row (race_above (key_of 0 (name 0 0 0) (name 0 0 0)) teams) (some (race 7 255 1 0 5 0 256 0 0 6 0)) ∷
    row (race_above (key_of 4294967295 (name 65535 255 65535) (name 65535 255 65535)) teams) none ∷
    row (race_above (key_of 0 (name 0 0 0) (name 0 0 0)) witnesses) (some (race 15 1 0 1 2 0 1 1 0 3 0)) ∷
    row (race_above (key_of 4294967295 (name 65535 255 65535) (name 65535 255 65535)) witnesses) none ∷
    row (race_above (key_of 0 (name 0 0 0) (name 0 0 0)) elements) (some (race 64 1 0 0 1 3 1 1 0 3 2)) ∷
    row (race_above (key_of 4294967295 (name 65535 255 65535) (name 65535 255 65535)) elements) none ∷
    row (race_above (key_of 64 (name 1 0 0) (name 1 1 0)) four) (some (race 64 1 0 0 1 0 1 1 1 4 0)) ∷
    row (race_above (key_of 64 (name 1 0 0) (name 1 1 1)) four) (some (race 64 1 0 1 2 0 1 1 0 3 0)) ∷
    row (race_above (key_of 64 (name 1 0 1) (name 1 1 0)) four) (some (race 64 1 0 1 2 0 1 1 1 4 0)) ∷
    row (race_above (key_of 64 (name 1 0 1) (name 1 1 1)) four) none ∷
    row (race_above (key_of 64 (name 1 0 0) (name 1 0 65535)) four) (some (race 64 1 0 0 1 0 1 1 0 3 0)) ∷
    row (race_above (key_of 64 (name 1 0 0) (name 1 1 2)) four) (some (race 64 1 0 1 2 0 1 1 0 3 0)) ∷
    row (race_above (key_of 64 (name 1 0 0) (name 65535 255 65535)) four) (some (race 64 1 0 1 2 0 1 1 0 3 0)) ∷
    row (race_above (key_of 64 (name 1 0 1) (name 0 0 0)) four) (some (race 64 1 0 1 2 0 1 1 0 3 0)) ∷
    row (race_above (key_of 64 (name 0 255 65535) (name 65535 255 65535)) four) (some (race 64 1 0 0 1 0 1 1 0 3 0)) ∷
    row (race_above (key_of 0 (name 1 0 0) (name 1 1 0)) three) (some (race 0 1 0 0 10 0 1 2 0 30 0)) ∷
    row (race_above (key_of 0 (name 1 0 0) (name 1 1 65535)) three) (some (race 0 1 0 0 10 0 1 2 0 30 0)) ∷
    row (race_above (key_of 0 (name 1 0 65535) (name 1 2 0)) three) (some (race 0 1 1 0 20 0 1 2 0 30 0)) ∷
    row (race_above (key_of 0 (name 1 1 0) (name 1 1 65535)) three) (some (race 0 1 1 0 20 0 1 2 0 30 0)) ∷
    row (race_above (key_of 0 (name 1 1 0) (name 1 2 0)) three) none ∷
    row (race_above (key_of 7 (name 255 1 0) (name 255 255 65535)) teams) (some (race 7 255 1 0 5 0 256 0 0 6 0)) ∷
    row (race_above (key_of 7 (name 255 1 0) (name 256 0 0)) teams) (some (race 7 256 0 0 6 0 257 0 0 7 0)) ∷
    row (race_above (key_of 7 (name 255 255 65535) (name 256 0 0)) teams) (some (race 7 256 0 0 6 0 257 0 0 7 0)) ∷
    row (race_above (key_of 7 (name 256 0 0) (name 256 255 65535)) teams) (some (race 7 256 0 0 6 0 257 0 0 7 0)) ∷
    row (race_above (key_of 7 (name 256 0 0) (name 257 0 0)) teams) none ∷
    row (race_above (key_of 14 (name 65535 255 65535) (name 65535 255 65535)) witnesses) (some (race 15 1 0 1 2 0 1 1 0 3 0)) ∷
    row (race_above (key_of 15 (name 1 0 1) (name 1 1 0)) witnesses) (some (race 16 1 0 0 1 0 1 1 1 4 0)) ∷
    row (race_above (key_of 15 (name 65535 255 65535) (name 65535 255 65535)) witnesses) (some (race 16 1 0 0 1 0 1 1 1 4 0)) ∷
    row (race_above (key_of 16 (name 0 0 0) (name 0 0 0)) witnesses) (some (race 16 1 0 0 1 0 1 1 1 4 0)) ∷
    row (race_above (key_of 64 (name 1 0 0) (name 1 1 0)) elements) (some (race 64 1 0 0 1 3 1 1 1 4 0)) ∷
    row (race_above (key_of 64 (name 1 0 0) (name 1 1 1)) elements) (some (race 64 1 0 1 2 1 1 1 0 3 2)) ∷
    row (race_above (key_of 64 (name 1 0 1) (name 1 1 0)) elements) (some (race 64 1 0 1 2 1 1 1 1 4 0)) ∷
    row (race_above (key_of 64 (name 1 0 0) (name 65535 255 65535)) elements) (some (race 64 1 0 1 2 1 1 1 0 3 2)) ∷
    row (race_above (key_of 0 (name 1 1 0) (name 1 0 0)) three) (some (race 0 1 1 0 20 0 1 2 0 30 0)) ∷
    row (race_above (key_of 0 (name 1 2 0) (name 1 0 0)) three) none ∷
    row (race_above (key_of 0 (name 7 7 7) (name 3 3 3)) three) none ∷
    []

pub aboves-agree : map (λ (r : AimedExample (Option Race)). r.given) aboves ≡ map (λ (r : AimedExample (Option Race)). r.wanted) aboves
unfolding verdict-computes bytes race row name label four three teams witnesses elements aboves
aboves-agree = refl

-- next race, and the work area afterwards
unfoldable pub nexts : List (AimedExample (Lent (Option Race)))
nexts =
    row (next_of (bytes 45 0x01000000100100020201010000310a000010000008000200041102010100013014000a10000000000100041102) 0 (name 0 0 0) (name 0 0 0) (replicate 16383 7)) (record { answer = (refuses 13 0); buffer = replicate 16383 7 }) ∷
    row (next_of (bytes 67 0x01000000100100020201010000310100400000000000010001310200400000000000010001020101000131030040000000000001000131040040000000000001000102) 64 (name 1 0 1) (name 1 0 0) (replicate 16384 7)) (record { answer = (gives (some (race 64 1 0 1 2 0 1 1 0 3 0))); buffer = replicate 16384 0 }) ∷
    row (next_of (bytes 0 0x0) 0 (name 0 0 0) (name 0 0 0) (replicate 16385 7)) (record { answer = (refuses 10 0); buffer = replicate 16385 0 }) ∷
    []

pub nexts-agree : map (λ (r : AimedExample (Lent (Option Race))). r.given) nexts ≡ map (λ (r : AimedExample (Lent (Option Race))). r.wanted) nexts
unfolding verdict-computes bytes race row name label nexts
nexts-agree = refl

-- judge, and the work area afterwards
unfoldable pub judgements : List (AimedExample (Lent Judgement))
judgements =
    row (judge_of (bytes 45 0x01000000100100020201010000310a000010000008000200041102010100013014000a10000000000100041102) (replicate 0 7)) (record { answer = (refuses 13 0); buffer = replicate 0 0 }) ∷
    row (judge_of (bytes 45 0x01000000100100020201010000310a000010000008000200041102010100013014000a10000000000100041102) (replicate 3 7)) (record { answer = (refuses 13 0); buffer = replicate 3 7 }) ∷
    row (judge_of (bytes 0 0x0) (replicate 3 7)) (record { answer = (refuses 13 0); buffer = replicate 3 7 }) ∷
    row (judge_of (bytes 45 0x01000000100100020201010000310a000010000008000200041102010100013014000a10000000000100041102) (replicate 16383 7)) (record { answer = (refuses 13 0); buffer = replicate 16383 7 }) ∷
    row (judge_of (bytes 45 0x01000000100100020201010000310a000010000008000200041102010100013014000a10000000000100041102) (replicate 16384 7)) (record { answer = (gives (record { chunks = 3; segments = 6; accesses = 2; races = 1; least = Some (race 4106 1 0 0 10 1 1 1 0 20 0) })); buffer = replicate 16384 0 }) ∷
    row (judge_of (bytes 0 0x0) (replicate 16385 7)) (record { answer = (refuses 10 0); buffer = replicate 16385 0 }) ∷
    []

pub judgements-agree : map (λ (r : AimedExample (Lent Judgement)). r.given) judgements ≡ map (λ (r : AimedExample (Lent Judgement)). r.wanted) judgements
unfolding verdict-computes bytes race row name label judgements
judgements-agree = refl

-- reading an access of either group
unfoldable pub wide-reads : List (AimedExample (Answer Taken))
wide-reads =
    row (read_at (bytes 15 0x023a78563412040302010600050008) 1) (gives (record { command = Com.Access (record { kind = Kind.AtomicRead; wide = true; site = 305419896; range = range 16909060 6 5 8 }); next = 15 })) ∷
    row (read_at (bytes 14 0x39ffffffff000000000000010001) 0) (gives (record { command = Com.Access (record { kind = Kind.Write; wide = true; site = 4294967295; range = range 0 0 1 1 }); next = 14 })) ∷
    row (read_at (bytes 13 0x38000001000000000000000100) 0) (refuses 3 0) ∷
    row (read_at (bytes 14 0x3b00000000000000000000010003) 0) (refuses 5 0) ∷
    row (read_at (bytes 13 0x33ffff00000000000001000100) 0) (gives (record { command = Com.Access (record { kind = Kind.AtomicWrite; wide = false; site = 65535; range = range 0 0 1 1 }); next = 12 })) ∷
    []

pub wide-reads-agree : map (λ (r : AimedExample (Answer Taken)). r.given) wide-reads ≡ map (λ (r : AimedExample (Answer Taken)). r.wanted) wide-reads
unfolding verdict-computes bytes race row name label wide-reads
wide-reads-agree = refl

-- check of wide accesses, and of both groups
unfoldable pub wide-checks : List (AimedExample (Answer (Unit {0})))
wide-checks =
    row (check_of (bytes 49 0x01000000100100020201010000397011010000100000080002000411020101000138140000000a10000000000100041102)) (gives tt) ∷
    row (check_of (bytes 31 0x01000000300100000000000000010001380100000000000000000001000102)) (refuses 20 16) ∷
    row (check_of (bytes 40 0x01010000380100000000000000000001000102010000001001000130010000000000000001000102)) (refuses 20 27) ∷
    row (check_of (bytes 31 0x01000000300100000000000000010001023801000000000000000000010001)) (refuses 4 17) ∷
    row (check_of (bytes 31 0x01000000300100000000000000010001380100000000000000000001000302)) (refuses 20 16) ∷
    row (check_of (bytes 29 0x0100000038010000000000000000000100013001000000000000000100)) (refuses 3 18) ∷
    []

pub wide-checks-agree : map (λ (r : AimedExample (Answer (Unit {0}))). r.given) wide-checks ≡ map (λ (r : AimedExample (Answer (Unit {0}))). r.wanted) wide-checks
unfolding verdict-computes bytes race row name label wide-checks
wide-checks-agree = refl

-- judge of a bundle with wide accesses
unfoldable pub wide-judgements : List (AimedExample (Lent Judgement))
wide-judgements =
    row (judge_of (bytes 49 0x01000000100100020201010000397011010000100000080002000411020101000138140000000a10000000000100041102) (replicate 16384 7)) (record { answer = (gives (record { chunks = 3; segments = 6; accesses = 2; races = 1; least = Some (race 4106 1 0 0 70000 1 1 1 0 20 0) })); buffer = replicate 16384 0 }) ∷
    []

pub wide-judgements-agree : map (λ (r : AimedExample (Lent Judgement)). r.given) wide-judgements ≡ map (λ (r : AimedExample (Lent Judgement)). r.wanted) wide-judgements
unfolding verdict-computes bytes race row name label wide-judgements
wide-judgements-agree = refl
