-- The derived order of names and of keys is that of their numbers one after another.
use mathlib.Core.Path.{◌≡◌, refl, ◌∙◌, ap}
use mathlib.Core.Bool.{Bool, true, false, cond, ◌&&◌, ◌||◌}
use lib.Dec.{eqb, ltb}
use Rattle.std.specs.declared.cmp.Ordering.{Ordering}
use Rattle.std.specs.declared.cmp.Ordering.TheVariants.{Less, Equal, Greater}
use Rattle.std.specs.declared.option.Option as Rust
use Rattle.std.specs.declared.option.Option.TheVariants.{Some}
use Rattle.std.specs.Ordering.{is_lt, is_some_and, nat_cmp, partial_ordering_then}
use Rattle.verdict.specs.Accesses.{lex_less, name_key, name_below, key_of}
use Rattle.verdict.specs.declared.race.Name.{Name}
use Rattle.verdict.specs.declared.pairs.Key.{Key}

abbrev less : Rust.Option Ordering → Bool
less o = is_some_and is_lt o

abbrev tested : Bool → Bool → Rust.Option Ordering
tested l e = Some (cond l Less (cond e Equal Greater))

-- one number, and three, before what comes after them
then-one : (l e : Bool) (o : Rust.Option Ordering) → less (partial_ordering_then (tested l e) o) ≡ (l || e && less o)
then-one true e o = refl
then-one false true o = refl
then-one false false o = refl

then-three :
    (a b c d e f : Bool) (o : Rust.Option Ordering)
    → less (partial_ordering_then (partial_ordering_then (tested a b) (partial_ordering_then (tested c d) (tested e f))) o)
    ≡ (a || b && (c || d && (e || f && less o)))
then-three true b c d e f o = refl
then-three false false c d e f o = refl
then-three false true true d e f o = refl
then-three false true false false e f o = refl
then-three false true false true true f o = refl
then-three false true false true false false o = refl
then-three false true false true false true o = refl

three :
    (a b c d e f : Bool)
    → less (partial_ordering_then (tested a b) (partial_ordering_then (tested c d) (tested e f)))
    ≡ (a || b && (c || d && (e || f && false)))
three true b c d e f = refl
three false false c d e f = refl
three false true true d e f = refl
three false true false false e f = refl
three false true false true true f = refl
three false true false true false false = refl
three false true false true false true = refl

-- what the derives compare
abbrev pub name_cmp : Name → Name → Rust.Option Ordering
name_cmp a b =
    partial_ordering_then (Some (nat_cmp a.team b.team))
    (partial_ordering_then (Some (nat_cmp a.member b.member)) (Some (nat_cmp a.number b.number)))

abbrev pub key_cmp : Key → Key → Rust.Option Ordering
key_cmp k l =
    partial_ordering_then (Some (nat_cmp k.witness l.witness))
    (partial_ordering_then (name_cmp k.first l.first) (name_cmp k.second l.second))

pub name-order : (a b : Name) → is_some_and is_lt (name_cmp a b) ≡ name_below a b
unfolding name_below name_key lex_less
name-order a b =
    three (ltb a.team b.team) (eqb a.team b.team) (ltb a.member b.member) (eqb a.member b.member) (ltb a.number b.number) (eqb a.number b.number)

pub key-order : (k l : Key) → is_some_and is_lt (key_cmp k l) ≡ lex_less (key_of k.witness k.first k.second) (key_of l.witness l.first l.second)
unfolding key_of name_below name_key lex_less
key-order k l =
    then-one (ltb k.witness l.witness) (eqb k.witness l.witness) _
    ∙ ap (λ (x : Bool). ltb k.witness l.witness || eqb k.witness l.witness && x)
    (then-three (ltb k.first.team l.first.team) (eqb k.first.team l.first.team) (ltb k.first.member l.first.member) (eqb k.first.member l.first.member)
    (ltb k.first.number l.first.number) (eqb k.first.number l.first.number) (name_cmp k.second l.second)
    ∙ ap (λ (x : Bool). ltb k.first.team l.first.team || eqb k.first.team l.first.team && (ltb k.first.member l.first.member || eqb k.first.member l.first.member && (ltb k.first.number l.first.number || eqb k.first.number l.first.number && x)))
    (three (ltb k.second.team l.second.team) (eqb k.second.team l.second.team) (ltb k.second.member l.second.member) (eqb k.second.member l.second.member)
    (ltb k.second.number l.second.number) (eqb k.second.number l.second.number)))
