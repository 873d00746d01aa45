-- `judge_build::kind::path_of` meets its contract: by the length of the name. Assumes nothing.
use borrow.Author.Tests.{lt-ltb, le-ltb}
use mathlib.Core.Path.{◌≡◌, sym, ◌∙◌, ap}
use mathlib.Core.Bool.{Bool, cond}
use mathlib.Core.List.{List}
use Prim.Native.Nat.{ℕ, ◌≤◌, ◌<◌}
use native.Mathlib.Omega.{arith}
use lib.Dec.{ltb, lit<}
use lib.ListN.{length, set, replicate, get_or-replicate}
use lib.Seq.{get_or-set_same}
use Rattle.bundle.specs.Commands.{written}
use Rattle.judge_build.specs.Kind.{path_of, IsEnded}
use Rattle.judge_build.proofs.kind.path_of.Goals as goal

-- which path a name has goes by its length
chosen : (name : List ℕ) {b : Bool} → ltb (length name) 4096 ≡ b → cond b (set (written (replicate 4096 0) 0 name) 4095 0) (replicate 4096 0) ≡ path_of name
chosen name e = ap (λ b. cond b (set (written (replicate 4096 0) 0 name) 4095 0) (replicate 4096 0)) (sym e)

too_long : (name : List ℕ) → 4096 ≤ length name → replicate 4096 0 ≡ path_of name
too_long name long = chosen name (le-ltb (length name) 4096 long)

in-room : (name path : List ℕ) → length name < 4096 → path ≡ written (replicate 4096 0) 0 name → set path 4095 0 ≡ path_of name
in-room name path room copied = ap (λ (p : List ℕ). set p 4095 0) copied ∙ chosen name (lt-ltb (length name) 4096 room)

ended-set : (path : List ℕ) → length path ≡ 4096 → IsEnded (set path 4095 0)
ended-set path long = get_or-set_same path 4095 0 1 (omega (arith, long))

pub returns-then-name-ge-PATH_MAX : goal.returns-then-name-ge-PATH_MAX
returns-then-name-ge-PATH_MAX c =
    record { path = too_long c.args.name.now c.if-name-ge-PATH_MAX.true; ended = get_or-replicate 4096 4095 0 1 (lit< tt) }

pub returns : goal.returns
returns c =
    record {
      path = in-room c.args.name.now _ c.if-name-ge-PATH_MAX.false c.copy_in.ensures;
      ended = ended-set c.copy_in.new.buffer c.copy_in.auto.buffer;
    }
