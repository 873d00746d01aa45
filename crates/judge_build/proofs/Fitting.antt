-- A size that was put lies in the buffer. Assumes nothing.
use Prim.Native.Nat.{ℕ, ◌≤◌}
use mathlib.Core.Path.{◌≡◌, subst}
use Rattle.std.specs.declared.result.Result.{Result}
use Rattle.std.specs.declared.result.Result.TheVariants.{Ok}
use Rattle.bundle.specs.Answer.{answer_of}
use Rattle.bundle.specs.declared.refusal.Refusal.{Refusal}
use Rattle.tray.specs.Inner.{PutWithin}

pub put-size : {p : Result ℕ Refusal} {size : ℕ} (room : ℕ) → p ≡ Ok size → PutWithin (answer_of p) room → size ≤ room
put-size room q h = subst (λ (x : Result ℕ Refusal). PutWithin (answer_of x) room) q h
