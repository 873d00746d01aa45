-- `verdict::fill::kind_code` meets its contract. Assumes nothing.
use Prim.Native.Nat.{◌%◌}
use mathlib.Core.Path.{◌≡◌, refl}
use Rattle.bundle.specs.Commands.{kind_byte}
use Rattle.bundle.specs.declared.command.AccessKind.{AccessKind}
use Rattle.bundle.specs.declared.command.AccessKind.TheVariants as Kind
use Rattle.verdict.specs.Working.{kind_code}
use Rattle.verdict.proofs.fill.kind_code.Goals as goal

low-bits : (k : AccessKind) → kind_byte k % 16 ≡ kind_code k
unfolding kind_byte kind_code
low-bits Kind.Read = refl
low-bits Kind.Write = refl
low-bits Kind.AtomicRead = refl
low-bits Kind.AtomicWrite = refl

pub returns : goal.returns
returns c = rw c.from.ensures (low-bits c.args.kind)
