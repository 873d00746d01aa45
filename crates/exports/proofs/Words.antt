-- Words and back: the words of a command stand for that command, so that what is read as words is put as the same bytes, and what is put reads
-- back as its words; and a label that is given as words is taken as that label.
-- Assumes nothing.
use Prim.Native.Nat.{ℕ, ◌≤◌}
use mathlib.Core.Path.{◌≡◌, refl, ap, ◌∙◌}
use mathlib.Core.Bool.{Bool, true, false}
use mathlib.Core.List.{List, [], ◌∷◌}
use mathlib.Core.Option.{some}
use lib.ListN.{length}
use native.Mathlib.Omega.{arith}
use Rattle.bundle.specs.Answer.{gives}
use Rattle.bundle.specs.Commands.{Bytes, kind_byte, access_byte, in_range, read_at}
use Rattle.bundle.specs.declared.command.AccessKind.{AccessKind}
use Rattle.bundle.specs.declared.command.AccessKind.TheVariants as Kind
use Rattle.bundle.specs.declared.command.Command.{Command}
use Rattle.bundle.specs.declared.command.Taken.{Taken}
use Rattle.bundle.specs.declared.command.Command.TheVariants as Com
use Rattle.bundle.proofs.Forms.{kind_in, kind-in}
use Rattle.bundle.proofs.RoundTrip.{read-puts-back, put-reads-back}
use Rattle.order.specs.Labels.{blank, holding}
use Rattle.order.specs.declared.label.Triple.{Triple}
use Rattle.exports.specs.CommandWords.{command_words, command_by, command_from, access_from, put_from}
use Rattle.exports.specs.LabelWords.{label_words, label_from}
use Rattle.exports.specs.Told.{read_told}

access-by : (wide : Bool) (k : AccessKind) (words : List ℕ) → command_by (access_byte wide k) words ≡ some (access_from wide (kind_in wide (access_byte wide k)) words)
unfolding command_by access_byte kind_byte
access-by false Kind.Read words = refl
access-by false Kind.Write words = refl
access-by false Kind.AtomicRead words = refl
access-by false Kind.AtomicWrite words = refl
access-by true Kind.Read words = refl
access-by true Kind.Write words = refl
access-by true Kind.AtomicRead words = refl
access-by true Kind.AtomicWrite words = refl

-- the words of a command stand for it
pub command-back : (c : Command) → command_from (command_words c) ≡ some c
unfolding command_by command_words
command-back (Com.Member team member) = refl
command-back Com.End = refl
command-back Com.Cut = refl
command-back (Com.Region team size) = refl
command-back Com.Barrier = refl
command-back (Com.Acquire lock) = refl
command-back (Com.Release lock) = refl
command-back (Com.Access a) =
    access-by a.wide a.kind (command_words (Com.Access a))
    ∙ ap (λ (k : AccessKind). some (Com.Access (record { kind = k; wide = a.wide; site = a.site; range = a.range })))
    (kind-in a.wide a.kind)

-- what is read as words, put takes as words: it writes the same bytes and answers the same position
pub words-put-back :
    (s : List ℕ) (at : ℕ) (t : Taken)
    → Bytes s
    → read_at s at ≡ gives t
    → put_from (command_from (command_words t.command)) s at ≡ record { answer = gives t.next; buffer = s }
words-put-back s at t bytes e = rw (command-back t.command) (read-puts-back s at t bytes e).put

-- what is put as words reads back as these words and that position
pub words-read-back :
    (c : Command) (s : List ℕ) (at next : ℕ)
    → in_range c ≡ true
    → (put_from (command_from (command_words c)) s at).answer ≡ gives next
    → read_told (read_at (put_from (command_from (command_words c)) s at).buffer at)
    ≡ record { number = 0; place = 0; answer = record { command = command_words c; next = next } }
words-read-back c s at next = rw (command-back c) (λ r e. ap read_told (put-reads-back c s at next r e))

-- a label that holds triples is given as words and taken as that label
pub label-back : (ts : List Triple) → length ts ≤ 5 → label_from (label_words (holding ts)) ≡ holding ts
unfolding holding blank
label-back [] h = refl
label-back (a ∷ []) h = refl
label-back (a ∷ b ∷ []) h = refl
label-back (a ∷ b ∷ c ∷ []) h = refl
label-back (a ∷ b ∷ c ∷ d ∷ []) h = refl
label-back (a ∷ b ∷ c ∷ d ∷ e ∷ []) h = refl
label-back (a ∷ b ∷ c ∷ d ∷ e ∷ f ∷ rest) h = absurd (omega arith)
