-- Answers and refusals: what an operation gives, or the number and place with which it turns its input away.
use Rattle.std.specs.Prelude.{ℕ}
use Rattle.std.specs.declared.result.Result.{Result}
use Rattle.std.specs.declared.result.Result.TheVariants.{Ok, Err}
use Rattle.bundle.specs.declared.refusal.Refusal.{Refusal}
use Rattle.bundle.specs.declared.refusal.Cause.{Cause}
use Rattle.bundle.specs.declared.refusal.Cause.TheVariants.{
  BundleTooLong,
  UnknownCommand,
  OperandsCutOff,
  Misplaced,
  OutOfRange,
  LockMisused,
  TooManyEntries,
  ForkedBefore,
  StrayChunk,
  MissingChunk,
  TooDeep,
  BarrierCount,
  WorkAreaTooSmall,
  NoneSuch,
  BadLabel,
  UnequalSpans,
  DoesNotFit,
  PastEnd,
  CutAhead,
  OtherGroup,
  SiteTooLarge,
  TooFewRecords,
  WrongRecord,
}

-- an operation's answer: a value, or a refusal by its number and place
pub data Answer (A : Type 0) : Type 0 where
  gives : A → Answer A
  refuses : ℕ → ℕ → Answer A

-- the answer's value handed on to a further operation; a refusal stays
abbrev pub when_given : {A B : Type 0} → Answer A → (A → Answer B) → Answer B
when_given (gives a) f = f a
when_given (refuses n p) f = refuses n p

-- the number of each cause (docs/FORMAT.md, "Refusals")
abbrev pub number_of : Cause → ℕ
number_of BundleTooLong = 1
number_of UnknownCommand = 2
number_of OperandsCutOff = 3
number_of Misplaced = 4
number_of OutOfRange = 5
number_of LockMisused = 6
number_of TooManyEntries = 7
number_of ForkedBefore = 8
number_of StrayChunk = 9
number_of MissingChunk = 10
number_of TooDeep = 11
number_of BarrierCount = 12
number_of WorkAreaTooSmall = 13
number_of NoneSuch = 14
number_of BadLabel = 15
number_of UnequalSpans = 16
number_of DoesNotFit = 17
number_of PastEnd = 18
number_of CutAhead = 19
number_of OtherGroup = 20
number_of SiteTooLarge = 21
number_of TooFewRecords = 22
number_of WrongRecord = 23

-- what the answer of the code says, in the format's number and place
abbrev pub answer_of : {A : Type 0} → Result A Refusal → Answer A
answer_of (Ok a) = gives a
answer_of (Err r) = refuses (number_of r.cause) r.place
