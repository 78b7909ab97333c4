-- The causes' numbers, and what the code answers where a cause may refuse: nothing, or the four words of a call.
use Rattle.std.specs.Prelude.{ℕ, List, Result, Ok, Err, get_or}
use Rattle.access.specs.declared.Answer.{Answer}
use Rattle.access.specs.declared.causes.Cause.{Cause}
use Rattle.access.specs.declared.causes.Cause.TheVariants.{BadSize, ShortMemory, NotLegal, NoLane, Offline, AlreadyOnline, InSection, NoSection, InLookup}
use Rattle.access.specs.declared.causes.Cause.TheVariants.{NoLookup, OutOfRange, CodePresent, CodeMissing, NoFreeSlot, LastLane, NothingDone, WrongDigit, WrongLabel}

-- a cause's number
abbrev pub number_of : Cause → ℕ
number_of BadSize = 1
number_of ShortMemory = 2
number_of NotLegal = 3
number_of NoLane = 4
number_of Offline = 5
number_of AlreadyOnline = 6
number_of InSection = 7
number_of NoSection = 8
number_of InLookup = 9
number_of NoLookup = 10
number_of OutOfRange = 11
number_of CodePresent = 12
number_of CodeMissing = 13
number_of NoFreeSlot = 14
number_of LastLane = 15
number_of NothingDone = 16
number_of WrongDigit = 17
number_of WrongLabel = 18

-- the number of the cause that refuses, 0 where none does
abbrev pub refusal_of : {T : Type 0} → Result T Cause → ℕ
refusal_of (Ok x) = 0
refusal_of (Err c) = number_of c

-- status 0 and the four words of a call, or the cause's number and four zeros
abbrev pub answer_of : Result (List ℕ) Cause → Answer
answer_of (Ok w) = record { status = 0; a = get_or w 0 0; b = get_or w 1 0; c = get_or w 2 0; d = get_or w 3 0 }
answer_of (Err c) = record { status = number_of c; a = 0; b = 0; c = 0; d = 0 }
