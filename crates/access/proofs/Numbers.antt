-- No cause has the number 0.
use Prim.Native.Nat.{◌<◌}
use native.Mathlib.Omega.{arith}
use Rattle.access.specs.declared.causes.Cause.{Cause}
use Rattle.access.specs.declared.causes.Cause.TheVariants.{BadSize, ShortMemory, NotLegal, NoLane, Offline, AlreadyOnline, InSection, NoSection, InLookup}
use Rattle.access.specs.declared.causes.Cause.TheVariants.{NoLookup, OutOfRange, CodePresent, CodeMissing, NoFreeSlot, LastLane, NothingDone, WrongDigit, WrongLabel}
use Rattle.access.specs.Causes.{number_of}

pub numbered : (c : Cause) → 0 < number_of c
numbered BadSize = omega arith
numbered ShortMemory = omega arith
numbered NotLegal = omega arith
numbered NoLane = omega arith
numbered Offline = omega arith
numbered AlreadyOnline = omega arith
numbered InSection = omega arith
numbered NoSection = omega arith
numbered InLookup = omega arith
numbered NoLookup = omega arith
numbered OutOfRange = omega arith
numbered CodePresent = omega arith
numbered CodeMissing = omega arith
numbered NoFreeSlot = omega arith
numbered LastLane = omega arith
numbered NothingDone = omega arith
numbered WrongDigit = omega arith
numbered WrongLabel = omega arith
