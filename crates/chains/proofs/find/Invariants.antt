-- `chains::find`. The loop's invariant: the search from here, with the steps that are left, finds what the whole search finds.
use Prim.Native.Nat.{◌-◌, ◌+◌}
use mathlib.Core.Path.{◌≡◌}
use Rattle.model.specs.Word.{none}
use Rattle.words.specs.Lent.{sizes_of}
use Rattle.chains.specs.Chain.{seek}
use Rattle.chains.proofs.find.Given as goal

abbrev pub invariant-loop : goal.invariant-loop
invariant-loop l = seek l.m (sizes_of l.z) l.code (l.z.slots + 1 - l.counter) l.prev l.slot ≡ seek l.m (sizes_of l.z) l.code (l.z.slots + 1) none l.head
