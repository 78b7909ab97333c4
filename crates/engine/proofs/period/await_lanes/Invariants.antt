-- The loop's invariant: the masks of the cabinets passed are those of their lanes that are on.
use mathlib.Core.Path.{◌≡◌}
use Rattle.words.specs.Lent.{sizes_of}
use Rattle.engine.specs.Period.{masks_set}
use Rattle.engine.proofs.period.await_lanes.Given as goal

abbrev pub invariant-loop-c : goal.invariant-loop-c
invariant-loop-c l = l.m ≡ masks_set l.initial.m (sizes_of l.z) l.c
