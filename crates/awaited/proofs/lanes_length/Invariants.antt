-- The loop's invariant: the slots of the lanes before this one are counted.
use Rattle.awaited.proofs.OwnerLengths.{LanesCounted}
use Rattle.awaited.proofs.lanes_length.Given as goal

abbrev pub invariant-loop-lane : goal.invariant-loop-lane
invariant-loop-lane l = LanesCounted l.m l.lane l.n
