-- The loop's invariant: what was subtracted and what is left make the whole (`Subtracting`).
use Rattle.laws.specs.Subtractions.{Subtracting}
use Rattle.access.specs.Lanes.{most_subtractions}
use Rattle.access.proofs.subtract_size.Given as goal

abbrev pub invariant-loop-times : goal.invariant-loop-times
invariant-loop-times l = Subtracting most_subtractions l.size l.number l.times l.left
