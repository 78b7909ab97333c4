-- The loop's invariant: the mask is that of the places passed. The measure is the number of places left.
use Rattle.std.proofs.Common.{◌≡◌, ◌-◌, ◌≤◌, map}
use Rattle.model.specs.Lists.{from, mask}
use Rattle.lanes.specs.Cabinet.{online_at}
use Rattle.lanes.proofs.cabinet.online_mask.Given as goal

abbrev pub invariant-loop-p : goal.invariant-loop-p
invariant-loop-p l = (l.p ≤ l.places) × (l.online ≡ mask (map (online_at l.cabinet 0) (from 0 l.p)))

abbrev pub decreases-loop-p : goal.decreases-loop-p
decreases-loop-p l = l.places - l.p
