use Rattle.set_up.proofs.WrittenLaws.{no-rows, next-row}
use Rattle.set_up.proofs.FreshLaws.{length-lane}
use Rattle.model.specs.Layout.{lane_length}
use Rattle.set_up.specs.FreshWords.{fresh_lane_words}
use Rattle.set_up.proofs.write_lanes.Goals as goal

pub loop-lane-init : goal.loop-lane-init
loop-lane-init c = no-rows _ _ _

pub loop-lane-preserved : goal.loop-lane-preserved
unfolding fresh_lane_words
loop-lane-preserved c = next-row fresh_lane_words lane_length _ length-lane c.loop-lane.invariant c.lane_address.ensures c.write_lane.ensures
