-- The loop's invariant: the records of the lanes before this one are written.
use Rattle.model.specs.Layout.{lanes_body}
use Rattle.words.specs.Lent.{sizes_of}
use Rattle.set_up.specs.Written.{Written, rows}
use Rattle.set_up.specs.FreshWords.{fresh_lane_words}
use Rattle.set_up.proofs.write_lanes.Given as goal

abbrev pub invariant-loop-lane : goal.invariant-loop-lane
invariant-loop-lane l = Written l.initial.m (lanes_body (sizes_of l.z)) (rows fresh_lane_words l.lane) l.m
