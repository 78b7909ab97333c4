-- A law for each way out, the causes in their order; where none applies, the first slot of the queue is cleared and free.
use Rattle.updates.proofs.Causes.{none-refused}
use Rattle.updates.proofs.HandBacks.{hand-back-lane, hand-back-in, hand-back-none, hand-back-done}
use Rattle.updates.proofs.hand_back.Goals as goal

pub returns-in_err-check_lane : goal.returns-in_err-check_lane
returns-in_err-check_lane c = hand-back-lane _ _ c.requires _ _ c.in_err-check_lane.ensures.cause c.from_residual.ensures.1

pub reclaim-requires : goal.reclaim-requires
reclaim-requires c = hand-back-in _ _ c.requires c.in_ok-check_lane.ensures.cause c.in_ok-check_lane.ensures.lane _ c.done_queue-done.ensures

pub returns-in_err-slot : goal.returns-in_err-slot
returns-in_err-slot c =
    let none = c.in_err-slot.ensures in
    hand-back-none _ _ c.requires c.in_ok-check_lane.ensures.cause c.in_ok-check_lane.ensures.lane _ c.done_queue-done.ensures _ _ c.reclaim.ensures none.ok_part _
    (none-refused _ _ _ _ none.ok_part none.value c.from_residual-in_err-slot.ensures.1)

pub returns : goal.returns
returns c =
    hand-back-done _ _ c.requires c.in_ok-check_lane.ensures.cause c.in_ok-check_lane.ensures.lane _ c.done_queue-done.ensures _ _ c.reclaim.ensures _
    c.in_ok-slot.ensures.ok_part
