-- A law for each way out, the causes in their order; where none applies, the slot is unlinked and waits.
use Rattle.updates.proofs.Causes.{none-refused}
use Rattle.updates.proofs.Deletes.{delete-lane, delete-far, delete-missing, delete-leaves, delete-done}
use Rattle.updates.proofs.delete.Goals as goal

pub returns-in_err-check_lane : goal.returns-in_err-check_lane
returns-in_err-check_lane c = delete-lane _ _ c.requires _ _ _ c.in_err-check_lane.ensures.cause c.from_residual.ensures.1

pub returns-then-wrong_code : goal.returns-then-wrong_code
returns-then-wrong_code c = delete-far _ _ c.requires _ c.in_ok-check_lane.ensures.cause _ c.wrong_code.ensures c.if-wrong_code.true

pub returns-in_err-old : goal.returns-in_err-old
returns-in_err-old c =
    let missing = c.in_err-old.ensures in
    delete-missing _ _ c.requires _ c.in_ok-check_lane.ensures.cause _ c.wrong_code.ensures c.if-wrong_code.false _ c.search.ensures missing.ok_part _
    (none-refused _ _ _ _ missing.ok_part missing.value c.from_residual-in_err-old.ensures.1)

pub remove-requires : goal.remove-requires
remove-requires c =
    delete-leaves _ _ c.requires _ c.in_ok-check_lane.ensures.cause _ c.wrong_code.ensures c.if-wrong_code.false _ c.search.ensures _ c.in_ok-old.ensures.ok_part _
    c.head_address-head.ensures c.in_ok-check_lane.ensures.lane

pub returns : goal.returns
returns c =
    delete-done _ _ c.requires _ c.in_ok-check_lane.ensures.cause _ c.wrong_code.ensures c.if-wrong_code.false _ c.search.ensures _ c.in_ok-old.ensures.ok_part _
    c.head_address-head.ensures _ c.remove.ensures
