-- A law for each way out, the causes in their order; where none applies, a free slot is filled and linked at the head.
use Rattle.updates.proofs.Causes.{none-refused}
use Rattle.updates.proofs.Adds.{add-entry, add-present, add-none, add-done}
use Rattle.updates.proofs.add.Goals as goal

pub returns-in_err-check_entry : goal.returns-in_err-check_entry
returns-in_err-check_entry c = add-entry _ _ c.requires _ _ _ c.in_err-check_entry.ensures.cause c.from_residual.ensures.1

pub returns-then-is_some : goal.returns-then-is_some
returns-then-is_some c = add-present _ _ c.requires _ c.in_ok-check_entry.ensures.cause _ c.search.ensures _ c.is_some.ensures c.if-is_some.true

pub returns-in_err-slot : goal.returns-in_err-slot
returns-in_err-slot c =
    let none = c.in_err-slot.ensures in
    add-none _ _ c.requires _ c.in_ok-check_entry.ensures.cause _ c.search.ensures _ c.is_some.ensures c.if-is_some.false _ _ c.fill.ensures none.ok_part _
    (none-refused _ _ _ _ none.ok_part none.value c.from_residual-in_err-slot.ensures.1)

pub returns : goal.returns
returns c =
    add-done _ _ c.requires _ c.in_ok-check_entry.ensures.cause _ c.search.ensures _ c.is_some.ensures c.if-is_some.false _ _ c.fill.ensures _ c.in_ok-slot.ensures.ok_part _
    c.head_address.ensures _ c.link_head.ensures
