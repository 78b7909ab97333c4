-- A law for each way out, the causes in their order; where none applies, a filled slot takes the old one's place, and the old one waits.
use Rattle.updates.proofs.Causes.{none-refused}
use Rattle.updates.proofs.Adds.{replace-entry, replace-missing, replace-none, replace-leaves, replace-done}
use Rattle.updates.proofs.replace.Goals as goal

pub returns-in_err-check_entry : goal.returns-in_err-check_entry
returns-in_err-check_entry c = replace-entry _ _ c.requires _ _ _ c.in_err-check_entry.ensures.cause c.from_residual.ensures.1

pub returns-in_err-old : goal.returns-in_err-old
returns-in_err-old c =
    let missing = c.in_err-old.ensures in
    replace-missing _ _ c.requires _ c.in_ok-check_entry.ensures.cause _ c.search.ensures missing.ok_part _
    (none-refused _ _ _ _ missing.ok_part missing.value c.from_residual-in_err-old.ensures.1)

pub returns-in_err-new : goal.returns-in_err-new
returns-in_err-new c =
    let none = c.in_err-new.ensures in
    replace-none _ _ c.requires _ c.in_ok-check_entry.ensures.cause _ c.search.ensures _ c.in_ok-old.ensures.ok_part _ _ c.fill.ensures none.ok_part _
    (none-refused _ _ _ _ none.ok_part none.value c.from_residual-in_err-new.ensures.1)

pub supersede-requires : goal.supersede-requires
supersede-requires c =
    replace-leaves _ _ c.requires _ c.in_ok-check_entry.ensures.cause _ c.search.ensures _ c.in_ok-old.ensures.ok_part _ _ c.fill.ensures _ c.in_ok-new.ensures.ok_part _
    c.head_address-head.ensures c.in_ok-check_entry.ensures.lane c.fill.auto.m

pub returns : goal.returns
returns c =
    replace-done _ _ c.requires _ c.in_ok-check_entry.ensures.cause _ c.search.ensures _ c.in_ok-old.ensures.ok_part _ _ c.fill.ensures _ c.in_ok-new.ensures.ok_part _
    c.head_address-head.ensures _ c.supersede.ensures
