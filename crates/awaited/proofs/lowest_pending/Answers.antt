-- A law for each way out, and for each mask that it is lent.
use native.Mathlib.Omega.{arith}
use Rattle.awaited.proofs.Pending.{none-shown, yard-lent, cabinet-lent, lowest-shown}
use borrow.Author.Rules.{rules}
use Rattle.awaited.proofs.lowest_pending.Goals as goal

pub returns-then-yards-eq0 : goal.returns-then-yards-eq0
returns-then-yards-eq0 c = search (rules, none-shown)

pub lowest_in-c-requires : goal.lowest_in-c-requires
lowest_in-c-requires c =
    let lent = yard-lent _ _ c.requires c.if-yards-eq0.false _ c.lowest-y.ensures _ c.yards_start.ensures in
    record { inside = omega (arith, lent.inside); few = omega (arith, lent.few) }

pub lowest_in-requires : goal.lowest_in-requires
lowest_in-requires c =
    let lent = cabinet-lent _ _ c.requires c.if-yards-eq0.false _ c.lowest-y.ensures _ c.yards_start.ensures _ c.lowest_in-c.ensures in
    record { inside = omega (arith, lent.inside); few = omega (arith, lent.few) }

pub returns : goal.returns
returns c = search (rules, lowest-shown)
