-- The masks have few bits, and those that are set are the pending lanes.
use Rattle.awaited.proofs.Pending.{pending-few, pending-shown}
use borrow.Author.Rules.{rules}
use Rattle.awaited.proofs.pending_count.Goals as goal

pub sum-requires-clause-fits : goal.sum-requires-clause-fits
sum-requires-clause-fits c = let few = pending-few _ _ c.requires _ c.cabinet_count.ensures in search rules

pub returns : goal.returns
returns c = let shown = pending-shown _ _ c.requires _ c.cabinet_count.ensures in search rules
