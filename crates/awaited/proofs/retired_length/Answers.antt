-- The global queues and those of the lanes.
use Rattle.awaited.proofs.OwnerLengths.{global-at, retired-fits, retired-shown}
use borrow.Author.Rules.{rules}
use Rattle.awaited.proofs.retired_length.Goals as goal

pub owner_length-requires : goal.owner_length-requires
owner_length-requires c = search (rules, global-at)

pub overflow_add-result : goal.overflow_add-result
overflow_add-result c = search (rules, retired-fits)

pub returns : goal.returns
returns c = search (rules, retired-shown)
