use Rattle.awaited.proofs.OwnerLengths.{lanes_start, lane-at, lanes_fit, lanes_on, lanes-done}
use borrow.Author.Rules.{rules}
use Rattle.awaited.proofs.lanes_length.Goals as goal

pub loop-lane-init : goal.loop-lane-init
loop-lane-init c = lanes_start _

pub owner_length-n-requires : goal.owner_length-n-requires
owner_length-n-requires c = search (rules, lane-at)

pub overflow_add-n : goal.overflow_add-n
overflow_add-n c = search (rules, lanes_fit)

pub loop-lane-preserved : goal.loop-lane-preserved
loop-lane-preserved c = search (rules, lanes_on)

pub returns : goal.returns
returns c = search (rules, lanes-done)
