-- The global queue where the lane's is empty, else the lane's.
use Rattle.updates.proofs.HandBacks.{lane-empty, lane-some}
use borrow.Author.Rules.{rules}
use Rattle.updates.proofs.done_queue.Goals as goal

pub returns-then-is_empty : goal.returns-then-is_empty
returns-then-is_empty c = search (rules, lane-empty)

pub returns-else-is_empty : goal.returns-else-is_empty
returns-else-is_empty c = search (rules, lane-some)
