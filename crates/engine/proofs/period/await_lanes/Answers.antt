-- One round sets the next mask.
use borrow.Author.Rules.{rules}
use Rattle.engine.proofs.PeriodWords.{one_more}
use Rattle.engine.proofs.period.await_lanes.Goals as goal

pub loop-c-preserved : goal.loop-c-preserved
loop-c-preserved c = search (rules, one_more)
