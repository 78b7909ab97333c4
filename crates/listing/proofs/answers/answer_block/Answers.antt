use Rattle.std.proofs.Common.{rules}
use Rattle.listing.proofs.PlaceLaws.{goes_none, goes_then}
use Rattle.listing.proofs.answers.answer_block.Goals as goal

pub loop-out-init : goal.loop-out-init
loop-out-init g c = search (rules, goes_none)

pub loop-out-preserved : goal.loop-out-preserved
loop-out-preserved g c = search (rules, goes_then)
