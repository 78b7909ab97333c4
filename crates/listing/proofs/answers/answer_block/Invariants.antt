-- The loop's invariant: the block is answered from the first place to this one. The measure is what is left of it.
use lib.ListN.{length}
use Rattle.listing.specs.ProgramContract.{Goes}
use Rattle.listing.proofs.answers.answer_block.Given as goal

abbrev pub invariant-loop-out : goal.invariant-loop-out
invariant-loop-out g l = Goes l.initial.m l.initial.out.items l.initial.at l.m l.out.items l.at

abbrev pub decreases-loop-out : goal.decreases-loop-out
decreases-loop-out g l = length l.at.rest.now
