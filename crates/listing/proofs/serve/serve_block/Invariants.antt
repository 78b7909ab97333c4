-- The loop's invariant: the block is answered up to the place, and the answers are written. The measure is what is left of it.
use Rattle.std.proofs.Common.{length}
use Rattle.listing.proofs.ServeLaws.{Serving}
use Rattle.listing.proofs.serve.serve_block.Given as goal

abbrev pub invariant-loop-out : goal.invariant-loop-out
invariant-loop-out g l =
    Serving l.initial.m l.block l.initial.place.unended (g.W.Write.contents l.initial.to) l.m (g.W.Write.contents l.to) l.place

abbrev pub decreases-loop-out : goal.decreases-loop-out
decreases-loop-out g l = length l.place.rest.now
