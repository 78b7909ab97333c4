-- The loop's invariant: a part of the input was read and served, from its start on.
use Rattle.listing.proofs.ServeLaws.{Reading}
use Rattle.listing.proofs.serve.serve_all.Given as goal

abbrev pub invariant-loop : goal.invariant-loop
invariant-loop g l =
    Reading l.initial.m (g.R.Read.remaining l.initial.from) (g.W.Write.contents l.initial.to) l.m (g.R.Read.remaining l.from) (g.W.Write.contents l.to)
    l.unended
