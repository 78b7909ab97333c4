-- The words that are lent are the model's.
use Rattle.std.proofs.lemmas.Result.{on_ok_weaker}
use Rattle.listing.specs.Output.{lent}
use Rattle.listing.proofs.ServeLaws.{listing-served}
use Rattle.listing.proofs.serve.serve.Goals as goal

pub returns : goal.returns
unfolding lent
returns g c = on_ok_weaker c.serve_all.result listing-served c.serve_all.ensures.served
