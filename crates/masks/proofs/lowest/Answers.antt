-- `masks::lowest`: the zeros below the lowest digit are the clear flags before the first set one.
use Rattle.masks.proofs.BitLaws.{trailing-first_true}
use Rattle.masks.proofs.lowest.Goals as goal

pub returns : goal.returns
returns c = trailing-first_true c.args.mask c.ranges.mask.fits
