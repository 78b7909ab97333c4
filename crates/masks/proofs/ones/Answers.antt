-- `masks::ones`: the machine counts the digits, which are the flags.
use Rattle.masks.proofs.BitLaws.{ones-trues}
use Rattle.masks.proofs.ones.Goals as goal

pub returns : goal.returns
returns c = ones-trues c.args.mask c.ranges.mask.fits
