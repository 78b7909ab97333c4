-- The part is filled, and what stands before and after it stays.
use Rattle.std.proofs.Common.{arith, rules}
use Rattle.set_up.proofs.WrittenLaws.{filled}
use Rattle.set_up.proofs.fill.Goals as goal

pub returns : goal.returns
returns c = filled _ _ _ _ _ _ c.requires (omega arith) (c.fill.ensures.after (λ y k. search rules))
