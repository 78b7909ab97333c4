-- The bit is what the lane's flags say of it.
use Rattle.access.proofs.FlagLaws.{flag-by}
use Rattle.access.proofs.Lane.has.Goals as goal

pub returns : goal.returns
returns c = flag-by _ _ c.requires _ _ c.is_set.ensures
