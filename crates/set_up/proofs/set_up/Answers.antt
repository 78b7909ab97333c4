-- The causes are tested in their order, and a law for each way out says what it answers and leaves.
use Rattle.words.specs.Lent.{sizes_of}
use Rattle.set_up.proofs.SetUpLaws.{out_of_range, too_short, written}
use Rattle.set_up.proofs.set_up.Goals as goal

pub returns-in_default : goal.returns-in_default
returns-in_default c = out_of_range _ _ c.in_default.ensures

pub returns-then-m-total : goal.returns-then-m-total
returns-then-m-total c = too_short _ _ (sizes_of c.in-Ok.z) _ c.in-Ok.ensures c.bodies-total.ensures.total c.if-m-total.true

pub returns : goal.returns
returns c = written _ _ (sizes_of c.in-Ok.z) _ c.in-Ok.ensures c.bodies-total.ensures.total c.if-m-total.false _ c.write_fresh.ensures
