-- What is done to the cabinet's part is done to the whole at the lane's address.
use Rattle.std.proofs.Common.{refl}
use Rattle.lanes.proofs.CabinetLaws.{lane-changed-by}
use Rattle.lanes.proofs.Place.change.Goals as goal

pub returns : goal.returns
returns g c = lane-changed-by c.args.m.now _ c.args.self c.requires.0 _ _ refl refl _ _ c.change_in.ensures
