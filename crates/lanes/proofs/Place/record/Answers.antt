-- The record is read from the cabinet's part, which is that of the whole at the lane's address.
use Rattle.lanes.proofs.CabinetLaws.{lane-record-by}
use Rattle.std.proofs.Common.{rules}
use Rattle.lanes.proofs.Place.record.Goals as goal

pub returns : goal.returns
returns c = search (rules, lane-record-by)
