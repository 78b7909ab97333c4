-- The stores and those of the functions called are the record's words in their order.
use Rattle.lanes.proofs.RecordLaws.{record_stored-parts}
use Rattle.lanes.proofs.LaneRecord.write.Goals as goal

pub returns : goal.returns
returns c =
    record_stored-parts c.args.m.now c.args.at c.args.self _ _ _ _ _ _ c.write_counts.ensures c.write_counts-2.ensures
    c.write.ensures c.write-2.ensures c.write-3.ensures c.write-4.ensures
