-- What off does to the words of a memory with a table of sizes z: the lane l leaves. No legality is needed.
use Rattle.std.specs.Prelude.{ℕ, ◌+◌, List, set}
use Rattle.model.specs.State.{Sizes}
use Rattle.model.specs.Layout.{done_offset, current_offset, global_queues_at, queues_at, generation_at}
use Rattle.queues.specs.Queue.{joined}
use Rattle.lanes.specs.declared.Place.{Place}
use Rattle.lanes.specs.Record.{offline_record}
use Rattle.lanes.specs.RecordChanges.{changed_at}
use Rattle.engine.specs.Release.{released_words}
use Rattle.engine.specs.Advance.{of_all, advanced_words}

-- of the record from a on: its current queue, then its next, are appended to the global next queue, its done queue to the global done queue, and its
-- generation is at rest
unfoldable pub handed_words : List ℕ → Sizes → ℕ → List ℕ
handed_words m z a =
    let x = joined m z global_queues_at (a + queues_at + current_offset) in
    let y = joined x z global_queues_at (a + queues_at) in
    let v = joined y z (global_queues_at + done_offset) (a + queues_at + done_offset) in
    set v (a + generation_at) 0

-- the lane is marked off and hands its queues over, then it drops its snapshot and its bit, and the global queues advance
unfoldable pub off_words : List ℕ → Sizes → Place → List ℕ
off_words m z l = advanced_words (released_words (handed_words (changed_at m l.address offline_record) z l.address) z l) z of_all
