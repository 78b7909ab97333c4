-- A lane's record as the code holds it, and its words, after which a lane may have others (document 01, "The memory", Lanes, and "Generations and passes").
use Rattle.std.specs.Prelude.{ℕ, ◌+◌, Bool, true, not, ◌&&◌, List, [], ◌∷◌, ◌++◌, ◌==◌}
use Rattle.std.proofs.lemmas.List.Edits.{sets}
use Rattle.model.specs.Word.{up_to}
use Rattle.model.specs.Lists.{update}
use Rattle.model.specs.State.{Lane}
use Rattle.model.specs.Layout.{count_limit, last_offset, length_offset, current_offset, done_offset, quiescent_at, snapshot_at}
use Rattle.model.specs.Layout.{generation_at, queues_at, lookup_at, online_bit, snapshot_bit}
use Rattle.model.specs.Memory.{at, flag, count_words, read_counts, lane_words}
use Rattle.masks.specs.Bits.{with_bit, without_bit}
use Rattle.lanes.specs.declared.Queue.{Queue}
use Rattle.lanes.specs.declared.Lookup.{Lookup}
use Rattle.lanes.specs.declared.LaneRecord.{LaneRecord}

-- ---- the record in its words

-- a queue's words from a on
abbrev pub queue_at : List ℕ → ℕ → Queue
queue_at m a = record { first = at m a; last = at m (a + last_offset); length = at m (a + length_offset) }

abbrev pub queue_words : Queue → List ℕ
queue_words e = e.first ∷ e.last ∷ e.length ∷ []

-- a lookup from a on, and its words
abbrev pub lookup_width : ℕ
lookup_width = 3

-- the words of a record: those of a lane up to its lookup's
abbrev pub record_length : ℕ
record_length = lookup_at + lookup_width

abbrev pub lookup_words_at : List ℕ → ℕ → Lookup
lookup_words_at m a = record { low = at m a; high = at m (a + 1); position = at m (a + 2) }

abbrev pub lookup_words : Lookup → List ℕ
lookup_words l = l.low ∷ l.high ∷ l.position ∷ []

-- a record of these parts, whose flags and generation stand in m from a on
abbrev pub record_with : List ℕ → ℕ → List ℕ → List ℕ → Queue → Queue → Queue → Lookup → LaneRecord
record_with m a q s n c d l =
    record {
      flags = at m a;
      quiescent = q;
      snapshot = s;
      generation = at m (a + generation_at);
      next = n;
      current = c;
      done = d;
      lookup = l;
    }

-- the record that stands in m from a on
unfoldable pub record_at : List ℕ → ℕ → LaneRecord
record_at m a =
    record_with m a (read_counts m (a + quiescent_at)) (read_counts m (a + snapshot_at)) (queue_at m (a + queues_at)) (queue_at m (a + queues_at + current_offset))
    (queue_at m (a + queues_at + done_offset))
    (lookup_words_at m (a + lookup_at))

-- its words
unfoldable pub record_words : LaneRecord → List ℕ
record_words r =
    r.flags
    ∷ count_words (at r.quiescent)
    ++ count_words (at r.snapshot)
    ++ r.generation
    ∷ r.next.first ∷ r.next.last ∷ r.next.length
    ∷ r.current.first ∷ r.current.last ∷ r.current.length
    ∷ r.done.first ∷ r.done.last ∷ r.done.length
    ∷ lookup_words r.lookup

-- m with the words of r from a on; all other words stay
abbrev pub record_stored : List ℕ → ℕ → LaneRecord → List ℕ
record_stored m a r = sets m a (record_words r)

-- the record of a lane
abbrev pub record_of : Lane → LaneRecord
record_of l = record_at (lane_words l) 0

-- ---- what the rules do to a record

-- the record with other quiescent counts
abbrev pub with_quiescent : List ℕ → LaneRecord → LaneRecord
with_quiescent c r =
    record {
      flags = r.flags;
      quiescent = c;
      snapshot = r.snapshot;
      generation = r.generation;
      next = r.next;
      current = r.current;
      done = r.done;
      lookup = r.lookup;
    }

-- the record with other flags and snapshot counts
abbrev pub with_snapshot : ℕ → List ℕ → LaneRecord → LaneRecord
with_snapshot w c r =
    record {
      flags = w;
      quiescent = r.quiescent;
      snapshot = c;
      generation = r.generation;
      next = r.next;
      current = r.current;
      done = r.done;
      lookup = r.lookup;
    }

-- a quiescent state of kind k: that count goes up and wraps
unfoldable pub counted_record : LaneRecord → ℕ → LaneRecord
counted_record r k = with_quiescent (update r.quiescent k (up_to count_limit)) r

-- the counts are copied
unfoldable pub sampled_record : LaneRecord → LaneRecord
sampled_record r = with_snapshot (with_bit snapshot_bit r.flags) r.quiescent r

-- the snapshot is dropped, and its words are at rest
unfoldable pub dropped_record : LaneRecord → LaneRecord
dropped_record r = with_snapshot (without_bit snapshot_bit r.flags) (0 ∷ 0 ∷ 0 ∷ 0 ∷ []) r

-- the lane is off
unfoldable pub offline_record : LaneRecord → LaneRecord
offline_record r = with_snapshot (without_bit online_bit r.flags) r.snapshot r

-- ---- what the rules ask of a record

-- four counts are these others
abbrev pub same_counts : List ℕ → List ℕ → Bool
same_counts a b = at a 0 == at b 0 && (at a 1 == at b 1 && (at a 2 == at b 2 && (at a 3 == at b 3 && true)))

-- it holds a snapshot
abbrev pub is_holding : LaneRecord → Bool
is_holding r = flag snapshot_bit r.flags

-- it holds a snapshot, and some count differs from it
abbrev pub moved_on : LaneRecord → Bool
moved_on r = is_holding r && not (same_counts r.quiescent r.snapshot)
