-- A lane's record, read where it stands, is the record of the lane; changed and written back, it is that of the lane that the rules change so.
use Prim.Native.Nat.{ℕ, zero, suc, ◌+◌, ◌≤◌, ◌<◌}
use mathlib.Core.Bool.{false}
use mathlib.Core.Path.{◌≡◌, refl, ap, ap₂, sym, ◌∙◌}
use mathlib.Core.List.{List, ◌∷◌}
use native.Mathlib.Omega.{arith}
use lib.ListN.{length}
use lib.Seq.{sets}
use Rattle.model.specs.Lists.{from}
use Rattle.model.specs.State.{Sizes, lane_count, Snapshot, unheld, held, Lane, State}
use Rattle.model.specs.Layout.{kinds, lane_length, lane_address}
use Rattle.model.specs.Engine.{lane_at, set_pending, set_online, counted}
use Rattle.model.specs.Rules.{with_lane}
use Rattle.model.specs.Memory.{at, lane_words, lane_queues}
use Rattle.model.specs.Calls.{stored}
use Rattle.laws.specs.ListLaws.{length-map-from}
use Rattle.representation.proofs.Addresses.Fields.{lane}
use Rattle.lanes.specs.declared.LaneRecord.{LaneRecord}
use Rattle.lanes.specs.Record.{record_at, record_words, record_stored, record_of, record_length, counted_record, sampled_record, dropped_record, offline_record}
use Rattle.lanes.specs.RecordChanges.{changed_at}
use Rattle.lanes.proofs.RecordLaws.{words_at, record_at-lane, record_words-record_of, record_of-counted, record_of-sampled, record_of-dropped, record_of-offline}
use Rattle.changes.proofs.Shows.{Shows}
use Rattle.changes.proofs.Shape.{LaneAtEach}
use Rattle.changes.proofs.OfLanes.LaneWords.{lane-record}

-- the lane holds this snapshot, and keeps its bit
abbrev pub holding : Snapshot → Lane → Lane
holding x k = set_pending k.pending x k

module _ (s : State) (m : List ℕ) (shows : Shows m s) (i : ℕ) (within : i < lane_count s.sizes) where
  abbrev z : Sizes
  z = s.sizes

  abbrev a : ℕ
  a = lane_address z i

  abbrev l : Lane
  l = lane_at s.engine i

  -- n words from word k of the record on
  words-shown : (n k : ℕ) → k + n ≤ lane_length → words_at m (a + k) n ≡ words_at (lane_words l) k n
  unfolding from
  words-shown zero k b = refl
  words-shown (suc n) k b =
      let e : suc (a + k) ≡ a + suc k = omega arith in
      ap₂ ◌∷◌ (shows.image (lane i k) (within, omega arith)) (ap (λ (x : ℕ). words_at m x n) e ∙ words-shown n (suc k) (omega arith))

  pub record-shown : record_at m a ≡ record_of l
  record-shown =
      let e : a ≡ a + 0 = omega arith in
      record_at-lane m a l (ap (λ (x : ℕ). words_at m x record_length) e ∙ words-shown record_length 0 (omega arith))

  module _ (lanes : LaneAtEach s) where
    -- a change that makes the record of the lane changed by g
    record-changed : (x : LaneRecord → LaneRecord) (g : Lane → Lane) → (g l).pending ≡ l.pending → lane_queues (g l) ≡ lane_queues l
        → record_of (g l) ≡ x (record_of l) → lane_words (g l) ≡ sets (lane_words l) 0 (words_at (lane_words (g l)) 0 record_length)
        → changed_at m a x ≡ stored (with_lane s i g) m
    record-changed x g p q e d =
        ap (λ (r : LaneRecord). record_stored m a (x r)) record-shown
        ∙ ap (sets m a) (ap record_words (sym e) ∙ record_words-record_of (g l))
        ∙ lane-record s m shows lanes i within g p q (words_at (lane_words (g l)) 0 record_length)
        (omega (arith, length-map-from (at (lane_words (g l))) 0 record_length)) d

    pub record-passed : (k : ℕ) → length l.quiescent ≡ kinds → changed_at m a (λ (r : LaneRecord). counted_record r k) ≡ stored (with_lane s i (counted k)) m
    unfolding lane_words counted from
    record-passed k four = record-changed (λ (r : LaneRecord). counted_record r k) (counted k) refl refl (record_of-counted l k four) refl

    pub record-sampled : changed_at m a sampled_record ≡ stored (with_lane s i (holding (held l.quiescent))) m
    unfolding lane_words from
    record-sampled = record-changed sampled_record (holding (held l.quiescent)) refl refl (record_of-sampled l l.pending) refl

    pub record-dropped : changed_at m a dropped_record ≡ stored (with_lane s i (holding unheld)) m
    unfolding lane_words from
    record-dropped = record-changed dropped_record (holding unheld) refl refl (record_of-dropped l l.pending) refl

    pub record-offline : changed_at m a offline_record ≡ stored (with_lane s i (set_online false)) m
    unfolding lane_words from
    record-offline = record-changed offline_record (set_online false) refl refl (record_of-offline l) refl
