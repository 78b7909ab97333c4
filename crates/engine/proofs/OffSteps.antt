-- The first steps of off on the state: lane i is marked off, and hands its queues over.
use Prim.Native.Nat.{ℕ, ◌+◌, ◌<◌}
use mathlib.Core.Bool.{false}
use mathlib.Core.Path.{◌≡◌, refl, ap, ap₂, sym, ◌∙◌}
use mathlib.Core.List.{List}
use native.Mathlib.Omega.{arith}
use lib.ListN.{set}
use Rattle.model.specs.Lists.{update}
use Rattle.model.specs.State.{Sizes, lane_count, Queues, Lane, State}
use Rattle.model.specs.Layout.{generation_at, lane_address}
use Rattle.model.specs.Engine.{fresh_lane, lane_at, set_online, with_lanes, with_global, at_lane, taken, emptied}
use Rattle.model.specs.Rules.{with_engine, with_lane}
use Rattle.model.specs.Calls.{stored}
use Rattle.laws.specs.ListLaws.{get_or-update-same, update-update}
use Rattle.lanes.specs.Record.{offline_record}
use Rattle.lanes.specs.RecordChanges.{changed_at}
use Rattle.changes.proofs.Shows.{Shows, shows_then, stored-then}
use Rattle.changes.proofs.Shape.{Shape}
use Rattle.changes.proofs.OfLanes.EngineWords.{at_generation}
use Rattle.changes.proofs.OfLanes.LaneWords.{lane-generation}
use Rattle.changes.proofs.OfLanes.LaneRecords.{record-offline}
use Rattle.changes.proofs.OfLanes.OneLane.{shape-lane}
use Rattle.changes.proofs.OfOwners.HandOver.{unqueued, handed_over, handed_over_words, hand-over, shape-hand-over}
use Rattle.engine.specs.Off.{handed_words}

-- ---- mark off

module _ (s : State) (m : List ℕ) (shows : Shows m s) (w : Shape s) (i : ℕ) (within : i < lane_count s.sizes) where
  abbrev z : Sizes
  z = s.sizes

  abbrev a : ℕ
  a = lane_address z i

  abbrev marked : State
  marked = with_lane s i (set_online false)

  marked-stored : changed_at m a offline_record ≡ stored marked m
  marked-stored = record-offline s m shows i within w.lanes

  shape-marked : Shape marked
  shape-marked = shape-lane s i (set_online false) refl refl w

-- ---- hand over

module _ (s : State) (m : List ℕ) (shows : Shows m s) (w : Shape s) (i : ℕ) (within : i < lane_count s.sizes) where
  abbrev handed : State
  handed = with_lane (handed_over i s) i (at_generation 0)

  handed-stored : handed_words m s.sizes (lane_address s.sizes i) ≡ stored handed m
  unfolding handed_words
  handed-stored =
      let u = handed_over i s in
      let n = handed_over_words s.sizes m i in
      let p = hand-over s i m shows w within in
      stored-then u handed m n (set n (lane_address s.sizes i + generation_at) 0) refl p
      (lane-generation u n (shows_then u m n shows.long p) (shape-hand-over s i m shows w within).lanes i within 0)

  shape-handed : Shape handed
  shape-handed = shape-lane (handed_over i s) i (at_generation 0) refl refl (shape-hand-over s i m shows w within)

-- ---- a lane leaves: both

module _ (s : State) (w : Shape s) (i : ℕ) (within : i < lane_count s.sizes) where
  -- the lane is off, and its queues are in the global ones
  abbrev pub gone : State
  gone = with_engine s (at_lane i emptied (with_global (taken s.engine.global (lane_at s.engine i).queues) s.engine))

  abbrev left : State
  left = with_lane (handed_over i (with_lane s i (set_online false))) i (at_generation 0)

  left-gone : left ≡ gone
  left-gone =
      ap₂ (λ (ls : List Lane) (q : Queues). with_engine s (with_lanes ls (with_global (taken s.engine.global q) s.engine))) lanes
      (ap (λ (l : Lane). l.queues) (get_or-update-same fresh_lane s.engine.lanes i (set_online false) (omega (arith, w.lanes))))
    where
      lanes : update (update (update s.engine.lanes i (set_online false)) i unqueued) i (at_generation 0) ≡ update s.engine.lanes i emptied
      lanes =
          ap (λ (ls : List Lane). update ls i (at_generation 0)) (update-update s.engine.lanes i (set_online false) unqueued)
          ∙ update-update s.engine.lanes i (λ (l : Lane). unqueued (set_online false l)) (at_generation 0)

  module _ (m : List ℕ) (shows : Shows m s) where
    abbrev pub left_words : List ℕ
    left_words = handed_words (changed_at m (lane_address s.sizes i) offline_record) s.sizes (lane_address s.sizes i)

    marked-shows : Shows (changed_at m (lane_address s.sizes i) offline_record) (with_lane s i (set_online false))
    marked-shows =
        shows_then (with_lane s i (set_online false)) m (changed_at m (lane_address s.sizes i) offline_record) shows.long (marked-stored s m shows w i within)

    pub left-stored : left_words ≡ stored gone m
    left-stored =
        let t = with_lane s i (set_online false) in
        let n = changed_at m (lane_address s.sizes i) offline_record in
        stored-then t left m n left_words refl (marked-stored s m shows w i within) (handed-stored t n marked-shows (shape-marked s m shows w i within) i within)
        ∙ ap (λ (u : State). stored u m) left-gone

    pub shape-left : Shape gone
    shape-left =
        rw (sym left-gone)
        (shape-handed (with_lane s i (set_online false)) (changed_at m (lane_address s.sizes i) offline_record) marked-shows (shape-marked s m shows w i within) i within)
