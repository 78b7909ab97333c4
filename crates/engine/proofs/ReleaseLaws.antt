-- Which change of the state the words of Release are: lane c × places + p drops its snapshot and its bit.
use Prim.Native.Nat.{ℕ, ◌+◌, ◌*◌, ◌<◌}
use mathlib.Core.Bool.{Bool, true, false, not, cond, ◌&&◌}
use mathlib.Core.Path.{◌≡◌, refl, ap, ap₂, ◌∙◌}
use mathlib.Core.List.{List, ◌∷◌, ◌++◌}
use native.Mathlib.Omega.{arith}
use Rattle.model.specs.Lists.{concat, count}
use Rattle.model.specs.State.{cabinet_count, lane_count, unheld, Lane, Engine, State}
use Rattle.model.specs.Engine.{fresh_lane, lane_at, set_pending, with_lanes, at_lane, runs, ended, released}
use Rattle.model.specs.Rules.{with_engine, with_lane}
use Rattle.model.specs.Memory.{queues_of}
use Rattle.model.specs.Calls.{stored}
use Rattle.laws.specs.ListLaws.{get_or-update-same, update-update, length-update}
use Rattle.representation.proofs.Sentences.Facts.{SizesFit}
use Rattle.changes.proofs.Shows.{Shows, shows_then, stored-then}
use Rattle.changes.proofs.Shape.{LaneAtEach, Shape}
use Rattle.changes.proofs.OfLanes.EngineWords.{shape-engine}
use Rattle.lanes.specs.Record.{dropped_record}
use Rattle.lanes.specs.declared.Place.{Place}
use Rattle.lanes.specs.RecordChanges.{changed_at}
use Rattle.lanes.specs.Cabinet.{stand}
use Rattle.lanes.proofs.CabinetLaws.{cabinet_at-lane}
use Rattle.engine.proofs.MaskLevels.{within-lanes}
use Rattle.engine.proofs.PeriodLaws.{shape-ended}
use Rattle.engine.specs.Release.{passed_words, released_words}
use Rattle.changes.proofs.OfLanes.LaneRecords.{record-dropped}
use Rattle.engine.proofs.ReleaseBits.{unsampled, unawaited, queues-alike}
use Rattle.engine.proofs.ReleaseStores.{passed_engine, passed-stored}

-- ---- both

module _ (s : State) (m : List ℕ) (shows : Shows m s) (each : LaneAtEach s) (c p : ℕ) (in_cabinets : c < cabinet_count s.sizes) (in_places : p < s.sizes.places)
    (fit : SizesFit s.sizes) where
  abbrev lane_number : ℕ
  lane_number = c * s.sizes.places + p

  abbrev u : State
  u = with_lane s lane_number unsampled

  abbrev l : Place
  l = stand s.sizes c p

  abbrev dropped : List ℕ
  dropped = changed_at m l.address dropped_record

  lane-within : lane_number < lane_count s.sizes
  lane-within = within-lanes s.sizes c p in_cabinets in_places

  first-stored : dropped ≡ stored u m
  first-stored = ap (λ (a : ℕ). changed_at m a dropped_record) (cabinet_at-lane s.sizes c p) ∙ record-dropped s m shows lane_number lane-within each

  each-u : LaneAtEach u
  each-u = length-update s.engine.lanes lane_number unsampled ∙ each

  same_bit : (lane_at u.engine lane_number).pending ≡ (lane_at s.engine lane_number).pending
  same_bit = ap (λ (l : Lane). l.pending) (get_or-update-same fresh_lane s.engine.lanes lane_number unsampled (omega (arith, each, lane-within)))

  pub released-stored : released_words m s.sizes l ≡ stored (with_engine s (released lane_number s.engine)) m
  unfolding released_words released
  released-stored =
      stored-then u (with_engine u (passed_engine u dropped
      (shows_then u m dropped shows.long first-stored) each-u c p in_cabinets in_places fit
      (lane_at u.engine lane_number).pending)) m dropped (passed_words dropped s.sizes l) refl first-stored
      (passed-stored u dropped (shows_then u m dropped shows.long first-stored) each-u c p in_cabinets in_places fit)
      ∙ ap₂ (λ (b : Bool) (x : List Lane). stored
      (with_engine s (cond (b && not (runs (with_lanes x s.engine))) (ended (with_lanes x s.engine)) (with_lanes x s.engine))) m) same_bit
      (update-update s.engine.lanes lane_number unsampled unawaited)

-- ---- the shape stays

module _ (s : State) (i : ℕ) (w : Shape s) where
  abbrev without : Engine
  without = at_lane i (set_pending false unheld) s.engine

  shape-without : Shape (with_engine s without)
  shape-without =
      shape-engine s without w (length-update s.engine.lanes i (set_pending false unheld))
      (λ x. ap (λ (r : List (List ℕ)). count x (concat (s.table.free ∷ queues_of s.engine.global ++ r))) (queues-alike (set_pending false unheld) (λ l. refl) s.engine.lanes i))

  shape-over : (b : Bool) → Shape (with_engine s (cond b (ended without) without))
  shape-over true = shape-ended (with_engine s without) shape-without
  shape-over false = shape-without

  pub shape-released : Shape (with_engine s (released i s.engine))
  unfolding released
  shape-released = shape-over ((lane_at s.engine i).pending && not (runs without))
