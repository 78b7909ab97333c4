-- Which change of the state copy is: `sample_words` is the model's `sampled`.
use Prim.Native.Nat.{ℕ, ◌+◌, ◌*◌, ◌<◌}
use mathlib.Core.Bool.{Bool, true, false, not, cond, ◌&&◌}
use mathlib.Core.Path.{◌≡◌, refl, ap, ap₂, sym, ◌∙◌}
use mathlib.Core.List.{List}
use Rattle.model.specs.State.{cabinet_count, Sizes, lane_count, held, is_held, Lane, State}
use Rattle.model.specs.Layout.{masks_at, lane_address}
use Rattle.model.specs.Engine.{fresh_lane, lane_at, set_pending, with_lanes, sampled}
use Rattle.model.specs.Rules.{with_engine, with_lane}
use Rattle.model.specs.Memory.{at, flag, lane_queues, lane_bit}
use Rattle.model.specs.Calls.{stored}
use Rattle.laws.specs.Tests.{and-true}
use Rattle.representation.proofs.Addresses.Fields.{mask}
use Rattle.laws.specs.Updates.{update_same, update_alike}
use Rattle.representation.proofs.FromState.Periods.{flag-group}
use Rattle.changes.proofs.Shows.{Shows, stored-shown}
use Rattle.changes.proofs.Shape.{LaneAtEach, Shape}
use Rattle.changes.proofs.OfLanes.OneLane.{shape-lane}
use Rattle.changes.proofs.OfLanes.LaneRecords.{holding, record-sampled}
use Rattle.lanes.specs.Record.{sampled_record}
use Rattle.lanes.specs.Record.{record_at, is_holding}
use Rattle.lanes.specs.RecordChanges.{changed_at}
use Rattle.lanes.specs.Cabinet.{stand}
use Rattle.lanes.proofs.CabinetLaws.{cabinet_at-lane}
use Rattle.engine.specs.Clock.{sample_words}
use Rattle.engine.proofs.MaskLevels.{within-lanes}
use Rattle.engine.proofs.CompareLaws.{held-shown}

module _ (s : State) (m : List ℕ) (shows : Shows m s) (i : ℕ) (h : i < lane_count s.sizes) where
  abbrev l : Lane
  l = lane_at s.engine i

  abbrev a : ℕ
  a = lane_address s.sizes i

  abbrev unsampled : Bool
  unsampled = l.pending && not (is_held l.snapshot)

  -- the lane's words are copied by this test, or stay
  copied-by : LaneAtEach s → (b : Bool) → unsampled ≡ b → cond b (changed_at m a sampled_record) m ≡ stored (with_lane s i sampled) m
  unfolding sampled
  copied-by each true e =
      record-sampled s m shows i h each
      ∙ ap (λ (ls : List Lane). stored (with_engine s (with_lanes ls s.engine)) m)
      (update_alike fresh_lane s.engine.lanes i (holding (held l.quiescent)) sampled
      (ap (λ (b : Bool). set_pending b (held l.quiescent) l) (and-true l.pending (not (is_held l.snapshot)) e).0
      ∙ sym (ap (λ (d : Bool). cond d (set_pending true (held l.quiescent) l) l) e)))
  copied-by each false e =
      sym (stored-shown s m shows)
      ∙ ap (λ (ls : List Lane). stored (with_engine s (with_lanes ls s.engine)) m)
      (sym (update_same fresh_lane s.engine.lanes i sampled (ap (λ (d : Bool). cond d (set_pending true (held l.quiescent) l) l) e)))

module _ (s : State) (m : List ℕ) (shows : Shows m s) (each : LaneAtEach s) (c p : ℕ) (in_cabinets : c < cabinet_count s.sizes)
    (in_places : p < s.sizes.places) where
  abbrev z : Sizes
  z = s.sizes

  abbrev i : ℕ
  i = c * z.places + p

  within : i < lane_count z
  within = within-lanes z c p in_cabinets in_places

  pub sample-stored : sample_words m (stand z c p) ≡ stored (with_lane s i sampled) m
  unfolding sample_words record_at
  sample-stored =
      ap (λ (x : ℕ). cond (flag p (at m (masks_at + c)) && not (is_holding (record_at m x))) (changed_at m x sampled_record) m) (cabinet_at-lane z c p)
      ∙ ap₂ (λ (b d : Bool). cond (b && not d) (changed_at m (lane_address z i) sampled_record) m)
      (ap (flag p) (shows.image (mask c) in_cabinets) ∙ flag-group z.places (lane_bit s) c p in_places)
      (held-shown s m shows i within)
      ∙ copied-by s m shows i within each (unsampled s m shows i within) refl

-- ---- the shape stays

sampled-kept : (l : Lane) (b : Bool) → (l.pending && not (is_held l.snapshot)) ≡ b
    → ((cond b (set_pending true (held l.quiescent) l) l).pending ≡ l.pending)
    × (lane_queues (cond b (set_pending true (held l.quiescent) l) l) ≡ lane_queues l)
sampled-kept l true e = (sym (and-true l.pending (not (is_held l.snapshot)) e).0, refl)
sampled-kept l false e = (refl, refl)

pub shape-sampled : (s : State) (i : ℕ) → Shape s → Shape (with_lane s i sampled)
unfolding sampled
shape-sampled s i w =
    let l = lane_at s.engine i in
    let (pending, queues) = sampled-kept l (l.pending && not (is_held l.snapshot)) refl in
    shape-lane s i sampled pending queues w
