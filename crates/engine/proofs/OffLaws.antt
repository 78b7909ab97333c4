-- Which change of the state the words of Off are: lane c × places + p goes off, as the model's rules say.
use Prim.Native.Nat.{ℕ, ◌+◌, ◌*◌, ◌<◌}
use mathlib.Core.Path.{◌≡◌, refl, ap, ◌∙◌}
use mathlib.Core.List.{List}
use Rattle.model.specs.State.{cabinet_count, Sizes, lane_count, State}
use Rattle.model.specs.Engine.{released, advanced_global, went_off}
use Rattle.model.specs.Rules.{off, with_engine, performed}
use Rattle.model.specs.Calls.{stored}
use Rattle.representation.proofs.WellFormed.{WellFormed}
use Rattle.representation.proofs.FromState.Standing.{fit}
use Rattle.lanes.specs.Record.{offline_record}
use Rattle.lanes.specs.declared.Place.{Place}
use Rattle.lanes.specs.RecordChanges.{changed_at}
use Rattle.lanes.specs.Cabinet.{stand}
use Rattle.lanes.proofs.CabinetLaws.{cabinet_at-lane}
use Rattle.changes.proofs.Shows.{Shows, shows_then, stored-then}
use Rattle.changes.proofs.Shape.{well_formed-shape}
use Rattle.changes.proofs.OfOwners.Owners.{all_lanes}
use Rattle.engine.specs.Release.{released_words}
use Rattle.engine.proofs.ReleaseLaws.{released-stored, shape-released}
use Rattle.engine.specs.Advance.{of_all, advanced_words}
use Rattle.engine.proofs.MaskLevels.{within-lanes}
use Rattle.engine.proofs.AdvanceLaws.{advanced-stored}
use Rattle.engine.specs.Off.{handed_words, off_words}
use Rattle.engine.proofs.OffSteps.{gone, left_words, left-stored, shape-left}

module _ (s : State) (m : List ℕ) (shows : Shows m s) (w : WellFormed s) (c p : ℕ) (in_cabinets : c < cabinet_count s.sizes) (in_places : p < s.sizes.places) where
  abbrev z : Sizes
  z = s.sizes

  abbrev l : Place
  l = stand z c p

  abbrev lane_number : ℕ
  lane_number = c * z.places + p

  lane-within : lane_number < lane_count s.sizes
  lane-within = within-lanes z c p in_cabinets in_places

  -- the global queues advance
  abbrev advanced_all : List ℕ → List ℕ
  advanced_all n = advanced_words n z of_all

  -- the steps, for the lane whose record begins at a
  abbrev steps_at : ℕ → List ℕ
  steps_at a = advanced_all (released_words (handed_words (changed_at m a offline_record) z a) z l)

  pub off-stored : off_words m z l ≡ stored (performed s (off lane_number)) m
  unfolding off_words performed went_off
  off-stored =
      let x = well_formed-shape s w in
      -- left
      let t = gone s x lane_number lane-within in
      let n = left_words s x lane_number lane-within m shows in
      let q = left-stored s x lane_number lane-within m shows in
      let y = shape-left s x lane_number lane-within m shows in
      -- released
      let u = with_engine t (released lane_number t.engine) in
      let k = released_words n z l in
      let r =
      released-stored t n (shows_then t m n shows.long q) y.lanes c p in_cabinets in_places (fit s w) in
      let v = stored-then t u m n k refl q r in
      ap steps_at (cabinet_at-lane s.sizes c p)
      ∙ stored-then u (with_engine u (advanced_global u.engine)) m k (advanced_all k) refl v
      (advanced-stored u k (shows_then u m k shows.long v) (shape-released t lane_number y) all_lanes tt)
