-- The steps of the clock of lane c × places + p, each as a change of the state.
use Prim.Native.Nat.{ℕ, ◌+◌, ◌*◌, ◌<◌}
use mathlib.Core.Bool.{Bool, true, false, cond}
use mathlib.Core.Path.{◌≡◌, refl, ap, sym, ◌∙◌}
use mathlib.Core.List.{List}
use Rattle.model.specs.State.{cabinet_count, Sizes, lane_count, Engine, State}
use Rattle.model.specs.Layout.{generation_at, queues_at}
use Rattle.model.specs.Engine.{lane_at, released, advanced_lane, advanced_global, quiesced, sampled, clocked}
use Rattle.model.specs.Rules.{clock, with_engine, with_lane, performed}
use Rattle.model.specs.Calls.{stored}
use Rattle.representation.proofs.FromState.Standing.{fit}
use Rattle.representation.proofs.WellFormed.{WellFormed}
use Rattle.changes.proofs.Shows.{Shows, stored-shown, shows_then, stored-then}
use Rattle.changes.proofs.Shape.{Shape, well_formed-shape}
use Rattle.changes.proofs.OfOwners.Owners.{all_lanes, one_lane}
use Rattle.lanes.specs.declared.Place.{Place}
use Rattle.lanes.specs.Cabinet.{stand}
use Rattle.lanes.proofs.CabinetLaws.{cabinet_at-lane}
use Rattle.engine.specs.Release.{released_words}
use Rattle.engine.proofs.ReleaseLaws.{released-stored, shape-released}
use Rattle.engine.specs.Advance.{of_lane, of_all, advanced_words}
use Rattle.engine.proofs.AdvanceSteps.{shape-advanced}
use Rattle.engine.proofs.AdvanceLaws.{advanced-stored}
use Rattle.lanes.specs.Record.{record_at, moved_on}
use Rattle.engine.proofs.CompareLaws.{moved-quiesced}
use Rattle.engine.proofs.MaskLevels.{within-lanes}
use Rattle.engine.proofs.SampleLaws.{sample-stored, shape-sampled}
use Rattle.engine.specs.Clock.{compared_words, sample_words, clock_words}

module _ (s : State) (m : List ℕ) (shows : Shows m s) (w : WellFormed s) (c p : ℕ) (in_cabinets : c < cabinet_count s.sizes) (in_places : p < s.sizes.places) where
  abbrev z : Sizes
  z = s.sizes

  abbrev k : ℕ
  k = c * z.places + p

  abbrev l : Place
  l = stand z c p

  shape : Shape s
  shape = well_formed-shape s w

  known : k < lane_count z
  known = within-lanes z c p in_cabinets in_places

  -- ---- compare

  abbrev compared_by : Bool → Engine
  compared_by b = cond b (released k s.engine) s.engine

  abbrev e₁ : Engine
  e₁ = compared_by (quiesced (lane_at s.engine k))

  abbrev m₁ : List ℕ
  m₁ = compared_words m z l

  step₁ : m₁ ≡ stored (with_engine s e₁) m
  unfolding compared_words
  step₁ =
      ap (λ (d : Bool). cond d (released_words m z l) m)
      (ap (λ (a : ℕ). moved_on (record_at m a)) (cabinet_at-lane z c p) ∙ moved-quiesced s m shows k known (w.fits k))
      ∙ go (quiesced (lane_at s.engine k))
    where
      go : (b : Bool) → cond b (released_words m z l) m ≡ stored (with_engine s (compared_by b)) m
      go true = released-stored s m shows w.lanes c p in_cabinets in_places (fit s w)
      go false = sym (stored-shown s m shows)

  shape₁ : Shape (with_engine s e₁)
  shape₁ = go (quiesced (lane_at s.engine k))
    where
      go : (b : Bool) → Shape (with_engine s (compared_by b))
      go true = shape-released s k shape
      go false = shape

  -- ---- advance the lane

  abbrev e₂ : Engine
  e₂ = advanced_lane k e₁

  abbrev m₂ : List ℕ
  m₂ = advanced_words m₁ z (of_lane l)

  step₂ : m₂ ≡ stored (with_engine s e₂) m
  step₂ =
      stored-then (with_engine s e₁) (with_engine s e₂) m m₁ m₂ refl step₁
      (ap (λ (a : ℕ). advanced_words m₁ z (record { ends = a + queues_at; generation = a + generation_at })) (cabinet_at-lane z c p)
      ∙ advanced-stored (with_engine s e₁) m₁ (shows_then (with_engine s e₁) m m₁ shows.long step₁) shape₁ (one_lane k) known)

  shape₂ : Shape (with_engine s e₂)
  shape₂ = shape-advanced (with_engine s e₁) shape₁ (one_lane k) known

  -- ---- advance the global queues

  abbrev e₃ : Engine
  e₃ = advanced_global e₂

  abbrev m₃ : List ℕ
  m₃ = advanced_words m₂ z of_all

  step₃ : m₃ ≡ stored (with_engine s e₃) m
  step₃ =
      stored-then (with_engine s e₂) (with_engine s e₃) m m₂ m₃ refl step₂
      (advanced-stored (with_engine s e₂) m₂ (shows_then (with_engine s e₂) m m₂ shows.long step₂) shape₂ all_lanes tt)

  shape₃ : Shape (with_engine s e₃)
  shape₃ = shape-advanced (with_engine s e₂) shape₂ all_lanes tt

  -- ---- copy

  pub clock-steps : clock_words m z l ≡ stored (performed s (clock k)) m
  unfolding clock_words performed clocked
  clock-steps =
      stored-then (with_engine s e₃) (with_lane (with_engine s e₃) k sampled) m m₃ (sample_words m₃ l) refl step₃
      (sample-stored (with_engine s e₃) m₃ (shows_then (with_engine s e₃) m m₃ shows.long step₃) shape₃.lanes c p in_cabinets in_places)

  pub shape-clock : Shape (performed s (clock k))
  unfolding performed clocked
  shape-clock = shape-sampled (with_engine s e₃) k shape₃
