-- The clock of a lane that no cause refuses: the words after it are those of the state after the call, and its answer is read from them.
use Prim.Native.Nat.{ℕ, ◌+◌, ◌*◌, ◌<◌}
use mathlib.Core.Bool.{Bool, cond}
use mathlib.Core.Path.{◌≡◌, ap, ap₂, sym, ◌∙◌}
use mathlib.Core.List.{List}
use lib.Dec.{eqb}
use Rattle.model.specs.State.{cabinet_count, Sizes, State}
use Rattle.model.specs.Layout.{current_generation_at, largest_generation_at, yard_mask_at}
use Rattle.model.specs.Engine.{runs, clock_moves}
use Rattle.model.specs.Rules.{clock, accepted, clock_answer, performed, result}
use Rattle.model.specs.Memory.{at}
use Rattle.model.specs.Calls.{stored}
use Rattle.representation.proofs.FromState.Periods.{yard_mask-runs}
use Rattle.representation.proofs.WellFormed.{WellFormed}
use Rattle.changes.proofs.Shows.{Shows, shows_then}
use Rattle.changes.proofs.Shape.{Shape, LaneAtEach}
use Rattle.lanes.specs.Cabinet.{stand}
use Rattle.engine.proofs.PeriodLaws.{turned, current-shown, largest-shown, mask-shown}
use Rattle.engine.specs.Clock.{clock_words}
use Rattle.engine.proofs.ClockSteps.{clock-steps, shape-clock}

-- what the clock answers of a state, n being the slots that it moved, read from the words that show it
answer-shown : (s : State) (m : List ℕ) (n : ℕ) → Shows m s → LaneAtEach s
    → accepted (at m current_generation_at) (at m largest_generation_at) (cond (eqb (at m yard_mask_at) 0) 0 1) n ≡ clock_answer s.engine n
answer-shown s m n shows each =
    ap₂ (λ (x y : ℕ). accepted x y (cond (eqb (at m yard_mask_at) 0) 0 1) n) (current-shown s m shows) (largest-shown s m shows)
    ∙ ap (λ (b : Bool). accepted s.engine.current s.engine.largest (cond b 0 1) n) (ap (λ (x : ℕ). eqb x 0) (mask-shown s m shows) ∙ yard_mask-runs s each)
    ∙ ap (λ (x : ℕ). accepted s.engine.current s.engine.largest x n) (turned (runs s.engine) 0 1)

module _ (s : State) (m : List ℕ) (shows : Shows m s) (w : WellFormed s) (c p : ℕ) (in_cabinets : c < cabinet_count s.sizes) (in_places : p < s.sizes.places) where
  abbrev z : Sizes
  z = s.sizes

  module _ (i : ℕ) (e : i ≡ c * z.places + p) where
    pub clock-stored : clock_words m z (stand z c p) ≡ stored (performed s (clock i)) m
    clock-stored = clock-steps s m shows w c p in_cabinets in_places ∙ ap (λ (j : ℕ). stored (performed s (clock j)) m) (sym e)

    -- the answer, from the words n after the call and the slots that it moved
    pub clock-answer : (n : List ℕ) → n ≡ stored (performed s (clock i)) m
        → accepted (at n current_generation_at) (at n largest_generation_at) (cond (eqb (at n yard_mask_at) 0) 0 1) (clock_moves i s.engine) ≡ result s (clock i)
    unfolding performed result
    clock-answer n q =
        answer-shown (performed s (clock i)) n (clock_moves i s.engine) (shows_then (performed s (clock i)) m n shows.long q)
        (rw e (shape-clock s m shows w c p in_cabinets in_places).lanes)

    -- the state after it has the shape that the laws of queues ask for
    pub clock-shape : Shape (performed s (clock i))
    unfolding performed
    clock-shape = rw e (shape-clock s m shows w c p in_cabinets in_places)
