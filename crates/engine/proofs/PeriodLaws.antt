-- Which change of the state the words of Period are: end and request; StartLaws has begin. Each law takes a memory that shows a state s, and says that the
-- memory afterwards is that of the changed state.
use Prim.Native.Nat.{ℕ}
use mathlib.Core.Bool.{Bool, true, false, not, cond}
use mathlib.Core.Path.{◌≡◌, refl, ap, ap₂, sym, ◌∙◌}
use mathlib.Core.List.{List}
use native.Mathlib.Omega.{arith}
use lib.ListN.{set}
use lib.Dec.{eqb}
use Rattle.model.specs.Word.{up, later}
use Rattle.model.specs.State.{Sizes, Engine, State}
use Rattle.model.specs.Layout.{current_generation_at, largest_generation_at, yard_mask_at}
use Rattle.model.specs.Engine.{with_current, with_largest, runs, started, ended, requested}
use Rattle.model.specs.Rules.{with_engine}
use Rattle.model.specs.Memory.{at, contents, yard_mask}
use Rattle.model.specs.Calls.{stored}
use Rattle.representation.proofs.Addresses.Fields.{top}
use Rattle.representation.proofs.FromState.Periods.{yard_mask-runs}
use Rattle.changes.proofs.Shows.{Shows, stored-shown, shows_then, stored-then}
use Rattle.changes.proofs.Shape.{LaneAtEach, Shape}
use Rattle.changes.proofs.OfLanes.EngineWords.{write-current, write-largest, shape-engine}
use Rattle.engine.specs.Period.{started_words, ended_words, raised_words, requested_words}
use Rattle.engine.proofs.StartLaws.{shape-started, started-stored}

-- ---- end period, and request

-- a choice by a test that is turned round
pub turned : {A : Type 0} (b : Bool) (x y : A) → cond (not b) x y ≡ cond b y x
turned true x y = refl
turned false x y = refl

module _ (s : State) (m : List ℕ) (shows : Shows m s) where
  pub current-shown : at m current_generation_at ≡ s.engine.current
  unfolding contents
  current-shown = shows.image (top current_generation_at) (omega arith)

  pub largest-shown : at m largest_generation_at ≡ s.engine.largest
  unfolding contents
  largest-shown = shows.image (top largest_generation_at) (omega arith)

  pub mask-shown : at m yard_mask_at ≡ yard_mask s
  unfolding contents
  mask-shown = shows.image (top yard_mask_at) (omega arith)

module _ (s : State) (m : List ℕ) (shows : Shows m s) (each : LaneAtEach s) where
  abbrev z : Sizes
  z = s.sizes

  ended_by : (b : Bool) (g : ℕ) → cond b (set m current_generation_at g) (started_words (set m current_generation_at g) z)
      ≡ stored (with_engine s (cond b (with_current g s.engine) (started (with_current g s.engine)))) m
  ended_by true g = write-current s m shows g
  ended_by false g =
      stored-then u (with_engine u (started u.engine)) m (set m current_generation_at g) (started_words (set m current_generation_at g) z) refl
      (write-current s m shows g)
      (started-stored u (set m current_generation_at g) (shows_then u m (set m current_generation_at g) shows.long (write-current s m shows g)) each)
    where
      u : State
      u = with_engine s (with_current g s.engine)

  pub ended-stored : ended_words m z ≡ stored (with_engine s (ended s.engine)) m
  unfolding ended ended_words
  ended-stored =
      ap₂ (λ (x y : ℕ). cond (later (up x) y) (set m current_generation_at (up x)) (started_words (set m current_generation_at (up x)) z))
      (current-shown s m shows) (largest-shown s m shows)
      ∙ ended_by (later (up s.engine.current) s.engine.largest) (up s.engine.current)

  -- the largest requested, raised to g
  abbrev raised : ℕ → Engine
  raised g = with_largest (cond (later g s.engine.largest) g s.engine.largest) s.engine

  raised_by : (b : Bool) (g : ℕ) → cond b (set m largest_generation_at g) m ≡ stored (with_engine s (with_largest (cond b g s.engine.largest) s.engine)) m
  raised_by true g = write-largest s m shows g
  raised_by false g = sym (stored-shown s m shows)

  pub raised-stored : (g : ℕ) → raised_words m g ≡ stored (with_engine s (raised g)) m
  unfolding raised_words
  raised-stored g =
      ap (λ (x : ℕ). cond (later g x) (set m largest_generation_at g) m) (largest-shown s m shows) ∙ raised_by (later g s.engine.largest) g

  requested-by : (b : Bool) (g : ℕ)
      → cond (not b) (started_words (raised_words m g) z) (raised_words m g) ≡ stored (with_engine s (cond b (raised g) (started (raised g)))) m
  requested-by true g = raised-stored g
  requested-by false g =
      stored-then u (with_engine u (started u.engine)) m (raised_words m g) (started_words (raised_words m g) z) refl (raised-stored g)
      (started-stored u (raised_words m g) (shows_then u m (raised_words m g) shows.long (raised-stored g)) each)
    where
      u : State
      u = with_engine s (raised g)

  pub requested-stored : (g : ℕ) → requested_words m z g ≡ stored (with_engine s (requested g s.engine)) m
  unfolding requested requested_words
  requested-stored g =
      ap (λ (d : Bool). cond d (started_words (raised_words m g) z) (raised_words m g)) (ap (λ (w : ℕ). eqb w 0) (mask-shown s m shows) ∙ yard_mask-runs s each)
      ∙ requested-by (runs s.engine) g

-- ---- the shape stays

module _ (s : State) (w : Shape s) where
  shape-either : (b : Bool) (e : Engine) → Shape (with_engine s e) → Shape (with_engine s (cond b e (started e)))
  shape-either true e x = x
  shape-either false e x = shape-started (with_engine s e) x

  pub shape-ended : Shape (with_engine s (ended s.engine))
  unfolding ended
  shape-ended =
      shape-either (later (up s.engine.current) s.engine.largest) (with_current (up s.engine.current) s.engine)
      (shape-engine s (with_current (up s.engine.current) s.engine) w refl (λ x. refl))

  pub shape-requested : (g : ℕ) → Shape (with_engine s (requested g s.engine))
  unfolding requested
  shape-requested g =
      let h = cond (later g s.engine.largest) g s.engine.largest in
      shape-either (runs s.engine) (with_largest h s.engine) (shape-engine s (with_largest h s.engine) w refl (λ x. refl))
