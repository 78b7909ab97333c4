-- The stores of a release to the masks, as the change of the state in which the lane's bit goes.
use Prim.Native.Nat.{ℕ, ◌+◌, ◌*◌, ◌/◌, ◌<◌}
use mathlib.Core.Bool.{Bool, true, false, not, cond, ◌&&◌}
use mathlib.Core.Path.{◌≡◌, refl, ap, sym, ◌∙◌}
use mathlib.Core.List.{List}
use native.Mathlib.Omega.{arith}
use native.Mathlib.Nat.{mod-lt, div-add-mod'}
use lib.Dec.{eqb}
use Rattle.model.specs.Lists.{update}
use Rattle.model.specs.State.{Sizes, cabinet_count, lane_count, Lane, Engine, State}
use Rattle.model.specs.Layout.{masks_at}
use Rattle.model.specs.Engine.{fresh_lane, lane_at, set_pending, with_lanes, runs, ended}
use Rattle.model.specs.Rules.{with_engine}
use Rattle.model.specs.Memory.{at, flag, lane_bit}
use Rattle.model.specs.Calls.{stored}
use Rattle.laws.specs.ListLaws.{length-update, get_or-update}
use Rattle.laws.specs.Updates.{update_same}
use Rattle.representation.proofs.Addresses.Fields.{mask}
use Rattle.representation.proofs.Sentences.Facts.{SizesFit}
use Rattle.representation.proofs.FromState.Periods.{flag-group, group-below}
use Rattle.mask_tree.specs.Tree.{Climbs, cleared_up, but}
use Rattle.mask_tree.proofs.TreeLaws.{masked-alike, length-cleared_up, cleared_up-else, cleared_up-masked}
use Rattle.changes.proofs.Shows.{Shows, stored-shown, shows_then, stored-then}
use Rattle.changes.proofs.Shape.{LaneAtEach}
use Rattle.changes.proofs.OfLanes.EngineWords.{with_pending}
use Rattle.lanes.specs.Cabinet.{stand}
use Rattle.engine.specs.Levels.{rungs}
use Rattle.engine.specs.Release.{over_words, cleared_words, passed_words}
use Rattle.engine.proofs.MaskLevels.{within-lanes, all_levels, apart, inside, shows-masked, masked-stored}
use Rattle.engine.proofs.ReleaseBits.{unawaited, words-unawaited, queues-alike, over-stored}

module _ (s : State) (m : List ℕ) (shows : Shows m s) (each : LaneAtEach s) (c p : ℕ) (in_cabinets : c < cabinet_count s.sizes)
    (in_places : p < s.sizes.places) (fit : SizesFit s.sizes) where
  abbrev z : Sizes
  z = s.sizes

  abbrev i : ℕ
  i = c * z.places + p

  abbrev ls : List Lane
  ls = update s.engine.lanes i unawaited

  abbrev t : State
  t = with_pending s ls

  within : i < lane_count z
  within = within-lanes z c p in_cabinets in_places

  -- ---- the stores

  -- the lane's yard is one of the table's
  in_yards : c / z.cabinets < z.yards
  in_yards = group-below z.cabinets z.yards fit.some_cabinets c in_cabinets

  -- its bits, one above the other
  climbs : Climbs i (rungs z (stand z c p))
  climbs = (
    refl,
    in_places,
    omega (arith, fit.few_places),
    in_cabinets,
    (
      sym (div-add-mod' c z.cabinets),
      mod-lt c fit.some_cabinets,
      omega (arith, fit.few_cabinets),
      in_yards,
      (omega arith, in_yards, omega (arith, fit.few_yards), omega arith, tt),
    ),
  )

  -- all bits but this one stay
  bits : (j : ℕ) → but i (lane_bit s) j ≡ lane_bit t j
  bits j =
      sym (ap (λ (l : Lane). l.pending) (get_or-update s.engine.lanes i j unawaited fresh_lane (omega (arith, each, within))) ∙ go (eqb j i))
    where
      go : (b : Bool) → (cond b (unawaited (lane_at s.engine i)) (lane_at s.engine j)).pending ≡ cond b false (lane_bit s j)
      go true = refl
      go false = refl

  cleared-stored : cleared_words m z (stand z c p) ≡ stored t m
  unfolding cleared_words
  cleared-stored =
      masked-stored s m shows ls (words-unawaited s.engine.lanes i) (queues-alike unawaited (λ l. refl) s.engine.lanes i) _ (length-cleared_up m (rungs z (stand z c p)))
      (masked-alike (cleared_up m (rungs z (stand z c p))) (all_levels z) (but i (lane_bit s)) (lane_bit t) bits
      (cleared_up-masked (lane_bit s) m i (rungs z (stand z c p)) climbs (apart z) (inside z m shows.long) (shows-masked s m shows)))
      (λ a o. cleared_up-else m (rungs z (stand z c p)) a (o.0 c in_cabinets, (o.1.0 (c / z.cabinets) in_yards, (o.1.1.0 0 (omega arith), tt))))

  shown : flag p (at m (masks_at + c)) ≡ (lane_at s.engine i).pending
  shown = ap (flag p) (shows.image (mask c) in_cabinets) ∙ flag-group z.places (lane_bit s) c p in_places

  each-t : LaneAtEach t
  each-t = length-update s.engine.lanes i unawaited ∙ each

  abbrev pub passed_engine : Bool → Engine
  passed_engine b = cond (b && not (runs t.engine)) (ended t.engine) t.engine

  pub passed-stored : passed_words m z (stand z c p) ≡ stored (with_engine s (passed_engine (lane_at s.engine i).pending)) m
  unfolding passed_words
  passed-stored = ap (λ (d : Bool). cond d (over_words (cleared_words m z (stand z c p)) z) m) shown ∙ go (lane_at s.engine i).pending refl
    where
      x : List ℕ
      x = cleared_words m z (stand z c p)

      go : (b : Bool) → (lane_at s.engine i).pending ≡ b
          → cond b (over_words (cleared_words m z (stand z c p)) z) m ≡ stored (with_engine s (passed_engine b)) m
      go true e =
          stored-then t (with_engine t (passed_engine true)) m x (over_words x z) refl cleared-stored
          (over-stored t x (shows_then t m x shows.long cleared-stored) each-t)
      go false e =
          sym (stored-shown s m shows)
          ∙ ap (λ (x : List Lane). stored (with_engine s (with_lanes x s.engine)) m)
          (sym (update_same fresh_lane s.engine.lanes i unawaited
          (ap (λ (b : Bool). set_pending b (lane_at s.engine i).snapshot (lane_at s.engine i)) (sym e))))
