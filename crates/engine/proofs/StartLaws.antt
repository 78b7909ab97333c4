-- Which change of the state `started_words` is: a period begins, and each lane that is online is awaited.
use Prim.Native.Nat.{ℕ, zero, suc, ◌+◌, ◌*◌, ◌<◌, ◌≤◌}
use mathlib.Core.Path.{◌≡◌, refl, ap, sym, ◌∙◌}
use mathlib.Core.List.{List, [], ◌∷◌, ◌++◌, map}
use native.Mathlib.Omega.{arith}
use lib.ListN.{length, get_or, length-map}
use Rattle.model.specs.Lists.{concat, concat_map, count}
use Rattle.model.specs.Lists.{mask as mask_of}
use Rattle.model.specs.State.{Sizes, cabinet_count, lane_count, is_running, is_held, Lane, State}
use Rattle.model.specs.Layout.{lane_address, online_bit, total}
use Rattle.model.specs.Engine.{fresh_lane, lane_at, with_lanes, awaiting, started}
use Rattle.model.specs.Rules.{with_engine}
use Rattle.model.specs.Memory.{at, flag, flags, lane_words, lane_queues, queues_of, lane_bit, lane_mask}
use Rattle.model.specs.Calls.{stored}
use Rattle.laws.specs.ListLaws.{map-from-alike}
use Rattle.laws.specs.Elements.{get_or_map}
use Rattle.laws.specs.Masks.{flag-mask}
use Rattle.representation.proofs.Addresses.Fields.{lane}
use Rattle.mask_tree.specs.Tree.{Masked}
use Rattle.mask_tree.proofs.TreeLaws.{raised_up-else, raised_up-masked}
use Rattle.changes.proofs.Shows.{Shows}
use Rattle.changes.proofs.Shape.{LaneAtEach, Shape}
use Rattle.changes.proofs.OfLanes.EngineWords.{shape-engine, with_pending}
use Rattle.lanes.specs.Cabinet.{cabinet_at, online_at, online_mask}
use Rattle.lanes.proofs.CabinetLaws.{cabinet_at-lane}
use Rattle.engine.specs.Levels.{lane_level, upper_levels}
use Rattle.engine.specs.Period.{masks_set, started_words}
use Rattle.engine.proofs.MaskLevels.{within-lanes, all_levels, NoMask, stacked, apart, inside, masked-stored}
use Rattle.engine.proofs.PeriodWords.{masks_set-else, masks_set-there, length-masks_set, length-started_words}

-- ---- begin period

-- only the pending bits change
words-awaiting : (ls : List Lane) (j : ℕ) → lane_words (get_or (map awaiting ls) j fresh_lane) ≡ lane_words (get_or ls j fresh_lane)
unfolding lane_words flags
words-awaiting [] j = refl
words-awaiting (l ∷ ls) zero = refl
words-awaiting (l ∷ ls) (suc j) = words-awaiting ls j

queues-awaiting : (ls : List Lane) → concat_map lane_queues (map awaiting ls) ≡ concat_map lane_queues ls
unfolding concat_map
queues-awaiting [] = refl
queues-awaiting (l ∷ ls) = ap (λ (r : List (List ℕ)). lane_queues l ++ r) (queues-awaiting ls)

pub shape-started : (s : State) → Shape s → Shape (with_engine s (started s.engine))
unfolding started
shape-started s w =
    shape-engine s (with_lanes (map awaiting s.engine.lanes) s.engine) w (length-map s.engine.lanes awaiting)
    (λ x. ap (λ (r : List (List ℕ)). count x (concat (s.table.free ∷ queues_of s.engine.global ++ r))) (queues-awaiting s.engine.lanes))

module _ (s : State) (m : List ℕ) (shows : Shows m s) (each : LaneAtEach s) where
  abbrev z : Sizes
  z = s.sizes

  abbrev ls : List Lane
  ls = map awaiting s.engine.lanes

  abbrev t : State
  t = with_pending s ls

  online-shown : (i : ℕ) → i < lane_count z → flag online_bit (at m (lane_address z i)) ≡ (lane_at s.engine i).online
  unfolding lane_words flags
  online-shown i h =
      let e : lane_address z i ≡ lane_address z i + 0 = omega arith in
      let l = lane_at s.engine i in
      ap (λ (a : ℕ). flag online_bit (at m a)) e
      ∙ ap (flag online_bit) (shows.image (lane i 0) (h, omega arith))
      ∙ flag-mask (l.online ∷ l.reading ∷ is_running l.lookup ∷ is_held l.snapshot ∷ []) 0

  pending-started : (i : ℕ) → i < lane_count z → (lane_at t.engine i).pending ≡ (lane_at s.engine i).online
  pending-started i h = ap (λ (l : Lane). l.pending) (get_or_map fresh_lane fresh_lane awaiting s.engine.lanes i (omega (arith, each)))

  mask-started : (c : ℕ) → c < cabinet_count z → online_mask m z c ≡ lane_mask t c
  unfolding online_mask
  mask-started c h = ap mask_of (map-from-alike (online_at m (cabinet_at z c)) (λ (p : ℕ). lane_bit t (c * z.places + p)) 0 z.places go)
    where
      go : (p : ℕ) → 0 ≤ p → p < 0 + z.places → online_at m (cabinet_at z c) p ≡ lane_bit t (c * z.places + p)
      go p a b =
          let k : c * z.places + p < lane_count z = within-lanes z c p h (omega arith) in
          ap (λ (a : ℕ). flag online_bit (at m a)) (cabinet_at-lane z c p) ∙ online-shown (c * z.places + p) k ∙ sym (pending-started (c * z.places + p) k)

  -- the lane masks, by which the masks above are set
  abbrev lowest : List ℕ
  lowest = masks_set m z (cabinet_count z)

  long : total z ≤ length lowest
  long = omega (arith, shows.long, length-masks_set m z (cabinet_count z))

  started-masked : Masked (started_words m z) (all_levels z) (lane_bit t)
  unfolding started_words
  started-masked =
      raised_up-masked (lane_bit t) lowest (lane_level z) (upper_levels z) (stacked z) (apart z) (inside z lowest long)
      (λ c b. masks_set-there m z (cabinet_count z) c b (omega (arith, shows.long)) ∙ mask-started c b)

  -- all words but the masks stay
  kept : (a : ℕ) → NoMask z a → at (started_words m z) a ≡ at m a
  unfolding started_words
  kept a o = raised_up-else lowest (lane_level z) (upper_levels z) a o.1 ∙ masks_set-else m z (cabinet_count z) a o.0

  pub started-stored : started_words m z ≡ stored (with_engine s (started s.engine)) m
  unfolding started
  started-stored =
      masked-stored s m shows ls (words-awaiting s.engine.lanes) (queues-awaiting s.engine.lanes)
      (started_words m z) (length-started_words m z) started-masked kept
