-- The stores to a lane's record that calls make: flags, lookup, position, the generation, the record anew. Its pending bit and its queues stay.
use Prim.Native.Nat.{ℕ, ◌+◌, ◌≤◌, ◌<◌}
use mathlib.Core.Path.{◌≡◌, refl, ap, ◌∙◌}
use mathlib.Core.List.{List, [], ◌∷◌}
use native.Mathlib.Omega.{arith}
use lib.ListN.{length, set}
use lib.Seq.{sets}
use Rattle.model.specs.State.{Sizes, lane_count, Lookup, running, is_running, Lane, State}
use Rattle.model.specs.Layout.{flags_at, generation_at, lookup_at, position_at, lane_length, lane_address}
use Rattle.model.specs.Engine.{lane_at, set_lookup}
use Rattle.model.specs.Rules.{with_lane}
use Rattle.model.specs.Memory.{flags, lookup_code, lookup_position, lane_words, lane_queues, low, high}
use Rattle.model.specs.Calls.{stored}
use Rattle.changes.proofs.Shows.{Shows}
use Rattle.changes.proofs.Shape.{LaneAtEach}
use Rattle.changes.proofs.OfLanes.OneLane.{lane-none, lane-run, lane_done, lane-change, stored_from}
use Rattle.changes.proofs.OfLanes.EngineWords.{at_generation}

-- the words of a lookup, with the flags f
abbrev pub lookup_words : ℕ → Lookup → List (ℕ × ℕ)
lookup_words f k = (flags_at, f) ∷ (lookup_at, low (lookup_code k)) ∷ (lookup_at + 1, high (lookup_code k)) ∷ (position_at, lookup_position k) ∷ []

module _ (s : State) (m : List ℕ) (shows : Shows m s) (lanes : LaneAtEach s) (i : ℕ) (within : i < lane_count s.sizes) where
  abbrev z : Sizes
  z = s.sizes

  abbrev a : ℕ
  a = lane_address z i

  abbrev l : Lane
  l = lane_at s.engine i

  -- one word of the record
  pub lane_word : (g : Lane → Lane) → (g l).pending ≡ l.pending → lane_queues (g l) ≡ lane_queues l → (k x : ℕ) → k < lane_length
      → lane_words (g l) ≡ set (lane_words l) k x
      → set m (a + k) x ≡ stored (with_lane s i g) m
  lane_word g p q k x b e = lane-change s i g p q m shows lanes within ((k, x) ∷ []) (b, tt) e

  -- the flags: begin, end, on
  pub lane-flags : (g : Lane → Lane) → (g l).pending ≡ l.pending → lane_queues (g l) ≡ lane_queues l → lane_words (g l) ≡ set (lane_words l) flags_at (flags (g l))
      → set m a (flags (g l)) ≡ stored (with_lane s i g) m
  lane-flags g p q e = ap (λ (b : ℕ). set m b (flags (g l))) (omega arith) ∙ lane_word g p q flags_at (flags (g l)) (omega arith) e

  -- the lookup: start, and the end of a lookup
  pub lane-lookup : (k : Lookup) → stored_from m a (lookup_words (flags (set_lookup k l)) k) ≡ stored (with_lane s i (set_lookup k)) m
  unfolding lane_words
  lane-lookup k =
      lane-change s i (set_lookup k) refl refl m shows lanes within (lookup_words (flags (set_lookup k l)) k)
      (omega arith, (omega arith, (omega arith, (omega arith, tt)))) refl

  -- the position of a running lookup
  pub lane-position : (c p x : ℕ) → l.lookup ≡ running c p → set m (a + position_at) x ≡ stored (with_lane s i (set_lookup (running c x))) m
  unfolding lane_words flags lookup_code lookup_position is_running
  lane-position c p x e = lane_word (set_lookup (running c x)) refl refl position_at x (omega arith) (rw e)

  -- the record anew, from its first word on
  pub lane-record : (g : Lane → Lane) → (g l).pending ≡ l.pending → lane_queues (g l) ≡ lane_queues l → (vs : List ℕ) → length vs ≤ lane_length
      → lane_words (g l) ≡ sets (lane_words l) 0 vs → sets m a vs ≡ stored (with_lane s i g) m
  unfolding lane_words
  lane-record g p q vs b e =
      lane_done s i g p q m shows lanes within (sets m a vs)
      (rw e (lane-run s i m shows within vs m (lane_words l) 0 a refl (omega arith) (omega arith) (lane-none s i m shows within)))

  -- the generation of the current queue
  pub lane-generation : (g : ℕ) → set m (a + generation_at) g ≡ stored (with_lane s i (at_generation g)) m
  unfolding lane_words flags
  lane-generation g = lane_word (at_generation g) refl refl generation_at g (omega arith) refl
