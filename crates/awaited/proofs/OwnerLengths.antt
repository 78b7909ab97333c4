-- The lengths that stand in a legal memory are those of its queues, and what the owners have together.
use Prim.Native.Nat.{ℕ, ◌+◌, ◌*◌, ◌≤◌, ◌<◌}
use mathlib.Core.Path.{◌≡◌, refl, ap, ap₂, sym, subst, ◌∙◌}
use mathlib.Core.List.{List, [], ◌∷◌}
use native.Mathlib.Omega.{arith}
use lib.ListN.{length}
use Rattle.model.specs.Word.{word_limit}
use Rattle.model.specs.Lists.{from}
use Rattle.model.specs.State.{Sizes as TableSizes, lane_count, Lane}
use Rattle.model.specs.Layout.{length_offset, current_offset, done_offset, free_at, global_queues_at, queues_at, lane_address, total}
use Rattle.model.specs.Engine.{lane_at}
use Rattle.model.specs.Rules.{queued, queued_in}
use Rattle.model.specs.Memory.{at, read_lane, sizes, state}
use Rattle.laws.specs.Sums.{sum, sum-of-map}
use Rattle.laws.specs.Loops.{sum_below, sum_below-alike, sum_below-few, Summed, summed-start, summed-on, summed-done}
use Rattle.representation.proofs.FromMemory.Reading.{state-lane}
use Rattle.representation.specs.Sound.{Sound}
use Rattle.words.specs.declared.sizes.Sizes.{Sizes}
use Rattle.words.specs.Lent.{sizes_of}
use Rattle.changes.proofs.Shape.{well_formed-shape}
use Rattle.changes.specs.Queues.{next, current, done, Queue, free, global, lane, Named, queue_of, ends_at}
use Rattle.changes.proofs.OfQueues.QueueEnds.{length-shown}
use Rattle.changes.proofs.OfQueues.QueueChanges.{queue-few}
use Rattle.access.specs.TableSizes.{TableIn}
use Rattle.access.proofs.Ways.{shown, well_formed, in_range}
use Rattle.awaited.specs.Lengths.{owner_length, retired_length, owner_most, OwnerAt}

-- ---- the lengths of a legal memory

module _ (m : List ℕ) (v : Sound m) where
  -- a queue's length is the number of its slots, which is that of all at most
  record Long (q : Queue) : Type 0 where
    is : at m (ends_at (sizes m) q + length_offset) ≡ length (queue_of (state m) q)
    few : length (queue_of (state m) q) ≤ (sizes m).slots

  long : (q : Queue) → Named (sizes m) q → Long q
  unfolding state
  long q named = record { is = length-shown (state m) m (shown m v) q named; few = queue-few (state m) (well_formed-shape (state m) (well_formed m v)) q }

  pub free-is : at m (free_at + length_offset) ≡ length (state m).table.free
  unfolding state
  free-is = (long free tt).is

  -- of the queues of an owner
  record Owned (a n : ℕ) : Type 0 where
    is : owner_length m a ≡ n
    few : n ≤ owner_most

  owned : (a : ℕ) (x y z : Queue) → Named (sizes m) x → Named (sizes m) y → Named (sizes m) z → a ≡ ends_at (sizes m) x
      → a + current_offset ≡ ends_at (sizes m) y → a + done_offset ≡ ends_at (sizes m) z
      → Owned a (length (queue_of (state m) x) + length (queue_of (state m) y) + length (queue_of (state m) z))
  owned a x y z hx hy hz ex ey ez =
      let p = long x hx in
      let q = long y hy in
      let r = long z hz in
      record {
        is = ap₂ ◌+◌ (ap₂ ◌+◌ (ap (at m) (omega (arith, ex)) ∙ p.is) (ap (at m) (omega (arith, ey)) ∙ q.is)) (ap (at m) (omega (arith, ez)) ∙ r.is);
        few = omega (arith, p.few, q.few, r.few, (in_range m v).few_slots);
      }

  global-owned : Owned global_queues_at (queued (state m).engine.global)
  unfolding state
  global-owned = owned global_queues_at (global next) (global current) (global done) tt tt tt refl refl refl

  lane-owned : (i : ℕ) → i < lane_count (sizes m) → Owned (lane_address (sizes m) i + queues_at) (queued (lane_at (state m).engine i).queues)
  lane-owned i h = owned (lane_address (sizes m) i + queues_at) (lane i next) (lane i current) (lane i done) h h h refl refl refl

-- ---- lane by lane

queued_in-sum : (ls : List Lane) → queued_in ls ≡ sum (λ (l : Lane). queued l.queues) ls
unfolding queued_in
queued_in-sum [] = refl
queued_in-sum (l ∷ ls) = ap (λ (n : ℕ). queued l.queues + n) (queued_in-sum ls)

-- the slots in the queues of lane i
abbrev lane_slots : List ℕ → ℕ → ℕ
lane_slots m i = owner_length m (lane_address (sizes m) i + queues_at)

-- the lanes before i have n slots
pub record LanesCounted (m : List ℕ) (i n : ℕ) : Type 0 where
  pub so_far : Summed (lane_slots m) (lane_count (sizes m)) i n
  pub few : n ≤ owner_most * i

pub lanes_start : (m : List ℕ) → LanesCounted m 0 0
lanes_start m = record { so_far = summed-start _ _; few = omega arith }

-- ---- by the sizes that were read

module _ (m : List ℕ) (z : Sizes) (k : TableIn m z) where
  pub global-at : OwnerAt m global_queues_at
  global-at = let g = global-owned m k.sound in record { inside = omega (arith, k.lent.long); few = omega (arith, g.is, g.few) }

  -- lane i of b, whose record stands at a
  module _ (b i a : ℕ) (eb : b ≡ lane_count (sizes_of z)) (h : i < b) (ea : a ≡ lane_address (sizes_of z) i) where
    known : i < lane_count (sizes m)
    known = omega (arith, eb, ap lane_count k.sizes)

    place : a + queues_at ≡ lane_address (sizes m) i + queues_at
    place = ap (λ (x : ℕ). x + queues_at) (ea ∙ ap (λ (y : TableSizes). lane_address y i) k.sizes)

    pub lane-at : OwnerAt m (a + queues_at)
    lane-at =
        let g = lane-owned m k.sound i known in
        let l : total (sizes m) ≤ length m = subst (λ (y : TableSizes). total y ≤ length m) k.sizes k.lent.long in
        record { inside = omega (arith, place, l, known); few = rw place (omega (arith, g.is, g.few)) }

    module _ (n v : ℕ) (c : LanesCounted m i n) (ev : v ≡ owner_length m (a + queues_at)) where
      pub lanes_fit : n + v < word_limit
      lanes_fit = omega (arith, c.few, ev, lane-at.few, known, (in_range m k.sound).few_lanes)

      pub lanes_on : LanesCounted m (i + 1) (n + v)
      lanes_on = record {
        so_far = summed-on _ _ i n c.so_far known v (ev ∙ ap (owner_length m) place);
        few = omega (arith, c.few, ev, lane-at.few);
      }

  lanes-shown : sum_below (lane_slots m) (lane_count (sizes m)) ≡ queued_in (state m).engine.lanes
  unfolding state
  lanes-shown =
      sum_below-alike (lane_slots m) (λ (i : ℕ). queued (read_lane m i).queues) (lane_count (sizes m))
      (λ i h. (lane-owned m k.sound i h).is ∙ ap (λ (l : Lane). queued l.queues) (state-lane m i h))
      ∙ sym (queued_in-sum (state m).engine.lanes ∙ sum-of-map (λ (l : Lane). queued l.queues) (read_lane m) (from 0 (lane_count (sizes m))))

  -- all b lanes
  pub lanes-done : (b i n : ℕ) → b ≡ lane_count (sizes_of z) → b ≤ i → LanesCounted m i n → n ≡ queued_in (state m).engine.lanes
  lanes-done b i n eb h c = summed-done _ _ i n c.so_far (omega (arith, eb, ap lane_count k.sizes)) ∙ lanes-shown

  lanes-few : sum_below (lane_slots m) (lane_count (sizes m)) ≤ owner_most * lane_count (sizes m)
  lanes-few = sum_below-few (lane_slots m) owner_most (lane_count (sizes m)) (λ i h. let g = lane-owned m k.sound i h in omega (arith, g.is, g.few))

  -- what the owners have, as it was counted
  module _ (g q : ℕ) (eg : g ≡ owner_length m global_queues_at) (eq : q ≡ queued_in (state m).engine.lanes) where
    pub retired-fits : g + q < word_limit
    retired-fits = omega (arith, global-at.few, lanes-few, lanes-shown, (in_range m k.sound).few_lanes)

    pub retired-shown : g + q ≡ retired_length (state m)
    retired-shown = ap₂ ◌+◌ (eg ∙ (global-owned m k.sound).is) eq
