-- A state with one queue changed: where the change changes nothing, its shape, and how often slots stand in its queues.
use Prim.Native.Nat.{ℕ, ◌+◌, ◌<◌, ◌≤◌}
use mathlib.Core.Path.{◌≡◌, ap, sym, ◌∙◌}
use mathlib.Core.List.{List}
use Rattle.model.specs.Lists.{count}
use Rattle.model.specs.State.{Queues, Lane, State}
use Rattle.model.specs.Engine.{fresh_lane, lane_at, set_queues, with_lanes, with_global}
use Rattle.model.specs.Rules.{with_engine}
use Rattle.model.specs.Memory.{all_queues}
use Rattle.laws.specs.ListLaws.{length-update}
use Rattle.laws.specs.Counts.{count-concat-get_or, count-concat-update}
use Rattle.laws.specs.Updates.{update_same}
use Rattle.changes.proofs.Shape.{LaneAtEach, Shape, chained, queued}
use Rattle.changes.specs.Queues.{Part, current, done, next, Queue, free, global, lane, Named, part_of, with_part, at_part, queue_of, with_queue}
use Rattle.changes.proofs.OfQueues.QueuePlaces.{position, all_queues-with_queue, all_queues-at, position-inside}

-- ---- a queue as it is and as it was

part_same : (p : Part) (f : List ℕ → List ℕ) (q : Queues) → f (part_of q p) ≡ part_of q p → with_part p f q ≡ q
part_same next f q e = ap (λ (xs : List ℕ). with_part next (λ r. xs) q) e
part_same current f q e = ap (λ (xs : List ℕ). with_part current (λ r. xs) q) e
part_same done f q e = ap (λ (xs : List ℕ). with_part done (λ r. xs) q) e

-- a change that changes nothing
pub with_queue-same : (s : State) (q : Queue) (f : List ℕ → List ℕ) → f (queue_of s q) ≡ queue_of s q → with_queue q f s ≡ s
with_queue-same s free f e = ap (λ (xs : List ℕ). with_queue free (λ r. xs) s) e
with_queue-same s (global p) f e = ap (λ (q : Queues). with_engine s (with_global q s.engine)) (part_same p f s.engine.global e)
with_queue-same s (lane i p) f e =
    ap (λ (ls : List Lane). with_engine s (with_lanes ls s.engine))
    (update_same fresh_lane s.engine.lanes i (at_part p f)
    (ap (λ (q : Queues). set_queues q (lane_at s.engine i)) (part_same p f (lane_at s.engine i).queues e)))

-- ---- the shape of a state with one queue changed

pub lanes-with_queue : (s : State) (q : Queue) (f : List ℕ → List ℕ) → LaneAtEach s → LaneAtEach (with_queue q f s)
lanes-with_queue s free f h = h
lanes-with_queue s (global p) f h = h
lanes-with_queue s (lane i p) f h = length-update s.engine.lanes i (at_part p f) ∙ h

-- how often slots stand then
module _ (s : State) (q : Queue) (f : List ℕ → List ℕ) where
  pub queued-with_queue : LaneAtEach s → Named s.sizes q → (x : ℕ)
      → queued x (with_queue q f s) + count x (queue_of s q) ≡ queued x s + count x (f (queue_of s q))
  queued-with_queue w h x =
      rw (all_queues-with_queue s q f) (rw (sym (all_queues-at s q)) (count-concat-update (all_queues s) (position q) x f (position-inside s q w h)))

  pub shape-with_queue : Shape s → ((x : ℕ) → chained x s + queued x (with_queue q f s) ≤ 1)
      → ((x : ℕ) → 0 < chained x s + queued x (with_queue q f s) → x < s.sizes.slots)
      → Shape (with_queue q f s)
  shape-with_queue w once below = record {
    few = w.few;
    chains = w.chains;
    lanes = lanes-with_queue s q f w.lanes;
    links = w.links;
    products = w.products;
    once = once;
    below = below;
  }

-- a queue's slots stand there
pub queue-le : (s : State) (q : Queue) (x : ℕ) → count x (queue_of s q) ≤ queued x s
queue-le s q x = rw (sym (all_queues-at s q)) (count-concat-get_or (all_queues s) (position q) x)
