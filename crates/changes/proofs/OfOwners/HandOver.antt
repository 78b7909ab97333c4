-- Off: a leaving lane's current queue, then its next, go to the end of the global next queue, and its done queue to the end of the global done queue.
use Prim.Native.Nat.{ℕ, ◌<◌}
use mathlib.Core.Path.{◌≡◌, refl, ap, ap₂, sym, ◌∙◌}
use mathlib.Core.Logic.{◌≢◌}
use mathlib.Core.List.{List, [], ◌++◌}
use native.Mathlib.Omega.{arith}
use Rattle.model.specs.Lists.{update}
use Rattle.model.specs.State.{Sizes, lane_count, Queues, Lane, State}
use Rattle.model.specs.Engine.{lane_at, set_queues, at_lane, with_lanes, with_global, taken}
use Rattle.model.specs.Rules.{with_engine}
use Rattle.model.specs.Calls.{stored}
use Rattle.laws.specs.ListLaws.{update-update}
use Rattle.queues.specs.Queue.{joined}
use Rattle.changes.proofs.Shows.{Shows, shows_then, stored-then}
use Rattle.changes.proofs.Shape.{Shape}
use Rattle.changes.specs.Queues.{Queue, Part, next, current, done, global, lane, at_part, queue_of, with_queue, joined_state, ends_at}
use Rattle.changes.proofs.OfQueues.QueuePlaces.{queue_of-other}
use Rattle.changes.proofs.OfQueues.QueueJoins.{join-queues}
use Rattle.changes.proofs.OfQueues.QueueShapes.{shape-join}

-- the queue at b appended to the one at a
abbrev joined_at : Sizes → List ℕ → Queue → Queue → List ℕ
joined_at z m a b = joined m z (ends_at z a) (ends_at z b)

global-lane : (p r : Part) (i : ℕ) → global p ≢ lane i r
global-lane p r i e = let z : ◌≡◌ {A = ℕ} 0 1 = cc in omega arith

-- the lane's queues are empty, its generation as it was
abbrev pub unqueued : Lane → Lane
unqueued l = set_queues (record { next = []; current = []; done = []; generation = l.queues.generation }) l

-- the lane's queues are in the global ones
abbrev pub handed_over : ℕ → State → State
handed_over i s = with_engine s (at_lane i unqueued (with_global (taken s.engine.global (lane_at s.engine i).queues) s.engine))

-- the words after the three joins
abbrev pub handed_over_words : Sizes → List ℕ → ℕ → List ℕ
handed_over_words z m i =
    joined_at z (joined_at z (joined_at z m (global next) (lane i current)) (global next) (lane i next)) (global done) (lane i done)

module _ (s : State) (i : ℕ) where
  abbrev s₁ : State
  s₁ = joined_state (global next) (lane i current) s

  abbrev s₂ : State
  s₂ = joined_state (global next) (lane i next) s₁

  abbrev s₃ : State
  s₃ = joined_state (global done) (lane i done) s₂

  next-stays : queue_of s₁ (lane i next) ≡ queue_of s (lane i next)
  next-stays = queue_of-other (with_queue (global next) (λ xs. xs ++ queue_of s (lane i current)) s) (lane i current) (lane i next) (λ xs. []) apart
    where
      apart : lane i current ≢ lane i next
      apart e = let z : ◌≡◌ {A = ℕ} 0 1 = cc in omega arith

  done-stays : queue_of s₂ (lane i done) ≡ queue_of s (lane i done)
  done-stays =
      queue_of-other (with_queue (global next) (λ xs. xs ++ queue_of s₁ (lane i next)) s₁) (lane i next) (lane i done) (λ xs. []) apart
      ∙ queue_of-other (with_queue (global next) (λ xs. xs ++ queue_of s (lane i current)) s) (lane i current) (lane i done) (λ xs. []) apart'
    where
      apart : lane i next ≢ lane i done
      apart e = let z : ◌≡◌ {A = ℕ} 0 1 = cc in omega arith

      apart' : lane i current ≢ lane i done
      apart' e = let z : ◌≡◌ {A = ℕ} 0 1 = cc in omega arith

  lanes-emptied : update (update (update s.engine.lanes i (at_part current (λ xs. []))) i (at_part next (λ xs. []))) i (at_part done (λ xs. []))
      ≡ update s.engine.lanes i unqueued
  lanes-emptied =
      ap (λ (ls : List Lane). update ls i (at_part done (λ xs. []))) (update-update s.engine.lanes i (at_part current (λ xs. [])) (at_part next (λ xs. [])))
      ∙ update-update s.engine.lanes i (λ (l : Lane). at_part next (λ xs. []) (at_part current (λ xs. []) l)) (at_part done (λ xs. []))

  -- the global queues, by what the lane's next and done queues are
  abbrev global_with : List ℕ → List ℕ → Queues
  global_with n d =
      let g = s.engine.global in
      record { next = g.next ++ (lane_at s.engine i).queues.current ++ n; current = g.current; done = g.done ++ d; generation = g.generation }

  state-handed : s₃ ≡ handed_over i s
  state-handed =
      ap₂ (λ (ls : List Lane) (q : Queues). with_engine s (with_lanes ls (with_global q s.engine))) lanes-emptied (ap₂ global_with next-stays done-stays)

  module _ (m : List ℕ) (shows : Shows m s) (w : Shape s) (within : i < lane_count s.sizes) where
    abbrev z : Sizes
    z = s.sizes

    m₁ : List ℕ
    m₁ = joined_at z m (global next) (lane i current)

    m₂ : List ℕ
    m₂ = joined_at z m₁ (global next) (lane i next)

    shape₁ : Shape s₁
    shape₁ = shape-join s w (global next) (lane i current) tt within (global-lane next current i)

    shape₂ : Shape s₂
    shape₂ = shape-join s₁ shape₁ (global next) (lane i next) tt within (global-lane next next i)

    stored₁ : m₁ ≡ stored s₁ m
    unfolding m₁
    stored₁ = join-queues s m shows w (global next) (lane i current) tt within (global-lane next current i)

    stored₂ : m₂ ≡ stored s₂ m
    unfolding m₂
    stored₂ =
        stored-then s₁ s₂ m m₁ m₂ refl stored₁
        (join-queues s₁ m₁ (shows_then s₁ m m₁ shows.long stored₁) shape₁ (global next) (lane i next) tt within (global-lane next next i))

    pub hand-over : handed_over_words z m i ≡ stored (handed_over i s) m
    unfolding m₁ m₂
    hand-over =
        stored-then s₂ s₃ m m₂ (handed_over_words z m i) refl stored₂
        (join-queues s₂ m₂ (shows_then s₂ m m₂ shows.long stored₂) shape₂ (global done) (lane i done) tt within (global-lane done done i))
        ∙ ap (λ (t : State). stored t m) state-handed

    pub shape-hand-over : Shape (handed_over i s)
    shape-hand-over = rw (sym state-handed) (shape-join s₂ shape₂ (global done) (lane i done) tt within (global-lane done done i))
