-- The place of a queue among all queues: different queues have different places, and a change of one leaves the others.
use Prim.Native.Nat.{ℕ, zero, suc, ◌<◌}
use mathlib.Core.Path.{◌≡◌, refl, ap, sym, ◌∙◌}
use mathlib.Core.Logic.{◌≢◌}
use mathlib.Core.List.{List, [], ◌∷◌, ◌++◌}
use native.Mathlib.Omega.{arith}
use lib.ListN.{length, get_or}
use Rattle.model.specs.Lists.{update, concat_map}
use Rattle.model.specs.State.{Lane, State}
use Rattle.model.specs.Engine.{fresh_lane}
use Rattle.model.specs.Memory.{all_queues, queues_of, lane_queues}
use Rattle.laws.specs.ListLaws.{get_or-update-other}
use Rattle.changes.proofs.Shape.{LaneAtEach}
use Rattle.changes.specs.Queues.{Part, current, done, next, Queue, free, global, lane, Named, part_of, at_part, queue_of, with_queue}

-- ---- its place among all queues

abbrev rank : Part → ℕ
rank next = 0
rank current = 1
rank done = 2

abbrev lane_rank : ℕ → Part → ℕ
lane_rank zero p = rank p
lane_rank (suc i) p = suc (suc (suc (lane_rank i p)))

-- the place of a queue in `all_queues`
abbrev pub position : Queue → ℕ
position free = 0
position (global p) = suc (rank p)
position (lane i p) = suc (suc (suc (suc (lane_rank i p))))

-- different queues have different places: the place tells the name
next_lane : Queue → Queue
next_lane free = free
next_lane (global p) = global p
next_lane (lane i p) = lane (suc i) p

lane_named : ℕ → Queue
lane_named zero = lane 0 next
lane_named (suc zero) = lane 0 current
lane_named (suc (suc zero)) = lane 0 done
lane_named (suc (suc (suc n))) = next_lane (lane_named n)

named : ℕ → Queue
named zero = free
named (suc zero) = global next
named (suc (suc zero)) = global current
named (suc (suc (suc zero))) = global done
named (suc (suc (suc (suc n)))) = lane_named n

lane_named-rank : (i : ℕ) (p : Part) → lane_named (lane_rank i p) ≡ lane i p
unfolding lane_named next_lane
lane_named-rank zero next = refl
lane_named-rank zero current = refl
lane_named-rank zero done = refl
lane_named-rank (suc i) p = ap next_lane (lane_named-rank i p)

named-position : (q : Queue) → named (position q) ≡ q
unfolding named
named-position free = refl
named-position (global next) = refl
named-position (global current) = refl
named-position (global done) = refl
named-position (lane i p) = lane_named-rank i p

pub position-apart : (p q : Queue) → p ≢ q → position p ≢ position q
position-apart p q n e = n (sym (named-position p) ∙ ap named e ∙ named-position q)

-- ---- all queues, one of them changed

lanes-update : (ls : List Lane) (i : ℕ) (p : Part) (f : List ℕ → List ℕ)
    → concat_map lane_queues (update ls i (at_part p f)) ≡ update (concat_map lane_queues ls) (lane_rank i p) f
unfolding concat_map update
lanes-update [] i p f = refl
lanes-update (l ∷ ls) zero next f = refl
lanes-update (l ∷ ls) zero current f = refl
lanes-update (l ∷ ls) zero done f = refl
lanes-update (l ∷ ls) (suc i) p f = ap (λ (r : List (List ℕ)). lane_queues l ++ r) (lanes-update ls i p f)

pub all_queues-with_queue : (s : State) (q : Queue) (f : List ℕ → List ℕ) → all_queues (with_queue q f s) ≡ update (all_queues s) (position q) f
unfolding update
all_queues-with_queue s free f = refl
all_queues-with_queue s (global next) f = refl
all_queues-with_queue s (global current) f = refl
all_queues-with_queue s (global done) f = refl
all_queues-with_queue s (lane i p) f = ap (λ (r : List (List ℕ)). s.table.free ∷ queues_of s.engine.global ++ r) (lanes-update s.engine.lanes i p f)

lanes_at : (ls : List Lane) (i : ℕ) (p : Part) → get_or (concat_map lane_queues ls) (lane_rank i p) [] ≡ part_of (get_or ls i fresh_lane).queues p
unfolding concat_map
lanes_at [] i next = refl
lanes_at [] i current = refl
lanes_at [] i done = refl
lanes_at (l ∷ ls) zero next = refl
lanes_at (l ∷ ls) zero current = refl
lanes_at (l ∷ ls) zero done = refl
lanes_at (l ∷ ls) (suc i) p = lanes_at ls i p

pub all_queues-at : (s : State) (q : Queue) → get_or (all_queues s) (position q) [] ≡ queue_of s q
all_queues-at s free = refl
all_queues-at s (global next) = refl
all_queues-at s (global current) = refl
all_queues-at s (global done) = refl
all_queues-at s (lane i p) = lanes_at s.engine.lanes i p

lanes-inside : (ls : List Lane) (i : ℕ) (p : Part) → i < length ls → lane_rank i p < length (concat_map lane_queues ls)
unfolding concat_map
lanes-inside [] i p h = absurd (omega arith)
lanes-inside (l ∷ ls) zero next h = omega arith
lanes-inside (l ∷ ls) zero current h = omega arith
lanes-inside (l ∷ ls) zero done h = omega arith
lanes-inside (l ∷ ls) (suc i) p h = omega (arith, lanes-inside ls i p (omega arith))

pub position-inside : (s : State) (q : Queue) → LaneAtEach s → Named s.sizes q → position q < length (all_queues s)
position-inside s free w h = omega arith
position-inside s (global next) w h = omega arith
position-inside s (global current) w h = omega arith
position-inside s (global done) w h = omega arith
position-inside s (lane i p) w h = omega (arith, lanes-inside s.engine.lanes i p (omega (arith, w)))

-- another queue stays
pub queue_of-other : (s : State) (q r : Queue) (f : List ℕ → List ℕ) → q ≢ r → queue_of (with_queue q f s) r ≡ queue_of s r
queue_of-other s q r f n =
    sym (all_queues-at (with_queue q f s) r)
    ∙ ap (λ (xss : List (List ℕ)). get_or xss (position r) []) (all_queues-with_queue s q f)
    ∙ get_or-update-other [] (all_queues s) (position q) f (position r) (position-apart r q (λ e. n (sym e)))
    ∙ all_queues-at s r
