-- The fields of a state with one queue changed: the queue's words, and the queue links.
use Prim.Native.Nat.{ℕ, ◌+◌, ◌<◌}
use mathlib.Core.Bool.{Bool, true, false, cond, ◌&&◌, and-true}
use mathlib.Core.Path.{◌≡◌, refl, ap, ◌∙◌}
use mathlib.Core.List.{List}
use native.Mathlib.Omega.{arith}
use lib.ListN.{length, get_or, set, length-set}
use lib.Dec.{eqb}
use Rattle.model.specs.Word.{none}
use Rattle.model.specs.Lists.{update, first, last, successor_in}
use Rattle.model.specs.State.{Lane, Engine, State}
use Rattle.model.specs.Layout.{last_offset, length_offset, queue_width, queues_at, queue_link_at}
use Rattle.model.specs.Engine.{fresh_lane, lane_at, at_lane}
use Rattle.model.specs.Memory.{all_queues, flags, lane_words, slot_words}
use Rattle.laws.specs.Tests.{and-false-right, eqb-self, same, other, decide}
use Rattle.laws.specs.ListLaws.{update-cases, get_or-update-same, get_or-update-other, get_or_set}
use Rattle.representation.proofs.Addresses.Fields.{Field, top, head, end, mask, lane, slot, yard, value, end_words}
use Rattle.representation.proofs.Addresses.Writes.{put}
use Rattle.representation.proofs.Addresses.MaskWords.{lane_mask-kept, cabinet_mask-kept, top_kept}
use Rattle.changes.proofs.Shape.{LaneAtEach}
use Rattle.changes.proofs.Puts.{linked}
use Rattle.changes.specs.Queues.{Part, next, current, done, Queue, free, global, lane as of_lane, Named, part_of, part_at, at_part, queue_of}
use Rattle.changes.specs.Queues.{with_queue}
use Rattle.changes.proofs.OfQueues.QueuePlaces.{position, all_queues-with_queue}
use Rattle.changes.proofs.OfQueues.QueueEnds.{first_field, last_field, length_field, slot-first, slot-word}

-- ---- pending bits stay where a changed lane keeps its own

pub pending-kept : (e : Engine) (i : ℕ) (g : Lane → Lane) → (g (lane_at e i)).pending ≡ (lane_at e i).pending
    → (j : ℕ) → (lane_at (at_lane i g e) j).pending ≡ (lane_at e j).pending
pending-kept e i g h = update-cases fresh_lane (λ (j : ℕ) (l : Lane). l.pending ≡ (lane_at e j).pending) e.lanes i g (λ j. refl) h

-- ---- the fields after a change

-- the values v, with the words of queue q those of xs, and the queue links h
abbrev pub queue_value : Queue → List ℕ → (ℕ → ℕ) → (Field → ℕ) → Field → ℕ
queue_value q xs h v = put (put (put (linked queue_link_at h v) (first_field q) (first xs)) (last_field q) (last xs)) (length_field q) (length xs)

-- the words of a queue stored in a record
abbrev words_set : List ℕ → ℕ → List ℕ → List ℕ
words_set ws i xs = set (set (set ws i (first xs)) (i + last_offset) (last xs)) (i + length_offset) (length xs)

words-set : (ws : List ℕ) (i k : ℕ) (xs : List ℕ) → i + length_offset < length ws
    → get_or (words_set ws i xs) k 0
    ≡ cond (eqb k (i + length_offset) && true) (length xs) (cond (eqb k (i + last_offset) && true) (last xs) (cond (eqb k i && true) (first xs) (get_or ws k 0)))
words-set ws i k xs h =
    get_or_set (set (set ws i (first xs)) (i + last_offset) (last xs)) (i + length_offset) k (length xs) 0
    (omega (arith, length-set (set ws i (first xs)) (i + last_offset) (last xs), length-set ws i (first xs)))
    ∙ rw (and-true (eqb k (i + length_offset)), and-true (eqb k (i + last_offset)), and-true (eqb k i))
    (ap (cond (eqb k (i + length_offset)) (length xs))
    (get_or_set (set ws i (first xs)) (i + last_offset) k (last xs) 0 (omega (arith, length-set ws i (first xs)))
    ∙ ap (cond (eqb k (i + last_offset)) (last xs)) (get_or_set ws i k (first xs) 0 (omega arith))))

lane-words : (l : Lane) (p : Part) (f : List ℕ → List ℕ) (k : ℕ) (xs : List ℕ) → xs ≡ f (part_of l.queues p)
    → get_or (lane_words (at_part p f l)) k 0
    ≡ cond (eqb k (part_at queues_at p + length_offset) && true) (length xs)
    (cond (eqb k (part_at queues_at p + last_offset) && true) (last xs) (cond (eqb k (part_at queues_at p) && true) (first xs) (get_or (lane_words l) k 0)))
unfolding lane_words flags
lane-words l next f k xs e = rw e (words-set (lane_words l) (part_at queues_at next) k (f l.queues.next) (omega arith))
lane-words l current f k xs e = rw e (words-set (lane_words l) (part_at queues_at current) k (f l.queues.current) (omega arith))
lane-words l done f k xs e = rw e (words-set (lane_words l) (part_at queues_at done) k (f l.queues.done) (omega arith))

module _ (s : State) (f : List ℕ → List ℕ) where
  -- the queue links then
  abbrev pub links_with : Queue → ℕ → ℕ
  links_with q j = successor_in (update (all_queues s) (position q) f) j none

  abbrev changed_value : Queue → Field → ℕ
  changed_value q = queue_value q (f (queue_of s q)) (links_with q) (value s)

  slot-value : (q : Queue) (j k : ℕ)
      → get_or (set (slot_words s j) queue_link_at (successor_in (all_queues (with_queue q f s)) j none)) k 0 ≡ linked queue_link_at (links_with q) (value s) (slot j k)
  unfolding slot_words
  slot-value q j k =
      ap (λ (r : List (List ℕ)). get_or (set (slot_words s j) queue_link_at (successor_in r j none)) k 0) (all_queues-with_queue s q f)
      ∙ get_or_set (slot_words s j) queue_link_at k (links_with q j) 0 (omega arith)

  module _ (i : ℕ) (p : Part) where
    abbrev e : Engine
    e = at_lane i (at_part p f) s.engine

    pending : (j : ℕ) → (lane_at e j).pending ≡ (lane_at s.engine j).pending
    pending = pending-kept s.engine i (at_part p f) refl

    lane-value : i < length s.engine.lanes → (j k : ℕ) → get_or (lane_words (lane_at e j)) k 0 ≡ changed_value (of_lane i p) (lane j k)
    lane-value h j k =
        elim (decide j i) [
          | same q t u ↦
              rw q
              (rw (get_or-update-same fresh_lane s.engine.lanes i (at_part p f) h, eqb-self i)
              (lane-words (lane_at s.engine i) p f k (f (queue_of s (of_lane i p))) refl))
          | other q t u ↦
              rw (get_or-update-other fresh_lane s.engine.lanes i (at_part p f) j q, t)
              (rw (
                and-false-right (eqb k (part_at queues_at p + length_offset)),
                and-false-right (eqb k (part_at queues_at p + last_offset)),
                and-false-right (eqb k (part_at queues_at p)),
              ))
        ]

  pub value-with_queue : (q : Queue) → LaneAtEach s → Named s.sizes q → (g : Field) → value (with_queue q f s) g ≡ changed_value q g
  unfolding slot_words
  value-with_queue free w h (top k) = refl
  value-with_queue (global p) w h (top k) = refl
  value-with_queue (of_lane i p) w h (top k) = top_kept s (e i p) s.table (pending i p) k refl refl
  value-with_queue free w h (head k) = refl
  value-with_queue (global p) w h (head k) = refl
  value-with_queue (of_lane i p) w h (head k) = refl
  value-with_queue free w h (end k) = words-set (end_words s) 0 k (f s.table.free) (omega arith)
  value-with_queue (global next) w h (end k) = words-set (end_words s) (part_at queue_width next) k (f s.engine.global.next) (omega arith)
  value-with_queue (global current) w h (end k) = words-set (end_words s) (part_at queue_width current) k (f s.engine.global.current) (omega arith)
  value-with_queue (global done) w h (end k) = words-set (end_words s) (part_at queue_width done) k (f s.engine.global.done) (omega arith)
  value-with_queue (of_lane i p) w h (end k) = refl
  value-with_queue free w h (mask c) = refl
  value-with_queue (global p) w h (mask c) = refl
  value-with_queue (of_lane i p) w h (mask c) = lane_mask-kept s (e i p) s.table (pending i p) c
  value-with_queue free w h (yard y) = refl
  value-with_queue (global p) w h (yard y) = refl
  value-with_queue (of_lane i p) w h (yard y) = cabinet_mask-kept s (e i p) s.table (pending i p) y
  value-with_queue free w h (lane j k) = refl
  value-with_queue (global p) w h (lane j k) = refl
  value-with_queue (of_lane i p) w h (lane j k) = lane-value i p (omega (arith, w)) j k
  value-with_queue free w h (slot j k) = slot-value free j k
  value-with_queue (global p) w h (slot j k) = slot-value (global p) j k
  value-with_queue (of_lane i p) w h (slot j k) = slot-value (of_lane i p) j k

-- other queue links over the fields of such a state
pub linked-over : (q : Queue) (xs : List ℕ) (h k : ℕ → ℕ) (v w : Field → ℕ)
    → ((g : Field) → w g ≡ queue_value q xs h v g) → (g : Field) → linked queue_link_at k w g ≡ queue_value q xs k v g
linked-over q xs h k v w e (top j) = e (top j)
linked-over q xs h k v w e (head j) = e (head j)
linked-over q xs h k v w e (end j) = e (end j)
linked-over q xs h k v w e (mask j) = e (mask j)
linked-over q xs h k v w e (yard j) = e (yard j)
linked-over q xs h k v w e (lane i j) = e (lane i j)
linked-over q xs h k v w e (slot i j) =
    rw (slot-first i j q, slot-word i j q last_offset, slot-word i j q length_offset)
    (ap (cond (eqb j queue_link_at) (k i)) (e (slot i j) ∙ rw (slot-first i j q, slot-word i j q last_offset, slot-word i j q length_offset)) ∙ pick (eqb j queue_link_at))
  where
    pick : (b : Bool) → cond b (k i) (cond b (h i) (v (slot i j))) ≡ cond b (k i) (v (slot i j))
    pick true = refl
    pick false = refl
