-- The words of a queue as fields: where they stand, what they hold, and that they differ from each other and from the slots' fields. Of those after its
-- first one law speaks, over their offset.
use Prim.Native.Nat.{ℕ, ◌+◌, ◌<◌}
use mathlib.Core.Bool.{false}
use mathlib.Core.Path.{◌≡◌, refl, ap, ◌∙◌}
use mathlib.Core.List.{List, [], ◌∷◌, ◌++◌}
use native.Mathlib.Omega.{arith}
use lib.ListN.{length, get_or, get_or-append}
use borrow.Author.Tests.{ne_eqb}
use Rattle.model.specs.Lists.{first, last}
use Rattle.model.specs.State.{Sizes, State}
use Rattle.model.specs.Layout.{last_offset, length_offset, queue_width, queues_at}
use Rattle.model.specs.Memory.{at, queue_words, three_words, lane_words, lane_words_at}
use Rattle.representation.proofs.Addresses.Fields.{Field, end, lane, slot, address, Inside, value, end_words, same_field, queue-word}
use Rattle.changes.proofs.Shows.{Shows}
use Rattle.changes.specs.Queues.{next, current, done, Queue, free, global, lane as of_lane, Named, part_at, queue_of}
use Rattle.changes.specs.Queues.{ends_at}

-- ---- a queue's words

-- the field of a queue's first
abbrev pub first_field : Queue → Field
first_field free = end 0
first_field (global p) = end (part_at queue_width p)
first_field (of_lane i p) = lane i (part_at queues_at p)

-- of its word at offset o
abbrev pub word_field : Queue → ℕ → Field
word_field free o = end o
word_field (global p) o = end (part_at queue_width p + o)
word_field (of_lane i p) o = lane i (part_at queues_at p + o)

-- of its last, and of its length
abbrev pub last_field : Queue → Field
last_field q = word_field q last_offset

abbrev pub length_field : Queue → Field
length_field q = word_field q length_offset

-- ---- where they stand

pub first-address : (z : Sizes) (q : Queue) → ends_at z q ≡ address z (first_field q)
first-address z free = omega arith
first-address z (global next) = omega arith
first-address z (global current) = omega arith
first-address z (global done) = omega arith
first-address z (of_lane i next) = omega arith
first-address z (of_lane i current) = omega arith
first-address z (of_lane i done) = omega arith

pub word_address : (z : Sizes) (q : Queue) (o : ℕ) → ends_at z q + o ≡ address z (word_field q o)
word_address z free o = omega arith
word_address z (global next) o = omega arith
word_address z (global current) o = omega arith
word_address z (global done) o = omega arith
word_address z (of_lane i next) o = omega arith
word_address z (of_lane i current) o = omega arith
word_address z (of_lane i done) o = omega arith

pub first-inside : (z : Sizes) (q : Queue) → Named z q → Inside z (first_field q)
first-inside z free h = omega arith
first-inside z (global next) h = omega arith
first-inside z (global current) h = omega arith
first-inside z (global done) h = omega arith
first-inside z (of_lane i next) h = (h, omega arith)
first-inside z (of_lane i current) h = (h, omega arith)
first-inside z (of_lane i done) h = (h, omega arith)

pub word-inside : (z : Sizes) (q : Queue) → Named z q → (o : ℕ) → o < queue_width → Inside z (word_field q o)
word-inside z free h o b = omega arith
word-inside z (global next) h o b = omega arith
word-inside z (global current) h o b = omega arith
word-inside z (global done) h o b = omega arith
word-inside z (of_lane i next) h o b = (h, omega arith)
word-inside z (of_lane i current) h o b = (h, omega arith)
word-inside z (of_lane i done) h o b = (h, omega arith)

-- ---- what they hold

pub value-first : (s : State) (q : Queue) → value s (first_field q) ≡ first (queue_of s q)
unfolding lane_words
value-first s free = refl
value-first s (global next) = refl
value-first s (global current) = refl
value-first s (global done) = refl
value-first s (of_lane i next) = refl
value-first s (of_lane i current) = refl
value-first s (of_lane i done) = refl

value-word : (s : State) (q : Queue) (o : ℕ) → o < queue_width → value s (word_field q o) ≡ get_or (queue_words (queue_of s q)) o 0
unfolding lane_words
value-word s free o h = get_or-append (queue_words s.table.free) (three_words s.engine.global ++ (s.engine.global.generation ∷ [])) 0 o h
value-word s (global next) o h = queue-word (end_words s) _ (queue_of s (global next)) (part_at queue_width next) o refl h
value-word s (global current) o h = queue-word (end_words s) _ (queue_of s (global current)) (part_at queue_width current) o refl h
value-word s (global done) o h = queue-word (end_words s) _ (queue_of s (global done)) (part_at queue_width done) o refl h
value-word s (of_lane i next) o h = queue-word (lane_words_at s i) _ (queue_of s (of_lane i next)) (part_at queues_at next) o refl h
value-word s (of_lane i current) o h = queue-word (lane_words_at s i) _ (queue_of s (of_lane i current)) (part_at queues_at current) o refl h
value-word s (of_lane i done) o h = queue-word (lane_words_at s i) _ (queue_of s (of_lane i done)) (part_at queues_at done) o refl h

pub value-last : (s : State) (q : Queue) → value s (last_field q) ≡ last (queue_of s q)
value-last s q = value-word s q last_offset (omega arith)

pub value-length : (s : State) (q : Queue) → value s (length_field q) ≡ length (queue_of s q)
value-length s q = value-word s q length_offset (omega arith)

-- ---- they differ, and differ from slots' fields

pub word_first : (q : Queue) (o : ℕ) → 0 < o → same_field (word_field q o) (first_field q) ≡ false
word_first free o h = rw (ne_eqb o 0 (λ e. omega arith))
word_first (global p) o h = rw (ne_eqb (part_at queue_width p + o) (part_at queue_width p) (λ e. omega arith))
word_first (of_lane i p) o h = rw (ne_eqb (part_at queues_at p + o) (part_at queues_at p) (λ e. omega arith))

pub length_last : (q : Queue) → same_field (length_field q) (last_field q) ≡ false
length_last free = refl
length_last (global next) = refl
length_last (global current) = refl
length_last (global done) = refl
length_last (of_lane i next) = refl
length_last (of_lane i current) = refl
length_last (of_lane i done) = refl

pub first_slot : (j k : ℕ) (q : Queue) → same_field (first_field q) (slot j k) ≡ false
first_slot j k free = refl
first_slot j k (global p) = refl
first_slot j k (of_lane i p) = refl

pub word-slot : (j k : ℕ) (q : Queue) (o : ℕ) → same_field (word_field q o) (slot j k) ≡ false
word-slot j k free o = refl
word-slot j k (global p) o = refl
word-slot j k (of_lane i p) o = refl

pub slot-first : (j k : ℕ) (q : Queue) → same_field (slot j k) (first_field q) ≡ false
slot-first j k free = refl
slot-first j k (global p) = refl
slot-first j k (of_lane i p) = refl

pub slot-word : (j k : ℕ) (q : Queue) (o : ℕ) → same_field (slot j k) (word_field q o) ≡ false
slot-word j k free o = refl
slot-word j k (global p) o = refl
slot-word j k (of_lane i p) o = refl

-- ---- what a memory shows

module _ (s : State) (m : List ℕ) (shows : Shows m s) (q : Queue) (named : Named s.sizes q) where
  pub first-shown : at m (ends_at s.sizes q) ≡ first (queue_of s q)
  first-shown = ap (at m) (first-address s.sizes q) ∙ shows.image (first_field q) (first-inside s.sizes q named) ∙ value-first s q

  word-shown : (o : ℕ) → o < queue_width → at m (ends_at s.sizes q + o) ≡ value s (word_field q o)
  word-shown o h = ap (at m) (word_address s.sizes q o) ∙ shows.image (word_field q o) (word-inside s.sizes q named o h)

  pub last-shown : at m (ends_at s.sizes q + last_offset) ≡ last (queue_of s q)
  last-shown = word-shown last_offset (omega arith) ∙ value-last s q

  pub length-shown : at m (ends_at s.sizes q + length_offset) ≡ length (queue_of s q)
  length-shown = word-shown length_offset (omega arith) ∙ value-length s q
