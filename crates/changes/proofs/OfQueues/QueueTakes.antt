-- What `less_first` does to a state that the memory shows, over the queue's name: the queue's first leaves it.
use Prim.Native.Nat.{ℕ, ◌+◌, ◌<◌, ◌≤◌}
use mathlib.Core.Path.{◌≡◌, refl, ap, sym, ◌∙◌}
use mathlib.Core.List.{List, [], ◌∷◌}
use native.Mathlib.Omega.{arith}
use lib.ListN.{length, set}
use borrow.Author.Tests.{lt-ltb, le-ltb}
use Rattle.model.specs.Word.{none, less}
use Rattle.model.specs.Lists.{first, last, tail, count, successor}
use Rattle.model.specs.State.{Sizes, State}
use Rattle.model.specs.Layout.{last_offset, length_offset, queue_link_at}
use Rattle.model.specs.Memory.{at, all_queues, slot_words}
use Rattle.model.specs.Calls.{stored}
use Rattle.laws.specs.Tests.{eqb-self}
use Rattle.laws.specs.Counts.{count-self}
use Rattle.laws.specs.Successors.{successor_in-one}
use Rattle.representation.proofs.Addresses.Fields.{Field, slot, Inside, value}
use Rattle.representation.proofs.Addresses.Writes.{Writes, put, writes-none, writes-put, writes-done}
use Rattle.queues.specs.Queue.{link_address, cleared, shortened, begun_at, less_first}
use Rattle.queues.proofs.AllQueues.{take-links}
use Rattle.changes.proofs.Shows.{Shows, stored-shown}
use Rattle.changes.proofs.Shape.{Shape}
use Rattle.changes.proofs.Puts.{linked, linked-put-one, put_same, put-over}
use Rattle.changes.specs.Queues.{Queue, Named, queue_of, with_queue, ends_at}
use Rattle.changes.proofs.OfQueues.QueuePlaces.{position, all_queues-at, position-inside}
use Rattle.changes.proofs.OfQueues.QueueStates.{with_queue-same}
use Rattle.changes.proofs.OfQueues.QueueEnds.{first_field, word_field, last_field, length_field, value-last, word_first, word-slot, first-shown}
use Rattle.changes.proofs.OfQueues.QueueFields.{links_with, value-with_queue}
use Rattle.changes.proofs.OfQueues.QueueChanges.{queues-once, slot-real, few-none, queue-below, first_below, queue-few}
use Rattle.changes.proofs.OfQueues.QueueChanges.{first-writes, word-writes, cleared-writes, stored-length}

count-tail : (i x : ℕ) (xs : List ℕ) → count i xs ≤ count i (x ∷ xs)
unfolding count
count-tail i x xs = omega arith

module _ (s : State) (m : List ℕ) (shows : Shows m s) (w : Shape s) (q : Queue) (named : Named s.sizes q) where
  abbrev z : Sizes
  z = s.sizes

  -- a queue's first slot is linked to its second
  first-link : (x : ℕ) (xs : List ℕ) → queue_of s q ≡ x ∷ xs → at m (link_address z x) ≡ first xs
  unfolding slot_words successor
  first-link x xs e =
      shows.image (slot x queue_link_at) (first_below s w q x xs e, omega arith)
      ∙ successor_in-one (all_queues s) (position q) x none (rw (all_queues-at s q) (rw e (omega (arith, count-self x xs)))) (queues-once s w x)
      ∙ rw (all_queues-at s q) (rw e (rw (eqb-self x)))

  abbrev less_link : ℕ → List ℕ
  less_link x = set m (link_address z x) none

  less_first-cons : (x : ℕ) (xs : List ℕ) → queue_of s q ≡ x ∷ xs
      → less_first m z (ends_at z q) ≡ begun_at (less_link x) z (ends_at z q) (first xs)
  unfolding less_first first
  less_first-cons x xs e =
      rw (first-shown s m shows q named)
      (rw e (rw (lt-ltb x z.slots (first_below s w q x xs e)) (ap (begun_at (less_link x) z (ends_at z q)) (first-link x xs e))))

  abbrev less_value : ℕ → Field → ℕ
  less_value x = put (value s) (slot x queue_link_at) none

  taken-link : (x : ℕ) (xs : List ℕ) → queue_of s q ≡ x ∷ xs → (f : Field) → Inside z f → linked queue_link_at (links_with s tail q) (value s) f ≡ less_value x f
  unfolding first slot_words
  taken-link x xs e =
      linked-put-one z queue_link_at (links_with s tail q) (value s) x none
      (λ j b. take-links (all_queues s) (position q) (position-inside s q w.lanes named) (queues-once s w) j (slot-real s w j b)
      ∙ rw (all_queues-at s q) (rw e))

  link-writes : (x : ℕ) (xs : List ℕ) → queue_of s q ≡ x ∷ xs → Writes z m (less_link x) (less_value x)
  link-writes x xs e =
      writes-put z m shows.long m (value s) (slot x queue_link_at) (link_address z x) none refl (first_below s w q x xs e, omega arith)
      (writes-none z m shows.long (value s) shows.image)

  begun-taken : (x : ℕ) (xs : List ℕ) → queue_of s q ≡ x ∷ xs → begun_at (less_link x) z (ends_at z q) (first xs) ≡ stored (with_queue q tail s) m
  unfolding begun_at first last tail
  begun-taken x [] e =
      rw (le-ltb none z.slots (few-none s w))
      (writes-done (with_queue q tail s) m (cleared (less_link x) (ends_at z q))
      (put (put (put (less_value x) (first_field q) none) (last_field q) none) (length_field q) 0) shows.long
      (cleared-writes s m shows w q named (less_link x) (less_value x) (link-writes x [] e))
      (λ f b. value-with_queue s tail q w.lanes named f
      ∙ rw e
      (put-over (put (put (linked queue_link_at (links_with s tail q) (value s)) (first_field q) none) (last_field q) none)
      (put (put (less_value x) (first_field q) none) (last_field q) none) (length_field q) 0 f
      (put-over (put (linked queue_link_at (links_with s tail q) (value s)) (first_field q) none) (put (less_value x) (first_field q) none) (last_field q) none f
      (put-over (linked queue_link_at (links_with s tail q) (value s)) (less_value x) (first_field q) none f (taken-link x [] e f b))))))
  begun-taken x (y ∷ ys) e =
      rw (lt-ltb y z.slots below)
      (writes-done (with_queue q tail s) m (shortened begun (ends_at z q)) (put begin_value (length_field q) (length (y ∷ ys))) shows.long
      (rw shorter (word-writes s m shows w q named length_offset (omega arith) begun begin_value (length (y ∷ ys)) begins))
      (λ f b. value-with_queue s tail q w.lanes named f
      ∙ rw e
      (put-over (put (put (linked queue_link_at (links_with s tail q) (value s)) (first_field q) y) (last_field q) (last (y ∷ ys)))
      begin_value (length_field q) (length (y ∷ ys)) f
      (put-over (put (linked queue_link_at (links_with s tail q) (value s)) (first_field q) y) begin_value (last_field q) (last (y ∷ ys)) f
      (put-over (linked queue_link_at (links_with s tail q) (value s)) (less_value x) (first_field q) y f (taken-link x (y ∷ ys) e f b))
      ∙ put_same begin_value (last_field q) (last (y ∷ ys)) at_last f))))
    where
      below : y < z.slots
      below = queue-below s w q y (rw e (omega (arith, count-tail y x (y ∷ ys), count-self y ys)))

      begun : List ℕ
      begun = set (less_link x) (ends_at z q) y

      begin_value : Field → ℕ
      begin_value = put (less_value x) (first_field q) y

      begins : Writes z m (set (less_link x) (ends_at z q) y) (put (less_value x) (first_field q) y)
      begins = first-writes s m shows w q named (less_link x) (less_value x) y (link-writes x (y ∷ ys) e)

      -- the stores so far leave the other words of the queue alone
      left_alone : (o : ℕ) → 0 < o → put (less_value x) (first_field q) y (word_field q o) ≡ value s (word_field q o)
      left_alone o h = rw (word_first q o h, word-slot x queue_link_at q o)

      at_last : put (less_value x) (first_field q) y (last_field q) ≡ last (y ∷ ys)
      at_last = left_alone last_offset (omega arith) ∙ value-last s q ∙ rw e

      shorter : less (at (set (less_link x) (ends_at z q) y) (ends_at z q + length_offset)) 1 ≡ length (y ∷ ys)
      shorter =
          let k : at (set (less_link x) (ends_at z q) y) (ends_at z q + length_offset) ≡ length (x ∷ (y ∷ ys)) =
          stored-length s m shows w q named (set (less_link x) (ends_at z q) y) (put (less_value x) (first_field q) y) begins (left_alone length_offset (omega arith)) ∙ ap length e in
          let few : length (x ∷ (y ∷ ys)) ≤ z.slots = rw e at (queue-few s w q) in
          ap (λ (n : ℕ). less n 1) k ∙ omega (arith, w.few)

  -- an empty queue stays
  pub take-first : less_first m z (ends_at z q) ≡ stored (with_queue q tail s) m
  unfolding less_first first tail
  take-first = go (queue_of s q) refl
    where
      go : (xs : List ℕ) → queue_of s q ≡ xs → less_first m z (ends_at z q) ≡ stored (with_queue q tail s) m
      go [] e =
          rw (first-shown s m shows q named)
          (rw e (rw (le-ltb none z.slots (few-none s w))
          (sym (stored-shown s m shows) ∙ ap (λ (t : State). stored t m) (sym (with_queue-same s q tail (rw e))))))
      go (x ∷ xs) e = less_first-cons x xs e ∙ begun-taken x xs e
