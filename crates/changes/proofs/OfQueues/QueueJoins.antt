-- One queue appended to another: the state after it has their slots in order, and the sum of their lengths.
use Prim.Native.Nat.{ℕ, ◌+◌, ◌≤◌}
use mathlib.Core.Bool.{cond}
use mathlib.Core.Path.{◌≡◌, refl, ap, sym, ◌∙◌}
use mathlib.Core.Logic.{◌≢◌}
use mathlib.Core.List.{List, [], ◌∷◌, ◌++◌, append-nil}
use native.Mathlib.Omega.{arith}
use lib.ListN.{length, length-append}
use lib.Dec.{ltb, eqb}
use borrow.Author.Tests.{lt-ltb, le-ltb}
use Rattle.model.specs.Word.{none}
use Rattle.model.specs.Lists.{update, is_empty, first, last, successor_in}
use Rattle.model.specs.State.{Sizes, State}
use Rattle.model.specs.Layout.{queue_link_at}
use Rattle.model.specs.Memory.{all_queues}
use Rattle.model.specs.Calls.{stored}
use Rattle.laws.specs.Successors.{first-append, last-append}
use Rattle.representation.proofs.Addresses.Fields.{Field, Inside, value}
use Rattle.representation.proofs.Addresses.Writes.{put, writes-done}
use Rattle.queues.specs.Queue.{cleared, appended_run, joined}
use Rattle.queues.proofs.AllQueues.{join-links}
use Rattle.laws.specs.Updates.{update-commutes}
use Rattle.changes.proofs.Shows.{Shows, stored-shown}
use Rattle.changes.proofs.Shape.{Shape}
use Rattle.changes.proofs.Puts.{linked, put-over}
use Rattle.changes.specs.Queues.{Queue, Named, queue_of, with_queue, joined_state, ends_at}
use Rattle.changes.proofs.OfQueues.QueuePlaces.{position, position-apart, all_queues-with_queue, all_queues-at}
use Rattle.changes.proofs.OfQueues.QueuePlaces.{position-inside}
use Rattle.changes.proofs.OfQueues.QueueStates.{with_queue-same, lanes-with_queue}
use Rattle.changes.proofs.OfQueues.QueueEnds.{first_field, last_field, length_field, first-shown, last-shown, length-shown}
use Rattle.changes.proofs.OfQueues.QueueFields.{links_with, value-with_queue, linked-over}
use Rattle.changes.proofs.OfQueues.QueueChanges.{few-none, queues-once, first_below, queue-few, followed_value, run-writes, cleared-writes, followed-values}

-- queue r is appended to queue q, and is empty afterwards
module _ (s : State) (m : List ℕ) (shows : Shows m s) (w : Shape s) (q r : Queue) (named_q : Named s.sizes q) (named_r : Named s.sizes r)
    (apart : q ≢ r) where
  abbrev z : Sizes
  z = s.sizes

  -- q is longer, r as it was
  abbrev longer : State
  longer = with_queue q (λ xs. xs ++ queue_of s r) s

  -- the queue links then
  links-joined : (j : ℕ) → j ≢ none
      → links_with longer (λ xs. []) r j ≡ cond (eqb j (last (queue_of s q))) (first (queue_of s r)) (successor_in (all_queues s) j none)
  links-joined j n =
      ap (λ (xss : List (List ℕ)). successor_in (update xss (position r) (λ xs. [])) j none) (all_queues-with_queue s q (λ xs. xs ++ queue_of s r))
      ∙ ap (λ (xss : List (List ℕ)). successor_in xss j none)
      (update-commutes (all_queues s) (position q) (position r) (λ xs. xs ++ queue_of s r) (λ xs. []) (position-apart q r apart))
      ∙ ap (λ (ys : List ℕ). successor_in (update (update (all_queues s) (position r) (λ xs. [])) (position q) (λ xs. xs ++ ys)) j none) (sym (all_queues-at s r))
      ∙ join-links (all_queues s) (position q) (position r) (position-apart q r apart) (position-inside s q w.lanes named_q)
      (position-inside s r w.lanes named_r)
      (queues-once s w) j n
      ∙ rw (all_queues-at s q, all_queues-at s r)

  module _ (y : ℕ) (ys : List ℕ) (is : queue_of s r ≡ y ∷ ys) where
    -- order and sum
    abbrev last_value : Field → ℕ
    last_value = put (followed_value s m shows w q named_q y) (last_field q) (last (y ∷ ys))

    abbrev run_value : Field → ℕ
    run_value = put last_value (length_field q) (length (queue_of s q) + length (y ∷ ys))

    -- the fields of the longer queue, with those links
    value-longer : (f : Field) → Inside z f → linked queue_link_at (links_with longer (λ xs. []) r) (value longer) f ≡ run_value f
    unfolding first is_empty
    value-longer f b =
        linked-over q (queue_of s q ++ queue_of s r) (links_with s (λ xs. xs ++ queue_of s r) q) (links_with longer (λ xs. []) r) (value s) (value longer)
        (value-with_queue s (λ xs. xs ++ queue_of s r) q w.lanes named_q) f
        ∙ rw (last_is, first-is, length_is)
        (put-over (put (put (linked queue_link_at (links_with longer (λ xs. []) r) (value s)) (first_field q) (cond (is_empty (queue_of s q)) y (first (queue_of s q)))) (last_field q) (last (y ∷ ys)))
        last_value (length_field q) (length (queue_of s q) + length (y ∷ ys)) f
        (put-over (put (linked queue_link_at (links_with longer (λ xs. []) r) (value s)) (first_field q) (cond (is_empty (queue_of s q)) y (first (queue_of s q))))
        (followed_value s m shows w q named_q y) (last_field q) (last (y ∷ ys)) f
        (followed-values s m shows w q named_q y (links_with longer (λ xs. []) r) link-is f b)))
      where
        last_is : last (queue_of s q ++ queue_of s r) ≡ last (y ∷ ys)
        last_is = ap (λ (xs : List ℕ). last (queue_of s q ++ xs)) is ∙ last-append (queue_of s q) (y ∷ ys)

        first-is : first (queue_of s q ++ queue_of s r) ≡ cond (is_empty (queue_of s q)) y (first (queue_of s q))
        first-is = ap (λ (xs : List ℕ). first (queue_of s q ++ xs)) is ∙ first-append (queue_of s q) (y ∷ ys)

        length_is : length (queue_of s q ++ queue_of s r) ≡ length (queue_of s q) + length (y ∷ ys)
        length_is = ap (λ (xs : List ℕ). length (queue_of s q ++ xs)) is ∙ length-append (queue_of s q) (y ∷ ys)

        link-is : (j : ℕ) → j ≢ none → links_with longer (λ xs. []) r j ≡ cond (eqb j (last (queue_of s q))) y (successor_in (all_queues s) j none)
        link-is j n = links-joined j n ∙ ap (λ (xs : List ℕ). cond (eqb j (last (queue_of s q))) (first xs) (successor_in (all_queues s) j none)) is

    abbrev run : List ℕ
    run = appended_run m z (ends_at z q) y (last (y ∷ ys)) (length (y ∷ ys))

    run-joined : cleared run (ends_at z r) ≡ stored (joined_state q r s) m
    unfolding first last
    run-joined =
        writes-done (joined_state q r s) m (cleared run (ends_at z r)) (put (put (put run_value (first_field r) none) (last_field r) none) (length_field r) 0)
        shows.long
        (cleared-writes s m shows w r named_r run run_value
        (run-writes s m shows w q named_q y (last (y ∷ ys)) (length (y ∷ ys)) (omega (arith, queue-few s w q, few-other, w.few))))
        (λ f b. value-with_queue longer (λ xs. []) r (lanes-with_queue s q (λ xs. xs ++ queue_of s r) w.lanes) named_r f
        ∙ put-over (put (put (linked queue_link_at (links_with longer (λ xs. []) r) (value longer)) (first_field r) none) (last_field r) none)
        (put (put run_value (first_field r) none) (last_field r) none) (length_field r) 0 f
        (put-over (put (linked queue_link_at (links_with longer (λ xs. []) r) (value longer)) (first_field r) none)
        (put run_value (first_field r) none) (last_field r) none f
        (put-over (linked queue_link_at (links_with longer (λ xs. []) r) (value longer)) run_value (first_field r) none f (value-longer f b))))
      where
        few-other : length (y ∷ ys) ≤ z.slots
        few-other = rw is at (queue-few s w r)

  pub join-queues : joined m z (ends_at z q) (ends_at z r) ≡ stored (joined_state q r s) m
  unfolding joined first
  join-queues = go (queue_of s r) refl
    where
      go : (ys : List ℕ) → queue_of s r ≡ ys → joined m z (ends_at z q) (ends_at z r) ≡ stored (joined_state q r s) m
      go [] e =
          rw (ap (λ (x : ℕ). ltb x z.slots) (first-shown s m shows r named_r ∙ ap first e) ∙ le-ltb none z.slots (few-none s w))
          (sym (stored-shown s m shows)
          ∙ ap (λ (t : State). stored t m)
          (sym (ap (with_queue r (λ xs. [])) (with_queue-same s q (λ xs. xs ++ queue_of s r) (rw e (append-nil (queue_of s q))))
          ∙ with_queue-same s r (λ xs. []) (sym e))))
      go (y ∷ ys) e =
          rw (ap (λ (x : ℕ). ltb x z.slots) (first-shown s m shows r named_r ∙ ap first e) ∙ lt-ltb y z.slots (first_below s w r y ys e))
          (rw (first-shown s m shows r named_r ∙ ap first e, last-shown s m shows r named_r ∙ ap last e, length-shown s m shows r named_r ∙ ap length e)
          (run-joined y ys e))
