-- Changes of queues keep the shape of a state.
use Prim.Native.Nat.{ℕ, ◌+◌, ◌<◌, ◌≤◌}
use mathlib.Core.Bool.{false}
use mathlib.Core.Path.{◌≡◌}
use mathlib.Core.Logic.{◌≢◌}
use mathlib.Core.List.{List, [], ◌∷◌, ◌++◌}
use native.Mathlib.Omega.{arith}
use Rattle.model.specs.Lists.{first, tail, is_empty, count}
use Rattle.model.specs.State.{State}
use Rattle.laws.specs.Counts.{mark-self, count-first, count-append}
use Rattle.changes.proofs.Shape.{Shape, chained, queued}
use Rattle.changes.specs.Queues.{Queue, Named, queue_of, with_queue, joined_state}
use Rattle.changes.proofs.OfQueues.QueuePlaces.{queue_of-other}
use Rattle.changes.proofs.OfQueues.QueueStates.{lanes-with_queue, queued-with_queue, shape-with_queue, queue-le}

-- the first leaves
module _ (s : State) (w : Shape s) (q : Queue) (named : Named s.sizes q) where
  count-tail : (x : ℕ) (xs : List ℕ) → count x (tail xs) ≤ count x xs
  unfolding count tail
  count-tail x [] = omega arith
  count-tail x (y ∷ xs) = omega arith

  queued-tail : (x : ℕ) → queued x (with_queue q tail s) ≤ queued x s
  queued-tail x = omega (arith, queued-with_queue s q tail w.lanes named x, count-tail x (queue_of s q))

  pub shape-take : Shape (with_queue q tail s)
  shape-take = shape-with_queue s q tail w (λ x. omega (arith, queued-tail x, w.once x)) (λ x h. w.below x (omega (arith, queued-tail x)))

  -- it stands nowhere then
  pub taken_out : is_empty (queue_of s q) ≡ false → chained (first (queue_of s q)) s + queued (first (queue_of s q)) (with_queue q tail s) ≡ 0
  taken_out e = omega (arith, queued-with_queue s q tail w.lanes named x, count-first x (queue_of s q) e, mark-self x, w.once x)
    where
      x : ℕ
      x = first (queue_of s q)

  pub taken-inside : is_empty (queue_of s q) ≡ false → first (queue_of s q) < s.sizes.slots
  taken-inside e = w.below x (omega (arith, queue-le s q x, count-first x (queue_of s q) e, mark-self x))
    where
      x : ℕ
      x = first (queue_of s q)

-- queue r is appended to queue q, and is empty afterwards
module _ (s : State) (w : Shape s) (q r : Queue) (named_q : Named s.sizes q) (named_r : Named s.sizes r) (apart : q ≢ r) where
  abbrev longer : State
  longer = with_queue q (λ xs. xs ++ queue_of s r) s

  queued-joined : (x : ℕ) → queued x (joined_state q r s) ≡ queued x s
  unfolding count
  queued-joined x =
      let a = queued-with_queue s q (λ xs. xs ++ queue_of s r) w.lanes named_q x in
      let b : queued x (joined_state q r s) + count x (queue_of s r) ≡ queued x longer + 0 =
      rw (queue_of-other s q r (λ xs. xs ++ queue_of s r) apart)
      at (queued-with_queue longer r (λ xs. []) (lanes-with_queue s q (λ xs. xs ++ queue_of s r) w.lanes) named_r x) in
      omega (arith, count-append x (queue_of s q) (queue_of s r))

  pub shape-join : Shape (joined_state q r s)
  shape-join = record {
    few = w.few;
    chains = w.chains;
    lanes = lanes-with_queue longer r (λ xs. []) (lanes-with_queue s q (λ xs. xs ++ queue_of s r) w.lanes);
    links = w.links;
    products = w.products;
    once = λ x. omega (arith, queued-joined x, w.once x);
    below = λ x h. w.below x (omega (arith, queued-joined x));
  }
