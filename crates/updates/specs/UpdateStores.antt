-- What the stores of the updates need, and what they leave, in words of a memory with a table of sizes z.
use Rattle.std.specs.Prelude.{ℕ, ◌+◌, ◌≤◌, ◌<◌, ◌≡◌, cond, Option, Some, None, List, length}
use Rattle.model.specs.State.{Sizes, State}
use Rattle.model.specs.Layout.{queue_width, free_at, slot_address}
use Rattle.model.specs.Rules.{from_global}
use Rattle.model.specs.Memory.{at}
use Rattle.words.specs.declared.product.Product.{Product}
use Rattle.words.specs.Lent.{Lent}
use Rattle.queues.specs.Queue.{appended, less_first}
use Rattle.chains.specs.declared.Found.{Found}
use Rattle.chains.specs.Chain.{product_set, cleared}
use Rattle.changes.specs.Queues.{Queue, global, lane, done}

-- the queue whose ends stand at `ends` is lent
pub record QueueIn (m : List ℕ) (z : Sizes) (ends : ℕ) : Type 0 where
  pub lent : Lent m z
  pub queue : ends + queue_width ≤ length m

-- the slot that was found can leave the chain with its head at `head` for the queue at `ends`
pub record Leaves (m : List ℕ) (z : Sizes) (head ends : ℕ) (f : Found) : Type 0 where
  pub lent : Lent m z
  pub chain : head < length m
  pub queue : ends + queue_width ≤ length m
  pub inside : f.slot < z.slots

-- the queue at `ends` has no first slot, and n is m
pub record NoneIn (m : List ℕ) (z : Sizes) (ends : ℕ) (n : List ℕ) : Type 0 where
  pub empty : z.slots ≤ at m ends
  pub memory : n ≡ m

-- slot r was taken from the free queue and holds the product; n is left
pub record FilledAt (m : List ℕ) (z : Sizes) (p : Product) (r : ℕ) (n : List ℕ) : Type 0 where
  pub slot : r ≡ at m free_at
  pub inside : r < z.slots
  pub memory : n ≡ product_set (less_first m z free_at) (slot_address z r) p.code p.deposit p.material

abbrev pub Filled : List ℕ → Sizes → Product → Option ℕ → List ℕ → Type 0
Filled m z p None n = NoneIn m z free_at n
Filled m z p (Some r) n = FilledAt m z p r n

-- the queue that hand-back takes from
abbrev pub handed_from : State → ℕ → Queue
handed_from s i = cond (from_global s i) (global done) (lane i done)

-- slot r was taken from the queue at `ends`, cleared and appended to the free queue; n is left
pub record ReclaimedAt (m : List ℕ) (z : Sizes) (ends r : ℕ) (n : List ℕ) : Type 0 where
  pub slot : r ≡ at m ends
  pub inside : r < z.slots
  pub memory : n ≡ appended (cleared (less_first m z ends) (slot_address z r)) z free_at r

abbrev pub Reclaimed : List ℕ → Sizes → ℕ → Option ℕ → List ℕ → Type 0
Reclaimed m z ends None n = NoneIn m z ends n
Reclaimed m z ends (Some r) n = ReclaimedAt m z ends r n
