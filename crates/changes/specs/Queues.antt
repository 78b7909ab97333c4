-- Queues by name: the slots of each, a state with one of them anew, and where its ends stand.
use Rattle.std.specs.Prelude.{ℕ, ◌+◌, ◌<◌, List, [], ◌++◌}
use Rattle.model.specs.Lists.{update}
use Rattle.model.specs.State.{Sizes, lane_count, Queues, Lane, State}
use Rattle.model.specs.Layout.{current_offset, done_offset, free_at, global_queues_at, queues_at, lane_address}
use Rattle.model.specs.Engine.{lane_at, set_queues}

-- which of the three queues of an owner
pub data Part : Type 0 where
  next current done : Part

-- the free queue, a global one, or one of a lane
pub data Queue : Type 0 where
  free : Queue
  global : Part → Queue
  lane : ℕ → Part → Queue

-- the lane of the name is one of the table
abbrev pub Named : Sizes → Queue → Type 0
Named z free = Unit {0}
Named z (global p) = Unit {0}
Named z (lane i p) = i < lane_count z

-- ---- one queue of a state

-- that queue of an owner's, and the owner's queues with it changed by f
abbrev pub part_of : Queues → Part → List ℕ
part_of q next = q.next
part_of q current = q.current
part_of q done = q.done

abbrev pub with_part : Part → (List ℕ → List ℕ) → Queues → Queues
with_part next f q = record { next = f q.next; current = q.current; done = q.done; generation = q.generation }
with_part current f q = record { next = q.next; current = f q.current; done = q.done; generation = q.generation }
with_part done f q = record { next = q.next; current = q.current; done = f q.done; generation = q.generation }

-- a lane with one of its queues changed by f
abbrev pub at_part : Part → (List ℕ → List ℕ) → Lane → Lane
at_part p f l = set_queues (with_part p f l.queues) l

-- the slots of a queue
abbrev pub queue_of : State → Queue → List ℕ
queue_of s free = s.table.free
queue_of s (global p) = part_of s.engine.global p
queue_of s (lane i p) = part_of (lane_at s.engine i).queues p

-- what of the state a change of the queue by f can change, for each name
abbrev free_with : Queue → (List ℕ → List ℕ) → List ℕ → List ℕ
free_with free f xs = f xs
free_with (global p) f xs = xs
free_with (lane i p) f xs = xs

abbrev global_with : Queue → (List ℕ → List ℕ) → Queues → Queues
global_with free f q = q
global_with (global p) f q = with_part p f q
global_with (lane i p) f q = q

abbrev lanes_with : Queue → (List ℕ → List ℕ) → List Lane → List Lane
lanes_with free f ls = ls
lanes_with (global p) f ls = ls
lanes_with (lane i p) f ls = update ls i (at_part p f)

-- the queue changed by f
abbrev pub with_queue : Queue → (List ℕ → List ℕ) → State → State
with_queue q f s =
    record {
      sizes = s.sizes;
      engine = record {
        current = s.engine.current;
        largest = s.engine.largest;
        lanes = lanes_with q f s.engine.lanes;
        global = global_with q f s.engine.global;
      };
      table = record { chains = s.table.chains; free = free_with q f s.table.free; products = s.table.products; links = s.table.links };
    }

-- queue r appended to queue q, and empty afterwards
abbrev pub joined_state : Queue → Queue → State → State
joined_state q r s = with_queue r (λ xs. []) (with_queue q (λ xs. xs ++ queue_of s r) s)

-- where that queue's first stands among the ends from a on
abbrev pub part_at : ℕ → Part → ℕ
part_at a next = a
part_at a current = a + current_offset
part_at a done = a + done_offset

-- where a queue's first stands; its last is the word after it
abbrev pub ends_at : Sizes → Queue → ℕ
ends_at z free = free_at
ends_at z (global p) = part_at global_queues_at p
ends_at z (lane i p) = part_at (lane_address z i + queues_at) p
