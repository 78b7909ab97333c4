-- A memory that holds the words of a well-formed state: its chains and queues read as that state's.
use Prim.Native.Nat.{ℕ, ◌+◌, ◌<◌, ◌≤◌}
use mathlib.Core.Path.{◌≡◌, ap, ◌∙◌}
use mathlib.Core.List.{List, []}
use native.Mathlib.Omega.{arith}
use lib.ListN.{length, get_or}
use Rattle.model.specs.Word.{none}
use Rattle.model.specs.Lists.{first, concat, count, successor, successor_in}
use Rattle.model.specs.State.{Sizes, Engine, Table, State}
use Rattle.model.specs.Layout.{heads_at, max_slots, chain_count, queue_width, current_offset, done_offset, queues_width, global_queues_at}
use Rattle.model.specs.Layout.{global_generation_at, chain_link_at, queue_link_at}
use Rattle.model.specs.Memory.{at, sizes, walk, slot_words, slot_word, slot_field, all_queues, read_chain, read_chains, read_queue, read_queues}
use Rattle.laws.specs.ListLaws.{map-from-get_or}
use Rattle.laws.specs.Counts.{count-concat-get_or}
use Rattle.laws.specs.Repeats.{length-at-most}
use Rattle.laws.specs.Successors.{successor_in-one}
use Rattle.laws.specs.Walks.{linked, walk-back}
use Rattle.representation.proofs.WellFormed.{WellFormed}
use Rattle.representation.proofs.Addresses.Fields.{head, end, slot, value}
use Rattle.representation.proofs.Addresses.Writes.{Image}
use Rattle.representation.proofs.FromMemory.Reading.{length-slot_field, get_or-slot_field}
use Rattle.representation.proofs.FromState.Standing.{fit, chain-once, chain-below, queue-once, queue-below}

-- ---- one of several lists, walked

module _ (links : List ℕ) (n : ℕ) (xss : List (List ℕ)) (rest : ℕ → ℕ) (size : length links ≡ n) (few : n ≤ max_slots)
    (once : (i : ℕ) → count i (concat xss) ≤ 1) (below : (i : ℕ) → 0 < count i (concat xss) → i < n)
    (links-are : (i : ℕ) → i < n → get_or links i none ≡ successor_in xss i (rest i)) where
  walked : (j steps : ℕ) → n < steps → walk links (first (get_or xss j [])) steps ≡ get_or xss j []
  walked j steps enough =
      walk-back links xs steps (omega arith) (omega (arith, length-at-most n xs inside most)) (λ i b. omega (arith, inside i b)) (linked links xs most next)
    where
      xs : List ℕ
      xs = get_or xss j []

      most : (i : ℕ) → count i xs ≤ 1
      most i = omega (arith, count-concat-get_or xss j i, once i)

      inside : (i : ℕ) → 0 < count i xs → i < n
      inside i b = below i (omega (arith, count-concat-get_or xss j i))

      next : (i : ℕ) → 0 < count i xs → get_or links i none ≡ successor xs i none
      next i b = links-are i (inside i b) ∙ successor_in-one xss j i (rest i) b (once i)

-- ---- the memory's own sizes

module _ (e : Engine) (t : Table) (m : List ℕ) where
  abbrev z : Sizes
  z = sizes m

  abbrev pub sized : State
  sized = record { sizes = z; engine = e; table = t }

  module _ (w : WellFormed sized) (holds : Image z m (value sized)) where
    -- ---- chains and queues

    -- a walk that begins at the first of list j, of more steps than there are slots
    walk-link : (k : ℕ) (xss : List (List ℕ)) (rest : ℕ → ℕ) → ((i : ℕ) → count i (concat xss) ≤ 1) → ((i : ℕ) → 0 < count i (concat xss) → i < z.slots)
        → ((i : ℕ) → i < z.slots → slot_word m k i ≡ successor_in xss i (rest i))
        → (j h steps : ℕ) → h ≡ first (get_or xss j []) → z.slots < steps → walk (slot_field m k) h steps ≡ get_or xss j []
    walk-link k xss rest o b g j h steps e enough =
        ap (λ (i : ℕ). walk (slot_field m k) i steps) e
        ∙ walked (slot_field m k) z.slots xss rest (length-slot_field m k) (fit sized w).few_slots o b (λ i p. get_or-slot_field m k i p ∙ g i p) j steps enough

    pub chains-are : read_chains m ≡ t.chains
    unfolding read_chains slot_words
    chains-are =
        map-from-get_or (read_chain m) [] t.chains chain_count w.table.chains
        (λ k b. walk-link chain_link_at t.chains (λ i. get_or t.links i none) (chain-once sized w)
        (chain-below sized w) (λ i p. holds (slot i chain_link_at) (p, omega arith))
        k (at m (heads_at + k)) _ (holds (head k) b) (omega arith))

    pub queue-is : (a k : ℕ) → at m a ≡ first (get_or (all_queues sized) k []) → read_queue m a ≡ get_or (all_queues sized) k []
    unfolding slot_words
    queue-is a k h =
        walk-link queue_link_at (all_queues sized) (λ i. none) (queue-once sized w) (queue-below sized w) (λ i p. holds (slot i queue_link_at) (p, omega arith))
        k (at m a) _ h (omega arith)

    pub global-is : read_queues m global_generation_at global_queues_at ≡ e.global
    global-is = λ i. record {
      next = queue-is global_queues_at 1 (holds (end queue_width) (omega arith)) i;
      current = queue-is (global_queues_at + current_offset) 2 (holds (end (queue_width + current_offset)) (omega arith)) i;
      done = queue-is (global_queues_at + done_offset) 3 (holds (end (queue_width + done_offset)) (omega arith)) i;
      generation = holds (end (queue_width + queues_width)) (omega arith) i;
    }
