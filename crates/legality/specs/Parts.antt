-- Legality's sentences about the slots, as the check decides them, and the walks of the queues.
use Rattle.std.specs.Prelude.{ℕ, ◌+◌, ◌≡◌, ◌≤◌, Bool, true, not, List, [], ◌∷◌, ◌++◌, length}
use Rattle.model.specs.Lists.{all, every, from}
use Rattle.model.specs.State.{lane_count}
use Rattle.model.specs.Layout.{chain_count, max_slots, heads_at, lane_length, queue_width, free_at, global_queues_at, deposit_at, material_at}
use Rattle.model.specs.Layout.{chain_link_at, queue_link_at, lanes_body, slots_body, slot_address}
use Rattle.model.specs.Rules.{wrong_product}
use Rattle.model.specs.Memory.{at, wide, sizes, slot_word, state}
use Rattle.model.specs.Legal.{slot_numbers, slot_or_none, ends_in_range, queues_in_range, stands_once, lasts_agree, lengths_agree, on_their_chains}
use Rattle.model.specs.Legal.{no_code_twice, queue_links_at_rest, free_blank}
use Rattle.slot_places.specs.WalkSteps.{Step, several, queue_count, queue_steps, lane_steps}
use Rattle.distinct_codes.specs.declared.slots.Slots.{Slots}
use Rattle.slot_places.specs.declared.slots.Queued.TheVariants.{Free, Retired}
use Rattle.engine_legality.specs.WordSentences.{engine_legal}

-- the slots are those of the memory's table, and the rest of it is legal; with the address of lane 0 and the number of lanes
pub record Table (t : Slots) (lane n : ℕ) : Type 0 where
  pub slots : t.base ≡ slots_body (sizes t.memory.now)
  pub count : t.count ≡ (sizes t.memory.now).slots
  pub few : t.count ≤ max_slots
  pub inside : t.base ≤ length t.memory.now
  pub lanes : lane ≡ lanes_body (sizes t.memory.now)
  pub lane_count : n ≡ lane_count (sizes t.memory.now)
  pub engine : engine_legal t.memory.now ≡ true

module _ (m : List ℕ) where
  -- the heads of the chains, where their walks begin
  abbrev pub chain_heads_in_range : Bool
  chain_heads_in_range = all (λ (k : ℕ). slot_or_none m (at m (heads_at + k))) (from 0 chain_count)

  abbrev pub chain_links_in_range : Bool
  chain_links_in_range = all (λ (i : ℕ). slot_or_none m (slot_word m chain_link_at i)) (slot_numbers m)

  abbrev pub queue_links_in_range : Bool
  queue_links_in_range = all (λ (i : ℕ). slot_or_none m (slot_word m queue_link_at i)) (slot_numbers m)

  abbrev pub products_in_range : Bool
  products_in_range =
      all
      (λ (i : ℕ). let b = slot_address (sizes m) i in not (wrong_product (wide m b) (at m (b + deposit_at)) (at m (b + material_at))))
      (slot_numbers m)

  -- the sentences about the slots, the chains and the queues that are no lane's
  unfoldable pub table_legal : Bool
  table_legal =
      every
      (chain_heads_in_range ∷ ends_in_range m (at m) free_at ∷ queues_in_range m (at m) global_queues_at
      ∷ chain_links_in_range ∷ queue_links_in_range ∷ products_in_range
      ∷ stands_once (state m) ∷ lasts_agree m (state m) ∷ lengths_agree m (state m) ∷ on_their_chains (state m) ∷ no_code_twice (state m)
      ∷ queue_links_at_rest m (state m) ∷ free_blank m (state m) ∷ [])

-- the walks of all queues: the free one, the global ones, and those of n lanes, whose words begin at lane
unfoldable pub queued_steps : List ℕ → ℕ → ℕ → ℕ → ℕ → List Step
queued_steps m base lane n S =
    several (queue_steps m base S Free) queue_width free_at 1
    ++ (several (queue_steps m base S Retired) queue_width global_queues_at queue_count ++ several (lane_steps m base S) lane_length lane n)
