-- When a memory is legal: document 01, "The memory", last paragraph, and document 02, requests 6 and 8: a definition a sentence, in their order. Sentences
-- that speak of chains, queues and lanes are about the state that the memory reads as; the others are about its words.
use Rattle.std.specs.Prelude.{ℕ, ◌+◌, ◌/◌, ◌%◌, ◌^◌, Bool, false, not, cond, ◌&&◌, ◌||◌, List, [], ◌∷◌, ◌++◌, map, length, get_or, take, leb, ltb, eqb}
use Rattle.model.specs.Word.{none, up, down, later}
use Rattle.model.specs.Lists.{all, every, is_empty, from, last, concat, count, member, same, distinct}
use Rattle.model.specs.State.{Sizes, cabinet_count, lane_count, is_running, is_held, Queues, Lane, State}
use Rattle.model.specs.Layout.{max_yards, max_cabinets, max_places, max_slots, counts_width, chain_count, contents_length, last_offset, length_offset, current_offset, done_offset}
use Rattle.model.specs.Layout.{yard_mask_at, heads_at, free_at, global_queues_at, lookup_bit, snapshot_bit, flag_count, flags_at, snapshot_at, queues_at}
use Rattle.model.specs.Layout.{lookup_at, position_at, deposit_at, material_at, chain_link_at, queue_link_at, lane_address, slot_address, total}
use Rattle.model.specs.Engine.{lane_at}
use Rattle.model.specs.Table.{product_at, chain_number}
use Rattle.model.specs.Rules.{wrong_code, wrong_product}
use Rattle.model.specs.Memory.{at, wide, sizes, lane_word, slot_word, mask_word, yard_word, state, contents, all_queues, flag}

-- yards 1 to 8, cabinets of a yard 1 to 8, lanes of a cabinet 1 to 8, slots 1 to 1,024
unfoldable pub sizes_fit : Sizes → Bool
sizes_fit z =
    every
    (leb 1 z.yards ∷ leb z.yards max_yards
    ∷ leb 1 z.cabinets ∷ leb z.cabinets max_cabinets
    ∷ leb 1 z.places ∷ leb z.places max_places
    ∷ leb 1 z.slots ∷ leb z.slots max_slots ∷ [])

abbrev pub implies : Bool → Bool → Bool
implies a b = not a || b

-- ---- the words

module _ (m : List ℕ) where
  abbrev pub lane_numbers : List ℕ
  lane_numbers = from 0 (lane_count (sizes m))

  abbrev pub slot_numbers : List ℕ
  slot_numbers = from 0 (sizes m).slots

  abbrev pub cabinet_numbers : List ℕ
  cabinet_numbers = from 0 (cabinet_count (sizes m))

  abbrev pub yard_numbers : List ℕ
  yard_numbers = from 0 (sizes m).yards

  -- contents agree with the sizes, and the total is not above the length
  abbrev pub contents_sentences : List Bool
  contents_sentences =
      leb contents_length (length m)
      ∷ sizes_fit (sizes m)
      ∷ same (take contents_length m) (contents (sizes m))
      ∷ leb (total (sizes m)) (length m)
      ∷ []

  unfoldable pub contents_agree : Bool
  contents_agree = every contents_sentences

  -- flags are in range
  unfoldable pub flags_in_range : Bool
  flags_in_range = all (λ (i : ℕ). ltb (lane_word m i flags_at) (2 ^ flag_count)) lane_numbers

  -- masks are in range: the yard mask, the yards' cabinet masks, the cabinets' lane masks
  unfoldable pub masks_in_range : Bool
  masks_in_range =
      ltb (at m yard_mask_at) (2 ^ (sizes m).yards)
      && all (λ (y : ℕ). ltb (yard_word m y) (2 ^ (sizes m).cabinets)) yard_numbers
      && all (λ (c : ℕ). ltb (mask_word m c) (2 ^ (sizes m).places)) cabinet_numbers

  -- a slot's number or none
  abbrev pub slot_or_none : ℕ → Bool
  slot_or_none x = ltb x (sizes m).slots || eqb x none

  -- first and last of a queue, which stand at k among these words
  abbrev pub ends_in_range : (ℕ → ℕ) → ℕ → Bool
  ends_in_range word k = slot_or_none (word k) && slot_or_none (word (k + last_offset))

  -- of the next, current and done queues, whose words stand from k on
  abbrev pub queues_in_range : (ℕ → ℕ) → ℕ → Bool
  queues_in_range word k = ends_in_range word k && ends_in_range word (k + current_offset) && ends_in_range word (k + done_offset)

  abbrev pub lane_links_in_range : ℕ → Bool
  lane_links_in_range i = queues_in_range (lane_word m i) queues_at && slot_or_none (lane_word m i position_at)

  -- links are in range: chain heads and the ends of the free and the global queues; the lanes' ends and lookup positions; the slots' links
  abbrev pub link_sentences : List Bool
  link_sentences =
      all (λ (k : ℕ). slot_or_none (at m (heads_at + k))) (from 0 chain_count)
      ∷ ends_in_range (at m) free_at
      ∷ queues_in_range (at m) global_queues_at
      ∷ all lane_links_in_range lane_numbers
      ∷ all (λ (i : ℕ). slot_or_none (slot_word m chain_link_at i)) slot_numbers
      ∷ all (λ (i : ℕ). slot_or_none (slot_word m queue_link_at i)) slot_numbers
      ∷ []

  unfoldable pub links_in_range : Bool
  links_in_range = every link_sentences

  -- fields are in range: codes, deposits and materials of all slots, and lookup codes
  unfoldable pub fields_in_range : Bool
  fields_in_range =
      all (λ (i : ℕ). let b = slot_address (sizes m) i in not (wrong_product (wide m b) (at m (b + deposit_at)) (at m (b + material_at)))) slot_numbers
      && all (λ (i : ℕ). not (wrong_code (wide m (lane_address (sizes m) i + lookup_at)))) lane_numbers

-- ---- chains and queues

-- each slot stands in exactly one chain or queue
unfoldable pub stands_once : State → Bool
stands_once s =
    let xs = concat s.table.chains ++ concat (all_queues s) in
    all (λ (i : ℕ). eqb (count i xs) 1) (from 0 s.sizes.slots)

module _ (m : List ℕ) where
  -- what f gives of a queue is its word at offset o: of the queues whose words stand from a on
  abbrev pub agrees_at : (List ℕ → ℕ) → ℕ → ℕ → Queues → Bool
  agrees_at f o a q =
      every
      (eqb (f q.next) (at m (a + o))
      ∷ eqb (f q.current) (at m (a + current_offset + o))
      ∷ eqb (f q.done) (at m (a + done_offset + o))
      ∷ [])

  -- of all queues
  abbrev pub queues_agree : (List ℕ → ℕ) → ℕ → State → Bool
  queues_agree f o s =
      every
      (eqb (f s.table.free) (at m (free_at + o))
      ∷ agrees_at f o global_queues_at s.engine.global
      ∷ all (λ (i : ℕ). agrees_at f o (lane_address (sizes m) i + queues_at) (lane_at s.engine i).queues) (lane_numbers m)
      ∷ [])

  -- queues agree with first and last; a queue's first is where its walk began
  unfoldable pub lasts_agree : State → Bool
  lasts_agree s = queues_agree last last_offset s

  -- the lengths agree with the queues
  unfoldable pub lengths_agree : State → Bool
  lengths_agree s = queues_agree length length_offset s

abbrev pub code_of : State → ℕ → ℕ
code_of s i = (product_at s.table.products i).code

-- chained slots are on chain (code mod 64)
unfoldable pub on_their_chains : State → Bool
on_their_chains s = all (λ (k : ℕ). all (λ (i : ℕ). eqb (chain_number (code_of s i)) k) (get_or s.table.chains k [])) (from 0 chain_count)

-- no code twice
unfoldable pub no_code_twice : State → Bool
no_code_twice s = distinct (map (code_of s) (concat s.table.chains))

-- ---- unused words hold their rest value

module _ (m : List ℕ) where
  -- snapshot counts without a snapshot: 0, both words of each
  unfoldable pub snapshots_at_rest : Bool
  snapshots_at_rest = all (λ (i : ℕ). flag snapshot_bit (lane_word m i flags_at) || all (λ (k : ℕ). eqb (lane_word m i k) 0) (from snapshot_at counts_width)) (lane_numbers m)

  -- lookup words without a lookup: 0, and none for the position
  unfoldable pub lookups_at_rest : Bool
  lookups_at_rest =
      all
      (λ (i : ℕ). flag lookup_bit (lane_word m i flags_at)
      || every (eqb (lane_word m i lookup_at) 0 ∷ eqb (lane_word m i (lookup_at + 1)) 0 ∷ eqb (lane_word m i position_at) none ∷ []))
      (lane_numbers m)

-- a generation is 0 while its current queue is empty
abbrev pub generation_at_rest : Queues → Bool
generation_at_rest q = not (is_empty q.current) || eqb q.generation 0

unfoldable pub generations_at_rest : State → Bool
generations_at_rest s = generation_at_rest s.engine.global && all (λ (l : Lane). generation_at_rest l.queues) s.engine.lanes

module _ (m : List ℕ) where
  -- a slot outside every queue has queue link none
  unfoldable pub queue_links_at_rest : State → Bool
  queue_links_at_rest s =
      let xs = concat (all_queues s) in
      all (λ (i : ℕ). member i xs || eqb (slot_word m queue_link_at i) none) (slot_numbers m)

-- ---- lanes

abbrev pub none_queued : Queues → Bool
none_queued q = is_empty q.next && is_empty q.current && is_empty q.done

-- an off lane has no section, no queues and no mask bit
unfoldable pub off_lanes : State → Bool
off_lanes s = all (λ (l : Lane). l.online || (not l.reading && none_queued l.queues && not l.pending)) s.engine.lanes

-- a lookup runs only in an open section
unfoldable pub lookups_in_sections : State → Bool
lookups_in_sections s = all (λ (l : Lane). implies (is_running l.lookup) l.reading) s.engine.lanes

-- a snapshot is held only with the mask bit set
unfoldable pub snapshots_pending : State → Bool
snapshots_pending s = all (λ (l : Lane). implies (is_held l.snapshot) l.pending) s.engine.lanes

-- a bit is set exactly when the mask below it is not 0
abbrev pub bit_fits : Bool → ℕ → Bool
bit_fits b w = cond b (ltb 0 w) (eqb w 0)

module _ (m : List ℕ) where
  -- a yard's bit against its cabinet mask, and a cabinet's against its lane mask
  unfoldable pub bits_fit : Bool
  bits_fit =
      all (λ (y : ℕ). bit_fits (flag y (at m yard_mask_at)) (yard_word m y)) (yard_numbers m)
      && all (λ (c : ℕ). bit_fits (flag (c % (sizes m).cabinets) (yard_word m (c / (sizes m).cabinets))) (mask_word m c)) (cabinet_numbers m)

  -- free slots hold code, deposit and material 0 and chain link none
  unfoldable pub free_blank : State → Bool
  free_blank s =
      all
      (λ (i : ℕ). let b = slot_address (sizes m) i in
      eqb (wide m b) 0 && eqb (at m (b + deposit_at)) 0 && eqb (at m (b + material_at)) 0 && eqb (at m (b + chain_link_at)) none)
      s.table.free

-- ---- generations: of the current one, the largest requested, and whether a period runs

-- with no period running the largest is the current less 1; otherwise it is the current or one more
abbrev pub largest_fits : ℕ → ℕ → Bool → Bool
largest_fits current largest runs = cond runs (eqb largest current || eqb largest (up current)) (eqb largest (down current))

-- a lane's current queue has a generation one before, at, or one after the current, not later than the largest requested, and one before under a
-- running period only with its bit set
abbrev pub lane_generation_fits : ℕ → ℕ → Bool → Lane → Bool
lane_generation_fits current largest runs l =
    let g = l.queues.generation in
    is_empty l.queues.current
    || ((eqb g (down current) || eqb g current || eqb g (up current)) && not (later g largest) && implies (eqb g (down current) && runs) l.pending)

-- the global one's is at or one after, again not later than the largest requested
abbrev pub global_generation_fits : ℕ → ℕ → Queues → Bool
global_generation_fits current largest q =
    let g = q.generation in
    is_empty q.current || ((eqb g current || eqb g (up current)) && not (later g largest))

module _ (m : List ℕ) where
  -- a period runs while the yard mask is not 0
  abbrev pub period_runs : Bool
  period_runs = not (eqb (at m yard_mask_at) 0)

  unfoldable pub largest_agrees : State → Bool
  largest_agrees s = largest_fits s.engine.current s.engine.largest period_runs

  unfoldable pub lane_generations : State → Bool
  lane_generations s = all (lane_generation_fits s.engine.current s.engine.largest period_runs) s.engine.lanes

unfoldable pub global_generation : State → Bool
global_generation s = global_generation_fits s.engine.current s.engine.largest s.engine.global

-- ---- a legal memory

module _ (m : List ℕ) where
  -- the sentences of a memory m that reads as the state s
  abbrev pub sentences : State → List Bool
  sentences s =
      flags_in_range m ∷ masks_in_range m ∷ links_in_range m ∷ fields_in_range m
      ∷ stands_once s ∷ lasts_agree m s ∷ lengths_agree m s ∷ on_their_chains s ∷ no_code_twice s
      ∷ snapshots_at_rest m ∷ lookups_at_rest m ∷ generations_at_rest s ∷ queue_links_at_rest m s
      ∷ off_lanes s ∷ lookups_in_sections s ∷ snapshots_pending s ∷ bits_fit m ∷ free_blank m s
      ∷ largest_agrees m s ∷ lane_generations m s ∷ global_generation s ∷ []

  -- the state is read only where the contents agree
  unfoldable pub legal : Bool
  legal = cond (contents_agree m) (every (sentences (state m))) false
