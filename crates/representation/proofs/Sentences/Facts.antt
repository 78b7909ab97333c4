-- The sentences of legality (document 01, "The memory", last paragraph, and document 02, requests 6 and 8) as facts, by name.
use Prim.Native.Nat.{ℕ, ◌+◌, ◌*◌, ◌/◌, ◌%◌, ◌^◌, ◌≤◌, ◌<◌}
use mathlib.Core.Path.{◌≡◌}
use mathlib.Core.Logic.{◌⊎◌}
use mathlib.Core.Bool.{Bool, true, false}
use mathlib.Core.List.{List, [], ◌++◌, map}
use lib.ListN.{length, get_or, take}
use Rattle.model.specs.Word.{word_limit, none, up, down, later}
use Rattle.model.specs.Lists.{is_empty, last, concat, count, distinct}
use Rattle.model.specs.State.{Sizes, cabinet_count, lane_count, is_running, is_held, Queues, Lane, State}
use Rattle.model.specs.Layout.{max_yards, max_cabinets, max_places, max_slots, counts_width, chain_count, contents_length, last_offset, length_offset, current_offset, done_offset}
use Rattle.model.specs.Layout.{yard_mask_at, heads_at, free_at, global_queues_at, lookup_bit, snapshot_bit, flag_count, flags_at, snapshot_at, queues_at}
use Rattle.model.specs.Layout.{lookup_at, position_at, deposit_at, material_at, chain_link_at, queue_link_at, lane_address, slot_address, total}
use Rattle.model.specs.Engine.{lane_at}
use Rattle.model.specs.Table.{chain_number}
use Rattle.model.specs.Rules.{wrong_code, wrong_product}
use Rattle.model.specs.Memory.{at, wide, sizes, lane_word, slot_word, mask_word, yard_word, state, contents, all_queues, flag, is_not_zero}
use Rattle.model.specs.Legal.{sizes_fit, code_of, largest_fits, period_runs}
use Rattle.representation.proofs.ExtraWords.{ExtraFits}
use Rattle.representation.proofs.WellFormed.{SlotOrNone}

-- ---- sizes

pub record SizesFit (z : Sizes) : Type 0 where
  pub some_yards : 1 ≤ z.yards
  pub few_yards : z.yards ≤ max_yards
  pub some_cabinets : 1 ≤ z.cabinets
  pub few_cabinets : z.cabinets ≤ max_cabinets
  pub some_places : 1 ≤ z.places
  pub few_places : z.places ≤ max_places
  pub some_slots : 1 ≤ z.slots
  pub few_slots : z.slots ≤ max_slots
  pub all_cabinets : cabinet_count z ≤ max_yards * max_cabinets
  pub few_lanes : lane_count z ≤ max_yards * max_cabinets * max_places

-- contents agree with the sizes, and the total is not above the length
pub record ContentsFit (m : List ℕ) : Type 0 where
  pub in_range : sizes_fit (sizes m) ≡ true
  pub agree : take contents_length m ≡ contents (sizes m)
  pub long : total (sizes m) ≤ length m

-- ---- the facts of a memory m that reads as the state s

-- all below t are words
abbrev pub WordsTo : ℕ → List ℕ → Type 0
WordsTo t m = (i : ℕ) → i < t → at m i < word_limit

-- first and last of a queue, which stand at k among these words, are slots or none
pub record EndsInRange (slots : ℕ) (word : ℕ → ℕ) (k : ℕ) : Type 0 where
  pub first : SlotOrNone slots (word k)
  pub last : SlotOrNone slots (word (k + last_offset))

-- of the queues of one owner, whose words stand from k on
pub record QueuesInRange (slots : ℕ) (word : ℕ → ℕ) (k : ℕ) : Type 0 where
  pub next : EndsInRange slots word k
  pub current : EndsInRange slots word (k + current_offset)
  pub done : EndsInRange slots word (k + done_offset)

-- what f gives of a queue is its word at offset o: of the queues whose words stand from a on
pub record AgreeAt (m : List ℕ) (f : List ℕ → ℕ) (o a : ℕ) (q : Queues) : Type 0 where
  pub next : f q.next ≡ at m (a + o)
  pub current : f q.current ≡ at m (a + current_offset + o)
  pub done : f q.done ≡ at m (a + done_offset + o)

-- of all queues
pub record Agree (m : List ℕ) (s : State) (f : List ℕ → ℕ) (o : ℕ) : Type 0 where
  pub free : f s.table.free ≡ at m (free_at + o)
  pub global : AgreeAt m f o global_queues_at s.engine.global
  pub lanes : (i : ℕ) → i < lane_count (sizes m) → AgreeAt m f o (lane_address (sizes m) i + queues_at) (lane_at s.engine i).queues

-- lookup words without a lookup
pub record LookupRest (m : List ℕ) (i : ℕ) : Type 0 where
  pub low : lane_word m i lookup_at ≡ 0
  pub high : lane_word m i (lookup_at + 1) ≡ 0
  pub position : lane_word m i position_at ≡ none

-- a lane without section, queues and mask bit
pub record Bare (l : Lane) : Type 0 where
  pub reading : l.reading ≡ false
  pub pending : l.pending ≡ false
  pub next : l.queues.next ≡ []
  pub current : l.queues.current ≡ []
  pub done : l.queues.done ≡ []

-- a slot's words that a free slot holds
pub record Blank (m : List ℕ) (i : ℕ) : Type 0 where
  pub code : wide m (slot_address (sizes m) i) ≡ 0
  pub deposit : at m (slot_address (sizes m) i + deposit_at) ≡ 0
  pub material : at m (slot_address (sizes m) i + material_at) ≡ 0
  pub link : at m (slot_address (sizes m) i + chain_link_at) ≡ none

-- the generation g of a queue against the current, the largest, and whether a period runs
pub record Near (current largest : ℕ) (runs : Bool) (l : Lane) : Type 0 where
  pub near : (l.queues.generation ≡ down current) ⊎ ((l.queues.generation ≡ current) ⊎ (l.queues.generation ≡ up current))
  pub not_later : later l.queues.generation largest ≡ false
  pub awaited : l.queues.generation ≡ down current → runs ≡ true → l.pending ≡ true

pub record NearGlobal (current largest : ℕ) (q : Queues) : Type 0 where
  pub near : (q.generation ≡ current) ⊎ (q.generation ≡ up current)
  pub not_later : later q.generation largest ≡ false

module _ (m : List ℕ) (s : State) where
  pub record Facts : Type 0 where
    -- flags, masks, links and fields are in range
    pub flags : (i : ℕ) → i < lane_count (sizes m) → lane_word m i flags_at < 2 ^ flag_count
    pub yard_mask : at m yard_mask_at < 2 ^ (sizes m).yards
    pub cabinet_masks : (y : ℕ) → y < (sizes m).yards → yard_word m y < 2 ^ (sizes m).cabinets
    pub lane_masks : (c : ℕ) → c < cabinet_count (sizes m) → mask_word m c < 2 ^ (sizes m).places
    pub heads : (k : ℕ) → k < chain_count → SlotOrNone (sizes m).slots (at m (heads_at + k))
    pub free_ends : EndsInRange (sizes m).slots (at m) free_at
    pub global_ends : QueuesInRange (sizes m).slots (at m) global_queues_at
    pub lane_ends : (i : ℕ) → i < lane_count (sizes m) → QueuesInRange (sizes m).slots (lane_word m i) queues_at
    pub positions : (i : ℕ) → i < lane_count (sizes m) → SlotOrNone (sizes m).slots (lane_word m i position_at)
    pub chain_links : (i : ℕ) → i < (sizes m).slots → SlotOrNone (sizes m).slots (slot_word m chain_link_at i)
    pub queue_links : (i : ℕ) → i < (sizes m).slots → SlotOrNone (sizes m).slots (slot_word m queue_link_at i)
    pub products : (i : ℕ) → i < (sizes m).slots
        → wrong_product (wide m (slot_address (sizes m) i)) (at m (slot_address (sizes m) i + deposit_at)) (at m (slot_address (sizes m) i + material_at)) ≡ false
    pub lookup_codes : (i : ℕ) → i < lane_count (sizes m) → wrong_code (wide m (lane_address (sizes m) i + lookup_at)) ≡ false
    -- each slot stands in exactly one chain or queue
    pub once : (i : ℕ) → i < s.sizes.slots → count i (concat s.table.chains ++ concat (all_queues s)) ≡ 1
    -- queues agree with first and last
    pub lasts : Agree m s last last_offset
    -- the lengths agree with the queues
    pub lengths : Agree m s length length_offset
    -- chained slots are on chain (code mod 64), no code twice
    pub on_chain : (k : ℕ) → k < chain_count → (x : ℕ) → 0 < count x (get_or s.table.chains k []) → chain_number (code_of s x) ≡ k
    pub codes : distinct (map (code_of s) (concat s.table.chains)) ≡ true
    -- unused words hold their rest value
    pub snapshots_rest : (i : ℕ) → i < lane_count (sizes m) → flag snapshot_bit (lane_word m i flags_at) ≡ false → (k : ℕ) → k < counts_width
        → lane_word m i (snapshot_at + k) ≡ 0
    pub lookups_rest : (i : ℕ) → i < lane_count (sizes m) → flag lookup_bit (lane_word m i flags_at) ≡ false → LookupRest m i
    pub global_rest : is_empty s.engine.global.current ≡ true → s.engine.global.generation ≡ 0
    pub lanes_rest : (i : ℕ) → is_empty (lane_at s.engine i).queues.current ≡ true → (lane_at s.engine i).queues.generation ≡ 0
    pub queue_links_rest : (i : ℕ) → i < (sizes m).slots → count i (concat (all_queues s)) ≡ 0 → slot_word m queue_link_at i ≡ none
    -- an off lane has no section, no queues and no mask bit
    pub off : (i : ℕ) → (lane_at s.engine i).online ≡ false → Bare (lane_at s.engine i)
    -- a lookup runs only in an open section
    pub sections : (i : ℕ) → is_running (lane_at s.engine i).lookup ≡ true → (lane_at s.engine i).reading ≡ true
    -- a snapshot is held only with the mask bit set
    pub snapshots : (i : ℕ) → is_held (lane_at s.engine i).snapshot ≡ true → (lane_at s.engine i).pending ≡ true
    -- each bit is set exactly when the mask below it is not 0: a yard's, and a cabinet's
    pub yard_bits : (y : ℕ) → y < (sizes m).yards → is_not_zero (yard_word m y) ≡ flag y (at m yard_mask_at)
    pub cabinet_bits : (c : ℕ) → c < cabinet_count (sizes m)
        → is_not_zero (mask_word m c) ≡ flag (c % (sizes m).cabinets) (yard_word m (c / (sizes m).cabinets))
    -- free slots hold code, deposit and material 0 and chain link none
    pub free : (x : ℕ) → 0 < count x s.table.free → Blank m x
    -- with the yard mask 0, the largest requested is the current less 1; otherwise it is the current or one more
    pub largest : largest_fits s.engine.current s.engine.largest (period_runs m) ≡ true
    -- a lane's current queue has a generation one before, at, or one after the current, not later than the largest requested, and one before under
    -- a running period only with its bit set
    pub lanes_near : (i : ℕ) → is_empty (lane_at s.engine i).queues.current ≡ false
        → Near s.engine.current s.engine.largest (period_runs m) (lane_at s.engine i)
    -- the global one's is at or one after, again not later than the largest requested
    pub global_near : is_empty s.engine.global.current ≡ false → NearGlobal s.engine.current s.engine.largest s.engine.global
    -- the words of lanes after their lookups
    pub extra : (i : ℕ) → ExtraFits (lane_at s.engine i)

-- ---- legal

pub record Legal (m : List ℕ) : Type 0 where
  pub contents : ContentsFit m
  pub facts : Facts m (state m)
