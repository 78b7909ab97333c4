-- A state as the words of a memory, and back (document 01, "The memory", the four bodies; document 02, request 8, the fifth). Where the words stand is
-- Layout.antt's.
use Rattle.std.specs.Prelude.{ℕ, zero, suc, ◌+◌, ◌*◌, ◌/◌, ◌%◌, ◌^◌, ◌<◌, Bool, true, false, not, cond, List, [], ◌∷◌, ◌++◌, map, length, get_or, leb, eqb}
use Rattle.model.specs.Word.{word_limit, none}
use Rattle.model.specs.Lists.{first, last, from, concat, concat_map, successor_in, member, mask}
use Rattle.model.specs.State.{Sizes, cabinet_count, lane_count, Lookup, idle, running, is_running, Snapshot, unheld, held, is_held, Queues, Lane, Product, Table, State}
use Rattle.model.specs.Layout.{chain_count, count_width, version, cabinets_at, places_at, slots_at, yards_at, current_offset, done_offset, global_body, current_generation_at}
use Rattle.model.specs.Layout.{largest_generation_at, heads_at, free_at, global_queues_at, global_generation_at, global_length, masks_at, online_bit}
use Rattle.model.specs.Layout.{reading_bit, lookup_bit, snapshot_bit, quiescent_at, snapshot_at, generation_at, queues_at, lookup_at, lane_length}
use Rattle.model.specs.Layout.{deposit_at, material_at, chain_link_at, queue_link_at, slot_length, lanes_body, lane_address, slots_body, slot_address, yards_body}
use Rattle.model.specs.Engine.{lane_at}
use Rattle.model.specs.Table.{product, product_at, link_of}

-- ---- a state, written

-- the low and the high word of a 64-bit number
abbrev pub low : ℕ → ℕ
low c = c % word_limit

abbrev pub high : ℕ → ℕ
high c = c / word_limit

abbrev pub whole_of : ℕ → ℕ → ℕ
whole_of l h = l + word_limit * h

-- version, sizes but the yards, first word and length of the five bodies, and the yards
unfoldable pub contents : Sizes → List ℕ
contents z =
    version ∷ z.cabinets ∷ z.places ∷ z.slots
    ∷ global_body ∷ global_length
    ∷ masks_at ∷ cabinet_count z
    ∷ lanes_body z ∷ lane_length * lane_count z
    ∷ slots_body z ∷ slot_length * z.slots
    ∷ yards_body z ∷ z.yards
    ∷ z.yards ∷ []

-- first, last and length of a queue; none, none and 0 of an empty one
abbrev pub queue_words : List ℕ → List ℕ
queue_words xs = first xs ∷ last xs ∷ length xs ∷ []

-- the words of next, current and done
abbrev pub three_words : Queues → List ℕ
three_words q = queue_words q.next ++ queue_words q.current ++ queue_words q.done

-- the flags as a word, in the order of their bits
unfoldable pub flags : Lane → ℕ
flags l = mask (l.online ∷ l.reading ∷ is_running l.lookup ∷ is_held l.snapshot ∷ [])

-- the lookup's code and position; 0 and none where none runs
unfoldable pub lookup_code : Lookup → ℕ
lookup_code idle = 0
lookup_code (running c p) = c

unfoldable pub lookup_position : Lookup → ℕ
lookup_position idle = none
lookup_position (running c p) = p

-- the snapshot's count of kind k; 0 where none is held
unfoldable pub snapshot_count : Snapshot → ℕ → ℕ
snapshot_count unheld k = 0
snapshot_count (held c) k = get_or c k 0

-- the lane's count of kind k
abbrev pub quiescent_count : Lane → ℕ → ℕ
quiescent_count l k = get_or l.quiescent k 0

-- four counts, one a kind, in two words each
abbrev pub count_words : (ℕ → ℕ) → List ℕ
count_words c = low (c 0) ∷ high (c 0) ∷ low (c 1) ∷ high (c 1) ∷ low (c 2) ∷ high (c 2) ∷ low (c 3) ∷ high (c 3) ∷ []

-- a lane's thirty words
unfoldable pub lane_words : Lane → List ℕ
lane_words l =
    flags l
    ∷ count_words (quiescent_count l)
    ++ count_words (snapshot_count l.snapshot)
    ++ l.queues.generation
    ∷ first l.queues.next ∷ last l.queues.next ∷ length l.queues.next
    ∷ first l.queues.current ∷ last l.queues.current ∷ length l.queues.current
    ∷ first l.queues.done ∷ last l.queues.done ∷ length l.queues.done
    ∷ low (lookup_code l.lookup) ∷ high (lookup_code l.lookup) ∷ lookup_position l.lookup ∷ []

abbrev pub is_not_zero : ℕ → Bool
is_not_zero w = not (eqb w 0)

-- flags by groups of w: the mask of group g has bit p for flag g × w + p
abbrev pub group_mask : ℕ → (ℕ → Bool) → ℕ → ℕ
group_mask w f g = mask (map (λ (p : ℕ). f (g * w + p)) (from 0 w))

-- the flags of the level above: group g's stands while one of its own does
abbrev pub standing : ℕ → (ℕ → Bool) → ℕ → Bool
standing w f g = is_not_zero (group_mask w f g)

-- a lane's bit
abbrev pub lane_bit : State → ℕ → Bool
lane_bit s i = (lane_at s.engine i).pending

-- a cabinet's bit, and a yard's
abbrev pub cabinet_bit : State → ℕ → Bool
cabinet_bit s = standing s.sizes.places (lane_bit s)

abbrev pub yard_bit : State → ℕ → Bool
yard_bit s = standing s.sizes.cabinets (cabinet_bit s)

-- a cabinet's lane mask, a yard's cabinet mask, and the yard mask
abbrev pub lane_mask : State → ℕ → ℕ
lane_mask s = group_mask s.sizes.places (lane_bit s)

abbrev pub cabinet_mask : State → ℕ → ℕ
cabinet_mask s = group_mask s.sizes.cabinets (cabinet_bit s)

abbrev pub yard_mask : State → ℕ
yard_mask s = group_mask s.sizes.yards (yard_bit s) 0

abbrev pub lane_masks : State → List ℕ
lane_masks s = map (lane_mask s) (from 0 (cabinet_count s.sizes))

abbrev pub cabinet_masks : State → List ℕ
cabinet_masks s = map (cabinet_mask s) (from 0 s.sizes.yards)

abbrev pub queues_of : Queues → List (List ℕ)
queues_of q = q.next ∷ q.current ∷ q.done ∷ []

abbrev pub lane_queues : Lane → List (List ℕ)
lane_queues l = queues_of l.queues

-- all queues, the free one first
abbrev pub all_queues : State → List (List ℕ)
all_queues s = s.table.free ∷ queues_of s.engine.global ++ concat_map lane_queues s.engine.lanes

-- a slot's six words
unfoldable pub slot_words : State → ℕ → List ℕ
slot_words s i =
    let p = product_at s.table.products i in
    low p.code ∷ high p.code ∷ p.deposit ∷ p.material ∷ link_of s.table i ∷ successor_in (all_queues s) i none ∷ []

-- the first slot of chain k
abbrev pub head_of : Table → ℕ → ℕ
head_of t k = first (get_or t.chains k [])

-- the global body's words
unfoldable pub global_words : State → List ℕ
global_words s =
    (s.engine.current ∷ s.engine.largest ∷ yard_mask s ∷ map (head_of s.table) (from 0 chain_count))
    ++ queue_words s.table.free
    ++ three_words s.engine.global
    ++ (s.engine.global.generation ∷ [])

abbrev pub lane_words_at : State → ℕ → List ℕ
lane_words_at s i = lane_words (lane_at s.engine i)

-- every state is written as one memory
unfoldable pub words : State → List ℕ
words s =
    contents s.sizes
    ++ global_words s
    ++ lane_masks s
    ++ concat_map (lane_words_at s) (from 0 (lane_count s.sizes))
    ++ concat_map (slot_words s) (from 0 s.sizes.slots)
    ++ cabinet_masks s

-- ---- a memory, read

-- the slots from i on by their links, n at most
unfoldable pub walk : List ℕ → ℕ → ℕ → List ℕ
walk links i zero = []
walk links i (suc n) = cond (leb (length links) i) [] (i ∷ walk links (get_or links i none) n)

-- bit k of the word w
abbrev pub flag : ℕ → ℕ → Bool
flag k w = eqb (w / 2 ^ k % 2) 1

-- the word at an address; 0 past the end
abbrev pub at : List ℕ → ℕ → ℕ
at m i = get_or m i 0

-- all are words
abbrev pub Words : List ℕ → Type 0
Words m = (i : ℕ) → at m i < word_limit

module _ (m : List ℕ) where
  -- a 64-bit number, low word first
  abbrev pub wide : ℕ → ℕ
  wide i = whole_of (at m i) (at m (i + 1))

  abbrev pub sizes : Sizes
  sizes = record { yards = at m yards_at; cabinets = at m cabinets_at; places = at m places_at; slots = at m slots_at }

  -- word k of lane i, and of slot i
  abbrev pub lane_word : ℕ → ℕ → ℕ
  lane_word i k = at m (lane_address sizes i + k)

  abbrev pub slot_word : ℕ → ℕ → ℕ
  slot_word k i = at m (slot_address sizes i + k)

  -- the lane mask of cabinet c, and the cabinet mask of yard y
  abbrev pub mask_word : ℕ → ℕ
  mask_word c = at m (masks_at + c)

  abbrev pub yard_word : ℕ → ℕ
  yard_word y = at m (yards_body sizes + y)

  -- word k of every slot
  abbrev pub slot_field : ℕ → List ℕ
  slot_field k = map (slot_word k) (from 0 sizes.slots)

  -- the chain with head word a; S + 1 steps, so that a walk which comes round again shows a slot twice
  abbrev pub read_chain : ℕ → List ℕ
  read_chain k = walk (slot_field chain_link_at) (at m (heads_at + k)) (suc sizes.slots)

  unfoldable pub read_chains : List (List ℕ)
  read_chains = map read_chain (from 0 chain_count)

  -- the queue whose first stands at a
  abbrev pub read_queue : ℕ → List ℕ
  read_queue a = walk (slot_field queue_link_at) (at m a) (suc sizes.slots)

  -- the queues whose generation stands at g, and their words from a on
  abbrev pub read_queues : ℕ → ℕ → Queues
  read_queues g a = record { next = read_queue a; current = read_queue (a + current_offset); done = read_queue (a + done_offset); generation = at m g }

  abbrev pub read_lookup : ℕ → Bool → Lookup
  read_lookup a true = running (wide a) (at m (a + 2))
  read_lookup a false = idle

  -- the four counts whose words stand from a on
  abbrev pub read_counts : ℕ → List ℕ
  read_counts a = wide a ∷ wide (a + count_width) ∷ wide (a + count_width * 2) ∷ wide (a + count_width * 3) ∷ []

  abbrev pub read_snapshot : ℕ → Bool → Snapshot
  read_snapshot a true = held (read_counts a)
  read_snapshot a false = unheld

  unfoldable pub read_lane : ℕ → Lane
  read_lane i =
      let b = lane_address sizes i in
      let f = at m b in
      record {
        online = flag online_bit f;
        reading = flag reading_bit f;
        lookup = read_lookup (b + lookup_at) (flag lookup_bit f);
        quiescent = read_counts (b + quiescent_at);
        snapshot = read_snapshot (b + snapshot_at) (flag snapshot_bit f);
        pending = flag (i % sizes.places) (mask_word (i / sizes.places));
        queues = read_queues (b + generation_at) (b + queues_at);
      }

  unfoldable pub read_product : ℕ → Product
  read_product i = let b = slot_address sizes i in product (wide b) (at m (b + deposit_at)) (at m (b + material_at))

  -- the chain link that slot i kept; none for a chained slot
  abbrev pub read_link : List (List ℕ) → ℕ → ℕ
  read_link chains i = cond (member i (concat chains)) none (slot_word chain_link_at i)

  -- every legal memory reads as one state
  unfoldable pub state : State
  state = record {
    sizes = sizes;
    engine = record {
      current = at m current_generation_at;
      largest = at m largest_generation_at;
      lanes = map read_lane (from 0 (lane_count sizes));
      global = read_queues global_generation_at global_queues_at;
    };
    table = record {
      chains = read_chains;
      free = read_queue free_at;
      products = map read_product (from 0 sizes.slots);
      links = map (read_link read_chains) (from 0 sizes.slots);
    };
  }
