-- Each number of document 01's "The memory" and its ranges, as document 02's requests moved them, once. An offset is the one before it plus that field's
-- width, so a field more, or a wider one, moves what follows it.
use Rattle.std.specs.Prelude.{ℕ, ◌+◌, ◌*◌, ◌-◌}
use Rattle.model.specs.Word.{word_limit}
use Rattle.model.specs.State.{Sizes, cabinet_count, lane_count}

-- ---- ranges

abbrev pub max_yards : ℕ
max_yards = 8

-- of a yard
abbrev pub max_cabinets : ℕ
max_cabinets = 8

-- of a cabinet
abbrev pub max_places : ℕ
max_places = 8

abbrev pub max_slots : ℕ
max_slots = 1024

abbrev pub max_code : ℕ
max_code = 99999999999999

abbrev pub max_deposit : ℕ
max_deposit = 100000

abbrev pub max_material : ℕ
max_material = 7

-- the kinds of quiescent states: 0 idle, 1 bottle dropped, 2 door open, 3 changed over
abbrev pub kinds : ℕ
kinds = 4

-- a quiescent count is two words, low word first; one more than the largest; the words of the counts of all kinds
abbrev pub count_width : ℕ
count_width = 2

abbrev pub count_limit : ℕ
count_limit = word_limit * word_limit

abbrev pub counts_width : ℕ
counts_width = count_width * kinds

-- the number of chains
abbrev pub chain_count : ℕ
chain_count = 64

-- ---- contents, 15 words: addresses in the memory

abbrev pub version : ℕ
version = 4

abbrev pub version_at : ℕ
version_at = 0

abbrev pub cabinets_at : ℕ
cabinets_at = version_at + 1

abbrev pub places_at : ℕ
places_at = cabinets_at + 1

abbrev pub slots_at : ℕ
slots_at = places_at + 1

-- first word and length of the five bodies
abbrev pub bodies_at : ℕ
bodies_at = slots_at + 1

abbrev pub yards_at : ℕ
yards_at = bodies_at + 2 * 5

abbrev pub contents_length : ℕ
contents_length = yards_at + 1

-- ---- queues in a record: a queue keeps its first, its last and its length; next, current and done follow each other

abbrev pub last_offset : ℕ
last_offset = 1

abbrev pub length_offset : ℕ
length_offset = last_offset + 1

abbrev pub queue_width : ℕ
queue_width = length_offset + 1

abbrev pub current_offset : ℕ
current_offset = queue_width

abbrev pub done_offset : ℕ
done_offset = current_offset + queue_width

abbrev pub queues_width : ℕ
queues_width = done_offset + queue_width

-- ---- the global body ("house"), 80 words: addresses in the memory

abbrev pub global_body : ℕ
global_body = contents_length

abbrev pub current_generation_at : ℕ
current_generation_at = global_body

-- the largest generation requested
abbrev pub largest_generation_at : ℕ
largest_generation_at = current_generation_at + 1

abbrev pub yard_mask_at : ℕ
yard_mask_at = largest_generation_at + 1

abbrev pub heads_at : ℕ
heads_at = yard_mask_at + 1

-- the words of the free queue
abbrev pub free_at : ℕ
free_at = heads_at + chain_count

-- those of the global next, current and done queues
abbrev pub global_queues_at : ℕ
global_queues_at = free_at + queue_width

abbrev pub global_generation_at : ℕ
global_generation_at = global_queues_at + queues_width

abbrev pub global_length : ℕ
global_length = global_generation_at + 1 - global_body

-- ---- the cabinets' body: a lane mask each, yard after yard

abbrev pub masks_at : ℕ
masks_at = global_body + global_length

-- ---- a lane's flags: bit 0 on, 1 section open, 2 lookup running, 3 snapshot held

abbrev pub online_bit : ℕ
online_bit = 0

abbrev pub reading_bit : ℕ
reading_bit = online_bit + 1

abbrev pub lookup_bit : ℕ
lookup_bit = reading_bit + 1

abbrev pub snapshot_bit : ℕ
snapshot_bit = lookup_bit + 1

abbrev pub flag_count : ℕ
flag_count = snapshot_bit + 1

-- ---- a lane's record, 30 words: offsets

abbrev pub flags_at : ℕ
flags_at = 0

abbrev pub quiescent_at : ℕ
quiescent_at = flags_at + 1

abbrev pub snapshot_at : ℕ
snapshot_at = quiescent_at + counts_width

abbrev pub generation_at : ℕ
generation_at = snapshot_at + counts_width

-- the words of the lane's next, current and done queues
abbrev pub queues_at : ℕ
queues_at = generation_at + 1

-- the lookup's code, low word and high word, and its position
abbrev pub lookup_at : ℕ
lookup_at = queues_at + queues_width

abbrev pub position_at : ℕ
position_at = lookup_at + 2

abbrev pub lane_length : ℕ
lane_length = position_at + 1

-- ---- a slot's record, 6 words: offsets

-- the code, low word and high word
abbrev pub code_at : ℕ
code_at = 0

abbrev pub deposit_at : ℕ
deposit_at = code_at + 2

abbrev pub material_at : ℕ
material_at = deposit_at + 1

-- the chain link
abbrev pub chain_link_at : ℕ
chain_link_at = material_at + 1

-- the queue link ("line link")
abbrev pub queue_link_at : ℕ
queue_link_at = chain_link_at + 1

abbrev pub slot_length : ℕ
slot_length = queue_link_at + 1

-- ---- the bodies, one after another

abbrev pub lanes_body : Sizes → ℕ
lanes_body z = masks_at + cabinet_count z

abbrev pub lane_address : Sizes → ℕ → ℕ
lane_address z i = lanes_body z + lane_length * i

abbrev pub slots_body : Sizes → ℕ
slots_body z = lanes_body z + lane_length * lane_count z

abbrev pub slot_address : Sizes → ℕ → ℕ
slot_address z i = slots_body z + slot_length * i

-- the yards' body: a cabinet mask each
abbrev pub yards_body : Sizes → ℕ
yards_body z = slots_body z + slot_length * z.slots

-- the number of words of a table
abbrev pub total : Sizes → ℕ
total z = yards_body z + z.yards
