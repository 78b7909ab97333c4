-- Damaged memories that one sentence of legality alone refuses: what calls have made, with a word changed.
use Rattle.std.specs.Prelude.{ℕ, ◌+◌, ◌-◌, ◌≡◌, refl, Bool, true, false, List, [], ◌∷◌, ◌++◌, map, set}
use Rattle.model.specs.Word.{none}
use Rattle.model.specs.State.{Sizes}
use Rattle.model.specs.Layout.{last_offset, length_offset, current_offset, done_offset, yard_mask_at, free_at, global_queues_at, masks_at, queues_at, queue_link_at}
use Rattle.model.specs.Layout.{count_width, generation_at, lane_address, slot_address, yards_body}
use Rattle.model.specs.Rules.{Op, add, delete, pass, clock, off}
use Rattle.model.specs.Legal.{masks_in_range, bits_fit, legal}
use Rattle.model.specs.Calls.{Call, set_up, on_state, sized, left_all}
use Rattle.scripts.specs.Scripts.{answered, lent_words}

-- what refuses a memory: "masks are in range", "a bit is set exactly when the mask below it is not 0", or another sentence; nothing where it is legal
pub data Fault : Type 0 where
  nothing mask_out_of_range bit_unfit another : Fault

-- a word put at an address, and what then refuses the memory
pub data Change : Type 0 where
  change : (address word : ℕ) (fault : Fault) → Change

-- the calls that made a memory, and the changes, each of that memory
pub data Damage : Type 0 where
  damage : (calls : List Call) (changes : List Change) → Damage

-- whether it is legal, and whether the two sentences of masks hold
unfoldable pub judged : List ℕ → List Bool
unfolding answered
judged m = legal m ∷ masks_in_range m ∷ bits_fit m ∷ []

unfoldable pub changed : List ℕ → Change → List Bool
unfolding judged
changed m (change a w f) = judged (set m a w)

-- the memory is computed once for all changes
unfoldable pub found : Damage → List (List Bool)
unfolding answered left_all changed
found (damage ks cs) = map (changed (left_all (lent_words 300) ks)) cs

unfoldable pub fault_of : Fault → List Bool
fault_of nothing = true ∷ true ∷ true ∷ []
fault_of mask_out_of_range = false ∷ false ∷ true ∷ []
fault_of bit_unfit = false ∷ true ∷ false ∷ []
fault_of another = false ∷ true ∷ true ∷ []

unfoldable pub owed_by : Change → List Bool
unfolding fault_of
owed_by (change a w f) = fault_of f

unfoldable pub owed : Damage → List (List Bool)
unfolding owed_by
owed (damage ks cs) = map owed_by cs

abbrev pub made : Sizes → List Op → List Call
made z ks = set_up z ∷ map on_state ks

-- ---- two lanes in a cabinet, and three slots

abbrev pub small : Sizes
small = sized 1 1 2 3

-- a new table
abbrev pub new : List Call
new = made small []

abbrev pub new_changes : List Change
new_changes =
    change masks_at 0 nothing
    ∷ change masks_at 1 bit_unfit
    -- unused words hold their rest value: the low and the high word of the last count of a snapshot that is not held
    ∷ change (lane_address small 1 + generation_at - count_width) 1 another
    ∷ change (lane_address small 1 + generation_at - 1) 1 another
    ∷ []

-- slot 0 is chained
abbrev pub one_chained : List Call
one_chained = made small (add 1 17 25 1 ∷ [])

-- a slot outside every line has line link none
abbrev pub chained_changes : List Change
chained_changes = change (slot_address small 0 + queue_link_at) 1 another ∷ []

-- slot 0 is in the global current queue, and a period runs, for lane 0 alone, which has no snapshot yet
abbrev pub one_waiting : List Call
one_waiting = made small (add 1 17 25 1 ∷ delete 1 17 ∷ off 1 ∷ [])

abbrev pub waiting_changes : List Change
waiting_changes =
    -- the masks of the cabinet, of the yard, and of the house: right, the bit missing, and one more than there are lanes, cabinets or yards
    change masks_at 1 nothing
    ∷ change masks_at 0 bit_unfit
    ∷ change masks_at 5 mask_out_of_range
    ∷ change (yards_body small) 1 nothing
    ∷ change (yards_body small) 0 bit_unfit
    ∷ change (yards_body small) 3 mask_out_of_range
    ∷ change yard_mask_at 1 nothing
    ∷ change yard_mask_at 0 bit_unfit
    ∷ change yard_mask_at 3 mask_out_of_range
    -- lines agree with first and last
    ∷ change (global_queues_at + current_offset + last_offset) 0 nothing
    ∷ change (global_queues_at + current_offset + last_offset) 1 another
    -- the lengths agree with the lines: of the free one, and of the global one that waits, and of one that is empty
    ∷ change (free_at + length_offset) 2 nothing
    ∷ change (free_at + length_offset) 3 another
    ∷ change (free_at + length_offset) 1 another
    ∷ change (global_queues_at + current_offset + length_offset) 1 nothing
    ∷ change (global_queues_at + current_offset + length_offset) 2 another
    ∷ change (global_queues_at + current_offset + length_offset) 0 another
    ∷ change (global_queues_at + current_offset + length_offset) none another
    ∷ change (global_queues_at + length_offset) 1 another
    ∷ []

-- slot 0 is in lane 0's done queue
abbrev pub one_done : List Call
one_done = made small (add 0 17 25 1 ∷ delete 0 17 ∷ off 1 ∷ clock 0 ∷ pass 0 0 ∷ clock 0 ∷ [])

-- the lengths agree with the lines: of a lane's done queue, and of one that is empty
abbrev pub done_changes : List Change
done_changes =
    change (lane_address small 0 + queues_at + done_offset + length_offset) 1 nothing
    ∷ change (lane_address small 0 + queues_at + done_offset + length_offset) 0 another
    ∷ change (lane_address small 1 + queues_at + done_offset + length_offset) 1 another
    ∷ []

-- ---- two yards of two cabinets with a lane each: masks at each level

abbrev pub two_yards : Sizes
two_yards = sized 2 2 1 1

-- lane 0 begins a period, and all lanes are awaited
abbrev pub all_awaited : List Op
all_awaited = add 0 17 25 1 ∷ delete 0 17 ∷ clock 0 ∷ []

-- the yard mask is 3, both cabinet masks 3, and each lane mask 1. A bit missing, and one out of range
abbrev pub all_changes : List Change
all_changes =
    change yard_mask_at 3 nothing
    ∷ change yard_mask_at 1 bit_unfit
    ∷ change yard_mask_at 2 bit_unfit
    ∷ change yard_mask_at 7 mask_out_of_range
    ∷ change (yards_body two_yards) 3 nothing
    ∷ change (yards_body two_yards) 1 bit_unfit
    ∷ change (yards_body two_yards + 1) 2 bit_unfit
    ∷ change (yards_body two_yards + 1) 0 bit_unfit
    ∷ change (yards_body two_yards) 7 mask_out_of_range
    ∷ change (yards_body two_yards + 1) 7 mask_out_of_range
    ∷ change (masks_at + 3) 1 nothing
    ∷ change (masks_at + 3) 0 bit_unfit
    ∷ change (masks_at + 3) 3 mask_out_of_range
    ∷ []

-- lanes 0 and 1, those of yard 0, are through
abbrev pub second_yard : List Op
second_yard = all_awaited ++ (pass 0 0 ∷ clock 0 ∷ clock 1 ∷ pass 1 0 ∷ clock 1 ∷ [])

-- the yard mask is 2, the cabinet masks 0 and 3, the lane masks 0, 0, 1 and 1. A bit too many, and another one
abbrev pub second_changes : List Change
second_changes =
    change yard_mask_at 2 nothing
    ∷ change yard_mask_at 3 bit_unfit
    ∷ change yard_mask_at 1 bit_unfit
    ∷ change yard_mask_at 6 mask_out_of_range
    ∷ change (yards_body two_yards) 0 nothing
    ∷ change (yards_body two_yards) 2 bit_unfit
    ∷ change (masks_at + 1) 0 nothing
    ∷ change (masks_at + 1) 1 bit_unfit
    ∷ []

abbrev pub damages : List Damage
damages =
    damage new new_changes
    ∷ damage one_chained chained_changes
    ∷ damage one_waiting waiting_changes
    ∷ damage one_done done_changes
    ∷ damage (made two_yards all_awaited) all_changes
    ∷ damage (made two_yards second_yard) second_changes
    ∷ []

-- each is found
pub damages-found : map found damages ≡ map owed damages
unfolding found owed
damages-found = refl
