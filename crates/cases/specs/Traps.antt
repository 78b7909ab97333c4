-- What document 01 warns of ("Traps"), and some rules that its starred cases leave untouched: in each script a wrong rule would answer something else.
use Rattle.std.specs.Prelude.{◌≡◌, refl, List, [], ◌∷◌, map}
use Rattle.model.specs.Rules.{add, replace, delete, begin, start, step, pass, clock, on, off, hand_back, awaited}
use Rattle.scripts.specs.Scripts.{Line, op, set_up1112, set_up1123, set_up1124, Row, script, expected, run}

-- A lookup stands on a slot, which is then removed, and another slot after it: a queue that goes by the chain link would lead the lookup away
abbrev pub chain_link_stays : List Line
chain_link_stays =
    set_up1124
    ∷ op (add 0 0 25 1) 0 0 0 0 0
    ∷ op (add 0 192 30 2) 0 1 0 0 0
    ∷ op (add 0 512 35 3) 0 2 0 0 0
    ∷ op (add 0 17 40 4) 0 3 0 0 0
    ∷ op (begin 1) 0 0 0 0 0
    ∷ op (start 1 0) 0 0 0 0 0
    ∷ op (delete 0 512) 0 2 0 0 0
    ∷ op (delete 0 17) 0 3 0 0 0
    ∷ op (step 1) 0 0 0 0 0
    ∷ op (step 1) 0 0 0 0 0
    ∷ op (step 1) 0 1 0 25 1
    ∷ []

-- A lookup is past the head when its code is replaced: with the new slot at the head it would meet neither
abbrev pub replaced_in_place : List Line
replaced_in_place =
    set_up1124
    ∷ op (add 0 0 25 1) 0 0 0 0 0
    ∷ op (add 0 192 30 2) 0 1 0 0 0
    ∷ op (add 0 512 35 3) 0 2 0 0 0
    ∷ op (begin 1) 0 0 0 0 0
    ∷ op (start 1 0) 0 0 0 0 0
    ∷ op (step 1) 0 0 0 0 0
    ∷ op (replace 0 0 40 4) 0 3 0 0 0
    ∷ op (step 1) 0 0 0 0 0
    ∷ op (step 1) 0 1 3 40 4
    ∷ []

-- Lane 1 has passed in the running period before it removes slot 1 inside a section, so the end of that period does not free the slot
abbrev pub no_batch_joins : List Line
no_batch_joins =
    set_up1123
    ∷ op (add 0 17 25 1) 0 0 0 0 0
    ∷ op (add 0 24 25 1) 0 1 0 0 0
    ∷ op (delete 0 17) 0 0 0 0 0
    ∷ op (clock 0) 0 1 1 1 0
    ∷ op (clock 1) 0 1 1 1 0
    ∷ op (pass 1 0) 0 0 0 0 0
    ∷ op (clock 1) 0 1 1 1 0
    ∷ op (begin 1) 0 0 0 0 0
    ∷ op (delete 1 24) 0 1 0 0 0
    ∷ op (clock 1) 0 1 2 1 0
    ∷ op (pass 0 0) 0 0 0 0 0
    ∷ op (clock 0) 0 2 2 1 1
    ∷ op (clock 1) 0 2 2 1 0
    ∷ op (hand_back 1) 16 0 0 0 0
    ∷ []

-- Lane 0's clock ends one period and begins the next: its snapshot is taken anew, and what it went through before does not count
abbrev pub snapshot_anew : List Line
snapshot_anew =
    set_up1123
    ∷ op (add 0 17 25 1) 0 0 0 0 0
    ∷ op (add 0 24 25 1) 0 1 0 0 0
    ∷ op (delete 0 17) 0 0 0 0 0
    ∷ op (clock 0) 0 1 1 1 0
    ∷ op (delete 1 24) 0 1 0 0 0
    ∷ op (clock 1) 0 1 2 1 0
    ∷ op (pass 1 0) 0 0 0 0 0
    ∷ op (clock 1) 0 1 2 1 0
    ∷ op (pass 0 0) 0 0 0 0 0
    ∷ op (clock 0) 0 2 2 1 1
    ∷ op (begin 0) 0 0 0 0 0
    ∷ op (clock 0) 0 2 2 1 0
    ∷ op awaited 0 2 0 1 2
    ∷ []

-- a lane goes off while no period runs: it ends none
abbrev pub off_while_idle : List Line
off_while_idle =
    set_up1123
    ∷ op (off 1) 0 0 0 0 0
    ∷ op (clock 0) 0 1 0 0 0
    ∷ op (on 1) 0 0 0 0 0
    ∷ op (clock 1) 0 1 0 0 0
    ∷ []

-- A lane goes off with a slot in its current queue: the slot waits anew, in the global queues, and lane 0 gets it after a whole period more
abbrev pub off_waits_anew : List Line
off_waits_anew =
    set_up1123
    ∷ op (add 1 17 25 1) 0 0 0 0 0
    ∷ op (delete 1 17) 0 0 0 0 0
    ∷ op (clock 1) 0 1 1 1 0
    ∷ op (off 1) 0 0 0 0 0
    ∷ op awaited 0 1 0 2 1
    ∷ op (clock 0) 0 1 2 1 0
    ∷ op (pass 0 0) 0 0 0 0 0
    ∷ op (clock 0) 0 2 2 1 0
    ∷ op (hand_back 0) 16 0 0 0 0
    ∷ op (pass 0 0) 0 0 0 0 0
    ∷ op (clock 0) 0 3 2 0 1
    ∷ op (hand_back 0) 0 0 0 0 0
    ∷ []

-- a slot that is handed back is the last to be used again
abbrev pub free_in_order : List Line
free_in_order =
    set_up1112
    ∷ op (add 0 17 25 1) 0 0 0 0 0
    ∷ op (delete 0 17) 0 0 0 0 0
    ∷ op (clock 0) 0 1 1 1 0
    ∷ op (pass 0 0) 0 0 0 0 0
    ∷ op (clock 0) 0 2 1 0 1
    ∷ op (hand_back 0) 0 0 0 0 0
    ∷ op (add 0 24 30 2) 0 1 0 0 0
    ∷ op (add 0 31 35 3) 0 0 0 0 0
    ∷ []

-- A lookup stands on a slot whose code is then replaced, and goes on to what follows it: the removed slot keeps its chain link
abbrev pub replaced_underway : List Line
replaced_underway =
    set_up1124
    ∷ op (add 0 0 25 1) 0 0 0 0 0
    ∷ op (add 0 192 30 2) 0 1 0 0 0
    ∷ op (begin 1) 0 0 0 0 0
    ∷ op (start 1 0) 0 0 0 0 0
    ∷ op (replace 0 192 35 3) 0 2 1 0 0
    ∷ op (step 1) 0 0 0 0 0
    ∷ op (step 1) 0 1 0 25 1
    ∷ []

-- A lane goes off with a slot in its current queue and one in its next: the current one's comes first, in the global queues and back
abbrev pub off_in_order : List Line
off_in_order =
    set_up1123
    ∷ op (add 1 17 25 1) 0 0 0 0 0
    ∷ op (add 1 24 25 1) 0 1 0 0 0
    ∷ op (delete 1 17) 0 0 0 0 0
    ∷ op (clock 1) 0 1 1 1 0
    ∷ op (delete 1 24) 0 1 0 0 0
    ∷ op (off 1) 0 0 0 0 0
    ∷ op (clock 0) 0 1 2 1 0
    ∷ op (pass 0 0) 0 0 0 0 0
    ∷ op (clock 0) 0 2 2 1 0
    ∷ op (pass 0 0) 0 0 0 0 0
    ∷ op (clock 0) 0 3 2 0 2
    ∷ op (hand_back 0) 0 0 0 0 0
    ∷ op (hand_back 0) 0 1 0 0 0
    ∷ []

-- both done queues have a slot: the lane's comes back first, though the global one was done before
abbrev pub own_first : List Line
own_first =
    set_up1123
    ∷ op (add 1 17 25 1) 0 0 0 0 0
    ∷ op (add 0 24 25 1) 0 1 0 0 0
    ∷ op (delete 1 17) 0 0 0 0 0
    ∷ op (off 1) 0 0 0 0 0
    ∷ op (delete 0 24) 0 1 0 0 0
    ∷ op (clock 0) 0 1 2 1 0
    ∷ op (pass 0 0) 0 0 0 0 0
    ∷ op (clock 0) 0 2 2 1 1
    ∷ op (pass 0 0) 0 0 0 0 0
    ∷ op (clock 0) 0 3 2 0 1
    ∷ op (hand_back 0) 0 1 0 0 0
    ∷ op (hand_back 0) 0 0 0 0 0
    ∷ []

-- a slot that had a chain link comes back without it: the memory is legal, and the call after answers
abbrev pub cleared_link : List Line
cleared_link =
    set_up1112
    ∷ op (add 0 0 25 1) 0 0 0 0 0
    ∷ op (add 0 192 30 2) 0 1 0 0 0
    ∷ op (delete 0 192) 0 1 0 0 0
    ∷ op (clock 0) 0 1 1 1 0
    ∷ op (pass 0 0) 0 0 0 0 0
    ∷ op (clock 0) 0 2 1 0 1
    ∷ op (hand_back 0) 0 1 0 0 0
    ∷ op awaited 0 0 4294967295 1 0
    ∷ []

abbrev pub traps : List Row
traps =
    map (script 200)
    (chain_link_stays ∷ replaced_in_place ∷ no_batch_joins ∷ snapshot_anew ∷ off_while_idle
    ∷ off_waits_anew ∷ free_in_order ∷ replaced_underway ∷ off_in_order ∷ own_first ∷ cleared_link ∷ [])

-- each script comes out
pub traps-hold : map run traps ≡ map expected traps
unfolding run expected
traps-hold = refl
