-- Tables of scripts, and how they are run: by the definitions of `model`, through legality, reading and writing at every call; and of labels.
use Rattle.std.specs.Prelude.{ℕ, ◌+◌, Bool, List, [], ◌∷◌, ◌++◌, map, length, take, drop, replicate, set}
use Prim.Native.String.{String}
use Rattle.std.proofs.lemmas.List.Edits.{sets}
use Rattle.model.specs.Word.{later}
use Rattle.model.specs.Lists.{update, is_empty, any, all, tail, concat, every, concat_map, from, first, last, count}
use Rattle.model.specs.Lists.{member, same, distinct, successor, successor_in, without, swapped, bit, mask}
use Rattle.model.specs.State.{is_running, is_held}
use Rattle.model.specs.Digits.{digits, number_from, bytes, digit_of}
use Rattle.model.specs.CheckDigit.{weighed, right_from_right, right_digits, right_check_digit}
use Rattle.model.specs.Layout.{quiescent_at, lane_address}
use Rattle.model.specs.Engine.{started, ended, released, counted, settled, settling, ready, target, requested}
use Rattle.model.specs.Engine.{advanced_lane, advanced_global, differs, sampled, clocked, clock_moves, went_off}
use Rattle.model.specs.Table.{slot_in, added, replaced, deleted, reclaimed}
use Rattle.model.specs.Rules.{add, delete, begin, end, start, step, pass, clock, off, hand_back, awaited}
use Rattle.model.specs.Rules.{Op, Answer, first_cause, causes, outcome_answer, outcome, continued, performed, pending_from, queued_in, result, fresh}
use Rattle.model.specs.Memory.{at, contents, flags, lookup_code, lookup_position, snapshot_count, lane_words, slot_words}
use Rattle.model.specs.Memory.{global_words, words, walk, read_chains, read_lane, read_product, state}
use Rattle.model.specs.Legal.{sizes_fit, contents_agree, flags_in_range, masks_in_range, links_in_range, fields_in_range, stands_once, lasts_agree, lengths_agree}
use Rattle.model.specs.Legal.{on_their_chains, no_code_twice, snapshots_at_rest, lookups_at_rest, generations_at_rest, queue_links_at_rest, off_lanes, lookups_in_sections}
use Rattle.model.specs.Legal.{snapshots_pending, bits_fit, free_blank, largest_agrees, lane_generations, global_generation, legal}
use Rattle.model.specs.Labels.{no_label, label_code, read_refusal, read_reply_of, read_reply}
use Rattle.model.specs.Labels.{label_length, label_text, write_refusal, write_reply_of, written_of, write_reply, written}
use Rattle.model.specs.Calls.{Call, set_up, on_state, sized, refusal_of, reply_of, left_of, reply, left, replies, left_all}
use Rattle.model.specs.Ledger.{Event, events}

-- the five words of an answer
abbrev pub five_words : Answer → List ℕ
five_words r = r.status ∷ r.a ∷ r.b ∷ r.c ∷ r.d ∷ []

-- what the calls answer on the memory m. To unfold it is to unfold all that a call computes with
unfoldable pub answered : List ℕ → List Call → List (List ℕ)
unfolding later
    update is_empty any all tail concat every concat_map from first last count member same distinct successor successor_in without swapped bit mask
    is_running is_held
    digits weighed right_from_right right_digits right_check_digit
    started ended released counted settled settling ready target requested advanced_lane advanced_global differs sampled clocked clock_moves went_off
    slot_in added replaced deleted reclaimed
    first_cause causes outcome_answer outcome continued performed pending_from queued_in result fresh
    contents flags lookup_code lookup_position snapshot_count lane_words slot_words global_words words walk read_chains read_lane read_product state
    sizes_fit contents_agree flags_in_range masks_in_range links_in_range fields_in_range stands_once lasts_agree lengths_agree on_their_chains no_code_twice
    snapshots_at_rest lookups_at_rest generations_at_rest queue_links_at_rest off_lanes lookups_in_sections snapshots_pending bits_fit free_blank
    largest_agrees lane_generations global_generation legal
    refusal_of reply_of left_of reply left replies
answered m ks = map five_words (replies m ks)

-- n lent words, all 0
abbrev pub lent_words : ℕ → List ℕ
lent_words n = replicate n 0

-- a call, and the five words that it must answer
pub data Line : Type 0 where
  line : (call : Call) (status a b c d : ℕ) → Line

-- the same for a call that is no set-up
abbrev pub op : Op → (status a b c d : ℕ) → Line
op k = line (on_state k)

-- ---- set-ups, with the totals that they must answer

abbrev pub set_up1111 : Line
set_up1111 = line (set_up (sized 1 1 1 1)) 0 133 0 0 0

abbrev pub set_up1112 : Line
set_up1112 = line (set_up (sized 1 1 1 2)) 0 139 0 0 0

abbrev pub set_up1122 : Line
set_up1122 = line (set_up (sized 1 1 2 2)) 0 169 0 0 0

abbrev pub set_up1123 : Line
set_up1123 = line (set_up (sized 1 1 2 3)) 0 175 0 0 0

abbrev pub set_up1124 : Line
set_up1124 = line (set_up (sized 1 1 2 4)) 0 181 0 0 0

abbrev pub set_up1138 : Line
set_up1138 = line (set_up (sized 1 1 3 8)) 0 235 0 0 0

abbrev pub set_up1811 : Line
set_up1811 = line (set_up (sized 1 8 1 1)) 0 350 0 0 0

abbrev pub set_up2211 : Line
set_up2211 = line (set_up (sized 2 2 1 1)) 0 227 0 0 0

abbrev pub set_up2234 : Line
set_up2234 = line (set_up (sized 2 2 3 4)) 0 485 0 0 0

abbrev pub set_up3121 : Line
set_up3121 = line (set_up (sized 3 1 2 1)) 0 287 0 0 0

abbrev pub set_up8111 : Line
set_up8111 = line (set_up (sized 8 1 1 1)) 0 357 0 0 0

-- the largest table's, of one yard and of all
abbrev pub one_yard_total : ℕ
one_yard_total = 8168

abbrev pub largest_total : ℕ
largest_total = 21671

-- ---- the listing of document 01

abbrev pub listing : List Line
listing =
    set_up1123
    ∷ op (add 0 17 25 1) 0 0 0 0 0
    ∷ op (begin 1) 0 0 0 0 0
    ∷ op (start 1 17) 0 0 0 0 0
    ∷ op (delete 0 17) 0 0 0 0 0
    ∷ op (step 1) 0 1 0 25 1
    ∷ op (clock 0) 0 1 1 1 0
    ∷ op (clock 1) 0 1 1 1 0
    ∷ op (pass 0 0) 0 0 0 0 0
    ∷ op (clock 0) 0 1 1 1 0
    ∷ op (pass 1 0) 7 0 0 0 0
    ∷ op (end 1) 0 0 0 0 0
    ∷ op (pass 1 0) 0 0 0 0 0
    ∷ op (clock 1) 0 2 1 0 0
    ∷ op (hand_back 0) 16 0 0 0 0
    ∷ op (clock 0) 0 2 1 0 1
    ∷ op (hand_back 0) 0 0 0 0 0
    ∷ op awaited 0 0 4294967295 3 0
    ∷ []

-- ---- document 02, request 6: slots that come into done queues

-- Three lanes remove a slot each, and lane 2 goes off with its own. The last clock moves lane 0's slot and that of the lane that went off; the one of
-- lane 1 moved at lane 1's clock
abbrev pub two_queues_moved : List Line
two_queues_moved =
    set_up1138
    ∷ op (add 0 17 1 1) 0 0 0 0 0
    ∷ op (add 0 24 1 1) 0 1 0 0 0
    ∷ op (add 0 31 1 1) 0 2 0 0 0
    ∷ op (delete 1 31) 0 2 0 0 0
    ∷ op (clock 1) 0 1 1 1 0
    ∷ op (delete 0 17) 0 0 0 0 0
    ∷ op (delete 2 24) 0 1 0 0 0
    ∷ op (off 2) 0 0 0 0 0
    ∷ op (clock 0) 0 1 2 1 0
    ∷ op (pass 0 0) 0 0 0 0 0
    ∷ op (pass 1 0) 0 0 0 0 0
    ∷ op (clock 1) 0 1 2 1 0
    ∷ op (clock 0) 0 2 2 1 0
    ∷ op (clock 1) 0 2 2 1 1
    ∷ op (pass 1 0) 0 0 0 0 0
    ∷ op (clock 1) 0 2 2 1 0
    ∷ op (pass 0 0) 0 0 0 0 0
    ∷ op (clock 0) 0 3 2 0 2
    ∷ []

-- what awaited answers then, and after two slots came back
abbrev pub counted_after : List Line
counted_after =
    op awaited 0 0 4294967295 5 3
    ∷ op (hand_back 0) 0 0 0 0 0
    ∷ op (hand_back 0) 0 1 0 0 0
    ∷ op (hand_back 0) 16 0 0 0 0
    ∷ op awaited 0 0 4294967295 7 1
    ∷ op (hand_back 1) 0 2 0 0 0
    ∷ op awaited 0 0 4294967295 8 0
    ∷ []

-- Lane 1 goes off as the last one awaited: that ends the period, and its slot of before, which waits in the global queues, moves to done. Off answers zeros, and
-- the clock after it moved nothing
abbrev pub off_untold : List Line
off_untold =
    set_up1138
    ∷ op (add 2 17 1 1) 0 0 0 0 0
    ∷ op (delete 2 17) 0 0 0 0 0
    ∷ op (off 2) 0 0 0 0 0
    ∷ op (clock 0) 0 1 1 1 0
    ∷ op (pass 0 0) 0 0 0 0 0
    ∷ op (clock 0) 0 1 1 1 0
    ∷ op (off 1) 0 0 0 0 0
    ∷ op (clock 0) 0 2 1 0 0
    ∷ op (hand_back 0) 0 0 0 0 0
    ∷ []

-- ---- what a script must give, and what it gives

abbrev pub call_of : Line → Call
call_of (line k s a b c d) = k

abbrev pub output_of : Line → List ℕ
output_of (line k s a b c d) = s ∷ a ∷ b ∷ c ∷ d ∷ []

-- the events of the calls after the set-up, which is the first line; 200 words are lent
unfoldable pub events_of : List Line → List Event
unfolding answered events
events_of [] = []
events_of (l ∷ ls) = events (left (lent_words 200) (call_of l)) (map call_of ls)

-- a line, or words that then stand in the memory from an address on
pub data Watch : Type 0 where
  made : (line : Line) → Watch
  stands : (address : ℕ) (words : List ℕ) → Watch

-- a row of a table. `script`: the number of words lent, and the lines. `poked`: the same, with a word put at an address between the first lines and the
-- others. `watched`: the number of words lent, and lines with words that then stand in the memory. `passes`: the two words of a pass count before a pass of
-- its kind, and after it. `order`: whether generation a is later than b. `digit`: whether a text of digits ends with a right check digit. `reads`: a text, and
-- the status and two words of the reader's answer. `writes`: a text and a code, the status and a word of the writer's answer, and the text after it
pub data Row : Type 0 where
  script : (lent : ℕ) (lines : List Line) → Row
  poked : (lent : ℕ) (lines : List Line) (address word : ℕ) (others : List Line) → Row
  watched : (lent : ℕ) (watches : List Watch) → Row
  passes : (low high low_after high_after : ℕ) → Row
  order : (a b : ℕ) (is_later : Bool) → Row
  digit : (text : String) (isRight : Bool) → Row
  reads : (text : String) (status a b : ℕ) → Row
  writes : (text : String) (code status a : ℕ) (after : String) → Row

-- where the counts of lane 0 of a table 1 1 1 stand, kind 0 first
abbrev pub counts_at : ℕ
counts_at = lane_address (sized 1 1 1 1) 0 + quiescent_at

-- a truth as a line of output
abbrev pub verdict : Bool → List (List ℕ)
verdict b = (bit b ∷ []) ∷ []

abbrev pub watch_expected : Watch → List ℕ
watch_expected (made l) = output_of l
watch_expected (stands a ws) = ws

-- what a row must give
unfoldable pub expected : Row → List (List ℕ)
unfolding bytes
expected (script n ls) = map output_of ls
expected (poked n ls a w ks) = map output_of (ls ++ ks)
expected (watched n ws) = map watch_expected ws
expected (passes l h l' h') = (l' ∷ h' ∷ []) ∷ []
expected (order a b t) = verdict t
expected (digit x t) = verdict t
expected (reads x s a b) = (s ∷ a ∷ b ∷ 0 ∷ 0 ∷ []) ∷ []
expected (writes x c s a y) = (s ∷ a ∷ 0 ∷ 0 ∷ 0 ∷ []) ∷ bytes y ∷ []

-- so many words from an address on
abbrev pub stretch : ℕ → ℕ → List ℕ → List ℕ
stretch a n m = take n (drop a m)

-- what they give from the memory m on; whether a call is refused is computed once
unfoldable pub watch_run : List ℕ → List Watch → List (List ℕ)
unfolding answered
watch_run m [] = []
watch_run m (stands a xs ∷ ws) = stretch a (length xs) m ∷ watch_run m ws
watch_run m (made l ∷ ws) =
    let n = refusal_of m (call_of l) in
    five_words (reply_of m n (call_of l)) ∷ watch_run (left_of m n (call_of l)) ws

-- what it gives
unfoldable pub run : Row → List (List ℕ)
unfolding answered left_all watch_run bytes number_from no_label label_code read_refusal read_reply_of read_reply
    label_length label_text write_refusal write_reply_of written_of write_reply written
run (script n ls) = answered (lent_words n) (map call_of ls)
run (poked n ls a w ks) =
    let cs = map call_of ls in
    answered (lent_words n) cs ++ answered (set (left_all (lent_words n) cs) a w) (map call_of ks)
run (watched n ws) = watch_run (lent_words n) ws
run (passes l h l' h') =
    let m = left (sets (left_all (lent_words 200) (set_up (sized 1 1 1 1) ∷ [])) counts_at (l ∷ h ∷ [])) (on_state (pass 0 0)) in
    (at m counts_at ∷ at m (counts_at + 1) ∷ []) ∷ []
run (order a b t) = verdict (later a b)
run (digit x t) = verdict (right_digits (map digit_of (bytes x)))
run (reads x s a b) = five_words (read_reply (bytes x)) ∷ []
run (writes x c s a y) = five_words (write_reply (bytes x) c) ∷ written (bytes x) c ∷ []
