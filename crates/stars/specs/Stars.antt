-- The cases that document 01 marks with a star ("A listing, and edges", last paragraph), in its order and as document 02 changes them, and then
-- those of document 02's requests.
use Rattle.std.specs.Prelude.{ℕ, suc, ◌+◌, ◌-◌, ◌≡◌, refl, true, false, List, [], ◌∷◌, ◌++◌, map, take, drop}
use Rattle.std.proofs.Common.{sym, ◌∙◌, ap₂}
use Rattle.std.proofs.lemmas.List.{map-append}
use Rattle.model.specs.Rules.{add, replace, delete, begin, end, start, step, pass, clock, on, off, hand_back, awaited}
use Rattle.model.specs.State.{Sizes}
use Rattle.model.specs.Layout.{version_at, yard_mask_at, masks_at, code_at, slot_address, lookup_at, lane_address, yards_body}
use Rattle.model.specs.Calls.{set_up, sized}
use Rattle.scripts.specs.Scripts.{Line, line, op, set_up1111, set_up1112, set_up1123, set_up1124, set_up1811, set_up2211, set_up2234, set_up3121, set_up8111}
use Rattle.scripts.specs.Scripts.{one_yard_total, largest_total, listing, two_queues_moved, counted_after, off_untold}
use Rattle.scripts.specs.Scripts.{Watch, made, stands, Row, script, poked, watched, passes, counts_at, order, digit, reads, writes, expected, run}

-- replace with code missing and no free slot
abbrev pub missing_first : List Line
missing_first =
    set_up1111
    ∷ op (add 0 17 25 1) 0 0 0 0 0
    ∷ op (replace 0 24 25 1) 13 0 0 0 0
    ∷ []

-- a lookup stands on a slot that is then deleted, and goes on to what follows it
abbrev pub deleted_underway : List Line
deleted_underway =
    set_up1112
    ∷ op (add 0 192 25 1) 0 0 0 0 0
    ∷ op (add 0 0 30 2) 0 1 0 0 0
    ∷ op (begin 0) 0 0 0 0 0
    ∷ op (start 0 192) 0 0 0 0 0
    ∷ op (delete 0 0) 0 1 0 0 0
    ∷ op (step 0) 0 0 0 0 0
    ∷ op (step 0) 0 1 0 25 1
    ∷ []

-- the largest codes of thirteen and of fourteen digits, the largest of each with a right check digit, the smallest of fourteen, and one past the range
abbrev pub code_limit : List Line
code_limit =
    set_up1123
    ∷ op (add 0 9999999999999 25 1) 17 0 0 0 0
    ∷ op (add 0 9999999999994 25 1) 0 0 0 0 0
    ∷ op (add 0 10000000000000 25 1) 17 0 0 0 0
    ∷ op (add 0 99999999999999 25 1) 17 0 0 0 0
    ∷ op (add 0 99999999999997 25 1) 0 1 0 0 0
    ∷ op (add 0 100000000000000 25 1) 11 0 0 0 0
    ∷ op (delete 0 99999999999999) 13 0 0 0 0
    ∷ op (delete 0 100000000000000) 11 0 0 0 0
    ∷ []

-- ---- request 1: check digit on office entries

-- two right codes; the first with another last digit, and with its first two exchanged; the second with 3 and 8 exchanged, which differ by 5
abbrev pub typed_codes : List Line
typed_codes =
    set_up1123
    ∷ op (add 0 5901234123457 25 1) 0 0 0 0 0
    ∷ op (add 0 4006381333931 25 1) 0 1 0 0 0
    ∷ op (add 0 5901234123458 25 1) 17 0 0 0 0
    ∷ op (add 0 9501234123457 25 1) 17 0 0 0 0
    ∷ op (add 0 4006831333931 25 1) 0 2 0 0 0
    ∷ []

-- a wrong check digit is tested after the range, and before what the table holds: code 18 is missing, and later no slot is free
abbrev pub digit_after_range : List Line
digit_after_range =
    set_up1111
    ∷ op (add 0 18 25 8) 11 0 0 0 0
    ∷ op (replace 0 18 25 8) 11 0 0 0 0
    ∷ op (replace 0 18 25 1) 17 0 0 0 0
    ∷ op (delete 0 18) 13 0 0 0 0
    ∷ op (add 0 17 25 1) 0 0 0 0 0
    ∷ op (add 0 18 25 1) 17 0 0 0 0
    ∷ op (replace 0 18 25 1) 17 0 0 0 0
    ∷ op (replace 0 17 25 1) 14 0 0 0 0
    ∷ []

-- A full table. Code 338, of chain 18, then becomes 18 in slot 0: a legal memory with an older record
abbrev pub before_older : List Line
before_older = set_up1112 ∷ op (add 0 338 25 1) 0 0 0 0 0 ∷ op (add 0 17 30 2) 0 1 0 0 0 ∷ []

-- it is found; the office does not enter it again, though it is present and no slot is free; delete clears it
abbrev pub older_record : List Line
older_record =
    op (begin 0) 0 0 0 0 0
    ∷ op (start 0 18) 0 0 0 0 0
    ∷ op (step 0) 0 1 0 25 1
    ∷ op (add 0 18 25 1) 17 0 0 0 0
    ∷ op (replace 0 18 25 1) 17 0 0 0 0
    ∷ op (delete 0 18) 0 0 0 0 0
    ∷ op (delete 0 18) 13 0 0 0 0
    ∷ op awaited 0 0 4294967295 0 1
    ∷ []

-- ---- request 2: labels of eight, thirteen and fourteen digits

-- a record and a running lookup of code 99,999,999,999,744
abbrev pub before_limit : List Line
before_limit =
    set_up1111
    ∷ op (add 0 99999999999744 25 1) 0 0 0 0 0
    ∷ op (begin 0) 0 0 0 0 0
    ∷ op (start 0 99999999999744) 0 0 0 0 0
    ∷ []

-- its low word as that of 99,999,999,999,936, the last of that chain in range, and as that of 100,000,000,000,000, of that chain too
abbrev pub last_low : ℕ
last_low = 276447168

abbrev pub past_low : ℕ
past_low = 276447232

-- a legal memory: record and lookup have different codes, so nothing is found
abbrev pub still_legal : List Line
still_legal = op (step 0) 0 0 0 0 0 ∷ op (step 0) 0 2 0 0 0 ∷ []

abbrev pub not_legal : List Line
not_legal = op (step 0) 3 0 0 0 0 ∷ []

-- a right label of each length; one of them filled with zeros; one digit less, and another digit
abbrev pub label_digits : List Row
label_digits =
    digit "96385074" true
    ∷ digit "4006381333931" true
    ∷ digit "10012345678902" true
    ∷ digit "0000096385074" true
    ∷ digit "00000096385074" true
    ∷ digit "9638507" false
    ∷ digit "96385075" false
    ∷ digit "10000000000000" false
    ∷ digit "0" true
    ∷ []

-- the three lengths; the check digit is not judged; other lengths; other bytes: a blank, and those next to the digits'
abbrev pub labels_read : List Row
labels_read =
    reads "96385074" 0 96385074 0
    ∷ reads "4006381333931" 0 3471814059 932
    ∷ reads "10012345678902" 0 776911926 2331
    ∷ reads "0000096385074" 0 96385074 0
    ∷ reads "00000001" 0 1 0
    ∷ reads "99999999999999" 0 276447231 23283
    ∷ reads "" 18 0 0
    ∷ reads "6385074" 18 0 0
    ∷ reads "096385074" 18 0 0
    ∷ reads "400638133393" 18 0 0
    ∷ reads "000004006381333931" 18 0 0
    ∷ reads "010012345678902" 18 0 0
    ∷ reads "4006381 33931" 18 0 0
    ∷ reads " 96385074" 18 0 0
    ∷ reads "9638507:" 18 0 0
    ∷ reads "/6385074" 18 0 0
    ∷ []

-- each length's largest code and the next; the bytes after stay; a text as long as the label, and one byte shorter; the range is tested first
abbrev pub labels_written : List Row
labels_written =
    writes "abcdefghijklmnop" 0 0 8 "00000000ijklmnop"
    ∷ writes "abcdefghijklmnop" 96385074 0 8 "96385074ijklmnop"
    ∷ writes "abcdefghijklmnop" 99999999 0 8 "99999999ijklmnop"
    ∷ writes "abcdefghijklmnop" 100000000 0 13 "0000100000000nop"
    ∷ writes "abcdefghijklmnop" 9999999999999 0 13 "9999999999999nop"
    ∷ writes "abcdefghijklmnop" 10000000000000 0 14 "10000000000000op"
    ∷ writes "abcdefghijklmnop" 99999999999999 0 14 "99999999999999op"
    ∷ writes "abcdefghijklmnop" 100000000000000 11 0 "abcdefghijklmnop"
    ∷ writes "abcdefgh" 99999999 0 8 "99999999"
    ∷ writes "abcdefg" 99999999 18 0 "abcdefg"
    ∷ writes "abcdefghijklm" 100000000 0 13 "0000100000000"
    ∷ writes "abcdefghijkl" 100000000 18 0 "abcdefghijkl"
    ∷ writes "abcdefghijklm" 10000000000000 18 0 "abcdefghijklm"
    ∷ writes "" 0 18 0 ""
    ∷ writes "" 100000000000000 11 0 ""
    ∷ []

-- ---- request 3: a section may end while its lookup runs

-- the step after it finds no lookup
abbrev pub dropped_at_none : List Line
dropped_at_none =
    set_up1111
    ∷ op (begin 0) 0 0 0 0 0
    ∷ op (start 0 17) 0 0 0 0 0
    ∷ op (end 0) 0 0 0 0 0
    ∷ op (step 0) 10 0 0 0 0
    ∷ op (end 0) 8 0 0 0 0
    ∷ []

-- Chain 0 has the slots 2, 1, 0. A lookup is dropped at the head, in the middle, on a removed slot, and at the end of the chain; after each the lane looks
-- for another code. Start alone is refused while one runs
abbrev pub dropped_on_chain : List Line
dropped_on_chain =
    set_up1124
    ∷ op (add 0 192 25 1) 0 0 0 0 0
    ∷ op (add 0 0 30 2) 0 1 0 0 0
    ∷ op (add 0 512 35 3) 0 2 0 0 0
    ∷ op (begin 1) 0 0 0 0 0
    ∷ op (start 1 192) 0 0 0 0 0
    ∷ op (start 1 0) 9 0 0 0 0
    ∷ op (end 1) 0 0 0 0 0
    ∷ op (step 1) 10 0 0 0 0
    ∷ op (begin 1) 0 0 0 0 0
    ∷ op (step 1) 10 0 0 0 0
    ∷ op (start 1 0) 0 0 0 0 0
    ∷ op (step 1) 0 0 0 0 0
    ∷ op (end 1) 0 0 0 0 0
    ∷ op (begin 1) 0 0 0 0 0
    ∷ op (start 1 192) 0 0 0 0 0
    ∷ op (step 1) 0 0 0 0 0
    ∷ op (delete 0 0) 0 1 0 0 0
    ∷ op (end 1) 0 0 0 0 0
    ∷ op (step 1) 10 0 0 0 0
    ∷ op (begin 1) 0 0 0 0 0
    ∷ op (start 1 1472) 0 0 0 0 0
    ∷ op (step 1) 0 0 0 0 0
    ∷ op (step 1) 0 0 0 0 0
    ∷ op (end 1) 0 0 0 0 0
    ∷ op (begin 1) 0 0 0 0 0
    ∷ op (start 1 512) 0 0 0 0 0
    ∷ op (step 1) 0 1 2 35 3
    ∷ []

-- the listing of document 01, but for its step: the lookup is dropped on the deleted slot, which comes back no later, and all answers are as they were
abbrev pub step_line : ℕ
step_line = 5

abbrev pub dropped_in_period : List Line
dropped_in_period = take step_line listing ++ drop (suc step_line) listing

-- a lane goes off after a dropped lookup, while a period waits for it; on again it has none
abbrev pub dropped_then_off : List Line
dropped_then_off =
    set_up1123
    ∷ op (add 0 17 25 1) 0 0 0 0 0
    ∷ op (begin 1) 0 0 0 0 0
    ∷ op (start 1 17) 0 0 0 0 0
    ∷ op (off 1) 7 0 0 0 0
    ∷ op (delete 0 17) 0 0 0 0 0
    ∷ op (clock 0) 0 1 1 1 0
    ∷ op (pass 0 0) 0 0 0 0 0
    ∷ op (clock 0) 0 1 1 1 0
    ∷ op (end 1) 0 0 0 0 0
    ∷ op (off 1) 0 0 0 0 0
    ∷ op (step 1) 5 0 0 0 0
    ∷ op (clock 0) 0 2 1 0 1
    ∷ op (hand_back 0) 0 0 0 0 0
    ∷ op (on 1) 0 0 0 0 0
    ∷ op (step 1) 10 0 0 0 0
    ∷ []

-- ---- request 4: cabinet and place of a lane

-- lane 0 begins a period, and all lanes are awaited
abbrev pub all_awaited : List Line
all_awaited = op (add 0 17 25 1) 0 0 0 0 0 ∷ op (delete 0 17) 0 0 0 0 0 ∷ op (clock 0) 0 1 1 1 0 ∷ []

-- n lanes are awaited, the lowest of them lane l
abbrev pub awaited_still : ℕ → ℕ → Line
awaited_still n l = op awaited 0 n l 0 1

-- lane i is through, and n are awaited still, the lowest of them lane l
abbrev pub through : ℕ → ℕ → ℕ → List Line
through i n l = op (clock i) 0 1 1 1 0 ∷ op (pass i 0) 0 0 0 0 0 ∷ op (clock i) 0 1 1 1 0 ∷ awaited_still n l ∷ []

-- the eighth cabinet, by seven subtractions, of which nothing is left, and the seventh; there is no ninth. Two cabinets of four lanes: `cases` Replay
abbrev pub last_cabinets : List Line
last_cabinets = set_up1811 ∷ (all_awaited ++ through 7 7 0 ++ through 6 6 0) ++ (op (clock 8) 4 0 0 0 0 ∷ [])

-- ---- request 5: how long a lookup can take

-- two records on the chain: two steps go, and the third answers. `timings` judges the figure, on longer chains and beside other calls too
abbrev pub last_step_needed : List Line
last_step_needed =
    set_up1112
    ∷ op (add 0 192 25 1) 0 0 0 0 0
    ∷ op (add 0 512 30 2) 0 1 0 0 0
    ∷ op (begin 0) 0 0 0 0 0
    ∷ op (start 0 0) 0 0 0 0 0
    ∷ op (step 0) 0 0 0 0 0
    ∷ op (step 0) 0 0 0 0 0
    ∷ op (step 0) 0 2 0 0 0
    ∷ []

-- ---- request 6: line lengths kept; its lists are those of `scripts`, and `tallies` adds up what they move

-- a table of an older version is refused
abbrev pub older_version : List Line
older_version = op awaited 3 0 0 0 0 ∷ op (clock 0) 3 0 0 0 0 ∷ op (add 0 17 25 1) 3 0 0 0 0 ∷ []

-- ---- request 7: wider pass counts

-- Lane 0, alone, has removed a slot and holds a snapshot of counts that are 0
abbrev pub holds_zeros : List Line
holds_zeros = set_up1111 ∷ op (add 0 17 25 1) 0 0 0 0 0 ∷ op (delete 0 17) 0 0 0 0 0 ∷ op (clock 0) 0 1 1 1 0 ∷ []

-- after 4,294,967,296 passes its count is no 0: the clock lets it go. The count with the largest word in it, and a pass more; or the high word alone
abbrev pub no_wrap : List Line
no_wrap = op (pass 0 0) 0 0 0 0 0 ∷ op (clock 0) 0 2 1 0 1 ∷ []

abbrev pub high_counts : List Line
high_counts = op (clock 0) 0 2 1 0 1 ∷ []

-- a pass: of a low word, with and without a carry into the high one; and from 18,446,744,073,709,551,615 to 0
abbrev pub count_words : List Row
count_words =
    passes 0 0 1 0
    ∷ passes 6 5 7 5
    ∷ passes 4294967294 5 4294967295 5
    ∷ passes 4294967295 5 0 6
    ∷ passes 4294967295 4294967295 0 0
    ∷ []

-- ---- request 8: yards above cabinets

-- no yards, and nine
abbrev pub yard_range : List Line
yard_range = line (set_up (sized 0 1 2 3)) 1 0 0 0 0 ∷ line (set_up (sized 9 1 2 3)) 1 0 0 0 0 ∷ []

-- the fifteen words of contents
abbrev pub contents_words : List Watch
contents_words = made set_up2234 ∷ stands version_at (4 ∷ 2 ∷ 3 ∷ 4 ∷ 15 ∷ 80 ∷ 95 ∷ 4 ∷ 99 ∷ 360 ∷ 459 ∷ 24 ∷ 483 ∷ 2 ∷ 2 ∷ []) ∷ []

-- lane 11 is the last of two yards with two cabinets of three lanes
abbrev pub last_lane : List Line
last_lane = set_up2234 ∷ op (begin 11) 0 0 0 0 0 ∷ op (begin 12) 4 0 0 0 0 ∷ []

-- the eighth yard, by seven subtractions, of which nothing is left, and the seventh; there is no ninth
abbrev pub last_yards : List Line
last_yards = set_up8111 ∷ (all_awaited ++ through 7 7 0 ++ through 6 6 0) ++ (op (clock 8) 4 0 0 0 0 ∷ [])

-- lines on a table of sizes z, and the masks after them: the yard mask, the yards' cabinet masks, and the cabinets' lane masks
abbrev pub masked : Sizes → List Line → ℕ → List ℕ → List ℕ → List Watch
masked z ls y cs ps = map made ls ++ (stands yard_mask_at (y ∷ []) ∷ stands (yards_body z) cs ∷ stands masks_at ps ∷ [])

-- lane 0 began the period: it is through, and n are awaited still, the lowest of them lane l
abbrev pub first_through : ℕ → ℕ → List Line
first_through n l = op (pass 0 0) 0 0 0 0 0 ∷ op (clock 0) 0 1 1 1 0 ∷ awaited_still n l ∷ []

-- lane i, the last one awaited, ends the period
abbrev pub last_through : ℕ → List Line
last_through i =
    op (clock i) 0 1 1 1 0
    ∷ op (pass i 0) 0 0 0 0 0
    ∷ awaited_still 1 i
    ∷ op (clock i) 0 2 1 0 0
    ∷ op awaited 0 0 4294967295 0 1
    ∷ []

-- two yards of two cabinets with a lane each
abbrev pub two_yards : Sizes
two_yards = sized 2 2 1 1

-- lane after lane is through: bits go at all levels, then the lowest lane is in the second yard, and the period ends with its last lane
abbrev pub two_yards_period : List Watch
two_yards_period =
    masked two_yards (set_up2211 ∷ all_awaited ++ (awaited_still 4 0 ∷ [])) 3 (3 ∷ 3 ∷ []) (1 ∷ 1 ∷ 1 ∷ 1 ∷ [])
    ++ masked two_yards (first_through 3 1) 3 (2 ∷ 3 ∷ []) (0 ∷ 1 ∷ 1 ∷ 1 ∷ [])
    ++ masked two_yards (through 1 2 2) 2 (0 ∷ 3 ∷ []) (0 ∷ 0 ∷ 1 ∷ 1 ∷ [])
    ++ masked two_yards (through 2 1 3) 2 (0 ∷ 2 ∷ []) (0 ∷ 0 ∷ 0 ∷ 1 ∷ [])
    ++ masked two_yards (last_through 3) 0 (0 ∷ 0 ∷ []) (0 ∷ 0 ∷ 0 ∷ 0 ∷ [])

-- a lane of the first yard's second cabinet is lower than one of the second yard's first
abbrev pub yard_before_cabinet : List Watch
yard_before_cabinet =
    masked two_yards (set_up2211 ∷ all_awaited ++ through 3 3 0 ++ first_through 2 1) 3 (2 ∷ 1 ∷ []) (0 ∷ 1 ∷ 1 ∷ 0 ∷ [])

-- three yards of a cabinet with two lanes each
abbrev pub three_yards : Sizes
three_yards = sized 3 1 2 1

-- the same: the period ends with the last lane of the third yard
abbrev pub three_yards_period : List Watch
three_yards_period =
    masked three_yards (set_up3121 ∷ all_awaited ++ first_through 5 1) 7 (1 ∷ 1 ∷ 1 ∷ []) (2 ∷ 3 ∷ 3 ∷ [])
    ++ masked three_yards (through 1 4 2 ++ through 2 3 3) 6 (0 ∷ 1 ∷ 1 ∷ []) (0 ∷ 2 ∷ 3 ∷ [])
    ++ masked three_yards (through 3 2 4 ++ through 4 1 5) 4 (0 ∷ 0 ∷ 1 ∷ []) (0 ∷ 0 ∷ 2 ∷ [])
    ++ masked three_yards (last_through 5) 0 (0 ∷ 0 ∷ 0 ∷ []) (0 ∷ 0 ∷ 0 ∷ [])

-- Lane 2 is the only one on in its yard, and lane 1 in its cabinet. Each goes off while the period waits for it, which goes on with lane 0
abbrev pub off_of_yard : List Watch
off_of_yard =
    masked two_yards (set_up2211 ∷ op (off 3) 0 0 0 0 0 ∷ all_awaited ++ (awaited_still 3 0 ∷ [])) 3 (3 ∷ 1 ∷ []) (1 ∷ 1 ∷ 1 ∷ 0 ∷ [])
    ++ masked two_yards (op (off 2) 0 0 0 0 0 ∷ awaited_still 2 0 ∷ []) 1 (3 ∷ 0 ∷ []) (1 ∷ 1 ∷ 0 ∷ 0 ∷ [])
    ++ masked two_yards (op (off 1) 0 0 0 0 0 ∷ awaited_still 1 0 ∷ []) 1 (1 ∷ 0 ∷ []) (1 ∷ 0 ∷ 0 ∷ 0 ∷ [])
    ++ masked two_yards (op (pass 0 0) 0 0 0 0 0 ∷ op (clock 0) 0 2 1 0 1 ∷ []) 0 (0 ∷ 0 ∷ []) (0 ∷ 0 ∷ 0 ∷ 0 ∷ [])

-- lane 2 again: it goes off as the last one awaited, which ends the period
abbrev pub off_ends_period : List Watch
off_ends_period =
    masked two_yards (set_up2211 ∷ op (off 3) 0 0 0 0 0 ∷ all_awaited ++ first_through 2 1 ++ through 1 1 2) 2 (0 ∷ 1 ∷ []) (0 ∷ 0 ∷ 1 ∷ 0 ∷ [])
    ++ masked two_yards (op (off 2) 0 0 0 0 0 ∷ op (clock 0) 0 2 1 0 1 ∷ []) 0 (0 ∷ 0 ∷ []) (0 ∷ 0 ∷ 0 ∷ 0 ∷ [])

-- ---- all of them

-- of document 01, and of requests 1 to 3
abbrev pub base_cases : List Row
base_cases =
    script 16000 listing
    ∷ script (one_yard_total - 1) (line (set_up (sized 1 8 8 1024)) 2 0 0 0 0 ∷ [])
    ∷ script one_yard_total (line (set_up (sized 1 8 8 1024)) 0 one_yard_total 0 0 0 ∷ [])
    ∷ script 16000 (line (set_up (sized 1 1 2 0)) 1 0 0 0 0 ∷ line (set_up (sized 1 1 2 1025)) 1 0 0 0 0 ∷ [])
    ∷ script 16000 code_limit
    ∷ script 16000 (set_up1123 ∷ op (begin 2) 4 0 0 0 0 ∷ [])
    ∷ order 0 4294967295 true
    ∷ order 4294967295 0 false
    ∷ order 0 0 false
    ∷ order 4294967295 4294967295 false
    ∷ script 16000 missing_first
    ∷ script 16000 deleted_underway
    ∷ script 200 typed_codes
    ∷ script 200 digit_after_range
    ∷ poked 200 before_older (slot_address (sized 1 1 1 2) 0 + code_at) 18 older_record
    ∷ poked 200 before_limit (slot_address (sized 1 1 1 1) 0 + code_at) last_low still_legal
    ∷ poked 200 before_limit (slot_address (sized 1 1 1 1) 0 + code_at) past_low not_legal
    ∷ poked 200 before_limit (lane_address (sized 1 1 1 1) 0 + lookup_at) last_low still_legal
    ∷ poked 200 before_limit (lane_address (sized 1 1 1 1) 0 + lookup_at) past_low not_legal
    ∷ script 200 dropped_at_none
    ∷ script 200 dropped_on_chain
    ∷ script 200 dropped_in_period
    ∷ script 200 dropped_then_off
    ∷ (label_digits ++ labels_read ++ labels_written)

-- of requests 4 to 7
abbrev pub later_cases : List Row
later_cases =
    script 400 last_cabinets
    ∷ script 200 last_step_needed
    ∷ script 300 (two_queues_moved ++ counted_after)
    ∷ script 300 off_untold
    ∷ poked 200 (set_up1123 ∷ []) version_at 1 older_version
    ∷ poked 200 (set_up1123 ∷ []) version_at 2 older_version
    ∷ poked 200 holds_zeros counts_at 4294967295 no_wrap
    ∷ poked 200 holds_zeros (counts_at + 1) 1 high_counts
    ∷ count_words

-- of request 8
abbrev pub yard_cases : List Row
yard_cases =
    script (largest_total - 1) (line (set_up (sized 8 8 8 1024)) 2 0 0 0 0 ∷ [])
    ∷ script largest_total (line (set_up (sized 8 8 8 1024)) 0 largest_total 0 0 0 ∷ [])
    ∷ script 16000 yard_range
    ∷ watched 500 contents_words
    ∷ script 500 last_lane
    ∷ script 400 last_yards
    ∷ watched 300 two_yards_period
    ∷ watched 300 yard_before_cabinet
    ∷ watched 300 three_yards_period
    ∷ watched 300 off_of_yard
    ∷ watched 300 off_ends_period
    ∷ poked 200 (set_up1123 ∷ []) version_at 3 older_version
    ∷ []

abbrev pub stars : List Row
stars = base_cases ++ later_cases ++ yard_cases

-- each part is computed apart, for a computation is bounded in its steps
pub base-hold : map run base_cases ≡ map expected base_cases
unfolding run expected
base-hold = refl

pub later-hold : map run later_cases ≡ map expected later_cases
unfolding run expected
later-hold = refl

pub yards-hold : map run yard_cases ≡ map expected yard_cases
unfolding run expected
yards-hold = refl

-- two parts of which each row comes out, together
pub joined : (xs ys : List Row) → map run xs ≡ map expected xs → map run ys ≡ map expected ys → map run (xs ++ ys) ≡ map expected (xs ++ ys)
joined xs ys p q = map-append run xs ys ∙ ap₂ ◌++◌ p q ∙ sym (map-append expected xs ys)

-- each row comes out. That no generation at all is later than itself is a law (`laws` Generations `later-self`)
pub stars-hold : map run stars ≡ map expected stars
stars-hold = joined base_cases (later_cases ++ yard_cases) base-hold (joined later_cases yard_cases later-hold yards-hold)
