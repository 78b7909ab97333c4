-- The figure of document 02's request 5, computed: lists in which a lookup takes all of its n + 1 steps, alone and beside adds, replaces, deletes and
-- hand-backs.
use Rattle.std.specs.Prelude.{ℕ, ◌≡◌, refl, Bool, true, false, List, [], ◌∷◌, ◌++◌, map, take, drop, replicate}
use Rattle.model.specs.Lists.{tail, drops, bit}
use Rattle.model.specs.Rules.{Answer, accepted, refused, zeros, add, replace, delete, begin, start, step, pass, clock, hand_back}
use Rattle.model.specs.Calls.{set_up, sized}
use Rattle.model.specs.Ledger.{Event, fed, fed_call, ledger_from, ledger, records_on, is_step_of, step_answers, in_time, on_time}
use Rattle.scripts.specs.Scripts.{Line, line, op, set_up1122, set_up1124, five_words, output_of, events_of}

-- ---- what a list must give, and what it gives

-- event `started` of the list starts the lane's lookup of the code, with so many records on its chain; the outcomes of the lane's steps from there to
-- event `last`
pub data Timing : Type 0 where
  timing : (started last lane code records : ℕ) (outcomes : List ℕ) → Timing

-- a list of calls with their answers, the set-up first, and the lookups that are timed
pub data TimedList : Type 0 where
  timed : (lines : List Line) (timings : List Timing) → TimedList

abbrev pub outcome_of : Answer → ℕ
outcome_of r = r.a

-- on time, the records, and the outcomes
unfoldable pub owed : Timing → List ℕ
owed (timing k l i c n os) = 1 ∷ n ∷ os

unfoldable pub judged : List Event → Timing → List ℕ
unfolding bit drops fed fed_call ledger_from records_on is_step_of step_answers in_time
judged es (timing k l i c n os) =
    bit (on_time i c (take k es) (drop k (take l es))) ∷ records_on c (ledger (take k es)).entries ∷ map outcome_of (step_answers i (drop k (take l es)))

abbrev pub words_of : Event → List ℕ
words_of e = five_words e.answer

unfoldable pub expected : TimedList → List (List ℕ)
unfolding tail owed
expected (timed ls ts) = map output_of (tail ls) ++ map owed ts

unfoldable pub results : List Event → List Timing → List (List ℕ)
unfolding judged
results es ts = map words_of es ++ map (judged es) ts

-- the events are computed once
unfoldable pub run : TimedList → List (List ℕ)
unfolding events_of results
run (timed ls ts) = results (events_of ls) ts

-- ---- the figure is attained: lookups of code 0, which has no record, with 0 to 6 records on its chain

abbrev pub set_up1116 : Line
set_up1116 = line (set_up (sized 1 1 1 6)) 0 163 0 0 0

-- lane i's step that goes, and that finds the code absent
abbrev pub goes : ℕ → Line
goes i = op (step i) 0 0 0 0 0

abbrev pub is_absent : ℕ → Line
is_absent i = op (step i) 0 2 0 0 0

-- a start, n steps that go, and the answer
abbrev pub whole_lookup : ℕ → List Line
whole_lookup n = op (start 0 0) 0 0 0 0 0 ∷ replicate n (goes 0) ++ (is_absent 0 ∷ [])

abbrev pub alone : List Line
alone =
    set_up1116
    ∷ op (begin 0) 0 0 0 0 0
    ∷ whole_lookup 0
    ++ (op (add 0 192 1 1) 0 0 0 0 0 ∷ whole_lookup 1)
    ++ (op (add 0 512 1 1) 0 1 0 0 0 ∷ whole_lookup 2)
    ++ (op (add 0 1472 1 1) 0 2 0 0 0 ∷ whole_lookup 3)
    ++ (op (add 0 1984 1 1) 0 3 0 0 0 ∷ whole_lookup 4)
    ++ (op (add 0 2240 1 1) 0 4 0 0 0 ∷ whole_lookup 5)
    ++ (op (add 0 2752 1 1) 0 5 0 0 0 ∷ whole_lookup 6)

abbrev pub alone_timed : List Timing
alone_timed =
    timing 2 3 0 0 0 (2 ∷ [])
    ∷ timing 5 7 0 0 1 (0 ∷ 2 ∷ [])
    ∷ timing 9 12 0 0 2 (0 ∷ 0 ∷ 2 ∷ [])
    ∷ timing 14 18 0 0 3 (0 ∷ 0 ∷ 0 ∷ 2 ∷ [])
    ∷ timing 20 25 0 0 4 (0 ∷ 0 ∷ 0 ∷ 0 ∷ 2 ∷ [])
    ∷ timing 27 33 0 0 5 (0 ∷ 0 ∷ 0 ∷ 0 ∷ 0 ∷ 2 ∷ [])
    ∷ timing 35 42 0 0 6 (0 ∷ 0 ∷ 0 ∷ 0 ∷ 0 ∷ 0 ∷ 2 ∷ [])
    ∷ []

-- ---- adds meanwhile come at the head, and the reader does not meet them

abbrev pub begins_at1 : Line
begins_at1 = op (begin 1) 0 0 0 0 0

abbrev pub starts_at1 : Line
starts_at1 = op (start 1 0) 0 0 0 0 0

abbrev pub beside_adds : List Line
beside_adds =
    set_up1124
    ∷ op (add 0 192 1 1) 0 0 0 0 0
    ∷ begins_at1
    ∷ starts_at1
    ∷ op (add 0 512 1 1) 0 1 0 0 0
    ∷ goes 1
    ∷ op (add 0 1472 1 1) 0 2 0 0 0
    ∷ is_absent 1
    ∷ []

-- ---- replaces meanwhile, under the reader and ahead of it, keep its path as long as it is

abbrev pub beside_replaces : List Line
beside_replaces =
    set_up1124
    ∷ op (add 0 192 1 1) 0 0 0 0 0
    ∷ op (add 0 512 1 1) 0 1 0 0 0
    ∷ begins_at1
    ∷ starts_at1
    ∷ op (replace 0 512 2 1) 0 2 1 0 0
    ∷ goes 1
    ∷ op (replace 0 192 2 1) 0 3 0 0 0
    ∷ goes 1
    ∷ is_absent 1
    ∷ []

-- ---- deletes meanwhile: the records of the start count, though none is left at the answer

abbrev pub beside_deletes : List Line
beside_deletes =
    set_up1124
    ∷ op (add 0 192 1 1) 0 0 0 0 0
    ∷ op (add 0 512 1 1) 0 1 0 0 0
    ∷ begins_at1
    ∷ starts_at1
    ∷ op (delete 0 512) 0 1 0 0 0
    ∷ op (delete 0 192) 0 0 0 0 0
    ∷ goes 1
    ∷ goes 1
    ∷ is_absent 1
    ∷ []

-- ---- a slot is handed back meanwhile and used again, on the reader's chain

abbrev pub beside_hand_back : List Line
beside_hand_back =
    set_up1122
    ∷ op (add 0 192 1 1) 0 0 0 0 0
    ∷ op (delete 0 192) 0 0 0 0 0
    ∷ op (clock 0) 0 1 1 1 0
    ∷ op (clock 1) 0 1 1 1 0
    ∷ op (pass 0 0) 0 0 0 0 0
    ∷ op (clock 0) 0 1 1 1 0
    ∷ op (pass 1 0) 0 0 0 0 0
    ∷ op (clock 1) 0 2 1 0 0
    ∷ op (clock 0) 0 2 1 0 1
    ∷ op (add 0 512 1 1) 0 1 0 0 0
    ∷ begins_at1
    ∷ starts_at1
    ∷ op (hand_back 0) 0 0 0 0 0
    ∷ op (add 0 1472 1 1) 0 0 0 0 0
    ∷ goes 1
    ∷ is_absent 1
    ∷ []

-- ---- records of other chains do not count, nor other lanes' steps

abbrev pub beside_others : List Line
beside_others =
    set_up1124
    ∷ op (add 0 17 25 1) 0 0 0 0 0
    ∷ op (add 0 24 26 2) 0 1 0 0 0
    ∷ op (add 0 192 1 1) 0 2 0 0 0
    ∷ op (begin 0) 0 0 0 0 0
    ∷ begins_at1
    ∷ starts_at1
    ∷ op (start 0 529) 0 0 0 0 0
    ∷ goes 0
    ∷ goes 1
    ∷ is_absent 0
    ∷ is_absent 1
    ∷ []

-- ---- what is on time, and what is late, by the steps' answers

-- n records, the answers, and whether they are on time
pub data Verdict : Type 0 where
  verdict : (records : ℕ) (answers : List Answer) (is_on_time : Bool) → Verdict

unfoldable pub said : Verdict → Bool
said (verdict n rs b) = b

unfoldable pub judgement : Verdict → Bool
unfolding in_time
judgement (verdict n rs b) = in_time n rs

abbrev pub absent_answer : Answer
absent_answer = accepted 2 0 0 0

-- `no_lookup`: a step that is refused is neither on the way nor an answer
abbrev pub no_lookup : Answer
no_lookup = refused 10

abbrev pub verdicts : List Verdict
verdicts =
    verdict 0 (absent_answer ∷ []) true
    ∷ verdict 0 (zeros ∷ []) false
    ∷ verdict 2 (zeros ∷ zeros ∷ []) true
    ∷ verdict 2 (zeros ∷ zeros ∷ absent_answer ∷ []) true
    ∷ verdict 2 (zeros ∷ accepted 1 0 25 1 ∷ []) true
    ∷ verdict 2 (absent_answer ∷ no_lookup ∷ []) true
    ∷ verdict 2 (zeros ∷ zeros ∷ zeros ∷ []) false
    ∷ verdict 1 (zeros ∷ zeros ∷ absent_answer ∷ []) false
    ∷ verdict 2 (no_lookup ∷ absent_answer ∷ []) false
    ∷ verdict 2 (zeros ∷ no_lookup ∷ absent_answer ∷ []) false
    ∷ []

pub verdicts-hold : map judgement verdicts ≡ map said verdicts
unfolding judgement said
verdicts-hold = refl

-- ---- each of the lists

abbrev pub table : List TimedList
table =
    timed alone alone_timed
    ∷ timed beside_adds (timing 3 7 1 0 1 (0 ∷ 2 ∷ []) ∷ [])
    ∷ timed beside_replaces (timing 4 9 1 0 2 (0 ∷ 0 ∷ 2 ∷ []) ∷ [])
    ∷ timed beside_deletes (timing 4 9 1 0 2 (0 ∷ 0 ∷ 2 ∷ []) ∷ [])
    ∷ timed beside_hand_back (timing 12 16 1 0 1 (0 ∷ 2 ∷ []) ∷ [])
    ∷ timed beside_others (timing 6 11 1 0 1 (0 ∷ 2 ∷ []) ∷ timing 7 11 0 529 1 (0 ∷ 2 ∷ []) ∷ [])
    ∷ []

pub timings-hold : map run table ≡ map expected table
unfolding run expected
timings-hold = refl
