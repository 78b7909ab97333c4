-- Document 01, "The ledger of demand 3", with document 02's request 3: the ledger, fed with calls and their answers and nothing from the memory, and the
-- demand; document 02's request 5, the figure for the belt; and its request 6, what the clocks' fourth numbers add up to.
use Rattle.std.specs.Prelude.{ℕ, zero, suc, ◌+◌, ◌≤◌, ◌≡◌, Bool, true, false, cond, ◌&&◌, ◌||◌, length, take, replicate, eqb}
use mathlib.Core.List.{List, [], ◌∷◌, ◌++◌, Memᴰ}
use Rattle.model.specs.Lists.{any, drops}
use Rattle.model.specs.State.{Sizes, Lane, Engine}
use Rattle.model.specs.Layout.{code_at, deposit_at, material_at, slot_address}
use Rattle.model.specs.Memory.{at, wide, sizes, state}
use Rattle.model.specs.Table.{chain_number, chain_of}
use Rattle.model.specs.Engine.{off_moves}
use Rattle.model.specs.Rules.{Op, add, replace, delete, begin, end, start, step, pass, clock, on, off, hand_back, awaited, Answer, accepted, zeros}
use Rattle.model.specs.Calls.{Call, set_up, on_state, reply, left, left_all}

-- ---- the ledger

-- a read-side section, by its lane and the instant at which it was opened
pub record Section : Type 0 where
  pub lane : ℕ
  pub opened : ℕ

-- a code of the table, with its slot and values
pub record Entry : Type 0 where
  pub code : ℕ
  pub slot : ℕ
  pub deposit : ℕ
  pub material : ℕ

-- a lane's lookup that has no answer yet: code and instant of its start
pub record Search : Type 0 where
  pub lane : ℕ
  pub code : ℕ
  pub started : ℕ

-- a slot that is out, with every section open at its removal
pub record Out : Type 0 where
  pub slot : ℕ
  pub sections : List Section

-- at most one entry a code, the open sections, the lookups without an answer, and the slots that are out
pub record Ledger : Type 0 where
  pub entries : List Entry
  pub sections : List Section
  pub searches : List Search
  pub outs : List Out

-- the ledger at instant 0, the end of the set-up
abbrev pub empty : Ledger
empty = record { entries = []; sections = []; searches = []; outs = [] }

abbrev pub of_code : ℕ → Entry → Bool
of_code c e = eqb e.code c

abbrev pub section_of : ℕ → Section → Bool
section_of i x = eqb x.lane i

abbrev pub search_of : ℕ → Search → Bool
search_of i q = eqb q.lane i

abbrev pub of_slot : ℕ → Out → Bool
of_slot x o = eqb o.slot x

-- the entry is made, in place of the code's earlier one
abbrev pub entry_made : Entry → Ledger → Ledger
entry_made e g = record { entries = e ∷ drops (of_code e.code) g.entries; sections = g.sections; searches = g.searches; outs = g.outs }

-- the code's entry is struck
abbrev pub entry_struck : ℕ → Ledger → Ledger
entry_struck c g = record { entries = drops (of_code c) g.entries; sections = g.sections; searches = g.searches; outs = g.outs }

-- the slot is out, with every section open now, of any lane
abbrev pub slot_out : ℕ → Ledger → Ledger
slot_out x g = record {
  entries = g.entries;
  sections = g.sections;
  searches = g.searches;
  outs = record { slot = x; sections = g.sections } ∷ drops (of_slot x) g.outs;
}

-- the slot is out no longer
abbrev pub slot_back : ℕ → Ledger → Ledger
slot_back x g = record { entries = g.entries; sections = g.sections; searches = g.searches; outs = drops (of_slot x) g.outs }

-- a new section of lane i is opened at instant k
abbrev pub section_opened : ℕ → ℕ → Ledger → Ledger
section_opened i k g = record { entries = g.entries; sections = record { lane = i; opened = k } ∷ g.sections; searches = g.searches; outs = g.outs }

-- lane i's open section is ended
abbrev pub section_ended : ℕ → Ledger → Ledger
section_ended i g = record { entries = g.entries; sections = drops (section_of i) g.sections; searches = g.searches; outs = g.outs }

-- q becomes the lookup of its lane
abbrev pub search_noted : Search → Ledger → Ledger
search_noted q g = record { entries = g.entries; sections = g.sections; searches = q ∷ drops (search_of q.lane) g.searches; outs = g.outs }

-- lane i's lookup, if it has one, is struck: it is answered, or dropped
abbrev pub search_struck : ℕ → Ledger → Ledger
search_struck i g = record { entries = g.entries; sections = g.sections; searches = drops (search_of i) g.searches; outs = g.outs }

-- a step's answer with outcome 1 or 2
abbrev pub is_answer : Answer → Bool
is_answer r = eqb r.status 0 && (eqb r.a 1 || eqb r.a 2)

abbrev pub entry_of : ℕ → ℕ → ℕ → ℕ → Entry
entry_of c x d m = record { code = c; slot = x; deposit = d; material = m }

-- what a call of status 0 and answer r does to the ledger; k is its instant
unfoldable pub fed : ℕ → Op → Answer → Ledger → Ledger
fed k (add i c d m) r g = entry_made (entry_of c r.a d m) g
fed k (replace i c d m) r g = slot_out r.b (entry_made (entry_of c r.a d m) g)
fed k (delete i c) r g = slot_out r.a (entry_struck c g)
fed k (begin i) r g = section_opened i k g
fed k (end i) r g = search_struck i (section_ended i g)
fed k (start i c) r g = search_noted (record { lane = i; code = c; started = k }) g
fed k (step i) r g = cond (is_answer r) (search_struck i g) g
fed k (hand_back i) r g = slot_back r.a g
fed k (pass i n) r g = g
fed k (clock i) r g = g
fed k (on i) r g = g
fed k (off i) r g = g
fed k awaited r g = g

-- a call of status other than 0 changes nothing
unfoldable pub fed_call : ℕ → Call → Answer → Ledger → Ledger
fed_call k (set_up z) r g = g
fed_call k (on_state o) r g = cond (eqb r.status 0) (fed k o r g) g

-- a call of the list, with its answer
pub record Event : Type 0 where
  pub call : Call
  pub answer : Answer

-- the ledger g of instant k, fed with the events that follow
unfoldable pub ledger_from : ℕ → Ledger → List Event → Ledger
ledger_from k g [] = g
ledger_from k g (e ∷ es) = ledger_from (suc k) (fed_call (suc k) e.call e.answer g) es

-- the ledger after a list's events; instant k is the end of the k-th
abbrev pub ledger : List Event → Ledger
ledger es = ledger_from 0 empty es

-- a whole search for a code among the entries
unfoldable pub search_in : ℕ → List Entry → Answer
search_in c [] = accepted 2 0 0 0
search_in c (e ∷ es) = cond (of_code c e) (accepted 1 e.slot e.deposit e.material) (search_in c es)

abbrev pub search : Ledger → ℕ → Answer
search g c = search_in c g.entries

-- the events of a list of calls on a memory
unfoldable pub events : List ℕ → List Call → List Event
events m [] = []
events m (k ∷ ks) = record { call = k; answer = reply m k } ∷ events (left m k) ks

-- ---- the demand

-- event e of the list h came after the events `before`
pub record Came (h : List Event) (e : Event) : Type 0 where
  pub before : List Event
  pub rest : List Event
  pub all : h ≡ before ++ e ∷ rest

-- the answered lookup: what its lane had noted, and an instant, from the start's to the one before the answering step, whose whole search is the answer
pub record Explained (h : List Event) (i : ℕ) (r : Answer) (before : List Event) : Type 0 where
  pub noted : Search
  pub is_noted : Memᴰ noted (ledger before).searches
  pub of_lane : noted.lane ≡ i
  pub instant : ℕ
  pub not_before : noted.started ≤ instant
  pub not_after : instant ≤ length before
  pub whole : r ≡ search (ledger (take instant h)) noted.code

-- slot x of the memory m holds code c and these values
pub record Holds (m : List ℕ) (x c d k : ℕ) : Type 0 where
  pub code : wide m (slot_address (sizes m) x + code_at) ≡ c
  pub deposit : at m (slot_address (sizes m) x + deposit_at) ≡ d
  pub material : at m (slot_address (sizes m) x + material_at) ≡ k

-- a section is open on lane i at the answer, and whichever is (the finder's): while it has not ended, the found slot holds the code looked for, and the
-- deposit and material answered; m is the memory after h
pub record Kept (h : List Event) (m : List ℕ) (i : ℕ) (r : Answer) (before : List Event) : Type 0 where
  pub finder : Section
  pub is_open : Memᴰ finder (ledger before).sections
  pub of_lane : finder.lane ≡ i
  pub holds : (x : Section) → Memᴰ x (ledger before).sections → x.lane ≡ i
      → (q : Search) → Memᴰ q (ledger before).searches → q.lane ≡ i
      → Memᴰ x (ledger h).sections → Holds m r.b q.code r.c r.d

-- the slot handed back was out, and each section open at its removal had ended
pub record Returned (r : Answer) (before : List Event) : Type 0 where
  pub out : Out
  pub is_out : Memᴰ out (ledger before).outs
  pub of_slot : out.slot ≡ r.a
  pub over : (x : Section) → Memᴰ x out.sections → Memᴰ x (ledger before).sections → ⊥

abbrev pub step_event : ℕ → Answer → Event
step_event i r = record { call = on_state (step i); answer = r }

abbrev pub hand_back_event : ℕ → Answer → Event
hand_back_event i r = record { call = on_state (hand_back i); answer = r }

-- the demand on one list of calls, with the events h and the memory m after it
pub record Demand (h : List Event) (m : List ℕ) : Type 0 where
  pub explained : (i : ℕ) (r : Answer) (c : Came h (step_event i r)) → is_answer r ≡ true → Explained h i r c.before
  pub kept : (i : ℕ) (r : Answer) (c : Came h (step_event i r)) → r.status ≡ 0 → r.a ≡ 1 → Kept h m i r c.before
  pub returned : (i : ℕ) (r : Answer) (c : Came h (hand_back_event i r)) → r.status ≡ 0 → Returned r c.before

-- each set-up of the list is refused: an accepted one ends the list
unfoldable pub RefusesSetUps : List ℕ → List Call → Type 0
RefusesSetUps m [] = Unit {0}
RefusesSetUps m (set_up z ∷ ks) = ((reply m (set_up z)).status ≡ 0 → ⊥) × RefusesSetUps (left m (set_up z)) ks
RefusesSetUps m (on_state o ∷ ks) = RefusesSetUps (left m (on_state o)) ks

-- demand 3, whole: over every accepted set-up of any memory, and every list of calls after it
abbrev pub Demand3 : Type 0
Demand3 =
    (m : List ℕ) (z : Sizes) → (reply m (set_up z)).status ≡ 0
    → (ks : List Call) → let m₀ = left m (set_up z) in RefusesSetUps m₀ ks → Demand (events m₀ ks) (left_all m₀ ks)

-- ---- document 02, request 3: what an accepted end leaves

abbrev pub end_event : ℕ → Answer → Event
end_event i r = record { call = on_state (end i); answer = r }

-- no event of the list is an accepted begin of lane i
abbrev pub NoBegin : ℕ → List Event → Type 0
NoBegin i es = (a : Answer) → a.status ≡ 0 → Memᴰ (record { call = on_state (begin i); answer = a }) es → ⊥

-- nor an accepted start
abbrev pub NoStart : ℕ → List Event → Type 0
NoStart i es = (c : ℕ) (a : Answer) → a.status ≡ 0 → Memᴰ (record { call = on_state (start i c); answer = a }) es → ⊥

-- the events `es` end with an accepted end of lane i and those `since`; the events `rest` come after them
pub record AfterEnd (i : ℕ) (es since rest : List Event) : Type 0 where
  -- till the lane begins a section the ledger has none of it
  pub no_section : NoBegin i since → (x : Section) → Memᴰ x (ledger es).sections → x.lane ≡ i → ⊥
  -- till it starts a lookup the ledger has none of it, and a step of it is not accepted, let alone answered
  pub no_search : NoStart i since → (q : Search) → Memᴰ q (ledger es).searches → q.lane ≡ i → ⊥
  pub no_step : NoStart i since → (a : Answer) (later : List Event) → rest ≡ step_event i a ∷ later → a.status ≡ 0 → ⊥

-- after each accepted end of the list, at any instant
abbrev pub AfterEnds : List Event → Type 0
AfterEnds h =
    (i : ℕ) (r : Answer) (before since rest : List Event) → r.status ≡ 0 → h ≡ (before ++ end_event i r ∷ since) ++ rest
    → AfterEnd i (before ++ end_event i r ∷ since) since rest

-- ---- document 02, request 5: how long a lookup can take

-- the entry is on the chain of code c
abbrev pub same_chain : ℕ → Entry → Bool
same_chain c e = eqb (chain_number e.code) (chain_number c)

-- the records on the chain of code c
unfoldable pub records_on : ℕ → List Entry → ℕ
records_on c [] = 0
records_on c (e ∷ es) = cond (same_chain c e) 1 0 + records_on c es

-- the call is a step of lane i
unfoldable pub is_step_of : ℕ → Call → Bool
is_step_of i (set_up z) = false
is_step_of i (on_state (add j c d m)) = false
is_step_of i (on_state (replace j c d m)) = false
is_step_of i (on_state (delete j c)) = false
is_step_of i (on_state (begin j)) = false
is_step_of i (on_state (end j)) = false
is_step_of i (on_state (start j c)) = false
is_step_of i (on_state (step j)) = eqb j i
is_step_of i (on_state (hand_back j)) = false
is_step_of i (on_state (pass j n)) = false
is_step_of i (on_state (clock j)) = false
is_step_of i (on_state (on j)) = false
is_step_of i (on_state (off j)) = false
is_step_of i (on_state awaited) = false

-- the answers of lane i's calls of step, refused ones included
unfoldable pub step_answers : ℕ → List Event → List Answer
step_answers i [] = []
step_answers i (e ∷ es) = cond (is_step_of i e.call) (e.answer ∷ step_answers i es) (step_answers i es)

-- a step that is accepted, with outcome 0
abbrev pub is_going : Answer → Bool
is_going r = eqb r.status 0 && eqb r.a 0

-- of a lookup's steps, by their answers: at most n go, and the one after them answers; what comes after the answer is none of the lookup's
unfoldable pub in_time : ℕ → List Answer → Bool
in_time n [] = true
in_time zero (r ∷ rs) = is_answer r
in_time (suc n) (r ∷ rs) = is_answer r || (is_going r && in_time n rs)

-- the events `es` end with the start of lane i's lookup of code c, and the events `since` follow: with n records on the chain at the start, the lookup has
-- its answer by step n + 1
abbrev pub on_time : ℕ → ℕ → List Event → List Event → Bool
on_time i c es since = in_time (records_on c (ledger es).entries) (step_answers i since)

abbrev pub start_event : ℕ → ℕ → Answer → Event
start_event i c r = record { call = on_state (start i c); answer = r }

-- no event of the list is an accepted end of lane i
abbrev pub NoEnd : ℕ → List Event → Type 0
NoEnd i es = (a : Answer) → a.status ≡ 0 → Memᴰ (end_event i a) es → ⊥

-- such a lookup
pub record Timed (i c : ℕ) (es since : List Event) : Type 0 where
  pub answered : on_time i c es since ≡ true
  -- and the steps are its own: till one of them answers, the ledger has it noted, by lane, code and instant of the start
  pub itself : any is_answer (step_answers i since) ≡ false
      → Memᴰ (record { lane = i; code = c; started = length es }) (ledger (es ++ since)).searches

-- the figure: for each accepted start of the list, as long as no end drops its lookup
abbrev pub Belt : List Event → Type 0
Belt h =
    (i c : ℕ) (r : Answer) (before since rest : List Event) → r.status ≡ 0 → h ≡ (before ++ start_event i c r ∷ since) ++ rest → NoEnd i since
    → Timed i c (before ++ start_event i c r ∷ []) since

-- n is the number of chained slots: after the list h, each chain of the memory m has as many as the ledger has records on it
abbrev pub ChainsCounted : List Event → List ℕ → Type 0
ChainsCounted h m = (c : ℕ) → length (chain_of (state m).table c) ≡ records_on c (ledger h).entries

-- and no figure is less: where a code has no record, a lookup of it that nobody disturbs goes n steps, and step n + 1 answers that it is absent
abbrev pub Attained : List Event → List ℕ → Type 0
Attained h m =
    (i c : ℕ) → (reply m (on_state (start i c))).status ≡ 0 → search (ledger h) c ≡ accepted 2 0 0 0
    → let n = records_on c (ledger h).entries in
    step_answers i (events (left m (on_state (start i c))) (replicate (suc n) (on_state (step i)))) ≡ replicate n zeros ++ (accepted 2 0 0 0 ∷ [])

-- ---- document 02, request 6: the slots that come into done queues

-- the slots in the lanes' done queues
unfoldable pub done_in : List Lane → ℕ
done_in [] = 0
done_in (l ∷ ls) = length l.queues.done + done_in ls

-- the slots in all done queues
abbrev pub done_slots : Engine → ℕ
done_slots e = length e.global.done + done_in e.lanes

-- the calls that move slots into done queues or take them out, and any other
pub data Moving : Type 0 where
  clocks hands_back other : Moving
  goes_off : (lane : ℕ) → Moving

unfoldable pub moving : Call → Moving
moving (set_up z) = other
moving (on_state (add i c d m)) = other
moving (on_state (replace i c d m)) = other
moving (on_state (delete i c)) = other
moving (on_state (begin i)) = other
moving (on_state (end i)) = other
moving (on_state (start i c)) = other
moving (on_state (step i)) = other
moving (on_state (pass i k)) = other
moving (on_state (clock i)) = clocks
moving (on_state (on i)) = other
moving (on_state (off i)) = goes_off i
moving (on_state (hand_back i)) = hands_back
moving (on_state awaited) = other

-- what a clock moved, by its answer
unfoldable pub clock_told : Moving → Answer → ℕ
clock_told clocks r = r.d
clock_told hands_back r = 0
clock_told other r = 0
clock_told (goes_off i) r = 0

-- what an off moves, by the state before it
unfoldable pub off_moved : Moving → Engine → ℕ
off_moved clocks e = 0
off_moved hands_back e = 0
off_moved other e = 0
off_moved (goes_off i) e = off_moves i e

-- 1 for a hand-back
unfoldable pub handed_one : Moving → ℕ
handed_one clocks = 0
handed_one hands_back = 1
handed_one other = 0
handed_one (goes_off i) = 0

-- the sum of the clocks' fourth numbers; a refused one answers 0
unfoldable pub moved_by_clocks : List Event → ℕ
moved_by_clocks [] = 0
moved_by_clocks (e ∷ es) = clock_told (moving e.call) e.answer + moved_by_clocks es

-- the hand-backs of status 0
unfoldable pub hand_backs : List Event → ℕ
hand_backs [] = 0
hand_backs (e ∷ es) = cond (eqb e.answer.status 0) (handed_one (moving e.call)) 0 + hand_backs es

-- what the offs of status 0 move, of a list of calls on the memory m
unfoldable pub moved_by_offs : List ℕ → List Call → ℕ
moved_by_offs m [] = 0
moved_by_offs m (k ∷ ks) = cond (eqb (reply m k).status 0) (off_moved (moving k) (state m).engine) 0 + moved_by_offs (left m k) ks

-- over every list, and so at each instant of one: the slots moved by all clocks so far, with those moved by offs, are the slots that stand in done queues
-- now, with those handed back so far
abbrev pub DoneCounted : Type 0
DoneCounted =
    (m : List ℕ) (z : Sizes) → (reply m (set_up z)).status ≡ 0
    → (ks : List Call) → let m₀ = left m (set_up z) in RefusesSetUps m₀ ks
    → moved_by_clocks (events m₀ ks) + moved_by_offs m₀ ks ≡ done_slots (state (left_all m₀ ks)).engine + hand_backs (events m₀ ks)
