-- The thirteen calls on a state: the causes that refuse one, in the order of their tests, its answer, and the state after it (document 01, "The
-- table" and "Causes"; document 02, requests 1, 3 and 6).
use Rattle.std.specs.Prelude.{ℕ, zero, suc, ◌+◌, Bool, true, false, not, cond, ◌&&◌, ◌||◌, List, [], ◌∷◌, ◌++◌, length, replicate, leb, ltb, eqb}
use Rattle.model.specs.Word.{none}
use Rattle.model.specs.Lists.{is_empty, any, first, tail, from}
use Rattle.model.specs.State.{Sizes, lane_count, Lookup, idle, running, is_running, Queues, Lane, Engine, Product, Table, State}
use Rattle.model.specs.Layout.{max_code, max_deposit, max_material, kinds, chain_count}
use Rattle.model.specs.CheckDigit.{right_check_digit}
use Rattle.model.specs.Engine.{no_queues, fresh_lane, lane_at, set_queues, set_next, set_done, set_online, set_reading}
use Rattle.model.specs.Engine.{set_lookup, at_lane, with_global, runs, counted, clocked, clock_moves, went_off}
use Rattle.model.specs.Table.{blank, product, product_at, chain_of, slot_of, present, link_of, added, replaced, deleted, reclaimed}

-- a call on a state; set-up is apart (Calls.antt)
pub data Op : Type 0 where
  add replace : (lane code deposit material : ℕ) → Op
  delete start : (lane code : ℕ) → Op
  pass : (lane kind : ℕ) → Op
  begin end step clock on off hand_back : (lane : ℕ) → Op
  awaited : Op

-- ---- answers

-- the five words of an answer
pub record Answer : Type 0 where
  pub status : ℕ
  pub a : ℕ
  pub b : ℕ
  pub c : ℕ
  pub d : ℕ

-- status 0, then four words
abbrev pub accepted : ℕ → ℕ → ℕ → ℕ → Answer
accepted w x y z = record { status = 0; a = w; b = x; c = y; d = z }

-- the cause's number, then four zeros
abbrev pub refused : ℕ → Answer
refused n = record { status = n; a = 0; b = 0; c = 0; d = 0 }

abbrev pub zeros : Answer
zeros = accepted 0 0 0 0

-- ---- causes

pub record Cause : Type 0 where
  pub number : ℕ
  pub applies : Bool

abbrev pub cause : ℕ → Bool → Cause
cause n b = record { number = n; applies = b }

-- the number of the first cause that applies; 0 where none does
unfoldable pub first_cause : List Cause → ℕ
first_cause [] = 0
first_cause (x ∷ xs) = cond x.applies x.number (first_cause xs)

abbrev pub wrong_code : ℕ → Bool
wrong_code c = ltb max_code c

abbrev pub wrong_product : ℕ → ℕ → ℕ → Bool
wrong_product c d m = wrong_code c || ltb max_deposit d || ltb max_material m

abbrev pub wrong_kind : ℕ → Bool
wrong_kind k = leb kinds k

abbrev pub is_online : Lane → Bool
is_online l = l.online

module _ (s : State) where
  abbrev pub lane_of : ℕ → Lane
  lane_of i = lane_at s.engine i

  abbrev pub no_such_lane : ℕ → Cause
  no_such_lane i = cause 4 (leb (lane_count s.sizes) i)

  -- causes 4 and 5, then the call's own
  abbrev pub of_lane : ℕ → List Cause → List Cause
  of_lane i cs = no_such_lane i ∷ cause 5 (not (lane_of i).online) ∷ cs

  abbrev pub already_online : ℕ → Cause
  already_online i = cause 6 (lane_of i).online

  abbrev pub section_open : ℕ → Cause
  section_open i = cause 7 (lane_of i).reading

  abbrev pub no_section : ℕ → Cause
  no_section i = cause 8 (not (lane_of i).reading)

  abbrev pub lookup_running : ℕ → Cause
  lookup_running i = cause 9 (is_running (lane_of i).lookup)

  abbrev pub no_lookup : ℕ → Cause
  no_lookup i = cause 10 (not (is_running (lane_of i).lookup))

  abbrev pub out_of_range : Bool → Cause
  out_of_range b = cause 11 b

  -- the check digit is wrong
  abbrev pub wrong_digit : ℕ → Cause
  wrong_digit c = cause 17 (not (right_check_digit c))

  abbrev pub code_present : ℕ → Cause
  code_present c = cause 12 (present s.table c)

  abbrev pub code_missing : ℕ → Cause
  code_missing c = cause 13 (not (present s.table c))

  abbrev pub no_free_slot : Cause
  no_free_slot = cause 14 (is_empty s.table.free)

  -- no other lane is on
  abbrev pub only_online : ℕ → Cause
  only_online i = cause 15 (not (any is_online (at_lane i (set_online false) s.engine).lanes))

  abbrev pub nothing_done : ℕ → Cause
  nothing_done i = cause 16 (is_empty (lane_of i).queues.done && is_empty s.engine.global.done)

  -- the causes of every entry of the office: its lane's, 11 and directly after it 17, then the call's own
  abbrev pub of_entry : (lane code deposit material : ℕ) → List Cause → List Cause
  of_entry i c d m cs = of_lane i (out_of_range (wrong_product c d m) ∷ wrong_digit c ∷ cs)

  -- the causes that refuse a call, in the order of their tests
  unfoldable pub causes : Op → List Cause
  causes (add i c d m) = of_entry i c d m (code_present c ∷ no_free_slot ∷ [])
  causes (replace i c d m) = of_entry i c d m (code_missing c ∷ no_free_slot ∷ [])
  causes (delete i c) = of_lane i (out_of_range (wrong_code c) ∷ code_missing c ∷ [])
  causes (start i c) = of_lane i (no_section i ∷ lookup_running i ∷ out_of_range (wrong_code c) ∷ [])
  causes (pass i k) = of_lane i (section_open i ∷ out_of_range (wrong_kind k) ∷ [])
  causes (begin i) = of_lane i (section_open i ∷ [])
  causes (end i) = of_lane i (no_section i ∷ [])
  causes (step i) = of_lane i (no_lookup i ∷ [])
  causes (clock i) = of_lane i []
  causes (on i) = no_such_lane i ∷ already_online i ∷ []
  causes (off i) = of_lane i (section_open i ∷ only_online i ∷ [])
  causes (hand_back i) = of_lane i (nothing_done i ∷ [])
  causes awaited = []

  -- the number of the cause that refuses a call; 0 where none does
  abbrev pub refusal : Op → ℕ
  refusal k = first_cause (causes k)

-- ---- lookups

-- what a lookup finds: the slot, and what it holds
pub record Find : Type 0 where
  pub slot : ℕ
  pub deposit : ℕ
  pub material : ℕ

-- the outcome of a step
pub data Outcome : Type 0 where
  going : Outcome
  found : Find → Outcome
  absent : Outcome

-- its number and values: 0 going, 1 found, 2 absent
unfoldable pub outcome_answer : Outcome → Answer
outcome_answer going = accepted 0 0 0 0
outcome_answer (found r) = accepted 1 r.slot r.deposit r.material
outcome_answer absent = accepted 2 0 0 0

-- the slot as a find, with what it holds
abbrev pub find_at : ℕ → Product → Find
find_at x p = record { slot = x; deposit = p.deposit; material = p.material }

-- absent if the position is none; found if the slot's code matches; otherwise still going
unfoldable pub outcome : Table → Lookup → Outcome
outcome t idle = going
outcome t (running c p) =
    let r = product_at t.products p in
    cond (eqb p none) absent (cond (eqb r.code c) (found (find_at p r)) going)

-- found and absent end the lookup; otherwise the position becomes the slot's chain link
unfoldable pub continued : Table → Lookup → Outcome → Lookup
continued t idle o = idle
continued t (running c p) going = running c (link_of t p)
continued t (running c p) (found r) = idle
continued t (running c p) absent = idle

abbrev pub stepped : Table → Lane → Lane
stepped t l = set_lookup (continued t l.lookup (outcome t l.lookup)) l

-- ---- what a call does that no cause refuses

-- end: the section is closed, and a lookup unfinished is dropped, its words at rest
abbrev pub leaving : Lane → Lane
leaving l = set_reading false (set_lookup idle l)

-- slot o is appended to the lane's next queue
abbrev pub retiring : ℕ → Lane → Lane
retiring o l = set_queues (set_next (l.queues.next ++ (o ∷ [])) l.queues) l

-- the done queue less its first
abbrev pub less_done : Queues → Queues
less_done q = set_done (tail q.done) q

abbrev pub reclaiming : Lane → Lane
reclaiming l = set_queues (less_done l.queues) l

module _ (s : State) where
  abbrev pub with : Engine → Table → State
  with e t = record { sizes = s.sizes; engine = e; table = t }

  abbrev pub with_engine : Engine → State
  with_engine e = with e s.table

  abbrev pub with_lane : ℕ → (Lane → Lane) → State
  with_lane i f = with_engine (at_lane i f s.engine)

  -- the removed slot goes to the calling lane's next queue
  abbrev pub retired : ℕ → ℕ → Engine
  retired i o = at_lane i (retiring o) s.engine

  -- hand-back takes the first of the lane's done queue, else of the global one
  abbrev pub from_global : ℕ → Bool
  from_global i = is_empty (lane_of s i).queues.done

  abbrev pub handed_back : ℕ → ℕ
  handed_back i = cond (from_global i) (first s.engine.global.done) (first (lane_of s i).queues.done)

  abbrev pub less_handed_back : ℕ → Engine
  less_handed_back i = cond (from_global i) (with_global (less_done s.engine.global) s.engine) (at_lane i reclaiming s.engine)

  -- the state after a call that no cause refuses
  unfoldable pub performed : Op → State
  performed (add i c d m) = with s.engine (added (product c d m) s.table)
  performed (replace i c d m) = with (retired i (slot_of s.table c)) (replaced (product c d m) s.table)
  performed (delete i c) = with (retired i (slot_of s.table c)) (deleted c s.table)
  performed (start i c) = with_lane i (set_lookup (running c (first (chain_of s.table c))))
  performed (pass i k) = with_lane i (counted k)
  performed (begin i) = with_lane i (set_reading true)
  performed (end i) = with_lane i leaving
  performed (step i) = with_lane i (stepped s.table)
  performed (clock i) = with_engine (clocked i s.engine)
  performed (on i) = with_lane i (set_online true)
  performed (off i) = with_engine (went_off i s.engine)
  performed (hand_back i) = with (less_handed_back i) (reclaimed (handed_back i) s.table)
  performed awaited = s

-- ---- what it answers

-- the numbers of the pending lanes, the first of the list being lane i
unfoldable pub pending_from : ℕ → List Lane → List ℕ
pending_from i [] = []
pending_from i (l ∷ ls) = cond l.pending (i ∷ pending_from (suc i) ls) (pending_from (suc i) ls)

abbrev pub queued : Queues → ℕ
queued q = length q.next + length q.current + length q.done

-- the slots in the lanes' queues
unfoldable pub queued_in : List Lane → ℕ
queued_in [] = 0
queued_in (l ∷ ls) = queued l.queues + queued_in ls

-- current, largest, 1 if a period runs, and the slots moved into done queues
abbrev pub clock_answer : Engine → ℕ → Answer
clock_answer e n = accepted e.current e.largest (cond (runs e) 1 0) n

-- the count of lanes still awaited, the lowest of them or none, slots free, slots in the other queues
abbrev pub awaited_answer : List ℕ → State → Answer
awaited_answer w s = accepted (length w) (first w) (length s.table.free) (queued s.engine.global + queued_in s.engine.lanes)

module _ (s : State) where
  -- the answer of a call that no cause refuses
  unfoldable pub result : Op → Answer
  result (add i c d m) = accepted (first s.table.free) 0 0 0
  result (replace i c d m) = accepted (first s.table.free) (slot_of s.table c) 0 0
  result (delete i c) = accepted (slot_of s.table c) 0 0 0
  result (start i c) = zeros
  result (pass i k) = zeros
  result (begin i) = zeros
  result (end i) = zeros
  result (step i) = outcome_answer (outcome s.table (lane_of s i).lookup)
  result (clock i) = clock_answer (clocked i s.engine) (clock_moves i s.engine)
  result (on i) = zeros
  result (off i) = zeros
  result (hand_back i) = accepted (handed_back s i) 0 0 0
  result awaited = awaited_answer (pending_from 0 s.engine.lanes) s

  -- ---- a call, refused or not

  abbrev pub answer_of : ℕ → Op → Answer
  answer_of zero k = result k
  answer_of (suc n) k = refused (suc n)

  abbrev pub next_of : ℕ → Op → State
  next_of zero k = performed s k
  next_of (suc n) k = s

  -- the answer of a call
  unfoldable pub answer : Op → Answer
  answer k = answer_of (refusal s k) k

  -- the state after a call
  unfoldable pub next : Op → State
  next k = next_of (refusal s k) k

-- ---- set-up

-- all lanes on, sections closed, counts 0, current generation 1, largest 0, free queue 0, 1, 2 and on, all else at rest
unfoldable pub fresh : Sizes → State
fresh z = record {
  sizes = z;
  engine = record { current = 1; largest = 0; lanes = replicate (lane_count z) fresh_lane; global = no_queues };
  table = record { chains = replicate chain_count []; free = from 0 z.slots; products = replicate z.slots blank; links = replicate z.slots none };
}
