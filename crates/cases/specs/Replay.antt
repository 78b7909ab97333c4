-- The walk-throughs of document 000 (tables 3 and 4: eight CPUs in two quads) as calls, and what the memory shows after each of their states.
-- A row's calls are taken on the state; the memory after them is then written, has to be legal, and is what the next row reads.
use Rattle.std.specs.Prelude.{ℕ, ◌≡◌, refl, Bool, true, false, List, [], ◌∷◌, ◌++◌, map, length}
use Rattle.model.specs.Lists.{concat_map, bit}
use Rattle.model.specs.State.{is_held, Lane, State}
use Rattle.model.specs.Layout.{current_generation_at, largest_generation_at, yard_mask_at}
use Rattle.model.specs.Engine.{lane_at}
use Rattle.model.specs.Rules.{Op, add, delete, pass, clock, hand_back, answer, next}
use Rattle.model.specs.Memory.{at, is_not_zero, mask_word, yard_word, state}
use Rattle.model.specs.Legal.{legal}
use Rattle.model.specs.Calls.{set_up, sized, stored, left}
use Rattle.scripts.specs.Scripts.{answered, lent_words}

-- of a lane: whether it holds a snapshot, the generation of its current queue, and the lengths of its next, current and done queues
pub data View : Type 0 where
  view : (lane : ℕ) (snapshot : Bool) (generation next current done : ℕ) → View

-- a row: calls, and what the memory shows after them: current and largest generation, the one yard's cabinet mask, lane mask of cabinet 0, and some lanes
pub data Stage : Type 0 where
  stage : (calls : List Op) (current largest cabinet_mask lane_mask : ℕ) (views : List View) → Stage

-- a table of one yard with these sizes, and the rows that it goes through after its set-up
pub data Walkthrough : Type 0 where
  walkthrough : (cabinets places slots : ℕ) (stages : List Stage) → Walkthrough

-- what is compared of a row: the statuses of its calls, whether the memory after them is legal, and what it shows
pub record Shown : Type 0 where
  pub statuses : List ℕ
  pub is_legal : Bool
  pub engine : List ℕ
  pub views : List View

abbrev pub shown : List ℕ → Bool → List ℕ → List View → Shown
shown ks b ws vs = record { statuses = ks; is_legal = b; engine = ws; views = vs }

-- ---- what a row has to show

-- no call is refused
abbrev pub status_zero : Op → ℕ
status_zero k = 0

-- the yard's bit stands while its cabinet mask is not 0
abbrev pub owed : Stage → Shown
owed (stage ks c l q p vs) = shown (map status_zero ks) true (c ∷ l ∷ bit (is_not_zero q) ∷ q ∷ p ∷ []) vs

unfoldable pub owed_by : Walkthrough → List Shown
unfolding bit
owed_by (walkthrough c p n ss) = map owed ss

-- ---- what it shows

unfoldable pub statuses_of : State → List Op → List ℕ
statuses_of s [] = []
statuses_of s (k ∷ ks) = (answer s k).status ∷ statuses_of (next s k) ks

unfoldable pub after_calls : State → List Op → State
after_calls s [] = s
after_calls s (k ∷ ks) = after_calls (next s k) ks

abbrev pub engine_words : List ℕ → List ℕ
engine_words m = at m current_generation_at ∷ at m largest_generation_at ∷ at m yard_mask_at ∷ yard_word m 0 ∷ mask_word m 0 ∷ []

abbrev pub view_of : ℕ → Lane → View
view_of i l = view i (is_held l.snapshot) l.queues.generation (length l.queues.next) (length l.queues.current) (length l.queues.done)

-- a view's lane as it is in s
abbrev pub view_in : State → View → View
view_in s (view i b g n c d) = view_of i (lane_at s.engine i)

-- the rows from the memory m on
unfoldable pub played : List ℕ → List Stage → List Shown
unfolding answered answer next statuses_of after_calls
played m [] = []
played m (stage ks c l q p vs ∷ ss) =
    let s = state m in
    let w = stored (after_calls s ks) m in
    shown (statuses_of s ks) (legal w) (engine_words w) (map (view_in (state w)) vs) ∷ played w ss

unfoldable pub played_by : Walkthrough → List Shown
unfolding played
played_by (walkthrough c p n ss) = played (left (lent_words 16000) (set_up (sized 1 c p n))) ss

-- ---- the rows, with the numbers of the paper's states. Its rc_callback is delete, hardclock clock, rc_intr hand-back; its syncpoint, syscall,
-- usertrap and swtch are quiescent states of kind 0 to 3

-- each of these lanes notices the period, goes through a quiescent state, and reports it
unfoldable pub others : List ℕ → List Op
unfolding concat_map
others = concat_map (λ (l : ℕ). clock l ∷ pass l 0 ∷ clock l ∷ [])

-- all lanes but 0
abbrev pub other_lanes : List Op
other_lanes = others (1 ∷ 2 ∷ 3 ∷ 4 ∷ 5 ∷ 6 ∷ 7 ∷ [])

-- five codes
abbrev pub five_adds : List Op
five_adds = add 0 17 25 1 ∷ add 0 24 25 1 ∷ add 0 31 25 1 ∷ add 0 48 25 1 ∷ add 0 55 25 1 ∷ []

-- a single callback while the engine is idle
abbrev pub table3 : List Stage
table3 =
    -- 1
    stage five_adds 1 0 0x0 0x0 (view 0 false 0 0 0 0 ∷ [])
    -- 2, 3
    ∷ stage (delete 0 17 ∷ pass 0 0 ∷ []) 1 0 0x0 0x0 (view 0 false 0 1 0 0 ∷ [])
    -- 4 to 6
    ∷ stage (clock 0 ∷ []) 1 1 0x3 0xf (view 0 true 1 0 1 0 ∷ [])
    -- 7 to 9
    ∷ stage (pass 0 1 ∷ pass 0 3 ∷ pass 0 2 ∷ []) 1 1 0x3 0xf (view 0 true 1 0 1 0 ∷ [])
    -- 10
    ∷ stage other_lanes 1 1 0x1 0x1 (view 0 true 1 0 1 0 ∷ [])
    -- 11 to 13
    ∷ stage (clock 0 ∷ []) 2 1 0x0 0x0 (view 0 false 0 0 0 1 ∷ [])
    -- 14
    ∷ stage (hand_back 0 ∷ []) 2 1 0x0 0x0 (view 0 false 0 0 0 0 ∷ [])
    ∷ []

-- callbacks of two CPUs at once, from the last state of table 3 on
abbrev pub table4 : List Stage
table4 =
    -- 2 to 4
    stage (delete 1 24 ∷ clock 0 ∷ pass 0 1 ∷ []) 2 1 0x0 0x0 (view 0 false 0 0 0 0 ∷ view 1 false 0 1 0 0 ∷ [])
    -- 5
    ∷ stage (clock 1 ∷ []) 2 2 0x3 0xf (view 0 false 0 0 0 0 ∷ view 1 true 2 0 1 0 ∷ [])
    -- 6, 7
    ∷ stage (pass 1 2 ∷ delete 0 31 ∷ []) 2 2 0x3 0xf (view 0 false 0 1 0 0 ∷ view 1 true 2 0 1 0 ∷ [])
    -- 8, 9
    ∷ stage (clock 1 ∷ delete 0 48 ∷ []) 2 2 0x3 0xd (view 0 false 0 2 0 0 ∷ view 1 false 2 0 1 0 ∷ [])
    -- 10
    ∷ stage (clock 0 ∷ []) 2 3 0x3 0xd (view 0 true 3 0 2 0 ∷ [])
    -- 11, 12
    ∷ stage (pass 0 3 ∷ delete 0 55 ∷ []) 2 3 0x3 0xd (view 0 true 3 1 2 0 ∷ [])
    -- 13
    ∷ stage (others (2 ∷ 3 ∷ [])) 2 3 0x3 0x1 (view 0 true 3 1 2 0 ∷ [])
    -- 14
    ∷ stage (clock 0 ∷ []) 2 3 0x2 0x0 (view 0 false 3 1 2 0 ∷ [])
    -- 15
    ∷ stage (others (4 ∷ 5 ∷ 6 ∷ 7 ∷ [])) 3 3 0x3 0xf (view 0 false 3 1 2 0 ∷ [])
    -- 16, 17
    ∷ stage (clock 0 ∷ pass 0 3 ∷ []) 3 3 0x3 0xf (view 0 true 3 1 2 0 ∷ [])
    -- 18
    ∷ stage other_lanes 3 3 0x1 0x1 (view 0 true 3 1 2 0 ∷ view 1 false 0 0 0 1 ∷ [])
    -- 19. From here to 24 the paper prints 1/5 for CPU 0's last callback, generation 5; its own rules, and its rcclockgen, give 4
    ∷ stage (clock 0 ∷ []) 4 4 0x3 0xf (view 0 true 4 0 1 2 ∷ [])
    -- 20, 21
    ∷ stage (hand_back 0 ∷ hand_back 0 ∷ pass 0 3 ∷ []) 4 4 0x3 0xf (view 0 true 4 0 1 0 ∷ [])
    -- 22
    ∷ stage (clock 0 ∷ []) 4 4 0x3 0xe (view 0 false 4 0 1 0 ∷ [])
    -- 23
    ∷ stage other_lanes 5 4 0x0 0x0 (view 0 false 4 0 1 0 ∷ [])
    -- 24
    ∷ stage (clock 0 ∷ []) 5 4 0x0 0x0 (view 0 false 0 0 0 1 ∷ [])
    -- 25
    ∷ stage (hand_back 0 ∷ []) 5 4 0x0 0x0 (view 0 false 0 0 0 0 ∷ [])
    ∷ []

-- Three lanes, where document 01 and the paper differ, both of them safe: document 01 compares before it advances, so lane 2's clock ends period 1
-- and begins period 2 first, and its batch gets generation 3; the paper advances first, and gives it 2
abbrev pub three_lanes : List Stage
three_lanes =
    stage five_adds 1 0 0x0 0x0 (view 0 false 0 0 0 0 ∷ [])
    ∷ stage (delete 0 17 ∷ delete 1 24 ∷ clock 0 ∷ pass 0 0 ∷ clock 0 ∷ []) 1 1 0x1 0x6 (view 0 false 1 0 1 0 ∷ view 1 false 0 1 0 0 ∷ [])
    ∷ stage (clock 1 ∷ pass 1 0 ∷ clock 1 ∷ []) 1 2 0x1 0x4 (view 1 false 2 0 1 0 ∷ [])
    ∷ stage (clock 2 ∷ delete 2 31 ∷ pass 2 0 ∷ clock 2 ∷ []) 2 3 0x1 0x7 (view 2 true 3 0 1 0 ∷ [])
    ∷ []

abbrev pub walkthroughs : List Walkthrough
walkthroughs = walkthrough 2 4 16 (table3 ++ table4) ∷ walkthrough 1 3 16 three_lanes ∷ []

-- every row shows what it has to
pub replay-holds : map played_by walkthroughs ≡ map owed_by walkthroughs
unfolding played_by owed_by others
replay-holds = refl
