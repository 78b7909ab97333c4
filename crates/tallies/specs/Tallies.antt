-- Document 02, request 6, computed: of lists of calls the slots that clocks moved by their answers, those that offs moved, those in done queues at the
-- end, and the hand-backs. At each instant the first two are as many as the others (`history` DoneSlots).
use Rattle.std.specs.Prelude.{ℕ, ◌≡◌, refl, List, [], ◌∷◌, ◌++◌, map}
use Rattle.model.specs.Memory.{state}
use Rattle.model.specs.Engine.{off_moves}
use Rattle.model.specs.Calls.{Call, left, left_all}
use Rattle.model.specs.Ledger.{Event, events, done_in, done_slots, moving, clock_told, off_moved, handed_one, moved_by_clocks, hand_backs, moved_by_offs}
use Rattle.scripts.specs.Scripts.{Line, answered, lent_words, call_of, two_queues_moved, counted_after, off_untold}

-- a list whose first line is its set-up, and the four numbers
pub data Tally : Type 0 where
  tally : (lines : List Line) (clocks offs done backs : ℕ) → Tally

-- of the calls ks on m, with their events
unfoldable pub numbers : List ℕ → List Call → List Event → List ℕ
unfolding answered left_all off_moves done_in moving clock_told off_moved handed_one moved_by_clocks hand_backs moved_by_offs
numbers m ks es = moved_by_clocks es ∷ moved_by_offs m ks ∷ done_slots (state (left_all m ks)).engine ∷ hand_backs es ∷ []

unfoldable pub found : Tally → List ℕ
unfolding answered events numbers
found (tally [] c o d b) = []
found (tally (l ∷ ls) c o d b) =
    numbers (left (lent_words 300) (call_of l)) (map call_of ls) (events (left (lent_words 300) (call_of l)) (map call_of ls))

abbrev pub owed : Tally → List ℕ
owed (tally ls c o d b) = c ∷ o ∷ d ∷ b ∷ []

abbrev pub tallies : List Tally
tallies = tally two_queues_moved 3 0 3 0 ∷ tally (two_queues_moved ++ counted_after) 3 0 0 3 ∷ tally off_untold 0 1 0 1 ∷ []

-- each comes out
pub tallies-found : map found tallies ≡ map owed tallies
unfolding found
tallies-found = refl
