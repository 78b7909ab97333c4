-- What the code does to a queue, in words of the memory: its first, last and length stand from `ends` on, in a table of sizes z. No legality is
-- needed. A word that is no slot's number ends a queue, as none does; a length wraps.
use Rattle.std.specs.Prelude.{ℕ, ◌+◌, ◌≤◌, cond, Result, Ok, Err, ◌≡◌, List, length, set, ltb}
use Rattle.model.specs.Word.{none, less}
use Rattle.model.specs.State.{Sizes}
use Rattle.model.specs.Layout.{last_offset, length_offset, queue_width, queue_link_at, slot_address}
use Rattle.model.specs.Memory.{at}
use Rattle.words.specs.Sums.{plus}
use Rattle.queues.specs.declared.QueueAt.{QueueAt}

-- where the queue link of slot i stands
abbrev pub link_address : Sizes → ℕ → ℕ
link_address z i = slot_address z i + queue_link_at

-- the memory holds the queue's words
abbrev pub Holds : List ℕ → QueueAt → Type 0
Holds m q = q.ends + queue_width ≤ length m

-- the queue is empty
abbrev pub cleared : List ℕ → ℕ → List ℕ
cleared m ends = set (set (set m ends none) (ends + last_offset) none) (ends + length_offset) 0

-- it has n slots more
abbrev pub lengthened : List ℕ → ℕ → ℕ → List ℕ
lengthened m ends n = set m (ends + length_offset) (plus (at m (ends + length_offset)) n)

-- it has a slot less
abbrev pub shortened : List ℕ → ℕ → List ℕ
shortened m ends = set m (ends + length_offset) (less (at m (ends + length_offset)) 1)

-- its first is gone, and it begins at n; it is empty where n is no slot
unfoldable pub begun_at : List ℕ → Sizes → ℕ → ℕ → List ℕ
begun_at m z ends n = cond (ltb n z.slots) (shortened (set m ends n) ends) (cleared m ends)

module _ (m : List ℕ) (z : Sizes) (ends : ℕ) where
  -- slot o follows the queue's last; it is the first where the queue is empty
  unfoldable pub followed : ℕ → List ℕ
  followed o =
      let l = at m (ends + last_offset) in
      cond (ltb l z.slots) (set m (link_address z l) o) (set m ends o)

  -- n slots from f to l, which are linked already, are appended
  unfoldable pub appended_run : ℕ → ℕ → ℕ → List ℕ
  appended_run f l n = lengthened (set (followed f) (ends + last_offset) l) ends n

  -- slot o is appended; its own link is not written
  abbrev pub appended : ℕ → List ℕ
  appended o = appended_run o o 1

  -- the queue whose words stand at `other` is appended, and is empty afterwards
  unfoldable pub joined : ℕ → List ℕ
  joined other =
      cond (ltb (at m other) z.slots)
      (cleared (appended_run (at m other) (at m (other + last_offset)) (at m (other + length_offset))) other)
      m

  -- the first leaves, and its link becomes none; an empty queue stays
  unfoldable pub less_first : List ℕ
  less_first =
      let f = at m ends in
      cond (ltb f z.slots) (begun_at (set m (link_address z f) none) z ends (at m (link_address z f))) m

-- taking the first answered r, an error of an empty queue, and left the memory n
pub record Taken (m : List ℕ) (z : Sizes) (ends : ℕ) (r : Result ℕ ℕ) (n : List ℕ) : Type 0 where
  pub slot : r ≡ cond (ltb (at m ends) z.slots) (Ok (at m ends)) (Err (at m ends))
  pub memory : n ≡ less_first m z ends
