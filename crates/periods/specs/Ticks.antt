-- The words of a clock's answer that say whether a period runs and how many slots it moved.
use Rattle.std.specs.Prelude.{ℕ, ◌+◌, Bool, not, List, eqb}
use Rattle.model.specs.Layout.{length_offset, done_offset, yard_mask_at, global_queues_at, queues_at}
use Rattle.model.specs.Memory.{at}
use Rattle.words.specs.Sums.{plus}

-- a grace period runs
abbrev pub runs_in : List ℕ → Bool
runs_in m = not (eqb (at m yard_mask_at) 0)

-- the slots in the done queue of the lane whose record begins at a, and in the global one
abbrev pub done_words : List ℕ → ℕ → ℕ
done_words m a = plus (at m (a + (queues_at + done_offset + length_offset))) (at m (global_queues_at + done_offset + length_offset))
