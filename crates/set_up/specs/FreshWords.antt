-- The words of a fresh table, body by body, as they are written. The contents, and the words of a lane, are the model's.
use Rattle.std.specs.Prelude.{ℕ, ◌+◌, ◌-◌, cond, List, [], ◌∷◌, ◌++◌, replicate, ltb}
use Rattle.std.proofs.lemmas.List.Edits.{sets}
use Rattle.model.specs.Word.{none}
use Rattle.model.specs.Layout.{chain_count, chain_link_at, queue_link_at, slot_length}
use Rattle.model.specs.Engine.{no_queues, fresh_lane}
use Rattle.model.specs.Memory.{three_words, lane_words}

-- the current generation
abbrev pub fresh_generation : ℕ
fresh_generation = 1

-- three queues without slots
unfoldable pub empty_queues : List ℕ
empty_queues = three_words no_queues

-- the free queue, with n slots
unfoldable pub all_free : ℕ → List ℕ
all_free n = 0 ∷ (n - 1) ∷ n ∷ []

-- the global words of a table of n slots
unfoldable pub fresh_global : ℕ → List ℕ
fresh_global n = (fresh_generation ∷ 0 ∷ 0 ∷ []) ++ replicate chain_count none ++ all_free n ++ empty_queues ++ (0 ∷ [])

-- a lane's words
unfoldable pub fresh_lane_words : ℕ → List ℕ
fresh_lane_words i = lane_words fresh_lane

-- the queue link of slot i of n free slots
abbrev pub link_after : ℕ → ℕ → ℕ
link_after n i = cond (ltb (i + 1) n) (i + 1) none

-- the words of a free slot with this queue link: 0 but for the links
abbrev pub free_words : ℕ → List ℕ
free_words link = sets (sets (replicate slot_length 0) chain_link_at (none ∷ [])) queue_link_at (link ∷ [])

-- the words of slot i of n
unfoldable pub fresh_slot_words : ℕ → ℕ → List ℕ
fresh_slot_words n i = free_words (link_after n i)
