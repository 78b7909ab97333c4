-- What an advance does to the words of a memory with a table of sizes z: an owner's queues have their ends from `ends` on and their generation at
-- `generation`. No legality is needed.
use Rattle.std.specs.Prelude.{ℕ, ◌+◌, ◌<◌, ◌≤◌, cond, List, length, set, eqb, ltb}
use Rattle.model.specs.Word.{up, later}
use Rattle.model.specs.State.{Sizes}
use Rattle.model.specs.Layout.{current_offset, done_offset, queues_width, current_generation_at, yard_mask_at}
use Rattle.model.specs.Layout.{global_queues_at, global_generation_at, generation_at, queues_at}
use Rattle.model.specs.Memory.{at}
use Rattle.words.specs.Lent.{Lent}
use Rattle.queues.specs.Queue.{joined}
use Rattle.lanes.specs.declared.Place.{Place}
use Rattle.engine.specs.declared.OwnerWords.{OwnerWords}
use Rattle.engine.specs.Period.{requested_words}

-- the words of a lane, and of all lanes together
abbrev pub of_lane : Place → OwnerWords
of_lane l = record { ends = l.address + queues_at; generation = l.address + generation_at }

abbrev pub of_all : OwnerWords
of_all = record { ends = global_queues_at; generation = global_generation_at }

-- the memory holds the owner's words and the table
pub record OwnerLent (m : List ℕ) (z : Sizes) (o : OwnerWords) : Type 0 where
  pub lent : Lent m z
  pub queues : o.ends + queues_width ≤ length m
  pub stamp : o.generation < length m

-- the generation whose end a batch that begins to wait now has to see
unfoldable pub target_word : List ℕ → ℕ
target_word m = cond (eqb (at m yard_mask_at) 0) (at m current_generation_at) (up (at m current_generation_at))

module _ (m : List ℕ) (z : Sizes) (o : OwnerWords) where
  -- the current queue is appended to done, and its generation is at rest
  abbrev pub finished_words : List ℕ
  finished_words = set (joined m z (o.ends + done_offset) (o.ends + current_offset)) o.generation 0

  -- if the current queue's generation is earlier than the current one, that queue is appended to done
  unfoldable pub settled_words : List ℕ
  settled_words =
      cond (ltb (at m (o.ends + current_offset)) z.slots)
      (cond (later (at m current_generation_at) (at m o.generation)) finished_words m)
      m

  -- next becomes current, with generation g
  unfoldable pub batched_words : ℕ → List ℕ
  batched_words g = set (joined m z (o.ends + current_offset) o.ends) o.generation g

  -- if current is empty and next is not, next becomes current with the target generation, which is requested
  unfoldable pub begun_words : List ℕ
  begun_words =
      cond (ltb (at m (o.ends + current_offset)) z.slots)
      m
      (cond (ltb (at m o.ends) z.slots) (requested_words (batched_words (target_word m)) z (target_word m)) m)

-- an advance of the owner
unfoldable pub advanced_words : List ℕ → Sizes → OwnerWords → List ℕ
advanced_words m z o = begun_words (settled_words m z o) z o
