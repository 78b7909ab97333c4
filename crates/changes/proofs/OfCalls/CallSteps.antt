-- The code's steps of add, replace, delete and hand-back, in their order: in words, and as changes of the state, which are what the model's rules say.
use Prim.Native.Nat.{ℕ, ◌+◌}
use mathlib.Core.Bool.{true, false}
use mathlib.Core.Path.{◌≡◌, refl}
use mathlib.Core.List.{List, [], ◌∷◌, ◌++◌}
use Rattle.model.specs.Lists.{is_empty, first, tail}
use Rattle.model.specs.State.{Sizes, State}
use Rattle.model.specs.Layout.{free_at, heads_at, slot_address}
use Rattle.model.specs.Table.{product, chain_number, slot_of, added, replaced, deleted, reclaimed}
use Rattle.model.specs.Rules.{add, replace, delete, hand_back, lane_of, performed}
use Rattle.queues.specs.Queue.{appended, less_first}
use Rattle.chains.specs.declared.Found.{Found}
use Rattle.chains.specs.Chain.{linked_at_head, put_in_place, unlinked, product_set, cleared}
use Rattle.changes.specs.Queues.{Queue, free, global, lane, next, done, queue_of, with_queue, ends_at}
use Rattle.changes.proofs.OfChains.ChainStates.{head_added, chain_less, chain_swapped, with_product, slot_cleared}

-- ---- in words

module _ (z : Sizes) (m : List ℕ) where
  -- the memory after take first of the free queue, which gave slot n, and write product
  abbrev pub filled_words : ℕ → ℕ → ℕ → ℕ → List ℕ
  filled_words n c d t = product_set (less_first m z free_at) (slot_address z n) c d t

  -- add: and link at the head
  abbrev pub added_words : ℕ → ℕ → ℕ → ℕ → List ℕ
  added_words n c d t = linked_at_head (filled_words n c d t) z (heads_at + chain_number c) n

  -- replace, where the search found f: and put in place, append the old slot to the lane's next queue
  abbrev pub replaced_words : ℕ → ℕ → ℕ → ℕ → ℕ → Found → List ℕ
  replaced_words i n c d t f =
      appended (put_in_place (filled_words n c d t) z (heads_at + chain_number c) f.slot f.prev n)
      z (ends_at z (lane i next)) f.slot

  -- delete, where the search found f: unlink, append to the lane's next queue
  abbrev pub deleted_words : ℕ → ℕ → Found → List ℕ
  deleted_words i c f =
      appended (unlinked m z (heads_at + chain_number c) f.slot f.prev) z (ends_at z (lane i next)) f.slot

  -- hand-back: take first of queue q, which gave slot n, clear slot, append to the free queue
  abbrev pub reclaimed_words : Queue → ℕ → List ℕ
  reclaimed_words q n = appended (cleared (less_first m z (ends_at z q)) (slot_address z n)) z free_at n

-- ---- as changes of the state

-- slot o is appended to the next queue of lane i
abbrev pub retired_state : ℕ → ℕ → State → State
retired_state i o s = with_queue (lane i next) (λ xs. xs ++ (o ∷ [])) s

module _ (s : State) where
  -- slot n is taken from the free queue and holds the product
  abbrev pub filled_state : ℕ → ℕ → ℕ → ℕ → State
  filled_state n c d t = with_product n (product c d t) (with_queue free tail s)

  -- the first of queue q is cleared and appended to the free queue
  abbrev pub reclaimed_state : Queue → ℕ → State
  reclaimed_state q n = with_queue free (λ xs. xs ++ (n ∷ [])) (slot_cleared n (with_queue q tail s))

  pub add-steps : (i c d t : ℕ) → head_added (chain_number c) (first s.table.free) (filled_state (first s.table.free) c d t) ≡ performed s (add i c d t)
  unfolding performed added
  add-steps i c d t = refl

  pub replace-steps : (i c d t : ℕ)
      → retired_state i (slot_of s.table c) (chain_swapped (chain_number c) (slot_of s.table c) (first s.table.free)
      (filled_state (first s.table.free) c d t))
      ≡ performed s (replace i c d t)
  unfolding performed replaced
  replace-steps i c d t = refl

  pub delete-steps : (i c : ℕ) → retired_state i (slot_of s.table c) (chain_less (chain_number c) (slot_of s.table c) s) ≡ performed s (delete i c)
  unfolding performed deleted
  delete-steps i c = refl

  pub hand-back-steps : (i : ℕ) → is_empty (lane_of s i).queues.done ≡ false
      → reclaimed_state (lane i done) (first (queue_of s (lane i done))) ≡ performed s (hand_back i)
  unfolding performed reclaimed
  hand-back-steps i some = rw some

  pub hand-back-global-steps : (i : ℕ) → is_empty (lane_of s i).queues.done ≡ true
      → reclaimed_state (global done) (first (queue_of s (global done))) ≡ performed s (hand_back i)
  unfolding performed reclaimed
  hand-back-global-steps i empty = rw empty
