-- Delete and hand-back by the code's steps: the words after them, in their order, are those of the state after the call.
use Prim.Native.Nat.{ℕ, ◌+◌, ◌<◌}
use mathlib.Core.Bool.{true, false}
use mathlib.Core.Path.{◌≡◌, refl, ap, ◌∙◌}
use mathlib.Core.List.{List, []}
use native.Mathlib.Omega.{arith}
use lib.ListN.{get_or}
use Rattle.model.specs.Word.{none}
use Rattle.model.specs.Lists.{is_empty, first, tail, count}
use Rattle.model.specs.State.{Sizes, lane_count, State}
use Rattle.model.specs.Layout.{chain_count, heads_at, slot_address}
use Rattle.model.specs.Table.{chain_number, chain_of, slot_of, present}
use Rattle.model.specs.Rules.{delete, hand_back, lane_of, performed}
use Rattle.model.specs.Memory.{at}
use Rattle.model.specs.Calls.{stored}
use Rattle.queues.specs.Queue.{less_first}
use Rattle.chains.specs.declared.Found.{Found}
use Rattle.chains.specs.Chain.{found_at, unlinked, cleared}
use Rattle.laws.specs.Removals.{before_in}
use Rattle.changes.proofs.Shows.{Shows, shows_then, stored-then}
use Rattle.changes.proofs.Shape.{Shape, chained, queued}
use Rattle.changes.specs.Queues.{Queue, free, global, lane, next, done, Named, queue_of, with_queue, ends_at}
use Rattle.changes.proofs.OfQueues.QueueEnds.{first-shown}
use Rattle.changes.proofs.OfQueues.QueueChanges.{append-queue}
use Rattle.changes.proofs.OfQueues.QueueTakes.{take-first}
use Rattle.changes.proofs.OfQueues.QueueShapes.{shape-take, taken_out, taken-inside}
use Rattle.changes.proofs.OfChains.ChainStates.{chain_less, slot_cleared}
use Rattle.changes.proofs.OfChains.ChainLinks.{old-inside}
use Rattle.changes.proofs.OfChains.ChainChanges.{unlink-slot}
use Rattle.changes.proofs.OfChains.Products.{clear-slot}
use Rattle.changes.proofs.OfChains.Find.{slot-in-chain, find-present}
use Rattle.changes.proofs.OfChains.ChainShapes.{shape-clear, shape-unlink, unlinked-out}
use Rattle.changes.specs.Search.{search_words}
use Rattle.changes.proofs.OfCalls.CallSteps.{retired_state, deleted_words, reclaimed_words}
use Rattle.changes.proofs.OfCalls.CallSteps.{delete-steps, reclaimed_state, hand-back-steps, hand-back-global-steps}

module _ (s : State) (m : List ℕ) (shows : Shows m s) (shape : Shape s) where
  abbrev z : Sizes
  z = s.sizes

  -- ---- delete: find, unlink, append

  module _ (i c : ℕ) (within : i < lane_count z) (here : present s.table c ≡ true) where
    abbrev k : ℕ
    k = chain_number c

    abbrev o : ℕ
    o = slot_of s.table c

    below : k < chain_count
    below = omega arith

    in_chain : 0 < count o (get_or s.table.chains k [])
    in_chain = slot-in-chain s m shows shape c here

    -- the slot and the one before it
    abbrev p : ℕ
    p = before_in o (chain_of s.table c) none

    deleted-at : deleted_words z m i c (found_at o p) ≡ stored (performed s (delete i c)) m
    deleted-at =
        stored-then u (retired_state i o u) m n (deleted_words z m i c (found_at o p)) refl unlinks
        (append-queue u n (shows_then u m n shows.long unlinks) (shape-unlink s shape k o below in_chain) (lane i next) within o
        (old-inside s shape k o below in_chain)
        (omega (arith, unlinked-out s shape k o below in_chain)))
        ∙ ap (λ (t : State). stored t m) (delete-steps s i c)
      where
        u : State
        u = chain_less k o s

        n : List ℕ
        n = unlinked m z (heads_at + k) o p

        unlinks : n ≡ stored u m
        unlinks = unlink-slot s m shows shape k o below in_chain

    pub delete-words : (f : Found) → f ≡ search_words z m c → deleted_words z m i c f ≡ stored (performed s (delete i c)) m
    delete-words f e = ap (deleted_words z m i c) (e ∙ find-present s m shows shape c here) ∙ deleted-at

  -- ---- hand-back: take first of a done queue, clear slot, append to free

  module _ (q : Queue) (named : Named z q) (some : is_empty (queue_of s q) ≡ false) where
    abbrev n : ℕ
    n = first (queue_of s q)

    abbrev without : State
    without = with_queue q tail s

    abbrev clean : State
    clean = slot_cleared n without

    without_words : List ℕ
    without_words = less_first m z (ends_at z q)

    clean_words : List ℕ
    clean_words = cleared without_words (slot_address z n)

    shape-without : Shape without
    shape-without = shape-take s shape q named

    n_inside : n < z.slots
    n_inside = taken-inside s shape q named some

    n-out : chained n clean + queued n clean ≡ 0
    n-out = taken_out s shape q named some

    taken-words : without_words ≡ stored without m
    unfolding without_words
    taken-words = take-first s m shows shape q named

    clean-words : clean_words ≡ stored clean m
    unfolding clean_words
    clean-words =
        stored-then without clean m without_words clean_words refl taken-words
        (clear-slot without without_words (shows_then without m without_words shows.long taken-words) shape-without n n_inside (omega (arith, n-out)))

    reclaimed-words : reclaimed_words z m q n ≡ stored (reclaimed_state s q n) m
    unfolding without_words clean_words
    reclaimed-words =
        stored-then clean (reclaimed_state s q n) m clean_words (reclaimed_words z m q n) refl clean-words
        (append-queue clean clean_words (shows_then clean m clean_words shows.long clean-words)
        (shape-clear without shape-without n) free tt n n_inside (omega (arith, n-out)))

  -- the lane's done queue, where it is not empty
  pub hand-back-words : (i n : ℕ) → i < lane_count z → is_empty (lane_of s i).queues.done ≡ false → n ≡ at m (ends_at z (lane i done))
      → reclaimed_words z m (lane i done) n ≡ stored (performed s (hand_back i)) m
  hand-back-words i n b some e =
      ap (reclaimed_words z m (lane i done)) (e ∙ first-shown s m shows (lane i done) b) ∙ reclaimed-words (lane i done) b some
      ∙ ap (λ (u : State). stored u m) (hand-back-steps s i some)

  -- else the global one
  pub hand-back-global-words : (i n : ℕ) → is_empty (lane_of s i).queues.done ≡ true → is_empty s.engine.global.done ≡ false
      → n ≡ at m (ends_at z (global done))
      → reclaimed_words z m (global done) n ≡ stored (performed s (hand_back i)) m
  hand-back-global-words i n empty some e =
      ap (reclaimed_words z m (global done)) (e ∙ first-shown s m shows (global done) tt) ∙ reclaimed-words (global done) tt some
      ∙ ap (λ (u : State). stored u m) (hand-back-global-steps s i empty)
