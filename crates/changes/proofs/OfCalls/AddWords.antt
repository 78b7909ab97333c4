-- Add and replace by the code's steps: the words after them, in their order, are those of the state after the call.
use Prim.Native.Nat.{ℕ, ◌+◌, ◌<◌}
use mathlib.Core.Bool.{true, false}
use mathlib.Core.Path.{◌≡◌, refl, ap, ap₂, ◌∙◌}
use mathlib.Core.List.{List, []}
use native.Mathlib.Omega.{arith}
use lib.ListN.{get_or}
use Rattle.model.specs.Word.{none}
use Rattle.model.specs.Lists.{is_empty, first, tail, count}
use Rattle.model.specs.State.{Sizes, lane_count, State}
use Rattle.model.specs.Layout.{chain_count, free_at, heads_at}
use Rattle.model.specs.Table.{product, chain_number, chain_of, slot_of, present}
use Rattle.model.specs.Rules.{add, replace, performed}
use Rattle.model.specs.Memory.{at}
use Rattle.model.specs.Calls.{stored}
use Rattle.queues.specs.Queue.{less_first}
use Rattle.chains.specs.declared.Found.{Found}
use Rattle.chains.specs.Chain.{found_at, put_in_place}
use Rattle.laws.specs.Removals.{before_in}
use Rattle.changes.proofs.Shows.{Shows, shows_then, stored-then}
use Rattle.changes.proofs.Shape.{Shape, chained, queued}
use Rattle.changes.specs.Queues.{free, lane, next, with_queue}
use Rattle.changes.proofs.OfQueues.QueueEnds.{first-shown}
use Rattle.changes.proofs.OfQueues.QueueChanges.{append-queue}
use Rattle.changes.proofs.OfQueues.QueueTakes.{take-first}
use Rattle.changes.proofs.OfQueues.QueueShapes.{shape-take, taken_out, taken-inside}
use Rattle.changes.proofs.OfChains.ChainStates.{head_added, chain_swapped}
use Rattle.changes.proofs.OfChains.ChainLinks.{old-inside}
use Rattle.changes.proofs.OfChains.ChainChanges.{put_in_place_lem, link-at-head}
use Rattle.changes.proofs.OfChains.Products.{write-product}
use Rattle.changes.proofs.OfChains.Find.{slot-in-chain, find-present}
use Rattle.changes.proofs.OfChains.ChainShapes.{shape-product, shape-put, put-out}
use Rattle.changes.specs.Search.{search_words}
use Rattle.changes.proofs.OfCalls.CallSteps.{retired_state, filled_words, added_words, replaced_words}
use Rattle.changes.proofs.OfCalls.CallSteps.{filled_state, add-steps, replace-steps}

module _ (s : State) (m : List ℕ) (shows : Shows m s) (shape : Shape s) where
  abbrev z : Sizes
  z = s.sizes

  -- ---- the first free slot, given a product: take first, write product

  module _ (c d t : ℕ) (some : is_empty s.table.free ≡ false) where
    abbrev x : ℕ
    x = first s.table.free

    abbrev less : State
    less = with_queue free tail s

    abbrev filled : State
    filled = filled_state s x c d t

    less_words : List ℕ
    less_words = less_first m z free_at

    taken : less_words ≡ stored less m
    unfolding less_words
    taken = take-first s m shows shape free tt

    x-inside : x < z.slots
    x-inside = taken-inside s shape free tt some

    x-out : chained x filled + queued x filled ≡ 0
    x-out = taken_out s shape free tt some

    shape-less : Shape less
    shape-less = shape-take s shape free tt

    shape-filled : Shape filled
    shape-filled = shape-product less shape-less x (product c d t)

    filled-words : filled_words z m x c d t ≡ stored filled m
    unfolding less_words
    filled-words =
        stored-then less filled m less_words (filled_words z m x c d t) refl taken
        (write-product less less_words (shows_then less m less_words shows.long taken) x x-inside shape-less.products c d t)

    filled-shows : Shows (filled_words z m x c d t) filled
    filled-shows = shows_then filled m (filled_words z m x c d t) shows.long filled-words

    -- ---- add: take first, write product, link at the head

    pub add_words : (i n : ℕ) → n ≡ at m free_at → added_words z m n c d t ≡ stored (performed s (add i c d t)) m
    add_words i n e =
        ap (λ (y : ℕ). added_words z m y c d t) (e ∙ first-shown s m shows free tt)
        ∙ stored-then filled (head_added (chain_number c) x filled) m (filled_words z m x c d t) (added_words z m x c d t) refl filled-words
        (link-at-head filled (filled_words z m x c d t) filled-shows shape-filled (chain_number c) x (omega arith) x-inside (omega (arith, x-out)))
        ∙ ap (λ (u : State). stored u m) (add-steps s i c d t)

    -- ---- replace: find, take first, write product, put in place, append

    abbrev put_words : ℕ → Found → List ℕ
    put_words n f = put_in_place (filled_words z m n c d t) z (heads_at + chain_number c) f.slot f.prev n

    module _ (i : ℕ) (within : i < lane_count z) (here : present s.table c ≡ true) where
      abbrev old : ℕ
      old = slot_of s.table c

      abbrev found : Found
      found = found_at old (before_in old (chain_of s.table c) none)

      abbrev swap : State
      swap = chain_swapped (chain_number c) old x filled

      k-below : chain_number c < chain_count
      k-below = omega arith

      old-in : 0 < count old (get_or s.table.chains (chain_number c) [])
      old-in = slot-in-chain s m shows shape c here

      put : put_words x found ≡ stored swap m
      put =
          stored-then filled swap m (filled_words z m x c d t) (put_words x found) refl filled-words
          (put_in_place_lem filled (filled_words z m x c d t) filled-shows shape-filled (chain_number c) old k-below old-in x x-inside (omega (arith, x-out)))

      replaced-at : replaced_words z m i x c d t found ≡ stored (performed s (replace i c d t)) m
      replaced-at =
          stored-then swap (retired_state i old swap) m (put_words x found) (replaced_words z m i x c d t found) refl put
          (append-queue swap (put_words x found) (shows_then swap m (put_words x found) shows.long put)
          (shape-put filled shape-filled (chain_number c) old k-below old-in x x-inside x-out) (lane i next) within old
          (old-inside filled shape-filled (chain_number c) old k-below old-in)
          (omega (arith, put-out filled shape-filled (chain_number c) old k-below old-in x x-inside x-out)))
          ∙ ap (λ (u : State). stored u m) (replace-steps s i c d t)

      pub replace-words : (n : ℕ) (f : Found) → n ≡ at m free_at → f ≡ search_words z m c
          → replaced_words z m i n c d t f ≡ stored (performed s (replace i c d t)) m
      replace-words n f e g =
          ap₂ (λ (y : ℕ) (g : Found). replaced_words z m i y c d t g) (e ∙ first-shown s m shows free tt) (g ∙ find-present s m shows shape c here) ∙ replaced-at
