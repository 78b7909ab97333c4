-- The chains and queues of a legal memory's state: each is a walk that did not run out, each slot stands once, and the slots' links are those that
-- the state gives them.
use Prim.Native.Nat.{ℕ, zero, suc, ◌+◌, ◌≤◌, ◌<◌}
use mathlib.Core.Bool.{Bool, cond}
use mathlib.Core.Path.{◌≡◌, ap, sym, ◌∙◌}
use mathlib.Core.Logic.{inl, inr}
use mathlib.Core.List.{List, ◌++◌, map}
use native.Mathlib.Omega.{arith}
use native.Mathlib.Decide.{dec_lt}
use lib.ListN.{length, length-append}
use Rattle.model.specs.Word.{none}
use Rattle.model.specs.Lists.{concat_map, count, first, successor, successor_in, concat, from}
use Rattle.model.specs.State.{lane_count}
use Rattle.model.specs.Layout.{chain_count, heads_at, chain_link_at, queue_link_at}
use Rattle.model.specs.Table.{link_of}
use Rattle.model.specs.Memory.{at, sizes, walk, slot_field, slot_word, read_chain, read_chains, read_lane, all_queues, lane_queues, state}
use Rattle.laws.specs.Elements.{Each}
use Rattle.laws.specs.Counts.{count-append, each_below, member-false}
use Rattle.laws.specs.Repeats.{length-once}
use Rattle.laws.specs.Successors.{successor_in-out, successor_in-each}
use Rattle.laws.specs.Walks.{walk_first, walk-below, walk-successor}
use Rattle.representation.proofs.WellFormed.{SlotOrNone}
use Rattle.representation.proofs.Sentences.Facts.{Legal}
use Rattle.representation.proofs.FromMemory.Reading.{length-slot_field, get_or-slot_field, state-link}

-- ---- a walk by the slots' word k, from h, of more steps than there are slots

past-none : (n x : ℕ) → SlotOrNone n x → n ≤ x → x ≡ none
past-none n x (inl p) b = absurd (omega arith)
past-none n x (inr p) b = p

module _ (m : List ℕ) where
  pub slot_walk-first : (k h n : ℕ) → (sizes m).slots < n → SlotOrNone (sizes m).slots h → first (walk (slot_field m k) h n) ≡ h
  slot_walk-first k h n g r = walk_first (slot_field m k) h n (omega arith) (λ b. past-none (sizes m).slots h r (omega (arith, length-slot_field m k)))

  slot_walk-below : (k h n i : ℕ) → 0 < count i (walk (slot_field m k) h n) → i < (sizes m).slots
  slot_walk-below k h n i b = omega (arith, walk-below (slot_field m k) h n i b, length-slot_field m k)

  slot_walk-successor : (k : ℕ) → ((i : ℕ) → i < (sizes m).slots → SlotOrNone (sizes m).slots (slot_word m k i))
      → (h n : ℕ) → (sizes m).slots < n → length (walk (slot_field m k) h n) ≤ (sizes m).slots
      → (i d : ℕ) → 0 < count i (walk (slot_field m k) h n) → successor (walk (slot_field m k) h n) i d ≡ slot_word m k i
  slot_walk-successor k r h n g l i d b =
      walk-successor (slot_field m k)
      (λ j p q. let p' : j < (sizes m).slots = omega (arith, length-slot_field m k) in
      get_or-slot_field m k j p' ∙ past-none (sizes m).slots _ (r j p') (omega (arith, get_or-slot_field m k j p', length-slot_field m k)))
      h n i d (omega arith) b
      ∙ get_or-slot_field m k i (slot_walk-below k h n i b)

  -- what holds of every walk holds of each chain and of each queue
  each-chain : (P : List ℕ → Type 0) → ((h n : ℕ) → (sizes m).slots < n → P (walk (slot_field m chain_link_at) h n)) → (a n : ℕ)
      → Each P (map (read_chain m) (from a n))
  unfolding from
  each-chain P f a zero = tt
  each-chain P f a (suc n) = (f (at m (heads_at + a)) _ (omega arith), each-chain P f (suc a) n)

  each_lane : (P : List ℕ → Type 0) → ((h n : ℕ) → (sizes m).slots < n → P (walk (slot_field m queue_link_at) h n)) → (a n : ℕ)
      → Each P (concat_map lane_queues (map (read_lane m) (from a n)))
  unfolding concat_map from read_lane
  each_lane P f a zero = tt
  each_lane P f a (suc n) = (f _ _ (omega arith), (f _ _ (omega arith), (f _ _ (omega arith), each_lane P f (suc a) n)))

  each-queue : (P : List ℕ → Type 0) → ((h n : ℕ) → (sizes m).slots < n → P (walk (slot_field m queue_link_at) h n)) → Each P (all_queues (state m))
  unfolding state
  each-queue P f = (f _ _ (omega arith), (f _ _ (omega arith), (f _ _ (omega arith), (f _ _ (omega arith), each_lane P f 0 (lane_count (sizes m))))))

  -- ---- where slots stand

  abbrev chained : List ℕ
  chained = concat (state m).table.chains

  abbrev queued : List ℕ
  queued = concat (all_queues (state m))

  chained-below : (i : ℕ) → 0 < count i chained → i < (sizes m).slots
  unfolding read_chains state
  chained-below =
      each_below (sizes m).slots (read_chains m) (each-chain (λ xs. (i : ℕ) → 0 < count i xs → i < (sizes m).slots)
      (λ h n g. slot_walk-below chain_link_at h n) 0 chain_count)

  queued-below : (i : ℕ) → 0 < count i queued → i < (sizes m).slots
  queued-below =
      each_below (sizes m).slots (all_queues (state m))
      (each-queue (λ xs. (i : ℕ) → 0 < count i xs → i < (sizes m).slots) (λ h n g. slot_walk-below queue_link_at h n))

-- ---- in a legal memory

module _ (m : List ℕ) (l : Legal m) where
  standing-below : (i : ℕ) → 0 < count i (chained m ++ queued m) → i < (sizes m).slots
  standing-below i h =
      elim (dec_lt 0 (count i (chained m))) [
        | yes p ↦ chained-below m i p
        | no p ↦ queued-below m i (omega (arith, count-append i (chained m) (queued m)))
      ]

  standing-once : (i : ℕ) → i < (sizes m).slots → count i (chained m ++ queued m) ≡ 1
  unfolding state
  standing-once = l.facts.once

  length-standing : length (chained m ++ queued m) ≡ (sizes m).slots
  length-standing = length-once (sizes m).slots (chained m ++ queued m) standing-below standing-once

  -- each slot stands once, and nothing else does
  pub stands-once : (i : ℕ) → i < (sizes m).slots → count i (chained m) + count i (queued m) ≡ 1
  stands-once i b = omega (arith, standing-once i b, count-append i (chained m) (queued m))

  pub stands-below : (i : ℕ) → 0 < count i (chained m) + count i (queued m) → i < (sizes m).slots
  stands-below i h = standing-below i (omega (arith, count-append i (chained m) (queued m)))

  -- ---- links

  pub chain_link : (i : ℕ) → i < (sizes m).slots → link_of (state m).table i ≡ slot_word m chain_link_at i
  unfolding read_chains state
  chain_link i b =
      elim (dec_lt 0 (count i (chained m))) [
        | yes p ↦
            successor_in-each (slot_word m chain_link_at) (sizes m).slots (read_chains m)
            (each-chain m (λ xs. length xs ≤ (sizes m).slots → (i d : ℕ) → 0 < count i xs → successor xs i d ≡ slot_word m chain_link_at i)
            (slot_walk-successor m chain_link_at l.facts.chain_links) 0 chain_count)
            (omega (arith, length-standing, length-append (chained m) (queued m))) i _ p
        | no p ↦
            successor_in-out (read_chains m) i _ (omega arith)
            ∙ state-link m i b
            ∙ ap (λ (t : Bool). cond t none (slot_word m chain_link_at i)) (member-false i (chained m) (omega arith))
      ]

  pub queue-link : (i : ℕ) → i < (sizes m).slots → successor_in (all_queues (state m)) i none ≡ slot_word m queue_link_at i
  queue-link i b =
      elim (dec_lt 0 (count i (queued m))) [
        | yes p ↦
            successor_in-each (slot_word m queue_link_at) (sizes m).slots (all_queues (state m))
            (each-queue m (λ xs. length xs ≤ (sizes m).slots → (i d : ℕ) → 0 < count i xs → successor xs i d ≡ slot_word m queue_link_at i)
            (slot_walk-successor m queue_link_at l.facts.queue_links))
            (omega (arith, length-standing, length-append (chained m) (queued m))) i none p
        | no p ↦ successor_in-out (all_queues (state m)) i none (omega arith) ∙ sym (l.facts.queue_links_rest i b (omega arith))
      ]
