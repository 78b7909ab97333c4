-- A search from the head of a code's chain finds the code's slot and what stands before it, and the step of a lookup has the model's outcome.
use Prim.Native.Nat.{ℕ, ◌+◌, ◌<◌, ◌≤◌}
use mathlib.Core.Path.{◌≡◌, ap, ap₂, sym, ◌∙◌}
use mathlib.Core.Logic.{◌≢◌}
use mathlib.Core.Bool.{true}
use mathlib.Core.List.{List, map}
use native.Mathlib.Omega.{arith}
use lib.ListN.{length, get_or}
use borrow.Author.Tests.{not-true, eq-eqb}
use Rattle.model.specs.Word.{none}
use Rattle.model.specs.Lists.{first, count, from, successor}
use Rattle.model.specs.State.{Sizes, running, State}
use Rattle.model.specs.Layout.{code_at, deposit_at, material_at, heads_at, slot_address}
use Rattle.model.specs.Table.{product, product_at, chain_number, chain_of, slot_of, present}
use Rattle.model.specs.Rules.{outcome}
use Rattle.model.specs.Memory.{at, walk, slot_words, whole_of}
use Rattle.laws.specs.Tests.{clash}
use Rattle.laws.specs.ListLaws.{length-map-from, get_or-map-below}
use Rattle.laws.specs.Counts.{count-concat-get_or}
use Rattle.laws.specs.Repeats.{length-at-most}
use Rattle.laws.specs.Successors.{successor_in-one}
use Rattle.laws.specs.Removals.{before_in}
use Rattle.laws.specs.Walks.{linked, walk-back}
use Rattle.representation.proofs.Addresses.Fields.{slot}
use Rattle.representation.proofs.Causes.SlotCounts.{present-in}
use Rattle.representation.proofs.WellFormed.{SlotOrNone}
use Rattle.chains.specs.Chain.{link_address, code_words, found_at, seek}
use Rattle.chains.specs.Chained.{before_code}
use Rattle.chains.specs.Outcome.{outcome_at}
use Rattle.chains.proofs.SeekLaws.{seek-walk, before_code-slot_in}
use Rattle.chains.proofs.OutcomeLaws.{outcome_at-outcome}
use Rattle.changes.proofs.Shows.{Shows}
use Rattle.changes.proofs.Shape.{Shape}
use Rattle.changes.proofs.OfChains.ChainChanges.{link-shown, head-shown}

module _ (s : State) (m : List ℕ) (shows : Shows m s) where
  abbrev z : Sizes
  z = s.sizes

  pub code-shown : (i : ℕ) → i < z.slots → code_words m z i ≡ (product_at s.table.products i).code
  unfolding slot_words
  code-shown i b =
      ap₂ whole_of (shows.image (slot i code_at) (b, omega arith)) (ap (at m) past ∙ shows.image (slot i (code_at + 1)) (b, omega arith))
      ∙ omega arith
    where
      past : slot_address z i + code_at + 1 ≡ slot_address z i + (code_at + 1)
      past = omega arith

  module _ (w : Shape s) (c : ℕ) where
    abbrev chain : List ℕ
    chain = chain_of s.table c

    abbrev links : List ℕ
    links = map (λ (i : ℕ). at m (link_address z i)) (from 0 z.slots)

    chain-once : (i : ℕ) → count i chain ≤ 1
    chain-once i = omega (arith, count-concat-get_or s.table.chains (chain_number c) i, w.once i)

    chain-below : (i : ℕ) → 0 < count i chain → i < z.slots
    chain-below i h = w.below i (omega (arith, count-concat-get_or s.table.chains (chain_number c) i))

    links-length : length links ≡ z.slots
    links-length = length-map-from (λ (i : ℕ). at m (link_address z i)) 0 z.slots

    links-at : (i : ℕ) → i < z.slots → get_or links i none ≡ at m (link_address z i)
    links-at i b = get_or-map-below (λ (i : ℕ). at m (link_address z i)) z.slots i none b

    chain-linked : (i : ℕ) → 0 < count i chain → get_or links i none ≡ successor chain i none
    chain-linked i h =
        links-at i (chain-below i h)
        ∙ link-shown s m shows i (chain-below i h)
        ∙ successor_in-one s.table.chains (chain_number c) i _ h (omega (arith, w.once i))

    chain-walk : walk links (first chain) (z.slots + 1) ≡ chain
    chain-walk =
        walk-back links chain (z.slots + 1) (omega (arith, links-length, w.few)) (omega (arith, length-at-most z.slots chain chain-below chain-once))
        (λ i h. omega (arith, links-length, chain-below i h)) (linked links chain chain-once chain-linked)

    pub find-slot : seek m z c (z.slots + 1) none (at m (heads_at + chain_number c))
        ≡ found_at (slot_of s.table c) (before_code s.table.products c chain none)
    find-slot =
        seek-walk m z c links s.table.products links-length links-at (λ i b. sym (code-shown i b))
        (z.slots + 1) none (at m (heads_at + chain_number c))
        ∙ rw (head-shown s m shows (chain_number c) (omega arith)) (rw chain-walk)

    -- where the code is present
    module _ (here : present s.table c ≡ true) where
      found-real : slot_of s.table c ≢ none
      found-real q = clash (eq-eqb _ _ q) (not-true _ here)

      pub slot-in-chain : 0 < count (slot_of s.table c) chain
      slot-in-chain = present-in s.table c here

      pub find-present : seek m z c (z.slots + 1) none (at m (heads_at + chain_number c))
          ≡ found_at (slot_of s.table c) (before_in (slot_of s.table c) chain none)
      find-present = find-slot ∙ ap (found_at (slot_of s.table c)) (before_code-slot_in s.table.products c chain none found-real)

  -- ---- the step of a lookup

  -- what slot i holds
  pub product-shown : (i : ℕ) → i < z.slots → product_at s.table.products i
      ≡ product (code_words m z i) (at m (slot_address z i + deposit_at)) (at m (slot_address z i + material_at))
  unfolding slot_words
  product-shown i b =
      sym (rw (code-shown i b, shows.image (slot i deposit_at) (b, omega arith), shows.image (slot i material_at) (b, omega arith)))

  -- the outcome at a position that is a slot or none
  pub outcome-shown : Shape s → (c p : ℕ) → SlotOrNone z.slots p → outcome_at m z c p ≡ outcome s.table (running c p)
  outcome-shown w c p h = outcome_at-outcome m z s.table (omega (arith, w.few)) product-shown c p h
