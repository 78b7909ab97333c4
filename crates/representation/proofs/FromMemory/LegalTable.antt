-- The table of a legal memory is as a well-formed state has it, and each slot stands once.
use Prim.Native.Nat.{ℕ, ◌+◌, ◌%◌, ◌<◌}
use mathlib.Core.Path.{◌≡◌, refl, ap, ◌∙◌}
use mathlib.Core.Logic.{inr}
use mathlib.Core.Bool.{Bool, true, false, cond}
use mathlib.Core.List.{List, []}
use native.Mathlib.Omega.{arith}
use native.Mathlib.Decide.{dec_lt}
use lib.ListN.{get_or, get_or-eq_default}
use Rattle.model.specs.Word.{none}
use Rattle.model.specs.Lists.{concat, count, member}
use Rattle.model.specs.State.{Sizes, Engine, Table, State}
use Rattle.model.specs.Layout.{chain_count, chain_link_at}
use Rattle.model.specs.Table.{blank, product_at}
use Rattle.model.specs.Memory.{sizes, all_queues, slot_word, read_product, state}
use Rattle.model.specs.Legal.{code_of}
use Rattle.laws.specs.Counts.{count-concat, member-true, member-false}
use Rattle.laws.specs.Repeats.{distinct-map}
use Rattle.representation.proofs.Discipline.Frame.{queued}
use Rattle.representation.proofs.WellFormed.{TableFits, ProductFits, SlotOrNone, standing, chained}
use Rattle.representation.proofs.Sentences.Ranges.{product-fits}
use Rattle.representation.proofs.Sentences.Facts.{Facts, Legal}
use Rattle.representation.proofs.FromMemory.Reading.{state-chains, state-products, state-product, state-links, state-link}
use Rattle.representation.proofs.FromMemory.Walked.{stands-once, stands-below}
use Rattle.representation.proofs.FromState.Standing.{count-queues}

module _ (m : List ℕ) (l : Legal m) where
  abbrev s : State
  s = state m

  abbrev e : Engine
  e = s.engine

  abbrev t : Table
  t = s.table

  abbrev z : Sizes
  z = sizes m

  abbrev f : Facts m s
  f = l.facts

  -- ---- where slots stand

  record Counted (x : ℕ) : Type 0 where
    chains : count x (concat t.chains) ≡ chained x t
    queues : count x (concat (all_queues s)) ≡ count x t.free + queued x e

  counted : (x : ℕ) → Counted x
  counted x = record { chains = count-concat x t.chains; queues = count-queues x s }

  pub once : (x : ℕ) → x < z.slots → standing x s ≡ 1
  once x b = omega (arith, stands-once m l x b, counted x)

  pub range : (x : ℕ) → 0 < standing x s → x < z.slots
  range x h = stands-below m l x (omega (arith, counted x))

  -- ---- the table

  product-in-range : (x : ℕ) → ProductFits (product_at t.products x)
  unfolding read_product
  product-in-range x =
      elim (dec_lt x z.slots) [
        | yes b ↦ rw (state-product m x b) (product-fits _ _ _ (f.products x b))
        | no b ↦
            rw (get_or-eq_default t.products blank {n = x} (omega (arith, state-products m)))
            (record { code = omega arith; deposit = omega arith; material = omega arith })
      ]

  link-past : (x : ℕ) → (x < z.slots → ⊥) → get_or t.links x none ≡ none
  link-past x b = get_or-eq_default t.links none {n = x} (omega (arith, state-links m))

  link-in-range : (x : ℕ) → SlotOrNone z.slots (get_or t.links x none)
  link-in-range x =
      elim (dec_lt x z.slots) [
        | yes b ↦ rw (state-link m x b) (go (member x (concat t.chains)) (f.chain_links x b))
        | no b ↦ inr (link-past x b)
      ]
    where
      go : (a : Bool) {v : ℕ} → SlotOrNone z.slots v → SlotOrNone z.slots (cond a none v)
      go true h = inr refl
      go false h = h

  pub unlinked : (x : ℕ) → queued x e ≡ 0 → get_or t.links x none ≡ none
  unlinked x h =
      elim (dec_lt x z.slots) [
        | yes b ↦ state-link m x b ∙ inside b
        | no b ↦ link-past x b
      ]
    where
      inside : x < z.slots → cond (member x (concat t.chains)) none (slot_word m chain_link_at x) ≡ none
      inside b =
          elim (dec_lt 0 (count x (concat t.chains))) [
            | yes c ↦ ap (λ (a : Bool). cond a none (slot_word m chain_link_at x)) (member-true x (concat t.chains) c)
            | no c ↦
                ap (λ (a : Bool). cond a none (slot_word m chain_link_at x)) (member-false x (concat t.chains) (omega arith))
                ∙ (f.free x (omega (arith, once x b, counted x))).link
          ]

  free-blank : (x : ℕ) → 0 < count x t.free → product_at t.products x ≡ blank
  unfolding read_product
  free-blank x b =
      let k = f.free x b in
      state-product m x (range x (omega arith)) ∙ (λ i. record { code = k.code i; deposit = k.deposit i; material = k.material i })

  on_chain : (k x : ℕ) → 0 < count x (get_or t.chains k []) → (product_at t.products x).code % chain_count ≡ k
  unfolding count
  on_chain k x b =
      elim (dec_lt k chain_count) [
        | yes c ↦ f.on_chain k c x b
        | no c ↦ absurd (let d : 0 < count x [] = rw (get_or-eq_default t.chains [] {n = k} (omega (arith, state-chains m))) at b in omega arith)
      ]

  pub table_fits : TableFits z.slots t
  table_fits = record {
    chains = state-chains m;
    products = state-products m;
    links = state-links m;
    on_chain = on_chain;
    distinct = λ x y a b. distinct-map (code_of s) (concat t.chains) f.codes x y (omega (arith, counted x)) (omega (arith, counted y));
    in_range = product-in-range;
    link_range = link-in-range;
    blanks = free-blank;
  }
