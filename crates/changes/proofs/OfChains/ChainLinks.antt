-- Heads and chain links when a slot leaves its chain, or another takes its place: what pointed at it, its predecessor's link or the head, is the one
-- word that differs.
use Prim.Native.Nat.{ℕ, ◌+◌, ◌<◌, ◌≤◌}
use mathlib.Core.Bool.{false, cond}
use mathlib.Core.Path.{◌≡◌, refl, ap, sym, ◌∙◌}
use mathlib.Core.Logic.{◌≢◌}
use mathlib.Core.List.{List, []}
use native.Mathlib.Omega.{arith}
use native.Mathlib.Decide.{dec_lt}
use lib.ListN.{length, get_or, set}
use lib.Dec.{eqb}
use Rattle.model.specs.Word.{none}
use Rattle.model.specs.Lists.{update, concat, first, count, without, swapped}
use Rattle.model.specs.State.{Table, State}
use Rattle.model.specs.Layout.{chain_count}
use Rattle.model.specs.Table.{link_of}
use Rattle.laws.specs.Tests.{same, other, decide}
use Rattle.laws.specs.ListLaws.{get_or-update}
use Rattle.laws.specs.Counts.{mark, count-without, count-swapped, count-concat-update, count-concat-get_or}
use Rattle.laws.specs.Removals.{before_in, before_in-in}
use Rattle.chains.proofs.AllChains.{unlink-head, unlink-links, replace-head, replace-links}
use Rattle.changes.proofs.Shape.{Shape}
use Rattle.changes.proofs.OfChains.ChainStates.{heads_with, chain_links_with}

-- slot o stands in chain k
module _ (s : State) (w : Shape s) (k o : ℕ) (below : k < chain_count) (in_chain : 0 < count o (get_or s.table.chains k [])) where
  abbrev t : Table
  t = s.table

  -- its chain
  abbrev pub chain : List ℕ
  chain = get_or t.chains k []

  -- what stands before it; none where it is the first
  abbrev pub before : ℕ
  before = before_in o chain none

  chain-le : (i : ℕ) → count i chain ≤ count i (concat t.chains)
  chain-le i = count-concat-get_or t.chains k i

  pub old-inside : o < s.sizes.slots
  old-inside = w.below o (omega (arith, chain-le o))

  real : (i : ℕ) → i < s.sizes.slots → i ≢ none
  real i h e = omega (arith, w.few)

  k-inside : k < length t.chains
  k-inside = omega (arith, w.chains)

  pub before-cases : (P : ℕ → Type 0) → ((p : ℕ) → p < s.sizes.slots → eqb none p ≡ false → P p) → P none → P before
  before-cases P f g =
      elim (decide none before) [
        | same e x y ↦ rw (sym e) g
        | other e x y ↦ f before (w.below before (omega (arith, before_in-in chain o none before refl e in_chain, chain-le before))) x
      ]

  -- a head after chain k was changed by f
  heads-changed : (f : List ℕ → List ℕ) (l : List ℕ) (x j : ℕ) → first (f chain) ≡ cond (eqb none before) x (first chain)
      → heads_with s (update t.chains k f) l j ≡ cond (eqb j k) (cond (eqb none before) x (first chain)) (first (get_or t.chains j []))
  heads-changed f l x j e =
      ap first (get_or-update t.chains k j f [] k-inside)
      ∙ elim (decide j k) [
        | same q u v ↦ rw u e
        | other q u v ↦ rw u
      ]

  once-all : (i : ℕ) → count i (concat t.chains) ≤ 1
  once-all i = omega (arith, w.once i)

  none_out : count none (concat t.chains) ≡ 0
  none_out =
      elim (dec_lt 0 (count none (concat t.chains))) [
        | yes q ↦ absurd (real none (w.below none (omega arith)) refl)
        | no q ↦ omega arith
      ]

  kept-inside : o < length t.links
  kept-inside = omega (arith, old-inside, w.links)

  -- ---- o leaves

  pub heads-less : (l : List ℕ) (j : ℕ)
      → heads_with s (update t.chains k (without o)) l j ≡ cond (eqb j k) (cond (eqb none before) (link_of t o) (first chain)) (first (get_or t.chains j []))
  heads-less l j = heads-changed (without o) l (link_of t o) j (unlink-head t.chains k k-inside once-all t.links o none_out in_chain kept-inside)

  pub count_less : (i : ℕ) → count i (concat (update t.chains k (without o))) + mark i o ≡ count i (concat t.chains)
  count_less i = omega (arith, count-concat-update t.chains k i (without o) k-inside, count-without i o chain in_chain)

  pub links-less : (j : ℕ) → j < s.sizes.slots
      → chain_links_with s (update t.chains k (without o)) (set t.links o (link_of t o)) j ≡ cond (eqb j before) (link_of t o) (link_of t j)
  links-less j b = unlink-links t.chains k k-inside once-all t.links o none_out in_chain kept-inside j (real j b)

  -- ---- n, which stands in no chain, takes its place

  module _ (n : ℕ) (inside : n < s.sizes.slots) (out : count n (concat t.chains) ≡ 0) where
    pub heads-swapped : (l : List ℕ) (j : ℕ)
        → heads_with s (update t.chains k (swapped o n)) l j ≡ cond (eqb j k) (cond (eqb none before) n (first chain)) (first (get_or t.chains j []))
    heads-swapped l j =
        heads-changed (swapped o n) l n j (replace-head t.chains k k-inside once-all t.links o none_out in_chain kept-inside n out (real n inside))

    pub count-swapped-all : (i : ℕ) → count i (concat (update t.chains k (swapped o n))) + mark i o ≡ count i (concat t.chains) + mark i n
    count-swapped-all i = omega (arith, count-concat-update t.chains k i (swapped o n) k-inside, count-swapped i o n chain in_chain)

    pub links-swapped : (j : ℕ) → j < s.sizes.slots
        → chain_links_with s (update t.chains k (swapped o n)) (set t.links o (link_of t o)) j
        ≡ cond (eqb j before) n (cond (eqb j n) (link_of t o) (link_of t j))
    links-swapped j b = replace-links t.chains k k-inside once-all t.links o none_out in_chain kept-inside n out (real n inside) j (real j b)
