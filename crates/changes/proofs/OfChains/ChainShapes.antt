-- Changes of chains and slots keep the shape of a state.
use Prim.Native.Nat.{ℕ, ◌+◌, ◌<◌}
use mathlib.Core.Path.{◌≡◌, ◌∙◌}
use mathlib.Core.List.{[]}
use native.Mathlib.Omega.{arith}
use lib.ListN.{get_or, length-set}
use Rattle.model.specs.Word.{none}
use Rattle.model.specs.Lists.{count, without, swapped}
use Rattle.model.specs.State.{Product, State}
use Rattle.model.specs.Layout.{chain_count}
use Rattle.model.specs.Table.{blank, link_of}
use Rattle.laws.specs.Tests.{same, other, decide}
use Rattle.laws.specs.ListLaws.{length-update}
use Rattle.laws.specs.Counts.{mark, mark-self, mark-other}
use Rattle.changes.proofs.Shape.{Shape, chained, queued}
use Rattle.changes.proofs.OfChains.ChainStates.{chain_less, chain_swapped, with_link, with_product, slot_cleared}
use Rattle.changes.proofs.OfChains.ChainLinks.{count_less, count-swapped-all}

pub shape-product : (s : State) → Shape s → (o : ℕ) (p : Product) → Shape (with_product o p s)
shape-product s w o p = record {
  few = w.few;
  chains = w.chains;
  lanes = w.lanes;
  links = w.links;
  products = length-set s.table.products o p ∙ w.products;
  once = w.once;
  below = w.below;
}

pub shape-link : (s : State) → Shape s → (o x : ℕ) → Shape (with_link o x s)
shape-link s w o x = record {
  few = w.few;
  chains = w.chains;
  lanes = w.lanes;
  links = length-set s.table.links o x ∙ w.links;
  products = w.products;
  once = w.once;
  below = w.below;
}

pub shape-clear : (s : State) → Shape s → (o : ℕ) → Shape (slot_cleared o s)
shape-clear s w o = shape-link (with_product o blank s) (shape-product s w o blank) o none

-- slot o of chain k leaves it, or another takes its place
module _ (s : State) (w : Shape s) (k o : ℕ) (below : k < chain_count) (in_chain : 0 < count o (get_or s.table.chains k [])) where
  pub shape-unlink : Shape (chain_less k o s)
  shape-unlink = record {
    few = w.few;
    chains = length-update s.table.chains k (without o) ∙ w.chains;
    lanes = w.lanes;
    links = length-set s.table.links o (link_of s.table o) ∙ w.links;
    products = w.products;
    once = λ x. omega (arith, count_less s w k o below in_chain x, w.once x);
    below = λ x h. w.below x (omega (arith, count_less s w k o below in_chain x));
  }

  -- it stands nowhere then
  pub unlinked-out : chained o (chain_less k o s) + queued o (chain_less k o s) ≡ 0
  unlinked-out = omega (arith, count_less s w k o below in_chain o, mark-self o, w.once o)

  module _ (n : ℕ) (inside : n < s.sizes.slots) (out : chained n s + queued n s ≡ 0) where
    counted : (x : ℕ) → chained x (chain_swapped k o n s) + mark x o ≡ chained x s + mark x n
    counted x = count-swapped-all s w k o below in_chain n inside (omega arith) x

    pub shape-put : Shape (chain_swapped k o n s)
    shape-put = record {
      few = w.few;
      chains = length-update s.table.chains k (swapped o n) ∙ w.chains;
      lanes = w.lanes;
      links = length-set s.table.links o (link_of s.table o) ∙ w.links;
      products = w.products;
      once = λ x. elim (decide x n) [
        | same e t u ↦ let a : mark x n ≡ 1 = rw t in let h : chained x s + queued x s ≡ 0 = rw e out in omega (arith, counted x)
        | other e t u ↦ omega (arith, counted x, mark-other x n e, w.once x)
      ];
      below = λ x h. elim (decide x n) [
        | same e t u ↦ omega arith
        | other e t u ↦ w.below x (omega (arith, counted x, mark-other x n e))
      ];
    }

    -- the old slot stands nowhere then
    pub put-out : chained o (chain_swapped k o n s) + queued o (chain_swapped k o n s) ≡ 0
    put-out =
        elim (decide o n) [
          | same e t u ↦
              let h : chained o s + queued o s ≡ 0 = rw e out in
              let a : mark o n ≡ 1 = rw t in
              omega (arith, counted o, mark-self o)
          | other e t u ↦ omega (arith, counted o, mark-self o, mark-other o n e, w.once o)
        ]
