-- Chains and slots of a state anew, and what its fields hold then.
use Prim.Native.Nat.{ℕ}
use mathlib.Core.Path.{◌≡◌, refl}
use mathlib.Core.List.{List, [], ◌∷◌}
use native.Mathlib.Omega.{arith}
use lib.ListN.{get_or, set}
use Rattle.model.specs.Word.{none}
use Rattle.model.specs.Lists.{update, first, successor_in, without, swapped}
use Rattle.model.specs.State.{Product, State}
use Rattle.model.specs.Layout.{chain_link_at}
use Rattle.model.specs.Table.{blank, link_of}
use Rattle.model.specs.Rules.{with}
use Rattle.model.specs.Memory.{slot_words}
use Rattle.laws.specs.ListLaws.{get_or_set}
use Rattle.representation.proofs.Addresses.Fields.{Field, top, head, end, mask, lane, slot, yard, value}
use Rattle.changes.proofs.Puts.{linked, headed}

-- ---- changes

-- chains c and kept links l
abbrev pub with_chains : List (List ℕ) → List ℕ → State → State
with_chains c l s = with s s.engine (record { chains = c; free = s.table.free; products = s.table.products; links = l })

-- slot o is linked at the head of chain k
abbrev pub head_added : ℕ → ℕ → State → State
head_added k o s = with_chains (update s.table.chains k (◌∷◌ o)) s.table.links s

-- slot o leaves chain k and keeps its chain link
abbrev pub chain_less : ℕ → ℕ → State → State
chain_less k o s = with_chains (update s.table.chains k (without o)) (set s.table.links o (link_of s.table o)) s

-- slot n takes the place of slot o in chain k; o keeps its chain link
abbrev pub chain_swapped : ℕ → ℕ → ℕ → State → State
chain_swapped k o n s = with_chains (update s.table.chains k (swapped o n)) (set s.table.links o (link_of s.table o)) s

-- slot o keeps the chain link x
abbrev pub with_link : ℕ → ℕ → State → State
with_link o x s = with_chains s.table.chains (set s.table.links o x) s

-- slot o holds p
abbrev pub with_product : ℕ → Product → State → State
with_product o p s =
    with s s.engine (record { chains = s.table.chains; free = s.table.free; products = set s.table.products o p; links = s.table.links })

-- slot o has the free values
abbrev pub slot_cleared : ℕ → State → State
slot_cleared o s = with_link o none (with_product o blank s)

-- ---- the fields then: heads and chain links

module _ (s : State) (c : List (List ℕ)) (l : List ℕ) where
  -- the head of chain j
  abbrev pub heads_with : ℕ → ℕ
  heads_with j = first (get_or c j [])

  -- the chain link of slot j
  abbrev pub chain_links_with : ℕ → ℕ
  chain_links_with j = successor_in c j (get_or l j none)

  pub value-with_chains : (f : Field) → value (with_chains c l s) f ≡ headed heads_with (linked chain_link_at chain_links_with (value s)) f
  unfolding slot_words
  value-with_chains (top k) = refl
  value-with_chains (head k) = refl
  value-with_chains (end k) = refl
  value-with_chains (mask k) = refl
  value-with_chains (lane i k) = refl
  value-with_chains (yard y) = refl
  value-with_chains (slot j k) = get_or_set (slot_words s j) chain_link_at k (chain_links_with j) 0 (omega arith)
