-- What the laws of changes ask of a state, and what every state within a call has: the discipline of generations is no part of it, and a slot may
-- stand nowhere while a call moves it.
use Prim.Native.Nat.{ℕ, ◌+◌, ◌<◌, ◌≤◌}
use mathlib.Core.Path.{◌≡◌}
use native.Mathlib.Omega.{arith}
use lib.ListN.{length}
use Rattle.model.specs.Lists.{concat, count}
use Rattle.model.specs.State.{State, lane_count}
use Rattle.model.specs.Layout.{max_slots, chain_count}
use Rattle.model.specs.Memory.{all_queues}
use Rattle.representation.proofs.WellFormed.{WellFormed}
use Rattle.representation.proofs.FromState.Standing.{fit, stands}

-- how often slot i stands in chains
abbrev pub chained : ℕ → State → ℕ
chained i s = count i (concat s.table.chains)

-- how often it stands in queues
abbrev pub queued : ℕ → State → ℕ
queued i s = count i (concat (all_queues s))

-- a lane at each place
abbrev pub LaneAtEach : State → Type 0
LaneAtEach s = length s.engine.lanes ≡ lane_count s.sizes

pub record Shape (s : State) : Type 0 where
  -- none is no slot
  pub few : s.sizes.slots ≤ max_slots
  pub chains : length s.table.chains ≡ chain_count
  pub lanes : LaneAtEach s
  pub links : length s.table.links ≡ s.sizes.slots
  pub products : length s.table.products ≡ s.sizes.slots
  -- each slot stands at most once
  pub once : (i : ℕ) → chained i s + queued i s ≤ 1
  -- and nothing else stands there
  pub below : (i : ℕ) → 0 < chained i s + queued i s → i < s.sizes.slots

pub well_formed-shape : (s : State) → WellFormed s → Shape s
well_formed-shape s w = record {
  few = (fit s w).few_slots;
  chains = w.table.chains;
  lanes = w.lanes;
  links = w.table.links;
  products = w.table.products;
  once = λ i. omega (arith, stands s w i);
  below = λ i h. w.range i (omega (arith, stands s w i));
}
