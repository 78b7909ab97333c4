-- The state that a memory reads as, by the memory's words.
use Prim.Native.Nat.{ℕ, ◌<◌}
use mathlib.Core.Path.{◌≡◌, refl}
use mathlib.Core.Bool.{Bool, true, false, cond}
use mathlib.Core.List.{List, []}
use lib.ListN.{length, get_or}
use Rattle.model.specs.Word.{none}
use Rattle.model.specs.Lists.{concat, member}
use Rattle.model.specs.State.{lane_count, is_running, is_held}
use Rattle.model.specs.Layout.{chain_count, chain_link_at}
use Rattle.model.specs.Engine.{lane_at, fresh_lane}
use Rattle.model.specs.Table.{product_at, blank}
use Rattle.model.specs.Memory.{sizes, slot_word, slot_field, read_chain, read_chains, read_lane, read_product, read_link, read_lookup, read_snapshot, state}
use Rattle.laws.specs.ListLaws.{length-map-from, get_or-map-below}

module _ (m : List ℕ) where
  pub length-slot_field : (k : ℕ) → length (slot_field m k) ≡ (sizes m).slots
  length-slot_field k = length-map-from (slot_word m k) 0 (sizes m).slots

  pub get_or-slot_field : (k i : ℕ) → i < (sizes m).slots → get_or (slot_field m k) i none ≡ slot_word m k i
  get_or-slot_field k i b = get_or-map-below (slot_word m k) (sizes m).slots i none b

  pub state-lanes : length (state m).engine.lanes ≡ lane_count (sizes m)
  unfolding state
  state-lanes = length-map-from (read_lane m) 0 (lane_count (sizes m))

  pub state-lane : (i : ℕ) → i < lane_count (sizes m) → lane_at (state m).engine i ≡ read_lane m i
  unfolding state
  state-lane i b = get_or-map-below (read_lane m) (lane_count (sizes m)) i fresh_lane b

  pub state-chains : length (state m).table.chains ≡ chain_count
  unfolding state read_chains
  state-chains = length-map-from (read_chain m) 0 chain_count

  pub state-chain : (k : ℕ) → k < chain_count → get_or (state m).table.chains k [] ≡ read_chain m k
  unfolding state read_chains
  state-chain k b = get_or-map-below (read_chain m) chain_count k [] b

  pub state-products : length (state m).table.products ≡ (sizes m).slots
  unfolding state
  state-products = length-map-from (read_product m) 0 (sizes m).slots

  pub state-product : (i : ℕ) → i < (sizes m).slots → product_at (state m).table.products i ≡ read_product m i
  unfolding state
  state-product i b = get_or-map-below (read_product m) (sizes m).slots i blank b

  pub state-links : length (state m).table.links ≡ (sizes m).slots
  unfolding state
  state-links = length-map-from (read_link m (read_chains m)) 0 (sizes m).slots

  pub state-link : (i : ℕ) → i < (sizes m).slots
      → get_or (state m).table.links i none ≡ cond (member i (concat (state m).table.chains)) none (slot_word m chain_link_at i)
  unfolding state
  state-link i b = get_or-map-below (read_link m (read_chains m)) (sizes m).slots i none b

  -- ---- lookup and snapshot by their flags

  pub is_running-read_lookup : (a : ℕ) (b : Bool) → is_running (read_lookup m a b) ≡ b
  unfolding is_running
  is_running-read_lookup a true = refl
  is_running-read_lookup a false = refl

  pub is_held-read_snapshot : (a : ℕ) (b : Bool) → is_held (read_snapshot m a b) ≡ b
  unfolding is_held
  is_held-read_snapshot a true = refl
  is_held-read_snapshot a false = refl
