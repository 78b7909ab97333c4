-- One slot's part of legality's sentences where it stands, for a slot whose words begin at b. A link that is followed needs no test here: the
-- walk tests it, and the last of a walk is none.
use Rattle.std.specs.Prelude.{ℕ, ◌+◌, ◌*◌, ◌%◌, Bool, not, ◌&&◌, List, eqb}
use Rattle.model.specs.Word.{none}
use Rattle.model.specs.Layout.{chain_count, deposit_at, material_at, chain_link_at, queue_link_at, slot_length}
use Rattle.model.specs.Rules.{wrong_product}
use Rattle.model.specs.Memory.{at, wide}
use Rattle.words.specs.Links.{slot_or_none}
use Rattle.distinct_codes.specs.declared.slots.Slots.{Slots}
use Rattle.slot_places.specs.declared.slots.Slot.{Slot}
use Rattle.slot_places.specs.declared.slots.Queued.{Queued}
use Rattle.slot_places.specs.declared.slots.Queued.TheVariants.{Free, Retired}

module _ (m : List ℕ) (b : ℕ) where
  abbrev pub product_in_range : Bool
  product_in_range = not (wrong_product (wide m b) (at m (b + deposit_at)) (at m (b + material_at)))

  -- on chain k: its code's, the product in range, queue link none
  abbrev pub chained_at : ℕ → Bool
  chained_at k = eqb (wide m b % chain_count) k && product_in_range && eqb (at m (b + queue_link_at)) none

  -- free: code, deposit and material 0, chain link none
  abbrev pub free_at : Bool
  free_at = eqb (wide m b) 0 && eqb (at m (b + deposit_at)) 0 && eqb (at m (b + material_at)) 0 && eqb (at m (b + chain_link_at)) none

  -- retired: the product and the chain link in range
  abbrev pub retired_at : ℕ → Bool
  retired_at slots = product_in_range && slot_or_none slots (at m (b + chain_link_at))

-- slot i, slot 0's words beginning at base
module _ (m : List ℕ) (base : ℕ) where
  abbrev pub chained_fits : ℕ → ℕ → Bool
  chained_fits k i = chained_at m (base + slot_length * i) k

  -- in a queue of free slots, or of retired ones
  abbrev pub queued_fits : ℕ → Queued → ℕ → Bool
  queued_fits slots Free i = free_at m (base + slot_length * i)
  queued_fits slots Retired i = retired_at m (base + slot_length * i) slots

-- the words of slot i
abbrev pub slot_in : Slots → ℕ → Slot
slot_in t i =
    let m = t.memory.now in
    let b = t.base + slot_length * i in
    record {
      product = record { code = wide m b; deposit = at m (b + deposit_at); material = at m (b + material_at) };
      chain = at m (b + chain_link_at);
      queue = at m (b + queue_link_at);
    }
