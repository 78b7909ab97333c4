-- A memory that holds the words of a well-formed state reads as that state.
use Prim.Native.Nat.{ℕ, ◌+◌, ◌<◌}
use mathlib.Core.Path.{◌≡◌, refl, sym, ap, ap₂, ◌∙◌, subst}
use mathlib.Core.Bool.{Bool, cond}
use mathlib.Core.List.{List, map}
use native.Mathlib.Omega.{arith}
use native.Mathlib.Decide.{dec_lt}
use lib.ListN.{get_or}
use Rattle.model.specs.Word.{none}
use Rattle.model.specs.Lists.{from, concat, count}
use Rattle.model.specs.State.{Sizes, Engine, Table, State}
use Rattle.model.specs.Layout.{cabinets_at, places_at, slots_at, yards_at, current_generation_at, largest_generation_at}
use Rattle.model.specs.Layout.{free_at, deposit_at, material_at, chain_link_at, slot_length, slot_address}
use Rattle.model.specs.Table.{blank, product_at}
use Rattle.model.specs.Memory.{at, contents, sizes, whole_of, slot_words, slot_word, read_product, read_link, state}
use Rattle.laws.specs.ListLaws.{map-from-get_or}
use Rattle.laws.specs.Counts.{member-false, member-true}
use Rattle.laws.specs.Successors.{successor_in-out}
use Rattle.representation.proofs.WellFormed.{WellFormed}
use Rattle.representation.proofs.Addresses.Fields.{top, end, slot, value}
use Rattle.representation.proofs.Addresses.Writes.{Image}
use Rattle.representation.proofs.FromState.Standing.{stands}
use Rattle.representation.proofs.FromState.RereadQueues.{sized, chains-are, queue-is, global-is}
use Rattle.representation.proofs.FromState.RereadLanes.{whole_of-low-high, lanes-are}

module _ (e : Engine) (t : Table) (m : List ℕ) where
  abbrev z : Sizes
  z = sizes m

  module _ (w : WellFormed (sized e t m)) (holds : Image z m (value (sized e t m))) where
    -- ---- slots

    pub product_is : (i : ℕ) → i < z.slots → read_product m i ≡ product_at t.products i
    unfolding read_product slot_words
    product_is i b =
        let a = slot_address z i in
        let r : (k x : ℕ) → k < slot_length → x ≡ a + k → at m x ≡ get_or (slot_words (sized e t m) i) k 0 = λ k x h q. ap (at m) q ∙ holds (slot i k) (b, h) in
        λ j. record {
          code = (ap₂ whole_of (r 0 a (omega arith) (omega arith)) (r 1 (a + 1) (omega arith) refl) ∙ whole_of-low-high (product_at t.products i).code) j;
          deposit = r deposit_at (a + deposit_at) (omega arith) refl j;
          material = r material_at (a + material_at) (omega arith) refl j;
        }

    products-are : map (read_product m) (from 0 z.slots) ≡ t.products
    products-are = map-from-get_or (read_product m) blank t.products z.slots w.table.products product_is

    links-are : map (read_link m t.chains) (from 0 z.slots) ≡ t.links
    unfolding slot_words
    links-are = map-from-get_or (read_link m t.chains) none t.links z.slots w.table.links link-is
      where
        link-is : (i : ℕ) → i < z.slots → read_link m t.chains i ≡ get_or t.links i none
        link-is i b =
            elim (dec_lt 0 (count i (concat t.chains))) [
              | yes p ↦
                  ap (λ (c : Bool). cond c none (slot_word m chain_link_at i)) (member-true i (concat t.chains) p)
                  ∙ sym (w.unlinked i (omega (arith, stands (sized e t m) w i)))
              | no p ↦
                  let c : count i (concat t.chains) ≡ 0 = omega arith in
                  ap (λ (c : Bool). cond c none (slot_word m chain_link_at i)) (member-false i (concat t.chains) c)
                  ∙ holds (slot i chain_link_at) (b, omega arith) ∙ successor_in-out t.chains i _ c
            ]

    -- ---- the state

    pub reread-sized : state m ≡ sized e t m
    unfolding contents state
    reread-sized = λ i. record {
      sizes = z;
      engine = record {
        current = holds (top current_generation_at) (omega arith) i;
        largest = holds (top largest_generation_at) (omega arith) i;
        lanes = lanes-are e t m w holds i;
        global = global-is e t m w holds i;
      };
      table = record {
        chains = chains-are e t m w holds i;
        free = queue-is e t m w holds free_at 0 (holds (end 0) (omega arith)) i;
        products = products-are i;
        links = (ap (λ (cs : List (List ℕ)). map (read_link m cs) (from 0 z.slots)) (chains-are e t m w holds) ∙ links-are) i;
      };
    }

-- ---- any state that the memory holds has its sizes

module _ (s : State) (m : List ℕ) (holds : Image s.sizes m (value s)) where
  sizes-are : sizes m ≡ s.sizes
  unfolding contents
  sizes-are = λ i. record {
    yards = holds (top yards_at) (omega arith) i;
    cabinets = holds (top cabinets_at) (omega arith) i;
    places = holds (top places_at) (omega arith) i;
    slots = holds (top slots_at) (omega arith) i;
  }

  -- what holds of every state of the memory's sizes holds of s
  pub at-sizes : (P : State → Type 0)
      → (WellFormed (sized s.engine s.table m) → Image (sizes m) m (value (sized s.engine s.table m)) → P (sized s.engine s.table m))
      → WellFormed s → P s
  at-sizes P f w = subst (λ (z : Sizes). WellFormed (of z) → Image z m (value (of z)) → P (of z)) sizes-are f w holds
    where
      of : Sizes → State
      of z = record { sizes = z; engine = s.engine; table = s.table }

pub reread : (s : State) (m : List ℕ) → WellFormed s → Image s.sizes m (value s) → state m ≡ s
reread s m w holds = at-sizes s m holds (λ s. state m ≡ s) (reread-sized s.engine s.table m) w
