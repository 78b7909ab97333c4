-- One address for each field of a table's words (document 01, "The memory"): the addresses are those of the layout's areas, so that two fields never
-- share a word and every word below the total is a field. A store at a field's address changes that field alone.
use Prim.Native.Nat.{ℕ, zero, suc, ◌+◌, ◌-◌, ◌≤◌, ◌<◌}
use mathlib.Core.Bool.{Bool, true, false, cond, ◌&&◌}
use mathlib.Core.Path.{◌≡◌, refl, ap, ap₂, sym, ◌∙◌}
use mathlib.Core.List.{List, [], ◌∷◌, ◌++◌}
use native.Mathlib.Omega.{arith}
use lib.ListN.{get_or, length, set, drop, get_or-append}
use lib.Seq.{get_or-set_same, get_or-set_other, get_or-drop}
use lib.Dec.{eqb}
use borrow.Author.Tests.{eqb-true}
use Rattle.model.specs.State.{Sizes, cabinet_count, lane_count, State}
use Rattle.model.specs.Layout.{chain_count, queue_width, heads_at, free_at, masks_at, lane_length, slot_length, lane_address, slot_address, yards_body, total}
use Rattle.model.specs.Memory.{at, contents, queue_words, three_words, lane_mask, cabinet_mask, yard_mask, lane_words_at, slot_words, head_of}
use Rattle.laws.specs.Tests.{and-true, clash, eqb-self}
use Rattle.laws.specs.Areas.{Extent, rows, extent, Within, Spot, address as address_in, address-lt, address-injective, address-onto}

-- ---- fields

-- top: the contents and the global words before the chain heads. end: the global words after them, from those of the free queue on
pub data Field : Type 0 where
  top head end mask yard : ℕ → Field
  lane slot : ℕ → ℕ → Field

-- the number of global words from those of the free queue on
abbrev pub ends_length : ℕ
ends_length = masks_at - free_at

abbrev pub address : Sizes → Field → ℕ
address z (top k) = k
address z (head k) = heads_at + k
address z (end k) = free_at + k
address z (mask c) = masks_at + c
address z (lane i k) = lane_address z i + k
address z (slot i k) = slot_address z i + k
address z (yard y) = yards_body z + y

abbrev pub Inside : Sizes → Field → Type 0
Inside z (top k) = k < heads_at
Inside z (head k) = k < chain_count
Inside z (end k) = k < ends_length
Inside z (mask c) = c < cabinet_count z
Inside z (lane i k) = (i < lane_count z) × (k < lane_length)
Inside z (slot i k) = (i < z.slots) × (k < slot_length)
Inside z (yard y) = y < z.yards

-- ---- what a state's fields hold

abbrev pub top_words : State → List ℕ
top_words s = contents s.sizes ++ (s.engine.current ∷ s.engine.largest ∷ yard_mask s ∷ [])

abbrev pub end_words : State → List ℕ
end_words s = queue_words s.table.free ++ three_words s.engine.global ++ (s.engine.global.generation ∷ [])

abbrev pub value : State → Field → ℕ
value s (top k) = get_or (top_words s) k 0
value s (head k) = head_of s.table k
value s (end k) = get_or (end_words s) k 0
value s (mask c) = lane_mask s c
value s (lane i k) = get_or (lane_words_at s i) k 0
value s (slot i k) = get_or (slot_words s i) k 0
value s (yard y) = cabinet_mask s y

-- a queue's words, where among the words ws those of the queue xs stand from n on
pub queue-word : (ws rest xs : List ℕ) (n o : ℕ) → drop n ws ≡ queue_words xs ++ rest → o < queue_width → get_or ws (n + o) 0 ≡ get_or (queue_words xs) o 0
queue-word ws rest xs n o is h = sym (get_or-drop n ws o 0) ∙ ap (λ (r : List ℕ). get_or r o 0) is ∙ get_or-append (queue_words xs) rest 0 o h

-- ---- the areas of the layout

abbrev pub area : Field → ℕ
area (top k) = 0
area (head k) = 1
area (end k) = 2
area (mask k) = 3
area (lane i k) = 4
area (slot i k) = 5
area (yard y) = 6

abbrev pub row : Field → ℕ
row (top k) = 0
row (head k) = k
row (end k) = 0
row (mask k) = k
row (lane i k) = i
row (slot i k) = i
row (yard y) = y

abbrev pub column : Field → ℕ
column (top k) = k
column (head k) = 0
column (end k) = k
column (mask k) = 0
column (lane i k) = k
column (slot i k) = k
column (yard y) = 0

abbrev pub layout : Sizes → List Extent
layout z =
    rows 1 heads_at ∷ rows chain_count 1 ∷ rows 1 ends_length
    ∷ rows (cabinet_count z) 1 ∷ rows (lane_count z) lane_length ∷ rows z.slots slot_length ∷ rows z.yards 1 ∷ []

module _ (z : Sizes) where
  pub address-of : (f : Field) → address z f ≡ address_in (layout z) (area f) (row f) (column f)
  address-of (top k) = omega arith
  address-of (head k) = omega arith
  address-of (end k) = omega arith
  address-of (mask c) = omega arith
  address-of (lane i k) = omega arith
  address-of (slot i k) = omega arith
  address-of (yard y) = omega arith

  pub within_of : (f : Field) → Inside z f → Within (layout z) (area f) (row f) (column f)
  within_of (top k) h = record { row = omega arith; column = h }
  within_of (head k) h = record { row = h; column = omega arith }
  within_of (end k) h = record { row = omega arith; column = h }
  within_of (mask c) h = record { row = h; column = omega arith }
  within_of (lane i k) h = record { row = h.0; column = h.1 }
  within_of (slot i k) h = record { row = h.0; column = h.1 }
  within_of (yard y) h = record { row = h; column = omega arith }

  pub extent-of : extent (layout z) ≡ total z
  extent-of = omega arith

  pub address_below : (f : Field) → Inside z f → address z f < total z
  address_below f h = omega (arith, address-of f, extent-of, address-lt (layout z) (area f) (row f) (column f) (within_of f h))

  -- every word below the total is a field
  pub record Place (a : ℕ) : Type 0 where
    pub field : Field
    pub inside : Inside z field
    pub there : a ≡ address z field

  pub place : (a : ℕ) → a < total z → Place a
  place a h = go r.area r.row r.column r.within r.there
    where
      r : Spot (layout z) a
      r = address-onto (layout z) a (omega (arith, extent-of))

      go : (n i k : ℕ) → Within (layout z) n i k → a ≡ address_in (layout z) n i k → Place a
      go zero i k w e = record { field = top k; inside = w.column; there = omega (arith, w.row) }
      go (suc zero) i k w e = record { field = head i; inside = w.row; there = omega (arith, w.column) }
      go (suc (suc zero)) i k w e = record { field = end k; inside = w.column; there = omega (arith, w.row) }
      go (suc (suc (suc zero))) i k w e = record { field = mask i; inside = w.row; there = omega (arith, w.column) }
      go (suc (suc (suc (suc zero)))) i k w e = record { field = lane i k; inside = (w.row, w.column); there = omega arith }
      go (suc (suc (suc (suc (suc zero))))) i k w e = record { field = slot i k; inside = (w.row, w.column); there = omega arith }
      go (suc (suc (suc (suc (suc (suc zero)))))) i k w e = record { field = yard i; inside = w.row; there = omega (arith, w.column) }
      go (suc (suc (suc (suc (suc (suc (suc n))))))) i k w e = absurd (omega (arith, w.row))

-- ---- a store changes one field

abbrev pub same_field : Field → Field → Bool
same_field f g = eqb (area f) (area g) && eqb (column f) (column g) && eqb (row f) (row g)

-- two fields at one address are the same
pub address-injective-fields : (z : Sizes) (f g : Field) → Inside z f → Inside z g → address z f ≡ address z g → same_field f g ≡ true
address-injective-fields z f g p q e =
    let r = address-injective (layout z) (area f) (area g) (row f) (row g) (column f) (column g)
    (within_of z f p) (within_of z g q) (sym (address-of z f) ∙ e ∙ address-of z g) in
    rw (r.area, r.row, r.column) (rw (eqb-self (area g), eqb-self (column g), eqb-self (row g)))

-- the same fields are at one address
pub same_field-address : (z : Sizes) (f g : Field) → same_field f g ≡ true → address z f ≡ address z g
same_field-address z f g e =
    let t = and-true (eqb (area f) (area g) && eqb (column f) (column g)) (eqb (row f) (row g)) e in
    let u = and-true (eqb (area f) (area g)) (eqb (column f) (column g)) t.0 in
    address-of z f
    ∙ ap (λ (a : ℕ). address_in (layout z) a (row f) (column f)) (eqb-true (area f) (area g) u.0)
    ∙ ap₂ (λ (i k : ℕ). address_in (layout z) (area g) i k) (eqb-true (row f) (row g) t.1) (eqb-true (column f) (column g) u.1)
    ∙ sym (address-of z g)

-- a load of field f after a store to field g
pub load : (z : Sizes) (f g : Field) → Inside z f → Inside z g → (m : List ℕ) (v : ℕ) → total z ≤ length m
    → at (set m (address z g) v) (address z f) ≡ cond (same_field f g) v (at m (address z f))
load z f g p q m v t = go (same_field f g) refl
  where
    go : (b : Bool) → same_field f g ≡ b → at (set m (address z g) v) (address z f) ≡ cond b v (at m (address z f))
    go true e = ap (at (set m (address z g) v)) (same_field-address z f g e) ∙ get_or-set_same m (address z g) v 0 (omega (arith, address_below z g q))
    go false e = get_or-set_other m (address z g) (address z f) v 0 (λ r. clash (address-injective-fields z f g p q r) e)
