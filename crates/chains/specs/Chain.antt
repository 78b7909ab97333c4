-- What the code does to a chain, in words of the memory: its head stands at `head`, in a table of sizes z. No legality is needed. A word
-- that is no slot's number ends a chain, as none does.
use Rattle.std.specs.Prelude.{ℕ, zero, suc, ◌+◌, ◌<◌, cond, Option, Some, None, Result, Ok, Err, List, set, leb, ltb, eqb}
use Rattle.model.specs.Word.{none}
use Rattle.model.specs.State.{Sizes}
use Rattle.model.specs.Layout.{code_at, deposit_at, material_at, chain_link_at, slot_address}
use Rattle.model.specs.Memory.{at, wide, low, high}
use Rattle.words.specs.Lent.{Lent}
use Rattle.chains.specs.declared.Found.{Found}

-- the memory holds a table with slot i
abbrev pub SlotLent : List ℕ → Sizes → ℕ → Type 0
SlotLent m z i = Lent m z × (i < z.slots)

-- where the chain link of slot i stands
abbrev pub link_address : Sizes → ℕ → ℕ
link_address z i = slot_address z i + chain_link_at

-- the code of slot i
abbrev pub code_words : List ℕ → Sizes → ℕ → ℕ
code_words m z i = wide m (slot_address z i + code_at)

-- the slot and the one before it, as the code holds them
abbrev pub found_at : ℕ → ℕ → Found
found_at o p = record { slot = o; prev = p }

module _ (m : List ℕ) (z : Sizes) (code : ℕ) where
  -- the slot that holds the code, and the one before it, from slot i on by the chain links, n slots at most; p stands before i
  unfoldable pub seek : ℕ → ℕ → ℕ → Found
  seek zero p i = found_at none p
  seek (suc n) p i =
      cond (leb z.slots i)
      (found_at none p)
      (cond (eqb (code_words m z i) code) (found_at i p) (seek n i (at m (link_address z i))))

-- what was found, or the slot at which the search ended: where its slot is none
abbrev pub sought : Found → Result Found ℕ
sought f = cond (eqb f.slot none) (Err f.prev) (Ok f)

-- what was found, if its slot is not none
abbrev pub found : Found → Option Found
found f = cond (eqb f.slot none) None (Some f)

-- what pointed at a slot, the link of p or the head where p is no slot, points to v
unfoldable pub pointed : List ℕ → Sizes → ℕ → ℕ → ℕ → List ℕ
pointed m z head p v = cond (ltb p z.slots) (set m (link_address z p) v) (set m head v)

-- slot o is linked at the head
abbrev pub linked_at_head : List ℕ → Sizes → ℕ → ℕ → List ℕ
linked_at_head m z head o = set (set m (link_address z o) (at m head)) head o

module _ (m : List ℕ) (z : Sizes) (head : ℕ) where
  -- slot s stands in the place of o, before which p stands: it has the link of o, which keeps it
  abbrev pub put_in_place : ℕ → ℕ → ℕ → List ℕ
  put_in_place o p s = pointed (set m (link_address z s) (at m (link_address z o))) z head p s

  -- slot o, before which p stands, leaves the chain; it keeps its link
  abbrev pub unlinked : ℕ → ℕ → List ℕ
  unlinked o p = pointed m z head p (at m (link_address z o))

-- the product of the slot whose record stands at b
abbrev pub product_set : List ℕ → ℕ → ℕ → ℕ → ℕ → List ℕ
product_set m b c d t = set (set (set (set m (b + code_at) (low c)) (b + code_at + 1) (high c)) (b + deposit_at) d) (b + material_at) t

-- the free values: code, deposit and material 0, chain link none
abbrev pub cleared : List ℕ → ℕ → List ℕ
cleared m b = set (product_set m b 0 0 0) (b + chain_link_at) none
