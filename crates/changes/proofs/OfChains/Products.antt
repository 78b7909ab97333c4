-- What the word-level functions of slots do to a state that the memory shows: what a slot holds, and the free values.
use Prim.Native.Nat.{ℕ, zero, suc, ◌+◌, ◌<◌}
use mathlib.Core.Bool.{cond}
use mathlib.Core.Path.{◌≡◌, refl, ap, ◌∙◌}
use mathlib.Core.List.{List}
use native.Mathlib.Omega.{arith}
use lib.ListN.{length, set}
use lib.Seq.{get_or-set_same, get_or-set_other}
use lib.Dec.{eqb}
use Rattle.model.specs.Word.{none}
use Rattle.model.specs.State.{Sizes, Product, State}
use Rattle.model.specs.Layout.{code_at, deposit_at, material_at, chain_link_at, slot_address}
use Rattle.model.specs.Table.{blank, product, product_at, link_of}
use Rattle.model.specs.Memory.{slot_words, low, high}
use Rattle.model.specs.Calls.{stored}
use Rattle.laws.specs.Tests.{eqb-self, same, other, decide}
use Rattle.laws.specs.ListLaws.{get_or_set}
use Rattle.laws.specs.Successors.{successor_in-out}
use Rattle.representation.proofs.Addresses.Fields.{Field, top, head, end, mask, lane, slot, yard, Inside, value}
use Rattle.representation.proofs.Addresses.Writes.{Writes, put, writes-none, writes-put, writes-done}
use Rattle.chains.specs.Chain.{link_address, product_set, cleared}
use Rattle.changes.proofs.Shows.{Shows, shows_then, stored-then}
use Rattle.changes.proofs.Shape.{Shape, chained}
use Rattle.changes.proofs.Puts.{linked, linked-put-one, headed-same}
use Rattle.changes.proofs.OfChains.ChainStates.{with_link, with_product, slot_cleared, heads_with, chain_links_with, value-with_chains}

module _ (s : State) (m : List ℕ) (shows : Shows m s) (o : ℕ) (inside : o < s.sizes.slots) where
  abbrev z : Sizes
  z = s.sizes

  none_yet : Writes z m m (value s)
  none_yet = writes-none z m shows.long (value s) shows.image

  -- ---- what the slot holds

  module _ (products : length s.table.products ≡ z.slots) (c d t : ℕ) where
    abbrev p : Product
    p = product c d t

    -- each word of a slot's product
    product-part : (g : Product → ℕ) (j : ℕ) → g (product_at (set s.table.products o p) j) ≡ cond (eqb j o) (g p) (g (product_at s.table.products j))
    product-part g j =
        ap g (get_or_set s.table.products o j p blank (omega arith))
        ∙ elim (decide j o) [
          | same e u v ↦ rw u
          | other e u v ↦ rw u
        ]

    abbrev low_value : Field → ℕ
    low_value = put (value s) (slot o code_at) (low c)

    abbrev code_value : Field → ℕ
    code_value = put low_value (slot o (code_at + 1)) (high c)

    abbrev deposit_value : Field → ℕ
    deposit_value = put code_value (slot o deposit_at) d

    value-product : (f : Field) → Inside z f → value (with_product o p s) f ≡ put deposit_value (slot o material_at) t f
    unfolding slot_words
    value-product (top k) b = refl
    value-product (head k) b = refl
    value-product (end k) b = refl
    value-product (mask k) b = refl
    value-product (lane i k) b = refl
    value-product (yard y) b = refl
    value-product (slot j zero) b = product-part (λ (q : Product). low q.code) j
    value-product (slot j (suc zero)) b = product-part (λ (q : Product). high q.code) j
    value-product (slot j (suc (suc zero))) b = product-part (λ (q : Product). q.deposit) j
    value-product (slot j (suc (suc (suc zero)))) b = product-part (λ (q : Product). q.material) j
    value-product (slot j (suc (suc (suc (suc zero))))) b = refl
    value-product (slot j (suc (suc (suc (suc (suc zero)))))) b = refl
    value-product (slot j (suc (suc (suc (suc (suc (suc k))))))) b = absurd (omega (arith, b.1))

    abbrev base : ℕ
    base = slot_address z o

    abbrev low_set : List ℕ
    low_set = set m (base + code_at) (low c)

    abbrev code_set : List ℕ
    code_set = set low_set (base + code_at + 1) (high c)

    abbrev deposit_set : List ℕ
    deposit_set = set code_set (base + deposit_at) d

    pub write-product : product_set m (slot_address z o) c d t ≡ stored (with_product o p s) m
    write-product =
        writes-done (with_product o p s) m (set deposit_set (base + material_at) t) (put deposit_value (slot o material_at) t) shows.long
        (writes-put z m shows.long deposit_set deposit_value (slot o material_at) (base + material_at) t refl (inside, omega arith)
        (writes-put z m shows.long code_set code_value (slot o deposit_at) (base + deposit_at) d refl (inside, omega arith)
        (writes-put z m shows.long low_set low_value (slot o (code_at + 1)) (base + code_at + 1) (high c) (omega arith) (inside, omega arith)
        (writes-put z m shows.long m (value s) (slot o code_at) (base + code_at) (low c) refl (inside, omega arith) none_yet))))
        value-product

  -- ---- the chain link of a slot that stands in no chain

  module _ (links : length s.table.links ≡ z.slots) (out : chained o s ≡ 0) (x : ℕ) where
    links-set : (j : ℕ) → chain_links_with s s.table.chains (set s.table.links o x) j ≡ cond (eqb j o) x (link_of s.table j)
    links-set j =
        elim (decide j o) [
          | same e t u ↦ rw e (rw (eqb-self o, get_or-set_same s.table.links o x none (omega arith)) (successor_in-out s.table.chains o x out))
          | other e t u ↦ rw (t, get_or-set_other s.table.links o j x none e)
        ]

    abbrev l : List ℕ
    l = set s.table.links o x

    pub write-link : set m (link_address z o) x ≡ stored (with_link o x s) m
    unfolding slot_words
    write-link =
        writes-done (with_link o x s) m (set m (link_address z o) x) (put (value s) (slot o chain_link_at) x) shows.long
        (writes-put z m shows.long m (value s) (slot o chain_link_at) (link_address z o) x refl (inside, omega arith) none_yet)
        (λ f b. value-with_chains s s.table.chains l f
        ∙ headed-same z (heads_with s s.table.chains l) (linked chain_link_at (chain_links_with s s.table.chains l) (value s)) (λ j i. refl) f b
        ∙ linked-put-one z chain_link_at (chain_links_with s s.table.chains l) (value s) o x (λ j i. links-set j) f b)

-- ---- the free values

pub clear-slot : (s : State) (m : List ℕ) → Shows m s → Shape s → (o : ℕ) → o < s.sizes.slots → chained o s ≡ 0
    → cleared m (slot_address s.sizes o) ≡ stored (slot_cleared o s) m
clear-slot s m shows w o inside out =
    stored-then t (slot_cleared o s) m n (cleared m (slot_address s.sizes o)) refl written
    (write-link t n (shows_then t m n shows.long written) o inside w.links out none)
  where
    t : State
    t = with_product o blank s

    n : List ℕ
    n = product_set m (slot_address s.sizes o) 0 0 0

    written : n ≡ stored t m
    written = write-product s m shows o inside w.products 0 0 0
