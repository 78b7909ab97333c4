-- What the word-level functions of chains do to a state that the memory shows.
use Prim.Native.Nat.{ℕ, ◌+◌, ◌<◌}
use mathlib.Core.Bool.{false, cond}
use mathlib.Core.Path.{◌≡◌, refl, ap, sym, ◌∙◌}
use mathlib.Core.List.{List, [], ◌∷◌}
use native.Mathlib.Omega.{arith}
use lib.ListN.{length, get_or, set}
use lib.Dec.{eqb}
use borrow.Author.Tests.{lt-ltb, le-ltb, ne_eqb}
use Rattle.model.specs.Word.{none}
use Rattle.model.specs.Lists.{update, first, count, without, swapped}
use Rattle.model.specs.State.{Sizes, State}
use Rattle.model.specs.Layout.{chain_count, chain_link_at, heads_at}
use Rattle.model.specs.Table.{link_of}
use Rattle.model.specs.Memory.{at, head_of, slot_words}
use Rattle.model.specs.Calls.{stored}
use Rattle.laws.specs.Tests.{same, other, decide}
use Rattle.laws.specs.ListLaws.{get_or-update}
use Rattle.representation.proofs.Addresses.Fields.{Field, head, slot, Inside, value}
use Rattle.representation.proofs.Addresses.Writes.{Writes, put, writes-none, writes-put, writes-done}
use Rattle.chains.specs.Chain.{link_address, pointed, linked_at_head, put_in_place, unlinked}
use Rattle.chains.proofs.AllChains.{add-links}
use Rattle.changes.proofs.Shows.{Shows}
use Rattle.changes.proofs.Shape.{Shape, chained}
use Rattle.changes.proofs.Puts.{put-over, linked, linked-alike, linked-same, linked-put, linked-put-one, headed, headed-same, headed-put, writes-alike}
use Rattle.changes.proofs.OfChains.ChainStates.{with_chains, head_added, chain_less, chain_swapped, heads_with, chain_links_with, value-with_chains}
use Rattle.changes.proofs.OfChains.ChainLinks.{before, before-cases, old-inside, heads-less, links-less, heads-swapped, links-swapped}

module _ (s : State) (m : List ℕ) (shows : Shows m s) where
  abbrev z : Sizes
  z = s.sizes

  none_yet : Writes z m m (value s)
  none_yet = writes-none z m shows.long (value s) shows.image

  pub link-shown : (o : ℕ) → o < z.slots → at m (link_address z o) ≡ link_of s.table o
  unfolding slot_words
  link-shown o b = shows.image (slot o chain_link_at) (b, omega arith)

  pub head-shown : (k : ℕ) → k < chain_count → at m (heads_at + k) ≡ head_of s.table k
  head-shown k b = shows.image (head k) b

  -- the stores left chains c and links l
  chains-done : (c : List (List ℕ)) (l : List ℕ) (n : List ℕ) (v : Field → ℕ) → Writes z m n v
      → ((f : Field) → Inside z f → headed (heads_with s c l) (linked chain_link_at (chain_links_with s c l) (value s)) f ≡ v f) → n ≡ stored (with_chains c l s) m
  chains-done c l n v p e = writes-done (with_chains c l s) m n v shows.long p (λ f b. value-with_chains s c l f ∙ e f b)

  -- ---- what pointed at slot o of chain k points to x

  -- p stands before o; the chain links u are stored already
  module _ (w : Shape s) (k o : ℕ) (below : k < chain_count) (in_chain : 0 < count o (get_or s.table.chains k []))
      (n : List ℕ) (u : ℕ → ℕ) (x : ℕ) (c : List (List ℕ)) (l : List ℕ) (stores : Writes z m n (linked chain_link_at u (value s)))
      (heads : (j : ℕ) → heads_with s c l j
      ≡ cond (eqb j k) (cond (eqb none (before s w k o below in_chain)) x (first (get_or s.table.chains k []))) (first (get_or s.table.chains j [])))
      (links : (j : ℕ) → j < z.slots → chain_links_with s c l j ≡ cond (eqb j (before s w k o below in_chain)) x (u j)) where
    abbrev old : Field → ℕ
    old = linked chain_link_at u (value s)

    abbrev new : Field → ℕ
    new = linked chain_link_at (chain_links_with s c l) (value s)

    -- the words, whichever stands before o
    abbrev Pointed : ℕ → Type 0
    Pointed p =
        ((j : ℕ) → heads_with s c l j ≡ cond (eqb j k) (cond (eqb none p) x (first (get_or s.table.chains k []))) (first (get_or s.table.chains j [])))
        → ((j : ℕ) → j < z.slots → chain_links_with s c l j ≡ cond (eqb j p) x (u j))
        → pointed n z (heads_at + k) p x ≡ stored (with_chains c l s) m

    pointed-slot : (p : ℕ) → p < z.slots → eqb none p ≡ false → Pointed p
    unfolding pointed
    pointed-slot p b e h g =
        rw (lt-ltb p z.slots b)
        (chains-done c l (set n (link_address z p) x) (put old (slot p chain_link_at) x)
        (writes-put z m shows.long n old (slot p chain_link_at) (link_address z p) x refl (b, omega arith) stores)
        (λ f d. headed-same z (heads_with s c l) new (λ j i. h j ∙ rw e (same_head j)) f d
        ∙ linked-put z chain_link_at (chain_links_with s c l) u (value s) p x g f d))
      where
        same_head : (j : ℕ)
            → cond (eqb j k) (first (get_or s.table.chains k [])) (first (get_or s.table.chains j [])) ≡ first (get_or s.table.chains j [])
        same_head j =
            elim (decide j k) [
              | same q t v ↦ rw t (ap (λ (i : ℕ). first (get_or s.table.chains i [])) (sym q))
              | other q t v ↦ rw t
            ]

    pointed-none : Pointed none
    unfolding pointed
    pointed-none h g =
        rw (le-ltb none z.slots (omega (arith, w.few)))
        (chains-done c l (set n (heads_at + k) x) (put old (head k) x)
        (writes-put z m shows.long n old (head k) (heads_at + k) x refl below stores)
        (λ f d. headed-put z (heads_with s c l) new k x (λ j i. h j) f d
        ∙ put-over new old (head k) x f
        (linked-alike z chain_link_at (chain_links_with s c l) u (value s) (λ j i. g j i ∙ rw (ne_eqb j none (λ q. omega (arith, w.few)))) f d)))

    pointed-state : pointed n z (heads_at + k) (before s w k o below in_chain) x ≡ stored (with_chains c l s) m
    pointed-state = before-cases s w k o below in_chain Pointed pointed-slot pointed-none heads links

  -- ---- unlink, put in place

  module _ (w : Shape s) (k o : ℕ) (below : k < chain_count) (in_chain : 0 < count o (get_or s.table.chains k [])) where
    -- the chain link of o, which it keeps
    abbrev next : ℕ
    next = link_of s.table o

    abbrev kept : List ℕ
    kept = set s.table.links o next

    inside-o : o < z.slots
    inside-o = old-inside s w k o below in_chain

    pub unlink-slot : unlinked m z (heads_at + k) o (before s w k o below in_chain) ≡ stored (chain_less k o s) m
    unfolding slot_words
    unlink-slot =
        rw (link-shown o inside-o)
        (pointed-state w k o below in_chain m (link_of s.table) next (update s.table.chains k (without o)) kept
        (writes-alike (linked chain_link_at (link_of s.table) (value s))
        (λ f b. sym (linked-same z chain_link_at (link_of s.table) (value s) (λ j i. refl) f b)) none_yet)
        (heads-less s w k o below in_chain kept)
        (links-less s w k o below in_chain))

    module _ (n : ℕ) (inside : n < z.slots) (out : chained n s ≡ 0) where
      -- the chain links once n has that of o
      abbrev given : ℕ → ℕ
      given j = cond (eqb j n) next (link_of s.table j)

      pub put_in_place_lem : put_in_place m z (heads_at + k) o (before s w k o below in_chain) n ≡ stored (chain_swapped k o n s) m
      unfolding slot_words
      put_in_place_lem =
          rw (link-shown o inside-o)
          (pointed-state w k o below in_chain (set m (link_address z n) next) given n (update s.table.chains k (swapped o n)) kept
          (writes-alike (linked chain_link_at given (value s)) (λ f b. sym (linked-put-one z chain_link_at given (value s) n next (λ j i. refl) f b))
          (writes-put z m shows.long m (value s) (slot n chain_link_at) (link_address z n) next refl (inside, omega arith) none_yet))
          (heads-swapped s w k o below in_chain n inside out kept)
          (links-swapped s w k o below in_chain n inside out))

  -- ---- link at the head

  module _ (w : Shape s) (k o : ℕ) (below : k < chain_count) (inside : o < z.slots) (out : chained o s ≡ 0) where
    abbrev longer : List (List ℕ)
    longer = update s.table.chains k (◌∷◌ o)

    k-inside : k < length s.table.chains
    k-inside = omega (arith, w.chains)

    heads-added : (j : ℕ) → heads_with s longer s.table.links j ≡ cond (eqb j k) o (head_of s.table j)
    unfolding first
    heads-added j =
        ap first (get_or-update s.table.chains k j (◌∷◌ o) [] k-inside)
        ∙ elim (decide j k) [
          | same e t u ↦ rw t
          | other e t u ↦ rw t
        ]

    links-added : (j : ℕ) → chain_links_with s longer s.table.links j ≡ cond (eqb j o) (head_of s.table k) (link_of s.table j)
    links-added j = add-links s.table.chains k k-inside (λ x. omega (arith, w.once x)) o j (get_or s.table.links j none) out

    -- the words and the fields once o has the link to the old head
    abbrev link_set : List ℕ
    link_set = set m (link_address z o) (head_of s.table k)

    abbrev link_value : Field → ℕ
    link_value = put (value s) (slot o chain_link_at) (head_of s.table k)

    abbrev links : ℕ → ℕ
    links = chain_links_with s longer s.table.links

    pub link-at-head : linked_at_head m z (heads_at + k) o ≡ stored (head_added k o s) m
    unfolding slot_words
    link-at-head =
        rw (head-shown k below)
        (chains-done longer s.table.links (set link_set (heads_at + k) o) (put link_value (head k) o)
        (writes-put z m shows.long link_set link_value (head k) (heads_at + k) o refl below
        (writes-put z m shows.long m (value s) (slot o chain_link_at) (link_address z o) (head_of s.table k) refl (inside, omega arith) none_yet))
        (λ f b. headed-put z (heads_with s longer s.table.links) (linked chain_link_at links (value s)) k o (λ j i. heads-added j) f b
        ∙ put-over (linked chain_link_at links (value s)) link_value (head k) o f
        (linked-put-one z chain_link_at links (value s) o (head_of s.table k) (λ j i. links-added j) f b)))
