-- Document 01, "The table": hash chains of slots, and what the slots hold.
use Rattle.std.specs.Prelude.{ℕ, ◌%◌, Bool, not, cond, List, [], ◌∷◌, ◌++◌, get_or, set, eqb}
use Rattle.model.specs.Word.{none}
use Rattle.model.specs.Lists.{update, first, tail, successor_in, without, swapped}
use Rattle.model.specs.State.{Product, Table}
use Rattle.model.specs.Layout.{chain_count}

-- what a free slot holds
abbrev pub blank : Product
blank = record { code = 0; deposit = 0; material = 0 }

abbrev pub product : ℕ → ℕ → ℕ → Product
product c d m = record { code = c; deposit = d; material = m }

-- what slot i holds
abbrev pub product_at : List Product → ℕ → Product
product_at ps i = get_or ps i blank

-- the number of the chain of code c
abbrev pub chain_number : ℕ → ℕ
chain_number c = c % chain_count

abbrev pub chain_of : Table → ℕ → List ℕ
chain_of t c = get_or t.chains (chain_number c) []

-- the first slot of xs that holds code c, or none
unfoldable pub slot_in : List Product → ℕ → List ℕ → ℕ
slot_in ps c [] = none
slot_in ps c (x ∷ xs) = cond (eqb (product_at ps x).code c) x (slot_in ps c xs)

-- the slot of code c, or none
abbrev pub slot_of : Table → ℕ → ℕ
slot_of t c = slot_in t.products c (chain_of t c)

abbrev pub present : Table → ℕ → Bool
present t c = not (eqb (slot_of t c) none)

-- a slot's chain link: what comes after it in its chain; of a retired slot, what came after it when it was removed
abbrev pub link_of : Table → ℕ → ℕ
link_of t i = successor_in t.chains i (get_or t.links i none)

-- add: the first free slot is linked at the chain's head
unfoldable pub added : Product → Table → Table
added p t =
    let s = first t.free in
    record { chains = update t.chains (chain_number p.code) (◌∷◌ s); free = tail t.free; products = set t.products s p; links = t.links }

-- replace: the first free slot takes the old one's place in the chain; the old one keeps its chain link
unfoldable pub replaced : Product → Table → Table
replaced p t =
    let s = first t.free in
    let o = slot_of t p.code in
    record {
      chains = update t.chains (chain_number p.code) (swapped o s);
      free = tail t.free;
      products = set t.products s p;
      links = set t.links o (link_of t o);
    }

-- delete: the slot leaves its chain and keeps its chain link
unfoldable pub deleted : ℕ → Table → Table
deleted c t =
    let o = slot_of t c in
    record { chains = update t.chains (chain_number c) (without o); free = t.free; products = t.products; links = set t.links o (link_of t o) }

-- hand-back: slot s is cleared to the free values and appended to the free queue
unfoldable pub reclaimed : ℕ → Table → Table
reclaimed s t = record { chains = t.chains; free = t.free ++ (s ∷ []); products = set t.products s blank; links = set t.links s none }
