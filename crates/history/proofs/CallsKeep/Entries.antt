-- A whole search of the ledger after an entry is made or struck.
use Prim.Native.Nat.{ℕ}
use mathlib.Core.Path.{◌≡◌, refl, sym, ◌∙◌}
use mathlib.Core.Logic.{inl, inr, ◌≢◌}
use mathlib.Core.Bool.{Bool, true, false}
use mathlib.Core.List.{List, [], ◌∷◌}
use lib.Dec.{eqb}
use borrow.Author.Tests.{eq-eqb, ne_eqb}
use Rattle.model.specs.Lists.{drops}
use Rattle.model.specs.Rules.{accepted}
use Rattle.model.specs.Ledger.{Entry, of_code, search_in}
use Rattle.laws.specs.Tests.{eqb-self, same_or}
use Rattle.history.proofs.Ties.Halves.{nothing}
use Rattle.history.proofs.ChainHalf.ChainStretches.{SameOr}

-- another code's entry stays
pub search-drops-other : (c d : ℕ) (es : List Entry) → c ≢ d → search_in c (drops (of_code d) es) ≡ search_in c es
unfolding search_in drops
search-drops-other c d [] n = refl
search-drops-other c d (e ∷ es) n = go (same_or e.code d) (search-drops-other c d es n)
  where
    go : SameOr e.code d → search_in c (drops (of_code d) es) ≡ search_in c es → search_in c (drops (of_code d) (e ∷ es)) ≡ search_in c (e ∷ es)
    go (inl h) ih = rw (eq-eqb e.code d h, ne_eqb e.code c (λ q. n (sym q ∙ h))) ih
    go (inr h) ih = rw (h.1, ih)

-- the code's own is gone
pub search-drops : (c : ℕ) (es : List Entry) → search_in c (drops (of_code c) es) ≡ nothing
unfolding search_in drops
search-drops c [] = refl
search-drops c (e ∷ es) = go (eqb e.code c) refl (search-drops c es)
  where
    go : (b : Bool) → eqb e.code c ≡ b → search_in c (drops (of_code c) es) ≡ nothing → search_in c (drops (of_code c) (e ∷ es)) ≡ nothing
    go true h ih = rw h ih
    go false h ih = rw (h, h) ih

-- the entry made is found, and no other code's
pub search-made : (e : Entry) (es : List Entry) → search_in e.code (e ∷ es) ≡ accepted 1 e.slot e.deposit e.material
unfolding search_in
search-made e es = rw (eqb-self e.code)

pub search-made-other : (c : ℕ) (e : Entry) (es : List Entry) → c ≢ e.code → search_in c (e ∷ es) ≡ search_in c es
unfolding search_in
search-made-other c e es n = rw (ne_eqb e.code c (λ q. n (sym q)))
