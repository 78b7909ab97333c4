-- `seek`: what it finds at each step, as the loop of `find` meets it, and what it finds in a chain.
use Prim.Native.Nat.{ℕ, zero, suc, ◌<◌, ◌≤◌}
use mathlib.Core.Bool.{Bool, cond}
use mathlib.Core.Path.{◌≡◌, refl, ap, sym, ◌∙◌, subst}
use mathlib.Core.Logic.{◌≢◌}
use mathlib.Core.List.{List, [], ◌∷◌}
use native.Mathlib.Omega.{arith}
use lib.ListN.{length, get_or}
use lib.Dec.{leb, eqb}
use borrow.Author.Tests.{le-leb, lt-leb, eq-eqb, ne_eqb}
use Rattle.std.specs.Prelude.{Ok, Err}
use Rattle.model.specs.Word.{none}
use Rattle.model.specs.State.{Sizes, Product}
use Rattle.model.specs.Table.{product_at, slot_in}
use Rattle.model.specs.Memory.{at, walk}
use Rattle.laws.specs.Tests.{same, other, decide, eqb-self}
use Rattle.laws.specs.Removals.{before_in}
use Rattle.laws.specs.Walks.{stop, on, step, walk-stop, walk-on}
use Rattle.chains.specs.declared.Found.{Found}
use Rattle.chains.specs.Chain.{link_address, code_words, found_at, seek, sought}
use Rattle.chains.specs.Chained.{before_code}

-- ---- what was found

found-real : (f : Found) → f.slot ≢ none → sought f ≡ Ok f
found-real f n = rw (ne_eqb f.slot none n)

-- ---- the loop

module _ (m : List ℕ) (z : Sizes) (code : ℕ) where
  -- no step is left at slot i, p before it; r is what the whole search finds
  pub seek-end : (p i : ℕ) (r : Found) → seek m z code 0 p i ≡ r → Err p ≡ sought r
  unfolding seek
  seek-end p i r inv = ap sought inv

  -- n steps are left, and k after this one
  module _ (n k p i : ℕ) (r : Found) (e : n ≡ suc k) (inv : seek m z code n p i ≡ r) where
    here : cond (leb z.slots i) (found_at none p) (cond (eqb (code_words m z i) code) (found_at i p) (seek m z code k i (at m (link_address z i)))) ≡ r
    unfolding seek
    here = rw e at inv

    pub seek-none : z.slots ≤ i → Err p ≡ sought r
    seek-none o = let w : found_at none p ≡ r = rw (le-leb z.slots i o) at here in ap sought w

    pub seek_found : z.slots ≤ none → i < z.slots → code_words m z i ≡ code → Ok (found_at i p) ≡ sought r
    seek_found few o q =
        let w : found_at i p ≡ r = rw (lt-leb z.slots i o, eq-eqb _ _ q) at here in
        sym (found-real (found_at i p) (λ x. omega arith)) ∙ ap sought w

    pub seek-on : i < z.slots → (code_words m z i ≡ code → ⊥) → seek m z code k i (at m (link_address z i)) ≡ r
    seek-on o q = rw (lt-leb z.slots i o, ne_eqb _ _ q) at here

-- ---- what a search finds in a chain

-- the chain that a walk along the links reads, where `links` and `ps` are the words' own links and products
module _ (m : List ℕ) (z : Sizes) (code : ℕ) (links : List ℕ) (ps : List Product) (size : length links ≡ z.slots)
    (link : (i : ℕ) → i < z.slots → get_or links i none ≡ at m (link_address z i)) (codes : (i : ℕ) → i < z.slots → (product_at ps i).code ≡ code_words m z i) where
  pub seek-walk : (n p i : ℕ) → seek m z code n p i ≡ found_at (slot_in ps code (walk links i n)) (before_code ps code (walk links i n) p)
  unfolding seek walk slot_in before_code
  seek-walk zero p i = refl
  seek-walk (suc n) p i =
      elim (step links i) [
        | stop h ↦ rw (le-leb z.slots i (omega arith), walk-stop links i (suc n) h)
        | on h ↦
            rw (lt-leb z.slots i (omega arith), walk-on links i n h, codes i (omega arith), link i (omega arith))
            (elim (decide (code_words m z i) code) [
              | same e t u ↦ rw t
              | other e t u ↦ rw t (seek-walk n i (at m (link_address z i)))
            ])
      ]

module _ (ps : List Product) (c : ℕ) where
  -- the slot found holds the code
  slot_in-code : (xs : List ℕ) → slot_in ps c xs ≢ none → (product_at ps (slot_in ps c xs)).code ≡ c
  unfolding slot_in
  slot_in-code [] n = absurd (n refl)
  slot_in-code (x ∷ xs) n =
      elim (decide (product_at ps x).code c) [
        | same e t u ↦ rw t e
        | other e t u ↦ rw t (slot_in-code xs (λ q. n (rw t q)))
      ]

  -- what the search had before it stands before it in the chain
  pub before_code-slot_in : (xs : List ℕ) (p : ℕ) → slot_in ps c xs ≢ none → before_code ps c xs p ≡ before_in (slot_in ps c xs) xs p
  unfolding before_code slot_in
  before_code-slot_in [] p n = refl
  before_code-slot_in (x ∷ xs) p n =
      elim (decide (product_at ps x).code c) [
        | same e t u ↦ rw t (rw (eqb-self x))
        | other e t u ↦
            let k : slot_in ps c xs ≢ none = λ q. n (rw t q) in
            let on : slot_in ps c (x ∷ xs) ≡ slot_in ps c xs = ap (λ (b : Bool). cond b x (slot_in ps c xs)) t in
            subst (λ (z : ℕ). before_code ps c (x ∷ xs) p ≡ before_in z (x ∷ xs) p) (sym on)
            (rw t (rw (ne_eqb x (slot_in ps c xs) (λ q. e (ap (λ (y : ℕ). (product_at ps y).code) q ∙ slot_in-code xs k))) (before_code-slot_in xs x k)))
      ]
