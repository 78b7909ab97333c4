-- Laws of chains: what a slot's link leads to, what a search of a stretch of slots gives, and a chain taken apart at the slot of a code.
use Prim.Native.Nat.{ℕ, suc, ◌+◌, ◌<◌, ◌≤◌}
use mathlib.Core.Path.{◌≡◌, refl, sym, ap, ◌∙◌}
use mathlib.Core.Logic.{◌⊎◌, inl, inr, ◌≢◌}
use mathlib.Core.Bool.{false}
use mathlib.Core.List.{List, [], ◌∷◌, ◌++◌, head-eq_of_cons-eq, tail-eq_of_cons-eq}
use native.Mathlib.Omega.{arith}
use lib.ListN.{get_or}
use lib.Dec.{eqb}
use Rattle.model.specs.Word.{none}
use Rattle.model.specs.Lists.{count, first, without, swapped, successor}
use Rattle.model.specs.State.{Product, Table}
use Rattle.model.specs.Table.{product_at, chain_number, chain_of, slot_in, link_of}
use borrow.Author.Tests.{eq-eqb, ne_eqb}
use Rattle.laws.specs.Tests.{eqb-self, same_or}
use Rattle.laws.specs.Sums.{sum-get_or}
use Rattle.laws.specs.Counts.{mark-self, count-self, count-append, count-concat}
use Rattle.laws.specs.Successors.{successor-append-right, successor_in-one, successor_in-out}
use Rattle.representation.proofs.WellFormed.{chained}
use Rattle.history.proofs.Ties.Halves.{nothing, something, searched}

-- m and n are the same or not, with what the test says
abbrev pub SameOr : ℕ → ℕ → Type 0
SameOr m n = (m ≡ n) ⊎ ((m ≢ n) × (eqb m n ≡ false))

-- ---- links

-- a slot in no chain has the link that it kept
pub link_of-unchained : (t : Table) (x : ℕ) → chained x t ≡ 0 → link_of t x ≡ get_or t.links x none
link_of-unchained t x h = successor_in-out t.chains x (get_or t.links x none) (count-concat x t.chains ∙ h)

-- a chained slot has what follows it in the chain
pub link_of-chained : (t : Table) (c x : ℕ) (xs ys : List ℕ) → chain_of t c ≡ xs ++ x ∷ ys → chained x t ≤ 1 → link_of t x ≡ first ys
unfolding successor count
link_of-chained t c x xs ys e h =
    successor_in-one t.chains (chain_number c) x (get_or t.links x none) (omega (arith, counts)) (omega (arith, count-concat x t.chains))
    ∙ (ap (λ (l : List ℕ). successor l x none) e ∙ (successor-append-right xs (x ∷ ys) x none none_ahead ∙ rw (eqb-self x)))
  where
    counts : count x (chain_of t c) ≡ count x xs + suc (count x ys)
    counts = ap (count x) e ∙ (count-append x xs (x ∷ ys) ∙ ap (λ (n : ℕ). count x xs + n) (count-self x ys ∙ omega arith))

    none_ahead : count x xs ≡ 0
    none_ahead = omega (arith, counts, sum-get_or (count x) [] t.chains (chain_number c) refl)

-- a slot of a chain is chained
pub chained-at : (t : Table) (c x : ℕ) → count x (chain_of t c) ≤ chained x t
unfolding count
chained-at t c x = sum-get_or (count x) [] t.chains (chain_number c) refl

-- ---- searches of a stretch of slots

-- no slot of xs holds code c
abbrev pub Lacks : List Product → ℕ → List ℕ → Type 0
Lacks ps c xs = (x : ℕ) → 0 < count x xs → (product_at ps x).code ≢ c

-- the slots of xs hold the same in ps and qs
abbrev pub Agree : List Product → List Product → List ℕ → Type 0
Agree ps qs xs = (x : ℕ) → 0 < count x xs → product_at qs x ≡ product_at ps x

pub searched-here : (ps : List Product) (c x : ℕ) (xs : List ℕ) → (product_at ps x).code ≡ c → searched ps c (x ∷ xs) ≡ something ps x
unfolding searched
searched-here ps c x xs h = rw (eq-eqb (product_at ps x).code c h)

pub searched-on : (ps : List Product) (c x : ℕ) (xs : List ℕ) → (product_at ps x).code ≢ c → searched ps c (x ∷ xs) ≡ searched ps c xs
unfolding searched
searched-on ps c x xs h = rw (ne_eqb (product_at ps x).code c h)

pub searched-skip : (ps : List Product) (c : ℕ) (xs ys : List ℕ) → Lacks ps c xs → searched ps c (xs ++ ys) ≡ searched ps c ys
unfolding count
searched-skip ps c [] ys h = refl
searched-skip ps c (x ∷ xs) ys h =
    searched-on ps c x (xs ++ ys) (h x (omega (arith, mark-self x))) ∙ searched-skip ps c xs ys (λ y m. h y (omega arith))

pub searched-gap : (ps : List Product) (c : ℕ) (xs old ys : List ℕ) → Lacks ps c old → searched ps c (xs ++ (old ++ ys)) ≡ searched ps c (xs ++ ys)
unfolding searched
searched-gap ps c [] old ys h = searched-skip ps c old ys h
searched-gap ps c (x ∷ xs) old ys h = rw (searched-gap ps c xs old ys h)

pub searched-none : (ps : List Product) (c : ℕ) (xs : List ℕ) → Lacks ps c xs → searched ps c xs ≡ nothing
unfolding searched count
searched-none ps c [] h = refl
searched-none ps c (x ∷ xs) h = searched-on ps c x xs (h x (omega (arith, mark-self x))) ∙ searched-none ps c xs (λ y m. h y (omega arith))

pub searched-agree : (ps qs : List Product) (c : ℕ) (xs : List ℕ) → Agree ps qs xs → searched qs c xs ≡ searched ps c xs
unfolding searched count
searched-agree ps qs c [] h = refl
searched-agree ps qs c (x ∷ xs) h =
    let e = h x (omega (arith, mark-self x)) in
    let ih = searched-agree ps qs c xs (λ y m. h y (omega arith)) in
    rw (e, ih)

-- ---- a chain at the slot of a code

-- the first slot of xs that holds code c is o: what stands before and after it, and how removing or swapping it leaves xs
pub record Spot (ps : List Product) (c : ℕ) (xs : List ℕ) (o : ℕ) : Type 0 where
  pub front : List ℕ
  pub rest : List ℕ
  pub all : xs ≡ front ++ o ∷ rest
  pub code : (product_at ps o).code ≡ c
  pub ahead : Lacks ps c front
  pub removed : without o xs ≡ front ++ rest
  pub exchanged : (n : ℕ) → swapped o n xs ≡ front ++ n ∷ rest

pub spot : (ps : List Product) (c : ℕ) (xs : List ℕ) → slot_in ps c xs ≢ none → Spot ps c xs (slot_in ps c xs)
unfolding slot_in without swapped count
spot ps c [] h = absurd (h refl)
spot ps c (x ∷ xs) h = go (same_or (product_at ps x).code c) (spot ps c xs)
  where
    go : SameOr (product_at ps x).code c → (slot_in ps c xs ≢ none → Spot ps c xs (slot_in ps c xs)) → Spot ps c (x ∷ xs) (slot_in ps c (x ∷ xs))
    go (inl e) ih = rw (eq-eqb (product_at ps x).code c e) (record {
      front = [];
      rest = xs;
      all = refl;
      code = e;
      ahead = λ y m. absurd (omega arith);
      removed = rw (eqb-self x);
      exchanged = λ n. rw (eqb-self x);
    })
    go (inr e) ih = rw e.1 (next (ih (rw e.1 at h)))
      where
        next : {o : ℕ} → Spot ps c xs o → Spot ps c (x ∷ xs) o
        next {o} s = record {
          front = x ∷ s.front;
          rest = s.rest;
          all = ap (λ (l : List ℕ). x ∷ l) s.all;
          code = s.code;
          ahead = λ y m. lacks y m (same_or y x);
          removed = rw (other, s.removed);
          exchanged = λ n. rw (other, s.exchanged n);
        }
          where
            other : eqb x o ≡ false
            other = ne_eqb x o (λ q. e.0 (rw (← q) at s.code))

            lacks : (y : ℕ) → 0 < count y (x ∷ s.front) → SameOr y x → (product_at ps y).code ≢ c
            lacks y m (inl q) = rw q e.0
            lacks y m (inr q) = s.ahead y (omega (arith, rw q.1 at m))

-- ---- one list, taken apart in two ways

-- of xs ++ ys ≡ front ++ o ∷ rest: o stands in xs, or in ys
pub data Split (xs ys front rest : List ℕ) (o : ℕ) : Type 0 where
  ahead : (us : List ℕ) → xs ≡ front ++ o ∷ us → rest ≡ us ++ ys → Split xs ys front rest o
  behind : (us : List ℕ) → front ≡ xs ++ us → ys ≡ us ++ o ∷ rest → Split xs ys front rest o

pub split : (xs ys front rest : List ℕ) (o : ℕ) → xs ++ ys ≡ front ++ o ∷ rest → Split xs ys front rest o
split [] ys front rest o e = behind front refl e
split (x ∷ xs) ys [] rest o e = ahead xs (ap (λ (y : ℕ). y ∷ xs) (head-eq_of_cons-eq e)) (sym (tail-eq_of_cons-eq e))
split (x ∷ xs) ys (y ∷ front) rest o e = go (split xs ys front rest o (tail-eq_of_cons-eq e))
  where
    p : x ≡ y
    p = head-eq_of_cons-eq e

    go : Split xs ys front rest o → Split (x ∷ xs) ys (y ∷ front) rest o
    go (ahead us a b) = ahead us (rw (p, a)) b
    go (behind us a b) = behind us (rw (← p, a)) b
