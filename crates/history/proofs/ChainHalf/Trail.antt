-- The chain half: a lookup's trail through a step of its own, and through calls that take no slot from its chain. Tables alone: W x says that the
-- reader's section retains slot x, and S are the answers of the lookup's window.
use Prim.Native.Nat.{ℕ, zero, suc, ◌<◌, ◌≤◌}
use mathlib.Core.Path.{◌≡◌, refl, sym, ap, ◌∙◌}
use mathlib.Core.Logic.{◌⊎◌, inl, inr, ◌≢◌}
use mathlib.Core.List.{List, [], ◌∷◌, ◌++◌, append_assoc}
use native.Mathlib.Omega.{arith}
use lib.ListN.{length, get_or}
use Rattle.model.specs.Word.{none}
use Rattle.model.specs.Lists.{count, first}
use Rattle.model.specs.State.{Table}
use Rattle.model.specs.Table.{product_at, chain_of, link_of}
use Rattle.model.specs.Rules.{Answer}
use Rattle.laws.specs.Counts.{mark-self, count-append}
use Rattle.representation.proofs.WellFormed.{chained}
use Rattle.history.proofs.Ties.Halves.{nothing, something, searched, Trail, live, met, beyond}
use Rattle.history.proofs.ChainHalf.ChainStretches.{link_of-unchained, link_of-chained, chained-at, Agree}
use Rattle.history.proofs.ChainHalf.ChainStretches.{searched-here, searched-on, searched-agree}

-- ---- the lookup's own step

module _ (t : Table) (c : ℕ) {W : ℕ → Type 0} {S : Answer → Type 0} where
  -- it starts at the head, and the whole chain is before it
  pub trail-start : S (searched t.products c (chain_of t c)) → Trail t W S c (length (chain_of t c)) (first (chain_of t c))
  trail-start s = live {n = length (chain_of t c)} [] (chain_of t c) refl refl (omega arith) s

  -- it goes on to the link of a slot of another code, with a step less to go
  pub trail-step : (n p : ℕ) → p ≢ none → (product_at t.products p).code ≢ c → ((x : ℕ) → chained x t ≤ 1) → ((x : ℕ) → W x → chained x t ≡ 0)
      → Trail t W S c n p → (m : ℕ) × (n ≡ suc m) × Trail t W S c m (link_of t p)
  unfolding first
  trail-step n p h d once out (live xs [] e f l s) = absurd (h f)
  trail-step zero p h d once out (live xs (y ∷ ys) e f l s) = absurd (omega arith)
  trail-step (suc n) p h d once out (live xs (y ∷ ys) e f l s) =
      (n, refl, rw link (live {n = n} (xs ++ (y ∷ [])) ys (rw append_assoc e) refl (omega arith) (rw (searched-on t.products c y ys (rw f at d)) at s)))
    where
      link : link_of t p ≡ first ys
      link = rw f (link_of-chained t c y xs ys e (once y))
  trail-step n p h d once out (met w e s) = absurd (d e)
  trail-step (suc n) p h d once out (beyond w e r) = (n, refl, rw (link_of-unchained t p (out p w)) r)

  -- the end of the chain: absent is an answer of the window
  pub trail-none : (n p : ℕ) → p ≡ none → ((x : ℕ) → 0 < chained x t → x ≢ none) → ((x : ℕ) → W x → x ≢ none) → Trail t W S c n p → S nothing
  unfolding first searched count
  trail-none n p h some out (live xs [] e f l s) = s
  trail-none n p h some out (live xs (y ∷ ys) e f l s) =
      absurd (some y (omega (arith, chained-at t c y, ap (count y) e, count-append y xs (y ∷ ys), mark-self y)) (sym f ∙ h))
  trail-none n p h some out (met w e s) = absurd (out p w h)
  trail-none n p h some out (beyond w e r) = absurd (out p w h)

  -- a slot that holds the code: it is an answer of the window
  pub trail-found : (n p : ℕ) → p ≢ none → (product_at t.products p).code ≡ c → Trail t W S c n p → S (something t.products p)
  unfolding first
  trail-found n p h d (live xs [] e f l s) = absurd (h f)
  trail-found n p h d (live xs (y ∷ ys) e f l s) = rw f (rw (searched-here t.products c y ys (rw f at d)) at s)
  trail-found n p h d (met w e s) = s
  trail-found n p h d (beyond w e r) = absurd (e d)

  -- the position holds a product that is chained or retained
  pub trail-anchored : (n p : ℕ) → p ≢ none → Trail t W S c n p → (0 < chained p t) ⊎ W p
  unfolding first count
  trail-anchored n p h (live xs [] e f l s) = absurd (h f)
  trail-anchored n p h (live xs (y ∷ ys) e f l s) =
      inl (rw f (omega (arith, chained-at t c y, ap (count y) e, count-append y xs (y ∷ ys), mark-self y)))
  trail-anchored n p h (met w e s) = inr w
  trail-anchored n p h (beyond w e r) = inr w

-- ---- a change of the table

-- the slots that the section retains are retained after, and hold the same, with the same chain link
abbrev pub Stay : (t u : Table) (W U : ℕ → Type 0) → Type 0
Stay t u W U = (x : ℕ) → W x → U x × (product_at u.products x ≡ product_at t.products x) × (get_or u.links x none ≡ get_or t.links x none)

-- chained slots hold the same
abbrev pub Kept : Table → Table → Type 0
Kept t u = (x : ℕ) → 0 < chained x t → product_at u.products x ≡ product_at t.products x

pub agree-chain : (t u : Table) → Kept t u → (c : ℕ) → Agree t.products u.products (chain_of t c)
agree-chain t u k c x h = k x (omega (arith, chained-at t c x))

-- each end of the chain of c is an end of it still
abbrev pub Suffixes : Table → Table → ℕ → Type 0
Suffixes t u c = (xs ys : List ℕ) → chain_of t c ≡ xs ++ ys → (zs : List ℕ) × (chain_of u c ≡ zs ++ ys)

-- so does a part of a chain
agree-rest : (t u : Table) → Kept t u → (c : ℕ) (xs ys : List ℕ) → chain_of t c ≡ xs ++ ys → Agree t.products u.products ys
agree-rest t u k c xs ys e x h = agree-chain t u k c x (omega (arith, ap (count x) e, count-append x xs ys))

module _ (t u : Table) {W U : ℕ → Type 0} {S R : Answer → Type 0} (c : ℕ) (sr : (r : Answer) → S r → R r) (stay : Stay t u W U) where
  -- the retired part of a trail stays; of the chain, what `chain` says
  pub trail-map : ((n p : ℕ) (xs ys : List ℕ) → chain_of t c ≡ xs ++ ys → p ≡ first ys → length ys ≤ n → S (searched t.products c ys) → Trail u U R c n p)
      → (n p : ℕ) → Trail t W S c n p → Trail u U R c n p
  trail-map chain n p (live xs ys e f l s) = chain n p xs ys e f l s
  trail-map chain n p (met w e s) = let k = stay p w in met k.0 (rw k.1 e) (rw k.1 (sr (something t.products p) s))
  trail-map chain (suc n) p (beyond w e r) = let k = stay p w in beyond {n = n} k.0 (rw k.1 e) (rw k.2 (trail-map chain n (get_or t.links p none) r))

  -- the rest of the chain is the end of a chain still
  pub live-suffix : Kept t u → (n p : ℕ) (xs ys zs : List ℕ) → chain_of t c ≡ xs ++ ys → chain_of u c ≡ zs ++ ys → p ≡ first ys → length ys ≤ n
      → S (searched t.products c ys) → Trail u U R c n p
  live-suffix k n p xs ys zs e f g l s =
      live zs ys f g l (rw (searched-agree t.products u.products c ys (agree-rest t u k c xs ys e)) (sr _ s))

  -- no slot leaves the chain, and slots come at its head alone
  pub trail-suffix : Kept t u → Suffixes t u c → (n p : ℕ) → Trail t W S c n p → Trail u U R c n p
  trail-suffix k h = trail-map (λ n p xs ys e f l s. let z = h xs ys e in live-suffix k n p xs ys z.0 e z.1 f l s)
