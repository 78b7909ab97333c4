-- Add and replace keep the table as legality asks: the first free slot is given a product.
use Prim.Native.Nat.{ℕ, ◌+◌, ◌%◌, ◌<◌, ◌≤◌}
use mathlib.Core.Path.{◌≡◌, refl, sym, ap, ◌∙◌}
use mathlib.Core.Logic.{◌⊎◌, inl, inr, ◌≢◌}
use mathlib.Core.Bool.{true, false}
use mathlib.Core.List.{List, [], ◌∷◌}
use native.Mathlib.Omega.{arith}
use lib.ListN.{get_or, set, length-set}
use lib.Seq.{get_or-set_same, get_or-set_other}
use lib.Dec.{eqb}
use borrow.Author.Tests.{not-true, eq-eqb}
use Rattle.model.specs.Word.{none}
use Rattle.model.specs.Lists.{count, is_empty, first, tail, swapped}
use Rattle.model.specs.State.{Product, Table}
use Rattle.model.specs.Layout.{max_slots, chain_count}
use Rattle.model.specs.Table.{blank, product_at, chain_of, slot_of, present, link_of, added, replaced}
use Rattle.laws.specs.Tests.{clash, same_or}
use Rattle.laws.specs.ListLaws.{length-update, update-cases, set_cases}
use Rattle.laws.specs.Sums.{sum-update}
use Rattle.laws.specs.Counts.{mark, mark-self, mark-other, count-first, count-swapped, count-concat}
use Rattle.representation.proofs.Causes.Searches.{slot_in-code}
use Rattle.representation.proofs.Causes.SlotCounts.{in_table, present-in}
use Rattle.representation.proofs.WellFormed.{SlotOrNone, ProductFits, TableFits, chained}
use Rattle.representation.proofs.Sentences.Ranges.{successor_in-range}
use Rattle.representation.proofs.CallsWellFormed.Tables.{chain-le, no_code, spot}

module _ (n : ℕ) (t : Table) (fits : TableFits n t) (few : n ≤ max_slots) (once : (x : ℕ) → in_table x t ≤ 1) (below : (x : ℕ) → 0 < in_table x t → x < n) where
  abbrev code_in : ℕ → ℕ
  code_in x = (product_at t.products x).code

  -- ---- the first free slot, given product p

  module _ (p : Product) (some : is_empty t.free ≡ false) where
    abbrev s : ℕ
    s = first t.free

    abbrev given : List Product
    given = set t.products s p

    s-free : 0 < count s t.free
    s-free = omega (arith, count-first s t.free some, mark-self s)

    s-slot : s < n
    s-slot = below s (omega (arith, s-free))

    given-at : get_or given s blank ≡ p
    given-at = get_or-set_same t.products s p blank (omega (arith, s-slot, fits.products))

    given-other : (x : ℕ) → x ≢ s → get_or given x blank ≡ product_at t.products x
    given-other x h = get_or-set_other t.products s x p blank h

    given-chained : (x : ℕ) → 0 < chained x t → get_or given x blank ≡ product_at t.products x
    given-chained x h = given-other x (λ q. let k : 0 < count x t.free = rw q s-free in omega (arith, once x))

    given-blank : (x : ℕ) → 0 < count x (tail t.free) → get_or given x blank ≡ blank
    given-blank x h =
        let c = count-first x t.free some in
        given-other x (λ q. let k : mark x s ≡ 1 = rw q (mark-self s) in omega (arith, once x, c)) ∙ fits.blanks x (omega (arith, c))

    given-range : ProductFits p → (x : ℕ) → ProductFits (get_or given x blank)
    given-range f = set_cases blank (λ (x : ℕ) (q : Product). ProductFits q) t.products s p fits.in_range f

    -- a slot of a chain that holds s and slots that were chained on it
    given-chain : (k x : ℕ) → p.code % chain_count ≡ k → (x ≡ s) ⊎ (0 < count x (get_or t.chains k [])) → (get_or given x blank).code % chain_count ≡ k
    given-chain k x e (inl q) = ap (λ (y : ℕ). (get_or given y blank).code % chain_count) q ∙ ap (λ (q : Product). q.code % chain_count) given-at ∙ e
    given-chain k x e (inr b) =
        ap (λ (q : Product). q.code % chain_count) (given-chained x (omega (arith, chain-le n t fits few once below k x))) ∙ fits.on_chain k x b

    old-chain : (k x : ℕ) → 0 < count x (get_or t.chains k []) → (get_or given x blank).code % chain_count ≡ k
    old-chain k x b = ap (λ (q : Product). q.code % chain_count) (given-chained x (omega (arith, chain-le n t fits few once below k x))) ∙ fits.on_chain k x b

    -- codes stay distinct, if the new one is nobody else's
    given-distinct : (C : ℕ → Type 0) → ((x : ℕ) → C x → 0 < chained x t) → ((x : ℕ) → C x → code_in x ≢ p.code)
        → (x y : ℕ) → (x ≡ s) ⊎ C x → (y ≡ s) ⊎ C y → (get_or given x blank).code ≡ (get_or given y blank).code → x ≡ y
    given-distinct C a b x y (inl q) (inl r) e = q ∙ sym r
    given-distinct C a b x y (inl q) (inr r) e =
        absurd (b y r (sym (ap (λ (q : Product). q.code) (given-chained y (a y r))) ∙ sym e
        ∙ ap (λ (x : ℕ). (get_or given x blank).code) q ∙ ap (λ (q : Product). q.code) given-at))
    given-distinct C a b x y (inr q) (inl r) e =
        absurd (b x q (sym (ap (λ (q : Product). q.code) (given-chained x (a x q))) ∙ e
        ∙ ap (λ (x : ℕ). (get_or given x blank).code) r ∙ ap (λ (q : Product). q.code) given-at))
    given-distinct C a b x y (inr q) (inr r) e =
        fits.distinct x y (a x q) (a y r) (sym (ap (λ (q : Product). q.code) (given-chained x (a x q)))
        ∙ e ∙ ap (λ (q : Product). q.code) (given-chained y (a y r)))

    new-or : (x k : ℕ) → 0 < mark x s + k → (x ≡ s) ⊎ (0 < k)
    new-or x k h = go (same_or x s)
      where
        go : (x ≡ s) ⊎ ((x ≢ s) × (eqb x s ≡ false)) → (x ≡ s) ⊎ (0 < k)
        go (inl q) = inl q
        go (inr q) = inr (omega (arith, mark-other x s q.0))

    pub added-fits : present t p.code ≡ false → ProductFits p → TableFits n (added p t)
    unfolding added count
    added-fits absent f = record {
      chains = length-update t.chains (p.code % chain_count) (λ (xs : List ℕ). s ∷ xs) ∙ fits.chains;
      products = length-set t.products s p ∙ fits.products;
      links = fits.links;
      on_chain =
          update-cases [] (λ (k : ℕ) (xs : List ℕ). (x : ℕ) → 0 < count x xs → (get_or given x blank).code % chain_count ≡ k)
          t.chains (p.code % chain_count) (λ (xs : List ℕ). s ∷ xs)
          old-chain (λ x b. given-chain (p.code % chain_count) x refl (new-or x _ b));
      distinct =
          λ x y a b. given-distinct (λ (x : ℕ). 0 < chained x t) (λ x h. h) (no_code n t fits few once below p.code absent) x y
          (new-or x _ (chained-added x a)) (new-or y _ (chained-added y b));
      in_range = given-range f;
      link_range = fits.link_range;
      blanks = given-blank;
    }
      where
        chained-added : (x : ℕ) → 0 < chained x (added p t) → 0 < mark x s + chained x t
        chained-added x h =
            omega (arith, sum-update (count x) [] t.chains (p.code % chain_count) (λ (xs : List ℕ). s ∷ xs) (spot n t fits few once below p.code))

    module _ (here : present t p.code ≡ true) where
      abbrev o : ℕ
      o = slot_of t p.code

      o-chained : 0 < chained o t
      o-chained = omega (arith, present-in t p.code here, chain-le n t fits few once below (p.code % chain_count) o)

      -- what o stood for
      o-code : code_in o ≡ p.code
      o-code = slot_in-code t.products p.code (chain_of t p.code) (λ q. clash (eq-eqb _ _ q) (not-true _ here))

      record Still (x : ℕ) : Type 0 where
        was : 0 < chained x t
        not_old : x ≢ o

      other-code : (x : ℕ) → Still x → code_in x ≢ p.code
      other-code x h e = h.not_old (fits.distinct x o h.was o-chained (e ∙ sym o-code))

      pub replaced-fits : ProductFits p → TableFits n (replaced p t)
      unfolding replaced
      replaced-fits f = record {
        chains = length-update t.chains (p.code % chain_count) (swapped o s) ∙ fits.chains;
        products = length-set t.products s p ∙ fits.products;
        links = length-set t.links o (link_of t o) ∙ fits.links;
        on_chain =
            update-cases [] (λ (k : ℕ) (xs : List ℕ). (x : ℕ) → 0 < count x xs → (get_or given x blank).code % chain_count ≡ k)
            t.chains (p.code % chain_count) (swapped o s)
            old-chain (λ x b. given-chain (p.code % chain_count) x refl
            (new-or x _ (omega (arith, count-swapped x o s (chain_of t p.code) (present-in t p.code here)))));
        distinct = λ x y a b. given-distinct Still (λ x h. h.was) other-code x y (still x a (same_or x s)) (still y b (same_or y s));
        in_range = given-range f;
        link_range =
            set_cases none (λ (x : ℕ) (v : ℕ). SlotOrNone n v) t.links o (link_of t o) fits.link_range
            (successor_in-range n t.chains o _ (λ x h. below x (omega (arith, count-concat x t.chains))) (fits.link_range o));
        blanks = given-blank;
      }
        where
          swap : (x : ℕ) → chained x (replaced p t) + mark x o ≡ chained x t + mark x s
          swap x =
              omega (
                arith,
                sum-update (count x) [] t.chains (p.code % chain_count) (swapped o s) (spot n t fits few once below p.code),
                count-swapped x o s (chain_of t p.code) (present-in t p.code here),
              )

          still : (x : ℕ) → 0 < chained x (replaced p t) → (x ≡ s) ⊎ ((x ≢ s) × (eqb x s ≡ false)) → (x ≡ s) ⊎ Still x
          still x h (inl q) = inl q
          still x h (inr q) = inr (record {
            was = omega (arith, swap x, mark-other x s q.0);
            not_old = λ e. let k : mark x o ≡ 1 = rw e (mark-self o) in omega (arith, swap x, mark-other x s q.0, once x);
          })
