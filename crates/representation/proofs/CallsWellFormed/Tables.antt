-- Where chained slots stand in a table as legality asks; delete and hand-back keep it so.
use Prim.Native.Nat.{ℕ, suc, ◌%◌, ◌<◌, ◌≤◌}
use mathlib.Core.Path.{◌≡◌, refl, sym, ap, ◌∙◌}
use mathlib.Core.Logic.{◌⊎◌, inl, inr, ◌≢◌}
use mathlib.Core.Bool.{true, false}
use mathlib.Core.List.{List, [], ◌∷◌, ◌++◌}
use native.Mathlib.Omega.{arith}
use native.Mathlib.Decide.{dec_lt}
use lib.ListN.{length, get_or, set, length-set}
use lib.Seq.{get_or-set_same, get_or-set_other}
use lib.Dec.{eqb}
use borrow.Author.Tests.{not-false, eqb-true}
use Rattle.model.specs.Word.{none}
use Rattle.model.specs.Lists.{count, without}
use Rattle.model.specs.State.{Product, Table}
use Rattle.model.specs.Layout.{max_slots, chain_count}
use Rattle.model.specs.Table.{blank, product_at, chain_of, slot_of, present, link_of, deleted, reclaimed}
use Rattle.laws.specs.Tests.{same_or}
use Rattle.laws.specs.ListLaws.{length-update, update-cases, set_cases}
use Rattle.laws.specs.Sums.{sum, sum-update, sum-get_or}
use Rattle.laws.specs.Counts.{mark-other, count-append, count-without, count-concat}
use Rattle.representation.proofs.Causes.Searches.{slot_in-some}
use Rattle.representation.proofs.Causes.SlotCounts.{in_table, present-in}
use Rattle.representation.proofs.WellFormed.{SlotOrNone, ProductFits, TableFits, chained}
use Rattle.representation.proofs.Sentences.Ranges.{successor_in-range}

-- the chain of a chained slot
record Where (xss : List (List ℕ)) (x : ℕ) : Type 0 where
  place : ℕ
  there : 0 < count x (get_or xss place [])

find : (xss : List (List ℕ)) (x : ℕ) → 0 < sum (count x) xss → Where xss x
find [] x h = absurd (omega arith)
find (xs ∷ xss) x h =
    elim (dec_lt 0 (count x xs)) [
      | yes p ↦ record { place = 0; there = p }
      | no p ↦ let r = find xss x (omega arith) in record { place = suc r.place; there = r.there }
    ]

module _ (n : ℕ) (t : Table) (fits : TableFits n t) (few : n ≤ max_slots) (once : (x : ℕ) → in_table x t ≤ 1) (below : (x : ℕ) → 0 < in_table x t → x < n) where
  abbrev code_in : ℕ → ℕ
  code_in x = (product_at t.products x).code

  pub chain-le : (k x : ℕ) → count x (get_or t.chains k []) ≤ chained x t
  unfolding count
  chain-le k x = sum-get_or (count x) [] t.chains k refl

  -- a chained slot stands on its code's chain
  on-own : (x : ℕ) → 0 < chained x t → 0 < count x (chain_of t (code_in x))
  on-own x h = let r = find t.chains x h in rw (fits.on_chain r.place x r.there) r.there

  real : (x : ℕ) → 0 < chained x t → x ≢ none
  real x h q = omega (arith, below x (omega arith))

  -- no chained slot holds a code that is not present
  pub no_code : (c : ℕ) → present t c ≡ false → (y : ℕ) → 0 < chained y t → code_in y ≢ c
  no_code c p y h e =
      slot_in-some t.products c y (chain_of t c) (λ x b. real x (omega (arith, chain-le (c % chain_count) x)))
      (rw e at (on-own y h)) e (eqb-true (slot_of t c) none (not-false _ p))

  pub spot : (c : ℕ) → c % chain_count < length t.chains
  spot c = omega (arith, fits.chains)

  -- ---- delete

  module _ (c : ℕ) (here : present t c ≡ true) where
    abbrev d : ℕ
    d = slot_of t c

    fewer : (x : ℕ) → chained x (deleted c t) ≤ chained x t
    unfolding deleted
    fewer x = omega (arith, sum-update (count x) [] t.chains (c % chain_count) (without d) (spot c), count-without x d (chain_of t c) (present-in t c here))

    pub deleted-fits : TableFits n (deleted c t)
    unfolding deleted
    deleted-fits = record {
      chains = length-update t.chains (c % chain_count) (without d) ∙ fits.chains;
      products = fits.products;
      links = length-set t.links d (link_of t d) ∙ fits.links;
      on_chain = update-cases [] (λ (k : ℕ) (xs : List ℕ). (x : ℕ) → 0 < count x xs → code_in x % chain_count ≡ k) t.chains (c % chain_count) (without d)
          fits.on_chain (λ x b. fits.on_chain (c % chain_count) x (omega (arith, count-without x d (chain_of t c) (present-in t c here))));
      distinct = λ x y a b. fits.distinct x y (omega (arith, fewer x)) (omega (arith, fewer y));
      in_range = fits.in_range;
      link_range =
          set_cases none (λ (x : ℕ) (v : ℕ). SlotOrNone n v) t.links d (link_of t d) fits.link_range
          (successor_in-range n t.chains d _ (λ x h. below x (omega (arith, count-concat x t.chains))) (fits.link_range d));
      blanks = fits.blanks;
    }

  -- ---- hand-back of slot h, which stands in neither chain nor free queue

  module _ (h : ℕ) (out : in_table h t ≡ 0) (inside : h < n) where
    cleared : (x : ℕ) → x ≢ h → get_or (set t.products h blank) x blank ≡ product_at t.products x
    cleared x q = get_or-set_other t.products h x blank blank q

    cleared-chained : (x : ℕ) → 0 < chained x t → get_or (set t.products h blank) x blank ≡ product_at t.products x
    cleared-chained x b = cleared x (λ q. let k : chained x t ≡ 0 = rw q (omega arith) in omega arith)

    pub reclaimed-fits : TableFits n (reclaimed h t)
    unfolding count reclaimed
    reclaimed-fits = record {
      chains = fits.chains;
      products = length-set t.products h blank ∙ fits.products;
      links = length-set t.links h _ ∙ fits.links;
      on_chain = λ k x b. ap (λ (q : Product). q.code % chain_count) (cleared-chained x (omega (arith, chain-le k x))) ∙ fits.on_chain k x b;
      distinct =
          λ x y a b e. fits.distinct x y a b (sym (ap (λ (q : Product). q.code) (cleared-chained x a))
          ∙ e ∙ ap (λ (q : Product). q.code) (cleared-chained y b));
      in_range =
          set_cases blank (λ (x : ℕ) (q : Product). ProductFits q) t.products h blank fits.in_range
          (record { code = omega arith; deposit = omega arith; material = omega arith });
      link_range = set_cases none (λ (x : ℕ) (v : ℕ). SlotOrNone n v) t.links h _ fits.link_range (inr refl);
      blanks = λ x b. blank-at x b (same_or x h);
    }
      where
        blank-at : (x : ℕ) → 0 < count x (t.free ++ (h ∷ [])) → (x ≡ h) ⊎ ((x ≢ h) × (eqb x h ≡ false)) → get_or (set t.products h blank) x blank ≡ blank
        blank-at x b (inl q) =
            ap (λ (y : ℕ). get_or (set t.products h blank) y blank) q ∙ get_or-set_same t.products h blank blank (omega (arith, fits.products))
        blank-at x b (inr q) = cleared x q.0 ∙ fits.blanks x (omega (arith, count-append x t.free (h ∷ []), mark-other x h q.0))
