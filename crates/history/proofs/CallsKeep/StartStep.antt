-- Start and step: a lookup begins at its chain's head, goes along its trail, and is answered.
use Prim.Native.Nat.{ℕ, suc}
use mathlib.Core.Path.{◌≡◌, refl, ap}
use mathlib.Core.Logic.{⊎_elim, ◌≢◌}
use mathlib.Core.Bool.{true, cond}
use mathlib.Core.List.Memᴰ
use mathlib.Core.List.{◌∷◌}
use native.Mathlib.Omega.{arith}
use lib.ListN.{length}
use borrow.Author.Tests.{eq-eqb}
use Rattle.model.specs.Word.{none}
use Rattle.model.specs.Lists.{first, drops}
use Rattle.model.specs.State.{running, Lane, State}
use Rattle.model.specs.Engine.{set_lookup}
use Rattle.model.specs.Table.{product_at, chain_of, link_of}
use Rattle.model.specs.Rules.{Answer, lane_of, with_lane, stepped}
use Rattle.model.specs.Ledger.{Search, Ledger, search_of, search_noted, search_struck, is_answer}
use Rattle.laws.specs.Tests.{clash, cond_cases}
use Rattle.laws.specs.Elements.{of-drops}
use Rattle.representation.proofs.WellFormed.{WellFormed}
use Rattle.history.proofs.Ties.Halves.{Looks}
use Rattle.history.proofs.Ties.Invariant.{OpenOn, Tied}
use Rattle.history.proofs.ChainHalf.Trail.{trail-start, trail-step}
use Rattle.history.proofs.CallsKeep.SlotFacts.{standing-once}
use Rattle.history.proofs.CallsKeep.Respects.{Keeps}
use Rattle.history.proofs.CallsKeep.LookupSteps.{retained-unchained, keeps-lookup}

module _ {k : ℕ} {s : State} {g : Ledger} (v : Tied k s g) where
  -- ---- start

  -- the lookup that lane i starts, as the ledger notes it, and at its chain's head
  abbrev pub new : ℕ → ℕ → Search
  new i c = record { lane = i; code = c; started = suc k }

  abbrev pub starting : ℕ → Lane → Lane
  starting c = set_lookup (running c (first (chain_of s.table c)))

  pub keeps-start : (i c : ℕ) → WellFormed (with_lane s i (starting c)) → Keeps k s (with_lane s i (starting c)) g (search_noted (new i c) g)
  keeps-start i c w = keeps-lookup v i (starting c) (running c (first (chain_of s.table c))) (new i c ∷ drops (search_of i) g.searches) refl w

  pub looks-start : (past : ℕ → Ledger) (i c : ℕ) → (lane_of s i).reading ≡ true → past (suc k) ≡ search_noted (new i c) g
      → Looks past (suc k) s.table (search_noted (new i c) g) (new i c) i c (length (chain_of s.table c)) (first (chain_of s.table c))
  looks-start past i c reads now = record {
    section = z.section;
    is_open = z.is_open;
    of_lane = z.of_lane;
    is_noted = Memᴰ.head refl;
    noted_lane = refl;
    noted_code = refl;
    only = λ q m n. ⊎_elim (λ e. ap (λ (q : Search). q.code) e)
        (λ d. clash (eq-eqb q.lane i n) (of-drops (search_of i) q g.searches d).1) (Memᴰ.cases_cons m);
    since = omega arith;
    trail = trail-start s.table c (record { instant = suc k; not_before = omega arith; not_after = omega arith; whole = rw now (v.entries c) });
  }
    where
      z : OpenOn g.sections i
      z = v.sections.section i reads

  -- ---- step

  -- the ledger strikes the lookup of a step that answers
  pub keeps-step : (i : ℕ) (r : Answer) → WellFormed (with_lane s i (stepped s.table))
      → Keeps k s (with_lane s i (stepped s.table)) g (cond (is_answer r) (search_struck i g) g)
  keeps-step i r w = cond_cases (Keeps k s (with_lane s i (stepped s.table)) g) (is_answer r)
      (λ t. keeps-lookup v i (stepped s.table) _ (drops (search_of i) g.searches) refl w)
      (λ t. keeps-lookup v i (stepped s.table) _ g.searches refl w)

  -- a step at a slot of another code goes on to its link, with a step less to go
  pub looks_on : {past : ℕ → Ledger} (q : Search) (i c n p : ℕ) → p ≢ none → (product_at s.table.products p).code ≢ c
      → Looks past k s.table g q i c n p → (m : ℕ) × (n ≡ suc m) × Looks past k s.table g q i c m (link_of s.table p)
  looks_on q i c n p a d h =
      let r = trail-step s.table c n p a d (λ x. omega (arith, standing-once v.well_formed x)) (retained-unchained v h.section) h.trail in (
        r.0,
        r.1,
        record {
          section = h.section;
          is_open = h.is_open;
          of_lane = h.of_lane;
          is_noted = h.is_noted;
          noted_lane = h.noted_lane;
          noted_code = h.noted_code;
          only = h.only;
          since = h.since;
          trail = r.2;
        },
      )
