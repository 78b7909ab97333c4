-- What a step does to its lookup, what the trail says of its answer, and one lane's lookup anew.
use Prim.Native.Nat.{ℕ, ◌<◌}
use mathlib.Core.Path.{◌≡◌, refl, ap, ◌∙◌}
use mathlib.Core.Logic.{inl, inr, ◌≢◌}
use mathlib.Core.Bool.{true, false}
use mathlib.Core.List.{List}
use native.Mathlib.Omega.{arith}
use lib.Dec.{eqb}
use borrow.Author.Tests.{eq-eqb}
use Rattle.model.specs.Word.{none}
use Rattle.model.specs.State.{Lookup, idle, running, Lane, Table, State}
use Rattle.model.specs.Engine.{fresh_lane, lane_at, set_lookup, at_lane}
use Rattle.model.specs.Table.{product_at, link_of}
use Rattle.model.specs.Rules.{lane_of, with_lane, Outcome, going, found, absent, find_at, outcome, outcome_answer, continued}
use Rattle.model.specs.Ledger.{Section, Search, Ledger, is_answer}
use Rattle.laws.specs.Tests.{clash, same_or}
use Rattle.laws.specs.ListLaws.{update-cases}
use Rattle.representation.proofs.WellFormed.{WellFormed, chained}
use Rattle.history.proofs.Ties.Halves.{Window, Looks, RetainedBy}
use Rattle.history.proofs.Ties.Invariant.{Tied}
use Rattle.history.proofs.EngineHalf.Grace.{grace-same}
use Rattle.history.proofs.ChainHalf.ChainStretches.{SameOr}
use Rattle.history.proofs.ChainHalf.Trail.{trail-none, trail-found}
use Rattle.history.proofs.CallsKeep.SlotFacts.{standing-once, standing-some, retains-queued, queued-lane}
use Rattle.history.proofs.CallsKeep.Respects.{respects-still, sections-same, outs-same, Keeps}

-- the ledger's lookups become qs
abbrev with_searches : List Search → Ledger → Ledger
with_searches qs g = record { entries = g.entries; sections = g.sections; searches = qs; outs = g.outs }

-- what a step does to its lookup: absent at the end of the chain, found at a slot of the code, otherwise on to the link
pub data Stepped (t : Table) (c p : ℕ) : Outcome → Lookup → Type 0 where
  ends : p ≡ none → Stepped t c p absent idle
  finds : p ≢ none → (product_at t.products p).code ≡ c → Stepped t c p (found (find_at p (product_at t.products p))) idle
  goes : p ≢ none → (product_at t.products p).code ≢ c → Stepped t c p going (running c (link_of t p))

pub stepped-cases : (t : Table) (c p : ℕ) → Stepped t c p (outcome t (running c p)) (continued t (running c p) (outcome t (running c p)))
unfolding outcome continued
stepped-cases t c p = at (same_or p none)
  where
    Goal : Type 0
    Goal = Stepped t c p (outcome t (running c p)) (continued t (running c p) (outcome t (running c p)))

    on : (p ≢ none) × (eqb p none ≡ false) → SameOr (product_at t.products p).code c → Goal
    on n (inl e) = rw (n.1, eq-eqb (product_at t.products p).code c e) (finds n.0 e)
    on n (inr e) = rw (n.1, e.1) (goes n.0 e.0)

    at : SameOr p none → Goal
    at (inl e) = rw (eq-eqb p none e) (ends e)
    at (inr n) = on n (same_or (product_at t.products p).code c)

module _ {k : ℕ} {s : State} {g : Ledger} (v : Tied k s g) where
  -- ---- what the trail says of an answer

  -- a retained slot is in no chain, and is a slot
  pub retained-unchained : (z : Section) (x : ℕ) → RetainedBy g z x → chained x s.table ≡ 0
  retained-unchained z x r = omega (arith, retains-queued v.outs z x r, standing-once v.well_formed x)

  pub retained-some : (z : Section) (x : ℕ) → RetainedBy g z x → x ≢ none
  retained-some z x r = standing-some v.well_formed x (omega (arith, retains-queued v.outs z x r))

  pub chained-some : (x : ℕ) → 0 < chained x s.table → x ≢ none
  chained-some x h = standing-some v.well_formed x (omega arith)

  -- the answer of a step is one of the lookup's window
  pub answer-window : {past : ℕ → Ledger} (q : Search) (i c n p : ℕ) → Looks past k s.table g q i c n p → (o : Outcome) {l : Lookup}
      → Stepped s.table c p o l → is_answer (outcome_answer o) ≡ true → Window past q.started k c (outcome_answer o)
  unfolding outcome_answer
  answer-window q i c n p l o (ends e) h = trail-none s.table c n p e chained-some (retained-some l.section) l.trail
  answer-window q i c n p l o (finds d e) h = trail-found s.table c n p d e l.trail
  answer-window q i c n p l o (goes d e) h = clash h refl

  -- ---- one lane's lookup anew

  -- lane i's lookup becomes l, and the ledger's lookups become qs
  pub keeps-lookup : (i : ℕ) (f : Lane → Lane) (l : Lookup) (qs : List Search) → f (lane_of s i) ≡ set_lookup l (lane_of s i) → WellFormed (with_lane s i f)
      → Keeps k s (with_lane s i f) g (with_searches qs g)
  keeps-lookup i f l qs is w = record {
    tied = record {
      well_formed = w;
      entries = v.entries;
      sections = sections-same (at_lane i f s.engine) reading v.sections;
      outs = outs-same (at_lane i f s.engine) (queued-lane i f s.engine (ap (λ (l : Lane). l.queues) is)) v.outs;
      grace = grace-same i f s.engine (ap (λ (l : Lane). l.queues) is) (ap (λ (l : Lane). l.pending) is) (ap (λ (l : Lane). l.snapshot) is)
          (λ x q. let r = v.grace.reads x i q in
          (ap (λ (l : Lane). l.online) is ∙ r.0, ap (λ (l : Lane). l.reading) is ∙ r.1, ap (λ (l : Lane). l.quiescent) is)) v.grace;
    };
    respects = respects-still k s.table g (with_searches qs g) refl (λ z m o. m);
  }
    where
      reading : (j : ℕ) → (lane_at (at_lane i f s.engine) j).reading ≡ (lane_of s j).reading
      reading = update-cases fresh_lane (λ (j : ℕ) (l : Lane). l.reading ≡ (lane_of s j).reading) s.engine.lanes i f (λ j. refl)
          (ap (λ (l : Lane). l.reading) is)
