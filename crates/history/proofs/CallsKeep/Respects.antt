-- What a call leaves to readers, and the laws that follow for every call alike: found slots stay held, and running lookups stay on their trails.
use Prim.Native.Nat.{ℕ, suc, ◌<◌, ◌≤◌}
use mathlib.Core.Path.{◌≡◌, refl, sym, ◌∙◌}
use mathlib.Core.List.{List, Memᴰ}
use native.Mathlib.Omega.{arith}
use Rattle.model.specs.State.{Lookup, idle, running, Engine, Product, Table, State}
use Rattle.model.specs.Engine.{lane_at}
use Rattle.model.specs.Table.{product_at, chain_of}
use Rattle.model.specs.Rules.{Answer}
use Rattle.model.specs.Ledger.{Section, Search, Out, Ledger, search}
use Rattle.representation.proofs.Discipline.Frame.{queued}
use Rattle.representation.proofs.WellFormed.{chained}
use Rattle.history.proofs.Ties.Halves.{searched, Window, Trail, Looks, Looking, RetainedBy}
use Rattle.history.proofs.Ties.Invariant.{Sections, Outs, Tied, Anchored, in_chain, retained, Held}
use Rattle.history.proofs.CallsKeep.SlotFacts.{retains-map}
use Rattle.history.proofs.ChainHalf.Trail.{Stay, Kept, Suffixes, trail-suffix}
use Rattle.history.proofs.ChainHalf.TrailLeaves.{Leaves, trail-leaves}

-- What a call makes of the chains of table t. `heads`: no slot leaves them, and slots come at heads alone. `place`: slot o leaves its chain, and every
-- section that stays open retains it
pub data Chains (t u : Table) (g g' : Ledger) : Type 0 where
  heads : ((c : ℕ) → Suffixes t u c) → Chains t u g g'
  place : {d o : ℕ} {new : List ℕ} → Leaves t u d o new
      → ((z : Section) → Memᴰ z g.sections → Memᴰ z g'.sections → RetainedBy g' z o) → Chains t u g g'

-- A call takes table t and ledger g of instant k to u and g'.
-- `was`: a section that is open after it and older was open before it. `stay`: the slots that an open section retains stay as they are.
-- `kept`: so does what chained slots hold. `anchored`: a chained slot stays chained, or every open section retains it
pub record Respects (k : ℕ) (t u : Table) (g g' : Ledger) : Type 0 where
  pub was : (z : Section) → Memᴰ z g'.sections → z.opened ≤ k → Memᴰ z g.sections
  pub stay : (z : Section) → Memᴰ z g'.sections → Stay t u (RetainedBy g z) (RetainedBy g' z)
  pub kept : Kept t u
  pub anchored : (z : Section) (x : ℕ) → Memᴰ z g.sections → Memᴰ z g'.sections → 0 < chained x t → Anchored u g' z x
  pub chains : Chains t u g g'

-- a call leaves the open sections and the noted lookups of lane i
pub record Spared (g g' : Ledger) (i : ℕ) : Type 0 where
  pub sections : (z : Section) → z.lane ≡ i → Memᴰ z g.sections → Memᴰ z g'.sections
  pub searches : (q : Search) → q.lane ≡ i → Memᴰ q g.searches → Memᴰ q g'.searches
  pub no_other : (q : Search) → q.lane ≡ i → Memᴰ q g'.searches → Memᴰ q g.searches

-- an answer of the window at instant k is one of the window a call later
pub window-later : {past : ℕ → Ledger} {t k c : ℕ} (r : Answer) → Window past t k c r → Window past t (suc k) c r
window-later r h = record { instant = h.instant; not_before = h.not_before; not_after = omega (arith, h.not_after); whole = h.whole }

module _ {k : ℕ} {t u : Table} {g g' : Ledger} (r : Respects k t u g g') where
  -- what was found stays held
  pub held_kept : (z : Section) (x : ℕ) (p : Product) → Held k t g z x p → Held (suc k) u g' z x p
  held_kept z x p h = record { opened = omega (arith, h.opened); holds = λ m. go m (h.holds (r.was z m h.opened)) }
    where
      go : Memᴰ z g'.sections → (product_at t.products x ≡ p) × Anchored t g z x → (product_at u.products x ≡ p) × Anchored u g' z x
      go m (e, in_chain c) = (r.kept x c ∙ e, r.anchored z x (r.was z m h.opened) m c)
      go m (e, retained w) = let a = r.stay z m x w in (a.1 ∙ e, retained a.0)

  -- a trail of a section that stays open; R has what a whole search gives from now on
  trail-kept : (c : ℕ) {S R : Answer → Type 0} → ((a : Answer) → S a → R a) → R (searched u.products c (chain_of u c))
      → (z : Section) → Memᴰ z g.sections → Memᴰ z g'.sections
      → (n p : ℕ) → Trail t (RetainedBy g z) S c n p → Trail u (RetainedBy g' z) R c n p
  trail-kept c {S} {R} sr whole z m m' = go r.chains
    where
      go : Chains t u g g' → (n p : ℕ) → Trail t (RetainedBy g z) S c n p → Trail u (RetainedBy g' z) R c n p
      go (heads h) = trail-suffix t u c sr (r.stay z m') r.kept (h c)
      go (place l mine) = trail-leaves l c sr (r.stay z m') (mine z m m') whole

  -- a running lookup stays on its trail, if the call leaves its lane
  pub looks-kept : (past : ℕ → Ledger) (q : Search) (i c n p : ℕ) → search (past (suc k)) c ≡ searched u.products c (chain_of u c) → Spared g g' i
      → Looks past k t g q i c n p → Looks past (suc k) u g' q i c n p
  looks-kept past q i c n p now h l = record {
    section = l.section;
    is_open = open';
    of_lane = l.of_lane;
    is_noted = h.searches q l.noted_lane l.is_noted;
    noted_lane = l.noted_lane;
    noted_code = l.noted_code;
    only = λ x m e. l.only x (h.no_other x e m) e;
    since = omega (arith, l.since);
    trail = trail-kept c window-later whole l.section l.is_open open' n p l.trail;
  }
    where
      open' : Memᴰ l.section g'.sections
      open' = h.sections l.section l.of_lane l.is_open

      -- what a whole search gives from now on is in the window
      whole : Window past q.started (suc k) c (searched u.products c (chain_of u c))
      whole = record { instant = suc k; not_before = omega (arith, l.since); not_after = omega arith; whole = now }

  pub looking-kept : (past : ℕ → Ledger) (i : ℕ) → ((c : ℕ) → search (past (suc k)) c ≡ searched u.products c (chain_of u c)) → Spared g g' i
      → (l : Lookup) → Looking past k t g i l → Looking past (suc k) u g' i l
  looking-kept past i now h idle l = tt
  looking-kept past i now h (running c p) (q, n, l) = (q, n, looks-kept past q i c n p (now c) h l)

pub spared-same : (g : Ledger) (i : ℕ) → Spared g g i
spared-same g i = record { sections = λ z e m. m; searches = λ q e m. m; no_other = λ q e m. m }

-- a call that changes neither table nor slots out
pub respects-still : (k : ℕ) (t : Table) (g g' : Ledger) → g'.outs ≡ g.outs
    → ((z : Section) → Memᴰ z g'.sections → z.opened ≤ k → Memᴰ z g.sections) → Respects k t t g g'
respects-still k t g g' e f = record {
  was = f;
  stay = λ z m x w. (retains-map z x (λ o q l. rw e l) (λ l. m) w, refl, refl);
  kept = λ x c. refl;
  anchored = λ z x m m' c. in_chain c;
  chains = heads (λ c xs ys z. (xs, z));
}

-- ---- the frame: what a call does not touch

pub sections-same : {k : ℕ} {e : Engine} {zs : List Section} (f : Engine) → ((i : ℕ) → (lane_at f i).reading ≡ (lane_at e i).reading)
    → Sections k e zs → Sections (suc k) f zs
sections-same f h s = record {
  reading = λ z m. h z.lane ∙ s.reading z m;
  section = λ i r. s.section i (sym (h i) ∙ r);
  opened = λ z m. omega (arith, s.opened z m);
}

pub outs-same : {k : ℕ} {e : Engine} {os : List Out} (f : Engine) → ((x : ℕ) → queued x f ≡ queued x e) → Outs k e os → Outs (suc k) f os
outs-same f h s = record {
  out = λ x p. s.out x (rw (h x) at p);
  is_queued = λ o m. rw (h o.slot) (s.is_queued o m);
  before = λ o z m n. omega (arith, s.before o z m n);
}

-- ---- what is shown of each call

-- state and ledger are tied a call later, and what the call leaves to readers
pub record Keeps (k : ℕ) (s s' : State) (g g' : Ledger) : Type 0 where
  pub tied : Tied (suc k) s' g'
  pub respects : Respects k s.table s'.table g g'
