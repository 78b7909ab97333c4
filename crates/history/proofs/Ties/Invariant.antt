-- The invariant that ties a state to the ledger: each clause with its sentence and what it is needed for. Halves has `Grace`, the engine half, and
-- `Trail`, the chain half. Nothing is proved here.
use Prim.Native.Nat.{ℕ, ◌<◌, ◌≤◌}
use mathlib.Core.Path.{◌≡◌}
use mathlib.Core.Bool.{true}
use mathlib.Core.List.{List, Memᴰ}
use Rattle.model.specs.State.{Engine, Product, Table, State}
use Rattle.model.specs.Engine.{lane_at}
use Rattle.model.specs.Table.{product_at, chain_of}
use Rattle.model.specs.Rules.{lane_of}
use Rattle.model.specs.Ledger.{Section, Out, Ledger, search}
use Rattle.representation.proofs.Discipline.Frame.{queued}
use Rattle.representation.proofs.WellFormed.{WellFormed, chained}
use Rattle.history.proofs.Ties.Halves.{RetainedBy, WaitsFor, Grace, searched, Looking}

-- ---- state and ledger

-- slot x is out
pub record OutOf (outs : List Out) (x : ℕ) : Type 0 where
  pub out : Out
  pub is_out : Memᴰ out outs
  pub of_slot : out.slot ≡ x

-- lane i has an open section
pub record OpenOn (sections : List Section) (i : ℕ) : Type 0 where
  pub section : Section
  pub is_open : Memᴰ section sections
  pub of_lane : section.lane ≡ i

pub record Sections (k : ℕ) (e : Engine) (sections : List Section) : Type 0 where
  -- an open section's lane reads: so the engine waits for it
  pub reading : (z : Section) → Memᴰ z sections → (lane_at e z.lane).reading ≡ true
  -- a lane that reads has an open section: so a removal notes it
  pub section : (i : ℕ) → (lane_at e i).reading ≡ true → OpenOn sections i
  -- sections are of the past: so no slot waits for one that is opened now
  pub opened : (z : Section) → Memᴰ z sections → z.opened ≤ k

pub record Outs (k : ℕ) (e : Engine) (outs : List Out) : Type 0 where
  -- a queued slot is out: so the slot handed back is one that is
  pub out : (x : ℕ) → 0 < queued x e → OutOf outs x
  -- a slot out is queued, hence neither chained nor free: so what a section retains is not given anew
  pub is_queued : (o : Out) → Memᴰ o outs → 0 < queued o.slot e
  -- the sections that a slot is out with are of the past: so none of them is one that is opened now
  pub before : (o : Out) (z : Section) → Memᴰ o outs → Memᴰ z o.sections → z.opened ≤ k

-- state and ledger are tied at instant k; of the lookups it says nothing
pub record Tied (k : ℕ) (s : State) (g : Ledger) : Type 0 where
  -- the state is one that a legal memory stands for: each slot once, no code twice on the chains, off lanes do not read
  pub well_formed : WellFormed s
  -- the entries are the chained slots: a whole search of the ledger gives what a search of the whole chain gives
  pub entries : (c : ℕ) → search g c ≡ searched s.table.products c (chain_of s.table c)
  -- open sections are the reading lanes'
  pub sections : Sections k s.engine g.sections
  -- slots out are the queued ones
  pub outs : Outs k s.engine g.outs
  -- no slot that waits for a lane is done
  pub grace : Grace (WaitsFor g) s.engine

-- the invariant at instant k
pub record Invariant (past : ℕ → Ledger) (k : ℕ) (s : State) (g : Ledger) : Type 0 where
  pub tied : Tied k s g
  -- each running lookup is on its trail
  pub looking : (i : ℕ) → Looking past k s.table g i (lane_of s i).lookup

-- ---- what was found

-- slot x is chained, or section z retains it: for either reason nothing will clear it while z is open
pub data Anchored (t : Table) (g : Ledger) (z : Section) (x : ℕ) : Type 0 where
  in_chain : 0 < chained x t → Anchored t g z x
  retained : RetainedBy g z x → Anchored t g z x

-- while section z, which is of the past, is open, slot x holds p
pub record Held (k : ℕ) (t : Table) (g : Ledger) (z : Section) (x : ℕ) (p : Product) : Type 0 where
  pub opened : z.opened ≤ k
  pub holds : Memᴰ z g.sections → (product_at t.products x ≡ p) × Anchored t g z x
