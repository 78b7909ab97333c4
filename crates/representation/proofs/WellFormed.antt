-- The states that legal memories stand for: of each sentence on legality (document 01, "The memory", last paragraph) what it says of the state, a
-- field a sentence. Masks, ends of queues, and links of chained and queued slots follow from a state and have no field here.
use Prim.Native.Nat.{ℕ, ◌+◌, ◌%◌, ◌<◌, ◌≤◌}
use mathlib.Core.Path.{◌≡◌}
use mathlib.Core.Logic.{◌⊎◌}
use mathlib.Core.Bool.{Bool, true, false}
use mathlib.Core.List.{List, []}
use lib.ListN.{length, get_or}
use Rattle.model.specs.Word.{none}
use Rattle.model.specs.Lists.{count}
use Rattle.model.specs.State.{Lookup, idle, running, Snapshot, unheld, held, Lane, Engine, Product, Table, State, lane_count}
use Rattle.model.specs.Layout.{max_code, max_deposit, max_material, kinds, count_limit, chain_count}
use Rattle.model.specs.Engine.{no_queues, lane_at}
use Rattle.model.specs.Table.{blank, product_at}
use Rattle.model.specs.Legal.{sizes_fit}
use Rattle.laws.specs.Sums.{sum}
use Rattle.representation.proofs.ExtraWords.{Word, ExtraFits}
use Rattle.representation.proofs.Discipline.Frame.{queued}
use Rattle.representation.proofs.Causes.SlotCounts.{in_table}
use Rattle.representation.proofs.Discipline.Ages.{Strict, Clean, Level}

-- a slot's number or none, of n slots
abbrev pub SlotOrNone : ℕ → ℕ → Type 0
SlotOrNone n x = (x < n) ⊎ (x ≡ none)

-- a count for each kind, in range
pub record Counts (xs : List ℕ) : Type 0 where
  pub four : length xs ≡ kinds
  pub words : (k : ℕ) → get_or xs k 0 < count_limit

-- ---- a lane

-- a lookup of a lane with this section, in a table of n slots
abbrev pub LookupFits : ℕ → Bool → Lookup → Type 0
LookupFits n reading idle = Unit {0}
LookupFits n reading (running c p) = (reading ≡ true) × (c ≤ max_code) × SlotOrNone n p

-- a snapshot of a lane with this mask bit
abbrev pub SnapshotFits : Bool → Snapshot → Type 0
SnapshotFits pending unheld = Unit {0}
SnapshotFits pending (held c) = (pending ≡ true) × Counts c

-- what an off lane lacks
pub record Off (l : Lane) : Type 0 where
  pub reading : l.reading ≡ false
  pub pending : l.pending ≡ false
  pub queues : l.queues ≡ no_queues

-- a lane of a table of n slots; a fresh lane is one, so that no bound on the lane's number is asked for
pub record LaneFits (n : ℕ) (l : Lane) : Type 0 where
  pub counts : Counts l.quiescent
  -- a lookup runs only in an open section; its code and position are in range
  pub lookup : LookupFits n l.reading l.lookup
  -- a snapshot is held only with the mask bit set
  pub snapshot : SnapshotFits l.pending l.snapshot
  -- an off lane has no section, no queues and no mask bit
  pub off : l.online ≡ false → Off l
  -- the words after the lookup's
  pub extra : ExtraFits l

-- ---- the table

-- code, deposit and material are in range
pub record ProductFits (p : Product) : Type 0 where
  pub code : p.code ≤ max_code
  pub deposit : p.deposit ≤ max_deposit
  pub material : p.material ≤ max_material

-- how often x is chained
abbrev pub chained : ℕ → Table → ℕ
chained x t = sum (count x) t.chains

-- a table of n slots
pub record TableFits (n : ℕ) (t : Table) : Type 0 where
  pub chains : length t.chains ≡ chain_count
  pub products : length t.products ≡ n
  pub links : length t.links ≡ n
  -- chained slots are on chain (code mod 64)
  pub on_chain : (k x : ℕ) → 0 < count x (get_or t.chains k []) → (product_at t.products x).code % chain_count ≡ k
  -- no code twice
  pub distinct : (x y : ℕ) → 0 < chained x t → 0 < chained y t → (product_at t.products x).code ≡ (product_at t.products y).code → x ≡ y
  -- fields are in range, of retired slots too
  pub in_range : (x : ℕ) → ProductFits (product_at t.products x)
  -- the chain links of retired slots are in range: nothing else is said of them
  pub link_range : (x : ℕ) → SlotOrNone n (get_or t.links x none)
  -- free slots hold code, deposit and material 0
  pub blanks : (x : ℕ) → 0 < count x t.free → product_at t.products x ≡ blank

-- ---- generations

pub record Generations (e : Engine) : Type 0 where
  -- the current generation is a word
  pub word : Word e.current
  -- with no period running, the largest requested is the current less 1; otherwise it is the current or one more
  pub largest : Level e
  -- a lane's current queue has a generation one before, at, or one after the current, not later than the largest requested, and one before
  -- under a running period only with its bit set; 0 while the queue is empty
  pub lanes : (i : ℕ) → Strict e (lane_at e i)
  -- the global one's is at or one after, again not later than the largest requested; 0 while the queue is empty
  pub global : Clean e e.global

-- ---- a state

-- how often slot x stands in chains and queues
abbrev pub standing : ℕ → State → ℕ
standing x s = in_table x s.table + queued x s.engine

pub record WellFormed (s : State) : Type 0 where
  -- sizes are in range
  pub sizes : sizes_fit s.sizes ≡ true
  -- a lane at each place
  pub lanes : length s.engine.lanes ≡ lane_count s.sizes
  pub fits : (i : ℕ) → LaneFits s.sizes.slots (lane_at s.engine i)
  pub table : TableFits s.sizes.slots s.table
  -- each slot stands in exactly one chain or queue
  pub once : (x : ℕ) → x < s.sizes.slots → standing x s ≡ 1
  -- and nothing else stands there
  pub range : (x : ℕ) → 0 < standing x s → x < s.sizes.slots
  -- free slots hold chain link none; only retired slots keep one
  pub unlinked : (x : ℕ) → queued x s.engine ≡ 0 → get_or s.table.links x none ≡ none
  pub generations : Generations s.engine
