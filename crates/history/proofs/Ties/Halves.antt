-- The two halves of the invariant: `Grace` of the engine, `Trail` of the chains. They meet only in `Waits`, which lanes a retired slot waits for.
-- Nothing is proved here.
use Prim.Native.Nat.{ℕ, suc, ◌<◌, ◌≤◌}
use mathlib.Core.Path.{◌≡◌}
use mathlib.Core.Logic.{◌≢◌}
use mathlib.Core.Bool.{true, false, cond}
use mathlib.Core.List.{List, [], ◌∷◌, ◌++◌, Memᴰ}
use lib.ListN.{length, get_or}
use lib.Dec.{eqb}
use Rattle.model.specs.Word.{none, word_limit, up, later}
use Rattle.model.specs.Lists.{count, first}
use Rattle.model.specs.State.{Lookup, idle, running, unheld, Queues, Lane, Engine, Product, Table}
use Rattle.model.specs.Engine.{lane_at, quiesced}
use Rattle.model.specs.Table.{product_at, chain_of}
use Rattle.model.specs.Rules.{Answer, accepted}
use Rattle.model.specs.Ledger.{Section, Search, Out, Ledger, search}

-- ---- who waits for whom

-- Section z, open still, was open when slot x, which is out, was removed. Of a section the proof knows its lane, whether it is open, and that a new
-- one is none of the earlier ones; so a lane may have several
pub record Retains (outs : List Out) (sections : List Section) (z : Section) (x : ℕ) : Type 0 where
  pub out : Out
  pub is_out : Memᴰ out outs
  pub of_slot : out.slot ≡ x
  pub is_in : Memᴰ z out.sections
  pub is_open : Memᴰ z sections

-- slot x waits for lane i: an open section of the lane retains it
pub record Waits (outs : List Out) (sections : List Section) (x i : ℕ) : Type 0 where
  pub section : Section
  pub of_lane : section.lane ≡ i
  pub retains : Retains outs sections section x

-- the same, of a ledger
abbrev pub RetainedBy : Ledger → Section → ℕ → Type 0
RetainedBy g z x = Retains g.outs g.sections z x

abbrev pub WaitsFor : Ledger → ℕ → ℕ → Type 0
WaitsFor g x i = Waits g.outs g.sections x i

-- ---- the engine half: a slot that waits for a lane is not done, over any relation W of slots to lanes

-- the running period waits for the lane, and its next clock would not let it go: it went through no quiescent state since its snapshot
pub record Awaited (l : Lane) : Type 0 where
  pub pending : l.pending ≡ true
  pub unmoved : quiesced l ≡ false

-- The batch of generation g waits for a lane. c and m are the current generation and the largest requested; A: the lane is awaited
pub data Pends (c m g : ℕ) (A : Type 0) : Type 0 where
  -- it ends with the running period, which still waits for the lane
  this : g ≡ c → A → Pends c m g A
  -- it ends with the period after, which is asked for, and which will wait for every lane that reads when it begins
  following : g ≡ up c → m ≡ up c → Pends c m g A

-- the queues of one owner are safe; nothing is said of next queues, nor of slots that wait for nobody
pub record Safe (c m : ℕ) (W : ℕ → ℕ → Type 0) (A : ℕ → Type 0) (q : Queues) : Type 0 where
  -- a done slot waits for no lane: needed where it is handed back
  pub done : (x i : ℕ) → 0 < count x q.done → W x i → ⊥
  -- a slot of the current batch that waits for a lane is not over with this generation: needed where the batch goes to done
  pub current : (x i : ℕ) → 0 < count x q.current → W x i → Pends c m q.generation (A i)

-- lane i of e is awaited
abbrev pub AwaitedIn : Engine → ℕ → Type 0
AwaitedIn e i = Awaited (lane_at e i)

-- the queues q are safe in the engine e
abbrev pub SafeIn : (ℕ → ℕ → Type 0) → Engine → Queues → Type 0
SafeIn W e q = Safe e.current e.largest W (AwaitedIn e) q

-- no period runs, and none is asked for
pub record Quiet (e : Engine) : Type 0 where
  pub none : (i : ℕ) → (lane_at e i).pending ≡ false
  pub behind : later e.current e.largest ≡ true

-- what is asked for: the current period, the one after it as well, or nothing
pub data Asked (e : Engine) : Type 0 where
  now : e.largest ≡ e.current → Asked e
  soon : e.largest ≡ up e.current → Asked e
  quiet : Quiet e → Asked e

-- a lane that is not pending holds no snapshot
abbrev pub Unsampled : Lane → Type 0
Unsampled l = l.pending ≡ false → l.snapshot ≡ unheld

-- the lane is on and reads
abbrev pub Reads : Lane → Type 0
Reads l = (l.online ≡ true) × (l.reading ≡ true)

pub record Grace (W : ℕ → ℕ → Type 0) (e : Engine) : Type 0 where
  -- the current generation is a word: below the limit the wrapping order tells it from its neighbours
  pub word : e.current < word_limit
  -- the largest requested is the current, the next, or behind with no period running: so at the end of a period the next one begins if a batch
  -- waits for it, and a batch that begins to wait asks for its own
  pub asked : Asked e
  -- so a period begins with no snapshot, and no quiescent state from before it counts for it
  pub snapshots : (i : ℕ) → Unsampled (lane_at e i)
  -- a lane that is waited for is on and reads: a period that begins waits for it, and it does not pass nor go off
  pub reads : (x i : ℕ) → W x i → Reads (lane_at e i)
  -- the global queues are safe, and those of each lane
  pub global : SafeIn W e e.global
  pub lanes : (i : ℕ) → SafeIn W e (lane_at e i).queues

-- ---- the chain half: what a lookup can still answer

-- the answers of a whole search: no entry, or slot x with what it holds
abbrev pub nothing : Answer
nothing = accepted 2 0 0 0

abbrev pub something : List Product → ℕ → Answer
something ps x = accepted 1 x (product_at ps x).deposit (product_at ps x).material

-- what following the slots xs gives: the first that holds code c
unfoldable pub searched : List Product → ℕ → List ℕ → Answer
searched ps c [] = nothing
searched ps c (x ∷ xs) = cond (eqb (product_at ps x).code c) (something ps x) (searched ps c xs)

-- r was a whole search's answer for code c at an instant from t to k; `past` has the ledger of each instant
pub record Window (past : ℕ → Ledger) (t k c : ℕ) (r : Answer) : Type 0 where
  pub instant : ℕ
  pub not_before : t ≤ instant
  pub not_after : instant ≤ k
  pub whole : search (past instant) c ≡ r

-- The trail of a lookup of code c from its position p on: whatever it meets, its answer will be one of the window S, and at most n steps still go before
-- it is answered. W x: its section retains slot x
pub data Trail (t : Table) (W : ℕ → Type 0) (S : Answer → Type 0) (c : ℕ) : ℕ → ℕ → Type 0 where
  -- p is on the chain, or at its end: what the rest of the chain gives is an answer of the window, and a step for each slot of it may go
  live : {n p : ℕ} (xs ys : List ℕ) → chain_of t c ≡ xs ++ ys → p ≡ first ys → length ys ≤ n → S (searched t.products c ys) → Trail t W S c n p
  -- p is a retired slot that holds c, and was the answer before it was removed: the next step answers
  met : {n p : ℕ} → W p → (product_at t.products p).code ≡ c → S (something t.products p) → Trail t W S c n p
  -- p is a retired slot of another code: the next step goes, and the link that it kept leads on
  beyond : {n p : ℕ} → W p → (product_at t.products p).code ≢ c → Trail t W S c n (get_or t.links p none) → Trail t W S c (suc n) p

-- lane i looks for code c and stands at p, and at most n of its steps still go; the ledger has noted the lookup as q
pub record Looks (past : ℕ → Ledger) (k : ℕ) (t : Table) (g : Ledger) (q : Search) (i c n p : ℕ) : Type 0 where
  -- the open section that it runs in: every slot removed since is retained by it
  pub section : Section
  pub is_open : Memᴰ section g.sections
  pub of_lane : section.lane ≡ i
  -- the ledger has noted it: needed to name it where it is answered, and its start begins the window
  pub is_noted : Memᴰ q g.searches
  pub noted_lane : q.lane ≡ i
  pub noted_code : q.code ≡ c
  -- and has noted no other code of the lane: what is found is of the code that was looked for
  pub only : (x : Search) → Memᴰ x g.searches → x.lane ≡ i → x.code ≡ c
  pub since : q.started ≤ k
  -- its answer will be a whole search's, at an instant since its start, and comes after at most n steps more
  pub trail : Trail t (RetainedBy g section) (Window past q.started k c) c n p

-- a lookup that runs is on its trail
abbrev pub Looking : (past : ℕ → Ledger) (k : ℕ) (t : Table) (g : Ledger) (i : ℕ) → Lookup → Type 0
Looking past k t g i idle = Unit {0}
Looking past k t g i (running c p) = (q : Search) × (n : ℕ) × Looks past k t g q i c n p
