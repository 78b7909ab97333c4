-- Calls that change one lane or the engine alone keep a state well formed.
use Prim.Native.Nat.{ℕ, ◌+◌, ◌%◌, ◌<◌, ◌≤◌}
use mathlib.Core.Path.{◌≡◌, refl, ap, ◌∙◌}
use mathlib.Core.Bool.{Bool, true, false, not}
use native.Mathlib.Omega.{arith}
use lib.ListN.{length, get_or}
use borrow.Author.Tests.{not-false}
use Rattle.model.specs.Word.{none, up_to}
use Rattle.model.specs.Lists.{update, any, first}
use Rattle.model.specs.State.{Lookup, idle, running, Queues, Lane, Engine, Table, State, lane_count}
use Rattle.model.specs.Layout.{max_code, count_limit, chain_count}
use Rattle.model.specs.Engine.{fresh_lane, counted, set_online, set_reading, set_lookup, at_lane, clocked, went_off}
use Rattle.model.specs.Table.{chain_of}
use Rattle.model.specs.Rules.{lane_of, with, with_engine, with_lane, leaving, stepped, continued, outcome, Outcome, going, found, absent, is_online}
use Rattle.laws.specs.Tests.{clash}
use Rattle.laws.specs.ListLaws.{length-update, update-cases}
use Rattle.laws.specs.Sums.{sum, sum-update-same}
use Rattle.representation.proofs.Discipline.Frame.{in_queues, in_lane, queued, Frame, frame-clocked, frame-went_off}
use Rattle.representation.proofs.Causes.SlotCounts.{in_table}
use Rattle.representation.proofs.ExtraWords.{extra-on}
use Rattle.representation.proofs.WellFormed.{WellFormed, LaneFits, TableFits, LookupFits, Generations, standing}
use Rattle.representation.proofs.FromState.Standing.{head-range, chain_link-range}
use Rattle.representation.proofs.CallsWellFormed.EngineFields.{Fits, fits-clocked, fits-went_off}
use Rattle.representation.proofs.CallsWellFormed.EngineGenerations.{generations-at, generations-clocked, generations-went_off}

module _ (s : State) (w : WellFormed s) where
  abbrev n : ℕ
  n = s.sizes.slots

  abbrev e : Engine
  e = s.engine

  abbrev t : Table
  t = s.table

  -- ---- a state with a new engine and a new table

  pub record Anew (f : Engine) (u : Table) : Type 0 where
    pub size : length f.lanes ≡ length e.lanes
    pub fits : Fits n f
    pub table : TableFits n u
    pub same : (x : ℕ) → in_table x u + queued x f ≡ standing x s
    pub unlinked : (x : ℕ) → queued x f ≡ 0 → get_or u.links x none ≡ none
    pub generations : Generations f

  pub anew : (f : Engine) (u : Table) → Anew f u → WellFormed (with s f u)
  anew f u a = record {
    sizes = w.sizes;
    lanes = a.size ∙ w.lanes;
    fits = a.fits;
    table = a.table;
    once = λ x b. a.same x ∙ w.once x b;
    range = λ x h. w.range x (omega (arith, a.same x));
    unlinked = a.unlinked;
    generations = a.generations;
  }

  -- ---- one lane anew

  at-lane : (i : ℕ) (f : Lane → Lane) → ((l : Lane) → (f l).pending ≡ l.pending) → ((l : Lane) → (f l).queues ≡ l.queues) → LaneFits n (f (lane_of s i))
      → WellFormed (with_lane s i f)
  at-lane i f p q k = anew (at_lane i f e) t (record {
    size = length-update e.lanes i f;
    fits = update-cases fresh_lane (λ (j : ℕ) (l : Lane). LaneFits n l) e.lanes i f w.fits k;
    table = w.table;
    same = λ x. omega (arith, kept x);
    unlinked = λ x h. w.unlinked x (omega (arith, kept x));
    generations = generations-at i f e (λ l. record {
      pending = p l;
      current = ap (λ (q : Queues). q.current) (q l);
      generation = ap (λ (q : Queues). q.generation) (q l);
    }) w.generations;
  })
    where
      kept : (x : ℕ) → sum (in_lane x) (update e.lanes i f) ≡ sum (in_lane x) e.lanes
      kept x = sum-update-same (in_lane x) fresh_lane e.lanes i f (ap (in_queues x) (q (lane_of s i)))

  reading-fits : (k : Lookup) (r : Bool) → LookupFits n r k → LookupFits n true k
  reading-fits idle r f = tt
  reading-fits (running c p) r f = (refl, f.1, f.2)

  pub well-begin : (i : ℕ) → (lane_of s i).online ≡ true → WellFormed (with_lane s i (set_reading true))
  well-begin i o = at-lane i (set_reading true) (λ l. refl) (λ l. refl)
      (let f = w.fits i in record {
        counts = f.counts;
        lookup = reading-fits (lane_of s i).lookup _ f.lookup;
        snapshot = f.snapshot;
        off = λ x. clash o x;
        extra = f.extra;
      })

  pub well-end : (i : ℕ) → WellFormed (with_lane s i leaving)
  well-end i = at-lane i leaving (λ l. refl) (λ l. refl)
      (let f = w.fits i in record {
        counts = f.counts;
        lookup = tt;
        snapshot = f.snapshot;
        off = λ x. let u = f.off x in record { reading = refl; pending = u.pending; queues = u.queues };
        extra = f.extra;
      })

  looks : (i : ℕ) (k : Lookup) → LookupFits n (lane_of s i).reading k → LaneFits n (set_lookup k (lane_of s i))
  looks i k h = let f = w.fits i in record {
    counts = f.counts;
    lookup = h;
    snapshot = f.snapshot;
    off = λ x. let u = f.off x in record { reading = u.reading; pending = u.pending; queues = u.queues };
    extra = f.extra;
  }

  -- a lookup at rest: so a lane that leaves may drop it before its section
  pub well-rest : (i : ℕ) → WellFormed (with_lane s i (set_lookup idle))
  well-rest i = at-lane i (set_lookup idle) (λ l. refl) (λ l. refl) (looks i idle tt)

  pub well-start : (i c : ℕ) → (lane_of s i).reading ≡ true → c ≤ max_code → WellFormed (with_lane s i (set_lookup (running c (first (chain_of t c)))))
  well-start i c r h = at-lane i (set_lookup (running c (first (chain_of t c)))) (λ l. refl) (λ l. refl) (looks i _ (r, h, head-range s w (c % chain_count)))

  pub well-step : (i : ℕ) → WellFormed (with_lane s i (stepped t))
  unfolding continued
  well-step i =
      at-lane i (stepped t) (λ l. refl) (λ l. refl)
      (looks i (continued t (lane_of s i).lookup (outcome t (lane_of s i).lookup))
      (go (lane_of s i).lookup (w.fits i).lookup (outcome t (lane_of s i).lookup)))
    where
      go : (k : Lookup) → LookupFits n (lane_of s i).reading k → (o : Outcome) → LookupFits n (lane_of s i).reading (continued t k o)
      go idle f o = tt
      go (running c p) f going = (f.0, f.1, chain_link-range s w p)
      go (running c p) f (found r) = tt
      go (running c p) f absent = tt

  pub well-pass : (i k : ℕ) → WellFormed (with_lane s i (counted k))
  unfolding counted
  well-pass i k = at-lane i (counted k) (λ l. refl) (λ l. refl)
      (let f = w.fits i in record {
        counts = record {
          four = length-update (lane_of s i).quiescent k (up_to count_limit) ∙ f.counts.four;
          words =
              update-cases 0 (λ (j : ℕ) (x : ℕ). x < count_limit) (lane_of s i).quiescent k
              (up_to count_limit) f.counts.words (omega arith);
        };
        lookup = f.lookup;
        snapshot = f.snapshot;
        off = λ x. let u = f.off x in record { reading = u.reading; pending = u.pending; queues = u.queues };
        extra = f.extra;
      })

  pub well-on : (i : ℕ) → WellFormed (with_lane s i (set_online true))
  well-on i = at-lane i (set_online true) (λ l. refl) (λ l. refl) (let f = w.fits i in record {
    counts = f.counts;
    lookup = f.lookup;
    snapshot = f.snapshot;
    off = λ x. clash refl x;
    extra = extra-on (lane_of s i) f.extra;
  })

  -- ---- the engine anew

  engine-anew : (f : Engine) → Frame e f → Fits n f → Generations f → WellFormed (with_engine s f)
  engine-anew f a b c = anew f t (record {
    size = a.size;
    fits = b;
    table = w.table;
    same = λ x. omega (arith, a.once x);
    unlinked = λ x h. w.unlinked x (omega (arith, a.once x));
    generations = c;
  })

  pub in-lanes : (i : ℕ) → i < lane_count s.sizes → i < length e.lanes
  in-lanes i b = omega (arith, w.lanes)

  pub well-clock : (i : ℕ) → i < lane_count s.sizes → (lane_of s i).online ≡ true → WellFormed (with_engine s (clocked i e))
  well-clock i b o =
      engine-anew (clocked i e) (frame-clocked i e) (fits-clocked n i e o w.fits) (generations-clocked n i e (in-lanes i b) o w.fits w.generations)

  pub well-off : (i : ℕ) → i < lane_count s.sizes → (lane_of s i).online ≡ true → (lane_of s i).reading ≡ false
      → not (any is_online (update e.lanes i (set_online false))) ≡ false → WellFormed (with_engine s (went_off i e))
  well-off i b o r a =
      engine-anew (went_off i e) (frame-went_off i e r) (fits-went_off n i e r w.fits)
      (generations-went_off n i e (in-lanes i b) o w.fits w.generations (not-false _ a))
