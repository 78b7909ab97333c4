-- Of a well-formed state: its sizes, that each slot stands at most once, and which numbers are a slot or none.
use Prim.Native.Nat.{ℕ, ◌+◌, ◌<◌, ◌≤◌}
use mathlib.Core.Path.{◌≡◌, refl}
use mathlib.Core.Logic.{inr}
use mathlib.Core.Bool.{Bool}
use mathlib.Core.List.{List, [], ◌∷◌, ◌++◌}
use native.Mathlib.Omega.{arith}
use native.Mathlib.Decide.{dec_lt}
use lib.ListN.{length, get_or}
use Rattle.model.specs.Word.{none}
use Rattle.model.specs.Lists.{first, last, concat, concat_map, count, successor_in}
use Rattle.model.specs.State.{Lookup, idle, running, Queues, Lane, Engine, Table, State}
use Rattle.model.specs.Engine.{fresh_lane, lane_at}
use Rattle.model.specs.Table.{link_of}
use Rattle.model.specs.Memory.{all_queues, queues_of, lane_queues, lookup_position, head_of}
use Rattle.laws.specs.Sums.{sum, sum-get_or}
use Rattle.laws.specs.Counts.{count-append, count-concat, count-concat-get_or}
use Rattle.laws.specs.Repeats.{length-at-most}
use Rattle.representation.proofs.Discipline.Frame.{in_queues, in_lane, queued}
use Rattle.representation.proofs.Causes.SlotCounts.{in_table}
use Rattle.representation.proofs.WellFormed.{WellFormed, LookupFits, SlotOrNone, standing, chained}
use Rattle.representation.proofs.Sentences.Ranges.{first_range, last-range, successor_in-range}
use Rattle.representation.proofs.Sentences.Facts.{SizesFit}
use Rattle.representation.proofs.Sentences.Split.{sizes-fit}

-- ---- counts over all queues

count-queues_of : (x : ℕ) (q : Queues) (xss : List (List ℕ)) → count x (concat (queues_of q ++ xss)) ≡ in_queues x q + count x (concat xss)
unfolding concat
count-queues_of x q xss =
    let r = concat xss in
    omega (arith, count-append x q.next (q.current ++ (q.done ++ r)), count-append x q.current (q.done ++ r), count-append x q.done r)

count-lanes : (x : ℕ) (ls : List Lane) → count x (concat (concat_map lane_queues ls)) ≡ sum (in_lane x) ls
unfolding concat concat_map count
count-lanes x [] = refl
count-lanes x (l ∷ ls) = omega (arith, count-queues_of x l.queues (concat_map lane_queues ls), count-lanes x ls)

pub count-queues : (x : ℕ) (s : State) → count x (concat (all_queues s)) ≡ count x s.table.free + queued x s.engine
unfolding concat
count-queues x s =
    let ls = concat_map lane_queues s.engine.lanes in
    omega (
      arith,
      count-append x s.table.free (concat (queues_of s.engine.global ++ ls)),
      count-queues_of x s.engine.global ls,
      count-lanes x s.engine.lanes,
    )

-- ---- a well-formed state

module _ (s : State) (w : WellFormed s) where
  abbrev e : Engine
  e = s.engine

  abbrev t : Table
  t = s.table

  abbrev n : ℕ
  n = s.sizes.slots

  pub fit : SizesFit s.sizes
  fit = sizes-fit s.sizes w.sizes

  pub at_most_one : (x : ℕ) → standing x s ≤ 1
  at_most_one x =
      elim (dec_lt x n) [
        | yes b ↦ omega (arith, w.once x b)
        | no b ↦ elim (dec_lt 0 (standing x s)) [ yes p ↦ absurd (b (w.range x p)) | no p ↦ omega arith ]
      ]

  -- at most once, by chains and queues
  pub record Stands (x : ℕ) : Type 0 where
    pub once : standing x s ≤ 1
    pub chains : count x (concat t.chains) ≡ chained x t
    pub queues : count x (concat (all_queues s)) ≡ count x t.free + queued x e

  pub stands : (x : ℕ) → Stands x
  stands x = record { once = at_most_one x; chains = count-concat x t.chains; queues = count-queues x s }

  pub table-once : (x : ℕ) → in_table x t ≤ 1
  table-once x = omega (arith, at_most_one x)

  pub table_below : (x : ℕ) → 0 < in_table x t → x < n
  table_below x h = w.range x (omega arith)

  pub chain-once : (x : ℕ) → count x (concat t.chains) ≤ 1
  chain-once x = omega (arith, stands x)

  pub chain-below : (x : ℕ) → 0 < count x (concat t.chains) → x < n
  chain-below x b = w.range x (omega (arith, stands x))

  pub queue-once : (x : ℕ) → count x (concat (all_queues s)) ≤ 1
  queue-once x = omega (arith, stands x)

  pub queue-below : (x : ℕ) → 0 < count x (concat (all_queues s)) → x < n
  queue-below x b = w.range x (omega (arith, stands x))

  -- ---- slots or none

  pub head-range : (k : ℕ) → SlotOrNone n (head_of t k)
  head-range k = first_range n (get_or t.chains k []) (λ x b. chain-below x (omega (arith, count-concat-get_or t.chains k x)))

  pub chain_link-range : (x : ℕ) → SlotOrNone n (link_of t x)
  chain_link-range x = successor_in-range n t.chains x _ chain-below (w.table.link_range x)

  pub queue_link-range : (x : ℕ) → SlotOrNone n (successor_in (all_queues s) x none)
  queue_link-range x = successor_in-range n (all_queues s) x none queue-below (inr refl)

  pub position-range : (i : ℕ) → SlotOrNone n (lookup_position (lane_at e i).lookup)
  unfolding lookup_position
  position-range i = go (lane_at e i).reading (lane_at e i).lookup (w.fits i).lookup
    where
      go : (r : Bool) (k : Lookup) → LookupFits n r k → SlotOrNone n (lookup_position k)
      go r idle f = inr refl
      go r (running c p) f = f.2

  -- first, last and length of a queue
  pub record EndsFit (xs : List ℕ) : Type 0 where
    pub first : SlotOrNone n (first xs)
    pub last : SlotOrNone n (last xs)
    pub few : length xs ≤ n

  ends-fit : (xs : List ℕ) → ((x : ℕ) → count x xs ≤ standing x s) → EndsFit xs
  ends-fit xs h = record { first = first_range n xs inside; last = last-range n xs inside; few = length-at-most n xs inside once }
    where
      inside : (x : ℕ) → 0 < count x xs → x < n
      inside x b = w.range x (omega (arith, h x))

      once : (x : ℕ) → count x xs ≤ 1
      once x = omega (arith, h x, at_most_one x)

  pub free-ends : EndsFit t.free
  free-ends = ends-fit t.free (λ x. omega arith)

  -- of the queues of one owner
  pub record QueuesFit (q : Queues) : Type 0 where
    pub next : EndsFit q.next
    pub current : EndsFit q.current
    pub done : EndsFit q.done

  queues-fit : (q : Queues) → ((x : ℕ) → in_queues x q ≤ queued x e) → QueuesFit q
  queues-fit q h = record {
    next = ends-fit q.next (λ x. omega (arith, h x));
    current = ends-fit q.current (λ x. omega (arith, h x));
    done = ends-fit q.done (λ x. omega (arith, h x));
  }

  pub global-ends : QueuesFit e.global
  global-ends = queues-fit e.global (λ x. omega arith)

  pub lane-ends : (i : ℕ) → QueuesFit (lane_at e i).queues
  unfolding count
  lane-ends i = queues-fit (lane_at e i).queues (λ x. omega (arith, sum-get_or (in_lane x) fresh_lane e.lanes i refl))
