-- No figure for the belt is less than n + 1: over every list, a lookup of a code without a record, which nobody disturbs, goes a step for each record on
-- its chain before it is answered.
use Prim.Native.Nat.{ℕ, suc, ◌<◌}
use mathlib.Core.Path.{◌≡◌, refl, sym, ap, ◌∙◌}
use mathlib.Core.Logic.{inl, inr, ◌≢◌}
use mathlib.Core.List.{List, [], ◌∷◌, ◌++◌, append_assoc}
use native.Mathlib.Omega.{arith}
use lib.ListN.{length, replicate}
use Rattle.model.specs.Word.{none}
use Rattle.model.specs.Lists.{count, first}
use Rattle.model.specs.State.{running, Product, Table, State}
use Rattle.model.specs.Table.{product_at, chain_of, link_of}
use Rattle.model.specs.Rules.{start, step, Answer, zeros, lane_of, refusal, absent, going, outcome, outcome_answer, continued, performed, next}
use Rattle.model.specs.Calls.{Call, on_state, reply, left}
use Rattle.model.specs.Ledger.{Event, ledger, events, is_step_of, step_answers, Attained}
use borrow.Author.Tests.{ne_eqb}
use Rattle.laws.specs.Tests.{eqb-self, same_or}
use Rattle.laws.specs.Counts.{mark-self, count-append}
use Rattle.representation.proofs.Causes.Passed.{next-accepted, answer-accepted, status-accepted}
use Rattle.representation.proofs.Causes.Accepted.{accepts}
use Rattle.representation.proofs.WellFormed.{chained}
use Rattle.history.proofs.Ties.Halves.{nothing, searched}
use Rattle.history.proofs.Ties.Invariant.{Invariant}
use Rattle.history.proofs.ChainHalf.ChainStretches.{SameOr, Lacks, chained-at, link_of-chained, searched-here, searched-on}
use Rattle.history.proofs.CallsKeep.SlotFacts.{standing-once, standing-some}
use Rattle.history.proofs.CallsKeep.Lookups.{step-answer, step-lookup, start-lookup}
use Rattle.history.proofs.CallsKeep.Runs.{step-taken}
use Rattle.history.proofs.OverLists.Instants.{past}
use Rattle.history.proofs.OverLists.Stands.{Stands, reply-on, stands-next}
use Rattle.history.proofs.OverLists.Counted.{records-chained}
use Rattle.history.proofs.Corollaries.{EveryList, every-end}

-- a search that gives nothing meets no slot of the code
lacks-nothing : (ps : List Product) (c : ℕ) (xs : List ℕ) → searched ps c xs ≡ nothing → Lacks ps c xs
unfolding count
lacks-nothing ps c [] h = λ x m. absurd (omega arith)
lacks-nothing ps c (y ∷ xs) h = go (same_or (product_at ps y).code c) (lacks-nothing ps c xs)
  where
    go : SameOr (product_at ps y).code c → (searched ps c xs ≡ nothing → Lacks ps c xs) → Lacks ps c (y ∷ xs)
    go (inl e) ih = let d : ◌≡◌ {A = ℕ} 1 2 = ap (λ (r : Answer). r.a) (sym (searched-here ps c y xs e) ∙ h) in absurd (omega arith)
    go (inr e) ih = λ x m. at x m (same_or x y)
      where
        at : (x : ℕ) → 0 < count x (y ∷ xs) → SameOr x y → (product_at ps x).code ≢ c
        at x m (inl q) = rw q e.0
        at x m (inr q) = ih (sym (searched-on ps c y xs e.0) ∙ h) x (omega (arith, rw q.1 at m))

-- a start leaves the table
start-table : (s : State) (i c : ℕ) → refusal s (start i c) ≡ 0 → (next s (start i c)).table ≡ s.table
unfolding performed
start-table s i c z = ap (λ (s : State). s.table) (next-accepted s (start i c) z)

-- the end of a chain is absent, a slot of another code goes on to its link
outcome-none : (t : Table) (c : ℕ) → outcome t (running c none) ≡ absent
unfolding outcome
outcome-none t c = refl

outcome-going : (t : Table) (c p : ℕ) → p ≢ none → (product_at t.products p).code ≢ c → outcome t (running c p) ≡ going
unfolding outcome
outcome-going t c p n d = rw (ne_eqb p none n, ne_eqb (product_at t.products p).code c d)

module _ (i c : ℕ) where
  abbrev step_call : Call
  step_call = on_state (step i)

  -- n steps
  abbrev steps_from : List ℕ → ℕ → List Answer
  steps_from m n = step_answers i (events m (replicate n step_call))

  -- the first of them
  steps_first : (m : List ℕ) (n : ℕ) → steps_from m (suc n) ≡ reply m step_call ∷ steps_from (left m step_call) n
  unfolding events step_answers is_step_of
  steps_first m n = rw (eqb-self i)

  module _ {s : State} {m : List ℕ} (v : Stands s m) (p : ℕ) (e : (lane_of s i).lookup ≡ running c p) where
    taken : refusal s (step i) ≡ 0
    taken = step-taken v.well_formed i c p e

    -- what a step answers and leaves
    reply-step : reply m step_call ≡ outcome_answer (outcome s.table (running c p))
    reply-step = reply-on v (step i) ∙ (answer-accepted s (step i) taken ∙ step-answer s i c p e)

    next-lookup : (lane_of (next s (step i)) i).lookup ≡ continued s.table (running c p) (outcome s.table (running c p))
    next-lookup = rw (next-accepted s (step i) taken) (step-lookup v.well_formed i c p (accepts s (step i) taken).lane.known e)

    next-table : (next s (step i)).table ≡ s.table
    unfolding performed
    next-table = ap (λ (s : State). s.table) (next-accepted s (step i) taken)

  -- a step for each slot of the rest of the chain, and then the answer
  goes_through : (ys xs : List ℕ) (s : State) (m : List ℕ) → Stands s m → (lane_of s i).lookup ≡ running c (first ys) → chain_of s.table c ≡ xs ++ ys
      → Lacks s.table.products c ys → steps_from m (suc (length ys)) ≡ replicate (length ys) zeros ++ (nothing ∷ [])
  unfolding first count outcome_answer continued step_answers events
  goes_through [] xs s m v e q l = steps_first m 0 ∙ ap (λ (r : Answer). r ∷ []) (reply-step v none e ∙ ap outcome_answer (outcome-none s.table c))
  goes_through (y ∷ ys) xs s m v e q l =
      steps_first m (suc (length ys)) ∙ (ap (λ (r : Answer). r ∷ steps_from (left m step_call) (suc (length ys))) (reply-step v y e ∙ ap outcome_answer goes)
      ∙ ap (λ (rs : List Answer). zeros ∷ rs) (goes_through ys (xs ++ (y ∷ [])) (next s (step i)) (left m step_call) (stands-next v (step i))
      (next-lookup v y e ∙ (ap (continued s.table (running c y)) goes ∙ ap (running c) link)) (rw (next-table v y e, append_assoc) q)
      (λ x d. rw (next-table v y e) (l x (omega arith)))))
    where
      here : 0 < chained y s.table
      here = omega (arith, chained-at s.table c y, ap (count y) q, count-append y xs (y ∷ ys), mark-self y)

      goes : outcome s.table (running c y) ≡ going
      goes = outcome-going s.table c y (standing-some v.well_formed y (omega (arith, here))) (l y (omega (arith, mark-self y)))

      link : link_of s.table y ≡ first ys
      link = link_of-chained s.table c y xs ys q (omega (arith, standing-once v.well_formed y))

-- ---- the theorem

-- where the state s of memory m is tied to the ledger after h
attained-at : (h : List Event) (m : List ℕ) (s : State) → Stands s m → Invariant (past h) (length h) s (ledger h) → Attained h m
attained-at h m s t v i c ok none = rw (records-chained h v.tied c)
    (goes_through i c (chain_of s.table c) [] (next s (start i c)) _ (stands-next t (start i c)) lookup (ap (λ (t : Table). chain_of t c) table) lacks)
  where
    taken : refusal s (start i c) ≡ 0
    taken = status-accepted s (start i c) (ap (λ (r : Answer). r.status) (sym (reply-on t (start i c))) ∙ ok)

    table : (next s (start i c)).table ≡ s.table
    table = start-table s i c taken

    lookup : (lane_of (next s (start i c)) i).lookup ≡ running c (first (chain_of s.table c))
    lookup = rw (next-accepted s (start i c) taken) (start-lookup t.well_formed i c (accepts s (start i c) taken).lane.known)

    lacks : Lacks (next s (start i c)).table.products c (chain_of s.table c)
    lacks = rw table (lacks-nothing s.table.products c (chain_of s.table c) (sym (v.tied.entries c) ∙ none))

pub attained : EveryList Attained
attained = every-end Attained attained-at
