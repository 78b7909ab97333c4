-- What document 02's request 5 asks of lookups, of the functions for C, and that it holds (`belt-holds`).
use Rattle.std.specs.Prelude.{ℕ, suc, ◌≡◌, replicate}
use Rattle.std.proofs.Common.{sym, ap, ◌∙◌}
use mathlib.Core.List.{List, [], ◌∷◌, ◌++◌, head-eq_of_cons-eq, tail-eq_of_cons-eq}
use Rattle.model.specs.State.{Sizes}
use Rattle.model.specs.Rules.{start, step, Answer, accepted, zeros}
use Rattle.model.specs.Calls.{Call, set_up, on_state, reply, left}
use Rattle.model.specs.Ledger.{Event, ledger, search, events, records_on, step_answers, start_event, Belt, ChainsCounted, Attained}
use Rattle.history.proofs.Belt.{belt, chains-counted}
use Rattle.history.proofs.Attained.{attained}
use Rattle.product_table.specs.Called.{Called}
use Rattle.demands.specs.Demands.{Run, Ran, last_memory, NoSetUps, calls_of, events_of, OfEveryList}
use Rattle.demands.specs.Runs.{ran-events}
use Rattle.demands.specs.Proved.{on-lists}

-- ---- what is asked

-- a start of lane i for code c, and n + 1 steps of the lane
abbrev pub alone : ℕ → ℕ → ℕ → List Call
alone i c n = on_state (start i c) ∷ replicate (suc n) (on_state (step i))

pub record Figure : Type 0 where
  -- over every list: with n records on its chain at its start, a lookup that is not dropped has its answer by step n + 1 of its lane, and no step before
  -- is refused
  pub list : OfEveryList (λ (h : List Event) (m : List ℕ). Belt h)
  -- n is the number of the chain's slots in the memory
  pub chained : OfEveryList ChainsCounted
  -- no figure is less: after the list, of a code without a record, an accepted start and steps alone: n go, and step n + 1 answers
  pub least : (z : Sizes) (m a m₀ b : List ℕ) → Called (set_up z) m a m₀ b 0 → (xs : List Run) → Ran m₀ xs → NoSetUps xs
      → (i k : ℕ) → search (ledger (events_of xs)) k ≡ accepted 2 0 0 0 → let n = records_on k (ledger (events_of xs)).entries in
      (ys : List Run) → Ran (last_memory m₀ xs) ys → calls_of ys ≡ alone i k n → (r : Answer) (es : List Event) → events_of ys ≡ start_event i k r ∷ es
      → r.status ≡ 0 → step_answers i es ≡ replicate n zeros ++ (accepted 2 0 0 0 ∷ [])

-- ---- that it holds

-- a start and steps that were made are those of the model
alone-events : (m : List ℕ) (ys : List Run) → Ran m ys → (i c n : ℕ) → calls_of ys ≡ alone i c n → (r : Answer) (es : List Event)
    → events_of ys ≡ start_event i c r ∷ es
    → (r ≡ reply m (on_state (start i c))) × (es ≡ events (left m (on_state (start i c))) (replicate (suc n) (on_state (step i))))
unfolding events
alone-events m ys ran i c n calls r es is =
    let e = sym is ∙ (ran-events m ys ran ∙ ap (events m) calls) in
    (ap (λ (e : Event). e.answer) (head-eq_of_cons-eq e), tail-eq_of_cons-eq e)

pub belt-holds : Figure
belt-holds = record {
  list = on-lists (λ (h : List Event) (m : List ℕ). Belt h) belt;
  chained = on-lists ChainsCounted chains-counted;
  least = λ z m a m₀ b h xs ran ups i k none ys more calls r es is fine.
      let e = alone-events (last_memory m₀ xs) ys more i k (records_on k (ledger (events_of xs)).entries) calls r es is in
      ap (step_answers i) e.1
      ∙ on-lists Attained attained z m a m₀ b h xs ran ups i k (ap (λ (r : Answer). r.status) (sym e.0) ∙ fine) none;
}
