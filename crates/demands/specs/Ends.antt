-- What document 02's request 3 asks of end, of the functions for C, and that it holds (`ends-hold`).
use Rattle.std.specs.Prelude.{ℕ, ◌≡◌, refl, List, length}
use Rattle.std.proofs.Common.{sym, ap, ◌∙◌, ltb-false}
use Rattle.model.specs.State.{Lookup, Lane, State}
use Rattle.model.specs.Engine.{set_lookup, with_lanes}
use Rattle.model.specs.Rules.{end, with_engine, with_lane, leaving, performed}
use Rattle.model.specs.Memory.{state}
use Rattle.model.specs.Calls.{on_state, reply, left}
use Rattle.model.specs.Ledger.{Event, AfterEnds}
use Rattle.laws.specs.ListLaws.{update-update}
use Rattle.representation.specs.Sound.{Sound}
use Rattle.representation.proofs.Causes.Passed.{next-accepted, status-accepted}
use Rattle.history.proofs.AfterEnds.{after-ends}
use Rattle.product_table.specs.Called.{answer_length, Called}
use Rattle.demands.specs.Demands.{OfEveryList}
use Rattle.demands.specs.Runs.{made-long}
use Rattle.demands.specs.Proved.{demand2, on-lists}

-- ---- what is asked

pub record Ends : Type 0 where
  -- over every list: after an accepted end the ledger has neither section nor lookup of the lane, and no step of it is accepted before a new start
  pub list : OfEveryList (λ (h : List Event) (m : List ℕ). AfterEnds h)
  -- a dropped lookup leaves no trace, and holds up no slot: whatever the lane's lookup was, an accepted end leaves the same state
  pub no_trace : (i : ℕ) (k : Lookup) (m a n b m' a' n' b' : List ℕ) → Sound m → Sound m' → state m' ≡ with_lane (state m) i (set_lookup k)
      → Called (on_state (end i)) m a n b 0 → Called (on_state (end i)) m' a' n' b' 0 → state n' ≡ state n

-- ---- that it holds

-- the state after an end that returned 0
end-state : (i : ℕ) (m a n b : List ℕ) → Sound m → Called (on_state (end i)) m a n b 0 → state n ≡ with_lane (state m) i leaving
unfolding performed
end-state i m a n b v h =
    let o = on_state (end i) in
    let f = demand2.calls (end i) m a n b 0 h (ltb-false (length a) answer_length (made-long (reply m o) m (left m o) a n b 0 h refl)) v in
    f.state ∙ next-accepted (state m) (end i) (status-accepted (state m) (end i) (sym f.answer.status))

-- the lane's lookup is put to rest, whatever it was
leaving-alike : (s : State) (i : ℕ) (k : Lookup) → with_lane (with_lane s i (set_lookup k)) i leaving ≡ with_lane s i leaving
leaving-alike s i k =
    ap (λ (ls : List Lane). with_engine s (with_lanes ls s.engine)) (update-update s.engine.lanes i (set_lookup k) leaving)

pub ends-hold : Ends
ends-hold = record {
  list = on-lists (λ (h : List Event) (m : List ℕ). AfterEnds h) after-ends;
  no_trace = λ i k m a n b m' a' n' b' v v' e h h'. end-state i m' a' n' b' v' h'
      ∙ ap (λ (s : State). with_lane s i leaving) e ∙ leaving-alike (state m) i k ∙ sym (end-state i m a n b v h);
}
