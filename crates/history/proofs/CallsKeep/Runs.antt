-- One lane's lookup through every call, from its start to its answer: a call that is no step of the lane leaves it as it is, no step is refused, and each
-- that does not answer leaves a step less to go.
use Prim.Native.Nat.{ℕ, suc}
use mathlib.Core.Path.{◌≡◌, refl, sym, ap, subst, ◌∙◌}
use mathlib.Core.Bool.{Bool, true, false}
use native.Mathlib.Omega.{arith}
use lib.ListN.{length}
use lib.Dec.{leb}
use borrow.Author.Tests.{lt-leb}
use Rattle.model.specs.Lists.{first}
use Rattle.model.specs.State.{Lookup, running, is_running, Lane, State, lane_count}
use Rattle.model.specs.Engine.{fresh_lane}
use Rattle.model.specs.Table.{chain_of}
use Rattle.model.specs.Rules.{Op, start, step, end, zeros, lane_of, causes, first_cause, refusal}
use Rattle.model.specs.Rules.{performed, answer, next}
use Rattle.model.specs.Calls.{on_state}
use Rattle.model.specs.Ledger.{Search, Ledger, is_answer, fed, fed_call, is_step_of}
use Rattle.laws.specs.Tests.{clash, eqb-self}
use Rattle.laws.specs.Elements.{get_or-within}
use Rattle.representation.proofs.Causes.Passed.{next-accepted, answer-accepted, status-accepted}
use Rattle.representation.proofs.Causes.Accepted.{accepts}
use Rattle.representation.proofs.WellFormed.{LookupFits, WellFormed}
use Rattle.history.proofs.Ties.Halves.{Looks}
use Rattle.history.proofs.Ties.Invariant.{Tied}
use Rattle.history.proofs.CallsKeep.SlotFacts.{reading-online}
use Rattle.history.proofs.CallsKeep.Respects.{Keeps}
use Rattle.history.proofs.CallsKeep.StartStep.{new, looks-start}
use Rattle.history.proofs.CallsKeep.EveryCall.{moves_lookup, moves-cases, is-step}
use Rattle.history.proofs.CallsKeep.Lookups.{StepOf, answers, goes_to, step_of, fed-now, start-lookup, lookup-stays, looks-stays}

-- lane i's lookup of code c is noted as q, and may go n steps more
pub record Runs (past : ℕ → Ledger) (k : ℕ) (s : State) (g : Ledger) (q : Search) (i c n : ℕ) : Type 0 where
  pub position : ℕ
  pub lookup : (lane_of s i).lookup ≡ running c position
  pub looks : Looks past k s.table g q i c n position

-- no step of it is refused: the lane is known, is on, and its lookup runs
pub step-taken : {s : State} → WellFormed s → (i c p : ℕ) → (lane_of s i).lookup ≡ running c p → refusal s (step i) ≡ 0
unfolding causes first_cause is_running
step-taken {s} w i c p e = rw (known, online, ap is_running e)
  where
    known : leb (lane_count s.sizes) i ≡ false
    known = lt-leb (lane_count s.sizes) i
        (omega (arith, w.lanes, get_or-within fresh_lane (λ (l : Lane). is_running l.lookup) s.engine.lanes i refl (ap is_running e)))

    online : (lane_of s i).online ≡ true
    online = reading-online w i (subst (λ (l : Lookup). LookupFits s.sizes.slots (lane_of s i).reading l) e (w.fits i).lookup).0

-- it starts with a step for each slot of its chain
pub runs-start : {k : ℕ} {s : State} {g : Ledger} (v : Tied k s g) (past : ℕ → Ledger) (i c : ℕ) → (answer s (start i c)).status ≡ 0
    → past (suc k) ≡ fed_call (suc k) (on_state (start i c)) (answer s (start i c)) g
    → Runs past (suc k) (next s (start i c)) (fed_call (suc k) (on_state (start i c)) (answer s (start i c)) g) (new v i c) i c
    (length (chain_of (next s (start i c)).table c))
unfolding performed fed
runs-start {k} {s} {g} v past i c e now = rw (next-accepted s (start i c) z, fed-now s (start i c) k g z) (record {
  position = first (chain_of s.table c);
  lookup = start-lookup v.well_formed i c (accepts s (start i c) z).lane.known;
  looks = looks-start v past i c (accepts s (start i c) z).reading (now ∙ fed-now s (start i c) k g z);
})
  where
    z : refusal s (start i c) ≡ 0
    z = status-accepted s (start i c) e

-- the lookup that may go n steps more, after the call o: if that is no step of the lane, as before; a step answers it, or goes and leaves one less
pub data Onward (past : ℕ → Ledger) (k : ℕ) (s : State) (g : Ledger) (o : Op) (q : Search) (i c n : ℕ) : Type 0 where
  stays : is_step_of i (on_state o) ≡ false → Runs past (suc k) (next s o) (fed_call (suc k) (on_state o) (answer s o) g) q i c n
      → Onward past k s g o q i c n
  goes_on : (m : ℕ) → is_step_of i (on_state o) ≡ true → answer s o ≡ zeros → n ≡ suc m
      → Runs past (suc k) (next s o) (fed_call (suc k) (on_state o) (answer s o) g) q i c m → Onward past k s g o q i c n
  is_answered : is_step_of i (on_state o) ≡ true → is_answer (answer s o) ≡ true → Onward past k s g o q i c n

module _ {past : ℕ → Ledger} {k : ℕ} {s : State} {g : Ledger} (v : Tied k s g) (q : Search) (i c n : ℕ) (r : Runs past k s g q i c n) where
  -- its own step
  onward-step : past (suc k) ≡ fed_call (suc k) (on_state (step i)) (answer s (step i)) g → Onward past k s g (step i) q i c n
  unfolding is_step_of
  onward-step now = go (step_of v past q i c n r.position z (now ∙ fed-now s (step i) k g z) r.lookup r.looks)
    where
      z : refusal s (step i) ≡ 0
      z = step-taken v.well_formed i c r.position r.lookup

      go : StepOf v past q i c n → Onward past k s g (step i) q i c n
      go (answers a b) = is_answered (eqb-self i) (rw (answer-accepted s (step i) z) a)
      go (goes_to m p e a b l) = goes_on m (eqb-self i) (answer-accepted s (step i) z ∙ a) e
          (rw (next-accepted s (step i) z, fed-now s (step i) k g z) (record { position = p; lookup = b; looks = l }))

  module _ (o : Op) (f : (answer s o).status ≡ 0 → o ≡ end i → ⊥) where
    -- a call that is no step of the lane, and drops its lookup not, moves it not: while it runs, a start is refused
    unmoved : is_step_of i (on_state o) ≡ false → (answer s o).status ≡ 0 → moves_lookup i o ≡ false
    unfolding is_running is_step_of
    unmoved t u = go (moves_lookup i o) refl
      where
        go : (b : Bool) → moves_lookup i o ≡ b → moves_lookup i o ≡ false
        go false m = m
        go true m = absurd (moves-cases (λ (o : Op). refusal s o ≡ 0 → is_step_of i (on_state o) ≡ false → (o ≡ end i → ⊥) → ⊥) i
            (λ b z t f. clash (ap is_running r.lookup) (accepts s (start i b) z).idle) (λ z t f. clash (eqb-self i) t) (λ z t f. f refl) o m
            (status-accepted s o u) t (f u))

    pub onward : Keeps k s (next s o) g (fed_call (suc k) (on_state o) (answer s o) g) → past (suc k) ≡ fed_call (suc k) (on_state o) (answer s o) g
        → Onward past k s g o q i c n
    onward h now = go (is_step_of i (on_state o)) refl
      where
        own : o ≡ step i → Onward past k s g o q i c n
        own e = subst (λ (o : Op). Onward past k s g o q i c n) (sym e)
            (onward-step (subst (λ (o : Op). past (suc k) ≡ fed_call (suc k) (on_state o) (answer s o) g) e now))

        go : (b : Bool) → is_step_of i (on_state o) ≡ b → Onward past k s g o q i c n
        go true t = own (is-step i o t)
        go false t = stays t (record {
          position = r.position;
          lookup = lookup-stays past o h now i (unmoved t) ∙ r.lookup;
          looks = looks-stays past o h now i (unmoved t) q c n r.position r.looks;
        })
