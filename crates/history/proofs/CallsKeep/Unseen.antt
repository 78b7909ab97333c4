-- The calls that the ledger does not see: pass, clock, on, off, awaited, and every refused call. One frame law covers them.
use Prim.Native.Nat.{ℕ}
use mathlib.Core.Path.{◌≡◌, refl}
use mathlib.Core.Bool.{true, false}
use Rattle.model.specs.State.{Engine, State}
use Rattle.model.specs.Engine.{set_online, at_lane, counted, clocked, went_off}
use Rattle.model.specs.Rules.{lane_of, with_engine, with_lane}
use Rattle.model.specs.Ledger.{Ledger}
use Rattle.laws.specs.Tests.{clash}
use Rattle.representation.proofs.Discipline.Frame.{Frame, frame-refl, frame-lane, frame-clocked, frame-went_off}
use Rattle.representation.proofs.WellFormed.{WellFormed}
use Rattle.history.proofs.Ties.Halves.{Grace, WaitsFor}
use Rattle.history.proofs.Ties.Invariant.{Tied}
use Rattle.history.proofs.EngineHalf.Grace.{grace-same}
use Rattle.history.proofs.EngineHalf.ClockKeeps.{grace-clocked, grace-went_off}
use Rattle.history.proofs.CallsKeep.Respects.{respects-still, sections-same, outs-same, Keeps}

module _ {k : ℕ} {s : State} {g : Ledger} (v : Tied k s g) where
  -- the engine becomes e, which leaves sections, lookups and the number of times that each slot is queued
  pub keeps-unseen : (e : Engine) → WellFormed (with_engine s e) → Frame s.engine e → Grace (WaitsFor g) e → Keeps k s (with_engine s e) g g
  keeps-unseen e w f h = record {
    tied = record {
      well_formed = w;
      entries = v.entries;
      sections = sections-same e f.reading v.sections;
      outs = outs-same e f.once v.outs;
      grace = h;
    };
    respects = respects-still k s.table g g refl (λ z m o. m);
  }

  pub keeps_same : Keeps k s s g g
  keeps_same = keeps-unseen s.engine v.well_formed (frame-refl s.engine) v.grace

  -- pass: the lane does not read, so no slot waits for it
  pub keeps-pass : (i n : ℕ) → WellFormed (with_lane s i (counted n)) → (lane_of s i).reading ≡ false → Keeps k s (with_lane s i (counted n)) g g
  unfolding counted
  keeps-pass i n w h = keeps-unseen (at_lane i (counted n) s.engine) w
      (frame-lane i (counted n) s.engine (record { reading = refl; lookup = refl; online = λ r o. o }) (λ x. refl))
      (grace-same i (counted n) s.engine refl refl refl (λ x q. clash (v.grace.reads x i q).1 h) v.grace)

  pub keeps_on : (i : ℕ) → WellFormed (with_lane s i (set_online true)) → Keeps k s (with_lane s i (set_online true)) g g
  keeps_on i w = keeps-unseen (at_lane i (set_online true) s.engine) w
      (frame-lane i (set_online true) s.engine (record { reading = refl; lookup = refl; online = λ r o. refl }) (λ x. refl))
      (grace-same i (set_online true) s.engine refl refl refl (λ x q. (refl, (v.grace.reads x i q).1, refl)) v.grace)

  pub keeps-clock : (i : ℕ) → WellFormed (with_engine s (clocked i s.engine)) → Keeps k s (with_engine s (clocked i s.engine)) g g
  keeps-clock i w = keeps-unseen (clocked i s.engine) w (frame-clocked i s.engine) (grace-clocked i s.engine v.grace)

  -- off: the lane does not read, so no slot waits for it
  pub keeps-off : (i : ℕ) → WellFormed (with_engine s (went_off i s.engine)) → (lane_of s i).reading ≡ false
      → Keeps k s (with_engine s (went_off i s.engine)) g g
  keeps-off i w h = keeps-unseen (went_off i s.engine) w (frame-went_off i s.engine h)
      (grace-went_off i s.engine v.grace (λ x q. clash (v.grace.reads x i q).1 h))
