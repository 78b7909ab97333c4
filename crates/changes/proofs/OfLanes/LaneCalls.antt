-- Start, pass and step that no cause refuses: the words of the lane's record that the code stores are those of the state after the call.
use Prim.Native.Nat.{ℕ, ◌+◌, ◌<◌}
use mathlib.Core.Path.{◌≡◌, refl, ap, sym, ◌∙◌}
use mathlib.Core.List.{List}
use lib.ListN.{set}
use Rattle.model.specs.Lists.{update, first}
use Rattle.model.specs.State.{Lookup, lane_count, running, Lane, State}
use Rattle.model.specs.Layout.{position_at, lane_address}
use Rattle.model.specs.Engine.{fresh_lane, set_lookup, with_lanes}
use Rattle.model.specs.Table.{chain_of, link_of}
use Rattle.model.specs.Rules.{start, step, pass, lane_of, outcome, going, continued, stepped, with_engine, performed}
use Rattle.model.specs.Memory.{flags}
use Rattle.model.specs.Calls.{stored}
use Rattle.representation.proofs.Causes.Accepted.{PassAccepted}
use Rattle.representation.proofs.WellFormed.{WellFormed}
use Rattle.laws.specs.Updates.{update_alike}
use Rattle.changes.proofs.Shows.{Shows}
use Rattle.changes.proofs.OfLanes.OneLane.{stored_from}
use Rattle.lanes.specs.declared.LaneRecord.{LaneRecord}
use Rattle.lanes.specs.Record.{counted_record}
use Rattle.lanes.specs.RecordChanges.{changed_at}
use Rattle.changes.proofs.OfLanes.LaneWords.{lookup_words, lane-lookup, lane-position}
use Rattle.changes.proofs.OfLanes.LaneRecords.{record-passed}

module _ (s : State) (m : List ℕ) (shows : Shows m s) (w : WellFormed s) (i : ℕ) where
  abbrev l : Lane
  l = lane_of s i

  abbrev a : ℕ
  a = lane_address s.sizes i

  -- the lookup after start
  abbrev pub started : ℕ → Lookup
  started c = running c (first (chain_of s.table c))

  pub start-stored : (c : ℕ) → i < lane_count s.sizes
      → stored_from m a (lookup_words (flags (set_lookup (started c) l)) (started c)) ≡ stored (performed s (start i c)) m
  unfolding performed
  start-stored c known = lane-lookup s m shows w.lanes i known (started c)

  pub pass-stored : (k : ℕ) → PassAccepted s i k → changed_at m a (λ (r : LaneRecord). counted_record r k) ≡ stored (performed s (pass i k)) m
  unfolding performed
  pass-stored k h = record-passed s m shows i h.lane.known w.lanes k (w.fits i).counts.four

  -- ---- step

  -- the lookup after it
  abbrev pub after : Lookup
  after = continued s.table l.lookup (outcome s.table l.lookup)

  step-state : stored (performed s (step i)) m ≡ stored (with_engine s (with_lanes (update s.engine.lanes i (set_lookup after)) s.engine)) m
  unfolding performed
  step-state =
      ap (λ (ls : List Lane). stored (with_engine s (with_lanes ls s.engine)) m)
      (update_alike fresh_lane s.engine.lanes i (stepped s.table) (set_lookup after) refl)

  -- the lookup's words anew, as where it ends
  pub step-stored : i < lane_count s.sizes → stored_from m a (lookup_words (flags (set_lookup after l)) after) ≡ stored (performed s (step i)) m
  step-stored known = lane-lookup s m shows w.lanes i known after ∙ sym step-state

  -- still going: the position alone
  pub step-going-stored : (c p : ℕ) → i < lane_count s.sizes → l.lookup ≡ running c p → outcome s.table (running c p) ≡ going
      → set m (a + position_at) (link_of s.table p) ≡ stored (performed s (step i)) m
  unfolding continued
  step-going-stored c p known e g =
      lane-position s m shows w.lanes i known c p (link_of s.table p) e
      ∙ sym (step-state ∙ ap (λ (k : Lookup). stored (with_engine s (with_lanes (update s.engine.lanes i (set_lookup k)) s.engine)) m) going_on)
    where
      going_on : after ≡ running c (link_of s.table p)
      going_on = ap (λ (k : Lookup). continued s.table k (outcome s.table k)) e ∙ ap (continued s.table (running c p)) g
