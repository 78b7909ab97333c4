-- What a well-formed state and the invariant say of one slot or lane.
use Prim.Native.Nat.{ℕ, zero, suc, ◌<◌, ◌≤◌}
use mathlib.Core.Path.{◌≡◌, refl}
use mathlib.Core.Logic.{◌≢◌}
use mathlib.Core.Bool.{Bool, true, false}
use mathlib.Core.List.{List, [], ◌∷◌, Memᴰ}
use native.Mathlib.Omega.{arith}
use lib.Dec.{leb, leb→le}
use Rattle.model.specs.Word.{none}
use Rattle.model.specs.State.{Lane, Engine, State}
use Rattle.model.specs.Layout.{max_yards, max_cabinets, max_places, max_slots}
use Rattle.model.specs.Legal.{sizes_fit}
use Rattle.model.specs.Engine.{fresh_lane, lane_at, at_lane}
use Rattle.model.specs.Ledger.{Section, Out}
use Rattle.laws.specs.Tests.{clash, true-T, every_true}
use Rattle.laws.specs.Sums.{sum-update-same}
use Rattle.model.specs.Rules.{lane_of}
use Rattle.representation.proofs.Discipline.Frame.{in_lane, queued}
use Rattle.representation.proofs.WellFormed.{WellFormed, standing}
use Rattle.history.proofs.Ties.Halves.{Retains, Waits}
use Rattle.history.proofs.Ties.Invariant.{Outs}

module _ {s : State} (w : WellFormed s) where
  -- each slot stands in at most one chain or queue
  pub standing-once : (x : ℕ) → standing x s ≤ 1
  standing-once x = go (standing x s) refl
    where
      go : (n : ℕ) → standing x s ≡ n → standing x s ≤ 1
      go zero e = omega arith
      go (suc n) e = omega (arith, w.once x (w.range x (omega arith)))

  -- there are at most 1,024 slots, so none is no slot
  pub slots-most : s.sizes.slots ≤ max_slots
  unfolding sizes_fit
  slots-most = leb→le slots max_slots (true-T (leb slots max_slots) (every_true tests w.sizes).1.1.1.1.1.1.1.0)
    where
      yards : ℕ
      yards = s.sizes.yards

      cabinets : ℕ
      cabinets = s.sizes.cabinets

      places : ℕ
      places = s.sizes.places

      slots : ℕ
      slots = s.sizes.slots

      tests : List Bool
      tests = leb 1 yards ∷ leb yards max_yards ∷ leb 1 cabinets ∷ leb cabinets max_cabinets ∷ leb 1 places ∷ leb places max_places ∷ leb 1 slots ∷ leb slots max_slots ∷ []

  pub standing-some : (x : ℕ) → 0 < standing x s → x ≢ none
  standing-some x h = omega (arith, w.range x h, slots-most)

  -- a lane that reads is on
  pub reading-online : (i : ℕ) → (lane_of s i).reading ≡ true → (lane_of s i).online ≡ true
  reading-online i r = go (lane_of s i).online refl
    where
      go : (b : Bool) → (lane_of s i).online ≡ b → (lane_of s i).online ≡ true
      go true e = e
      go false e = clash r ((w.fits i).off e).reading

-- a retained slot is queued
pub retains-queued : {k : ℕ} {e : Engine} {outs : List Out} {sections : List Section} → Outs k e outs
    → (z : Section) (x : ℕ) → Retains outs sections z x → 0 < queued x e
retains-queued h z x r = rw r.of_slot at (h.is_queued r.out r.is_out)

-- a change of a lane that leaves its queues leaves each slot queued as often
pub queued-lane : (i : ℕ) (f : Lane → Lane) (e : Engine) → (f (lane_at e i)).queues ≡ (lane_at e i).queues
    → (x : ℕ) → queued x (at_lane i f e) ≡ queued x e
queued-lane i f e h x = omega (arith, sum-update-same (in_lane x) fresh_lane e.lanes i f (rw h))

-- ---- what is retained, from one ledger to another

module _ {outs outs' : List Out} {sections sections' : List Section} where
  -- the slot is out still, and the section open
  pub retains-map : (z : Section) (x : ℕ) → ((o : Out) → o.slot ≡ x → Memᴰ o outs → Memᴰ o outs')
      → (Memᴰ z sections → Memᴰ z sections') → Retains outs sections z x → Retains outs' sections' z x
  retains-map z x f h r =
      record { out = r.out; is_out = f r.out r.of_slot r.is_out; of_slot = r.of_slot; is_in = r.is_in; is_open = h r.is_open }

  pub waits-map : (x i : ℕ) → ((z : Section) → Retains outs sections z x → Retains outs' sections' z x)
      → Waits outs sections x i → Waits outs' sections' x i
  waits-map x i f w = record { section = w.section; of_lane = w.of_lane; retains = f w.section w.retains }
