-- End: the lookup is put to rest, then the section is closed. Between the two the memory is that of the lane with its section open and no lookup, which is
-- legal.
use Prim.Native.Nat.{ℕ}
use mathlib.Core.Path.{◌≡◌, refl, ap, sym, subst, ◌∙◌}
use mathlib.Core.Bool.{true, false}
use mathlib.Core.List.{List}
use Rattle.model.specs.State.{idle, Lane, State}
use Rattle.model.specs.Layout.{reading_bit}
use Rattle.model.specs.Engine.{set_reading, set_lookup, with_lanes}
use Rattle.model.specs.Rules.{end, zeros, refusal, with_engine, with_lane, leaving, performed, result}
use Rattle.model.specs.Memory.{state}
use Rattle.model.specs.Legal.{legal}
use Rattle.model.specs.Calls.{on_state, stored}
use Rattle.laws.specs.ListLaws.{update-update}
use Rattle.representation.specs.Sound.{Sound}
use Rattle.representation.proofs.WellFormed.{WellFormed}
use Rattle.representation.proofs.FromState.Worded.{stored-words}
use Rattle.representation.proofs.CallsWellFormed.NextLanes.{well-rest}
use Rattle.representation.proofs.Round.{round}
use Rattle.changes.proofs.Shows.{stored-stored}
use Rattle.changes.proofs.OfLanes.LaneWords.{lane-lookup}
use Rattle.access.specs.declared.Answer.{Answer}
use Rattle.access.specs.declared.Lane as code
use Rattle.access.specs.Contract.{five, Does}
use Rattle.access.specs.Flags.{flag_put}
use Rattle.access.specs.Lanes.{Named, LaneIn}
use Rattle.access.proofs.Ways.{performs, passed, shown, well_formed, long}
use Rattle.access.proofs.LaneLaws.{lane-known, lane-again}
use Rattle.readers.specs.Lookups.{lookup_stored}
use Rattle.readers.proofs.FlagCalls.{flag-stored, reads}
use Rattle.readers.proofs.LookupLaws.{lookup-stored}

module _ (m : List ℕ) (l : code.Lane) (k : LaneIn m l) where
  -- the lane's lookup at rest
  abbrev resting : State
  resting = with_lane (state m) l.number (set_lookup idle)

  rests : lookup_stored m l.address idle ≡ stored resting m
  unfolding state
  rests =
      let v = k.named.sound in
      lookup-stored m l idle k ∙ lane-lookup (state m) m (shown m v) (well_formed m v).lanes l.number k.known idle

  fits : WellFormed resting
  fits = well-rest (state m) (well_formed m k.named.sound) l.number

  read : (legal (stored resting m) ≡ true) × (state (stored resting m) ≡ resting)
  unfolding state
  read = let r = round resting m fits (long m k.named.sound) in (r.0, r.1)

  -- by what was stored
  module _ (n : List ℕ) (e : n ≡ lookup_stored m l.address idle) where
    pub resting-lane : LaneIn n l
    unfolding state
    resting-lane =
        lane-again m n l k
        (subst Sound (sym (e ∙ rests)) (record { lawful = read.0; words = stored-words resting fits m k.named.sound.words }))
        (ap (λ (x : List ℕ). (state x).sizes) (e ∙ rests) ∙ ap (λ (s : State). s.sizes) read.1)

    left-stored : flag_put n l.address reading_bit false ≡ stored (with_lane (state m) l.number leaving) m
    left-stored =
        let i = l.number in
        flag-stored n l (set_reading false) reading_bit false (reads n l false) resting-lane
        ∙ ap (λ (x : List ℕ). stored (with_lane (state x) i (set_reading false)) x) (e ∙ rests)
        ∙ ap (λ (s : State). stored (with_lane s i (set_reading false)) (stored resting m)) read.1
        ∙ stored-stored resting (with_lane resting i (set_reading false)) m refl
        ∙ ap (λ (ls : List Lane). stored (with_engine (state m) (with_lanes ls (state m).engine)) m)
        (update-update (state m).engine.lanes i (set_lookup idle) (set_reading false))

-- ---- the call that no cause refuses

module _ (m : List ℕ) (l : code.Lane) (k : Named m l) where
  pub end-done : 0 ≡ refusal (state m) (end l.number) → (r : Answer) (n o : List ℕ) → five r ≡ zeros → n ≡ lookup_stored m l.address idle
      → o ≡ flag_put n l.address reading_bit false → Does (on_state (end l.number)) m r o
  unfolding result performed
  end-done e r n o f g q =
      let w = lane-known m l k (passed m (end l.number) e).lane.known in
      performs m (end l.number) k.sound e r o f (q ∙ left-stored m l w n g)
