-- The ways out of off and clock: the engine is given the lane's place, and the words after it are those of the state after the call.
use Prim.Native.Nat.{ℕ, ◌%◌, ◌<◌}
use native.Mathlib.Nat.{mod-lt}
use mathlib.Core.Path.{◌≡◌, refl, ap, ap₂, sym, ◌∙◌}
use mathlib.Core.Bool.{cond}
use lib.Dec.{eqb}
use mathlib.Core.List.{List, []}
use native.Mathlib.Omega.{arith}
use Rattle.model.specs.Word.{less}
use Rattle.model.specs.Layout.{current_generation_at, largest_generation_at, yard_mask_at}
use Rattle.model.specs.State.{Sizes, State}
use Rattle.model.specs.Engine.{clock_moves}
use Rattle.model.specs.Rules.{off, clock, zeros, accepted, first_cause, of_lane, causes, refusal, result, performed}
use Rattle.model.specs.Memory.{at, sizes, state}
use Rattle.model.specs.Calls.{on_state, stored}
use Rattle.words.specs.Lent.{sizes_of}
use Rattle.representation.specs.Sound.{Sound}
use Rattle.changes.proofs.Shows.{shows_then}
use Rattle.changes.proofs.Shape.{well_formed-shape}
use Rattle.lanes.specs.declared.Place.{Place}
use Rattle.lanes.specs.Cabinet.{LaneLent}
use Rattle.engine.proofs.PeriodLaws.{turned}
use Rattle.engine.specs.Off.{off_words}
use Rattle.engine.proofs.OffLaws.{off-stored}
use Rattle.engine.specs.Clock.{clock_words}
use Rattle.engine.proofs.ClockLaws.{clock-stored, clock-answer, clock-shape}
use Rattle.access.specs.declared.Answer.{Answer}
use Rattle.access.specs.declared.Lane.{Lane}
use Rattle.access.specs.Contract.{five, Does}
use Rattle.access.specs.Lanes.{Named, LaneIn, place_of, Placed}
use Rattle.access.proofs.Ways.{performs, passed, shown, well_formed, in_range}
use Rattle.access.proofs.LaneLaws.{lane-known, cabinet-known, place-lent, lane_of}
use Rattle.periods.specs.Ticks.{runs_in, done_words}
use Rattle.periods.proofs.MovedLaws.{moved-shown}

-- causes 4 and 5 are all that refuse a clock
pub clock-refusal : (s : State) (i x : ℕ) → x ≡ first_cause (of_lane s i []) → x ≡ refusal s (clock i)
unfolding causes
clock-refusal s i x e = e

module _ (m : List ℕ) (l : Lane) (k : LaneIn m l) where
  abbrev v : Sound m
  v = k.named.sound

  abbrev z : Sizes
  z = sizes m

  abbrev i : ℕ
  i = l.number

  in_places : i % z.places < z.places
  in_places = mod-lt i (omega (arith, (in_range m v).some_places))

  -- where the lane stands, by the memory's sizes
  pub placed-lent : (p : Place) → Placed l p → LaneLent m (sizes_of l.sizes) p
  placed-lent p e = place-lent m l p k e.place

  stands : (p : Place) → p ≡ place_of (sizes_of l.sizes) i → p ≡ place_of z i
  stands p e = e ∙ ap (λ (x : Sizes). place_of x i) k.named.sizes

  -- ---- off

  off-words : (p : Place) → p ≡ place_of (sizes_of l.sizes) i → off_words m (sizes_of l.sizes) p ≡ stored (performed (state m) (off i)) m
  unfolding state
  off-words p e =
      ap₂ (off_words m) k.named.sizes (stands p e)
      ∙ off-stored (state m) m (shown m v) (well_formed m v) _ _ (cabinet-known m l k) in_places
      ∙ ap (λ (j : ℕ). stored (performed (state m) (off j)) m) (lane_of z i)

  -- ---- clock

  clock-words : (p : Place) → p ≡ place_of (sizes_of l.sizes) i → clock_words m (sizes_of l.sizes) p ≡ stored (performed (state m) (clock i)) m
  unfolding state
  clock-words p e =
      ap₂ (clock_words m) k.named.sizes (stands p e)
      ∙ clock-stored (state m) m (shown m v) (well_formed m v) _ _ (cabinet-known m l k) in_places i (sym (lane_of z i))

  module _ (n : List ℕ) (e : n ≡ stored (performed (state m) (clock i)) m) where
    -- the slots moved, from the lengths before and after it
    clock-moved : less (done_words n l.address) (done_words m l.address) ≡ clock_moves i (state m).engine
    unfolding state performed
    clock-moved =
        moved-shown (state m) (performed (state m) (clock i)) m n (shown m v)
        (shows_then (performed (state m) (clock i)) m n (shown m v).long e)
        (well_formed-shape (state m) (well_formed m v))
        (clock-shape (state m) m (shown m v) (well_formed m v) _ _ (cabinet-known m l k) in_places i (sym (lane_of z i)))
        i k.known refl refl l.address k.named.address

    -- the answer, from the words after it
    clock-answers : accepted (at n current_generation_at) (at n largest_generation_at) (cond (runs_in n) 1 0) (less (done_words n l.address) (done_words m l.address))
        ≡ result (state m) (clock i)
    unfolding state
    clock-answers =
        ap₂ (accepted (at n current_generation_at) (at n largest_generation_at)) (turned (eqb (at n yard_mask_at) 0) 1 0) clock-moved
        ∙ clock-answer (state m) m (shown m v) (well_formed m v) _ _ (cabinet-known m l k) in_places i (sym (lane_of z i)) n e

-- ---- the calls that no cause refuses

module _ (m : List ℕ) (l : Lane) (k : Named m l) where
  pub off-done : 0 ≡ refusal (state m) (off l.number) → (p : Place) → p ≡ place_of (sizes_of l.sizes) l.number → (r : Answer) (n : List ℕ) → five r ≡ zeros
      → n ≡ off_words m (sizes_of l.sizes) p → Does (on_state (off l.number)) m r n
  unfolding result
  off-done e p q r n f g =
      let w : LaneIn m l = lane-known m l k (passed m (off l.number) e).lane.known in
      performs m (off l.number) k.sound e r n f (g ∙ off-words m l w p q)

  -- done queues had b slots before the clock, a after it, and d more; t is 1 if a period runs
  pub clock-done : 0 ≡ first_cause (of_lane (state m) l.number []) → (p : Place) → p ≡ place_of (sizes_of l.sizes) l.number → (n : List ℕ)
      → n ≡ clock_words m (sizes_of l.sizes) p → (b a d t : ℕ) → b ≡ done_words m l.address → a ≡ done_words n l.address → d ≡ less a b
      → t ≡ cond (runs_in n) 1 0 → (r : Answer) → five r ≡ accepted (at n current_generation_at) (at n largest_generation_at) t d
      → Does (on_state (clock l.number)) m r n
  clock-done e p q n g b a d t eb ea ed et r f =
      let c = clock-refusal (state m) l.number 0 e in
      let w : LaneIn m l = lane-known m l k (passed m (clock l.number) c).known in
      let y : n ≡ stored (performed (state m) (clock l.number)) m = g ∙ clock-words m l w p q in
      performs m (clock l.number) k.sound c r n
      (f ∙ ap₂ (accepted (at n current_generation_at) (at n largest_generation_at)) et (ed ∙ ap₂ less ea eb) ∙ clock-answers m l w n y)
      y
