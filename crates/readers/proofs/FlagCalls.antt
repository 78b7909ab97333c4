-- Begin and on put one flag of their lane, so that the words after the call are those of the lane with that flag; end puts one too (Leaving).
use Prim.Native.Nat.{ℕ}
use mathlib.Core.Path.{◌≡◌, refl, ap, ◌∙◌}
use mathlib.Core.Bool.{Bool, true}
use mathlib.Core.List.{List}
use lib.ListN.{set}
use Rattle.model.specs.State.{Lane}
use Rattle.model.specs.Layout.{flags_at, lane_address, online_bit, reading_bit}
use Rattle.model.specs.Engine.{set_online, set_reading}
use Rattle.model.specs.Rules.{begin, on, zeros, refusal, lane_of, with_lane, performed, result}
use Rattle.model.specs.Memory.{flags, lane_words, lane_queues, sizes, state}
use Rattle.model.specs.Calls.{on_state, stored}
use Rattle.changes.proofs.OfLanes.LaneWords.{lane-flags}
use Rattle.access.specs.declared.Answer.{Answer}
use Rattle.access.specs.declared.Lane as code
use Rattle.access.specs.Contract.{five, Does}
use Rattle.access.specs.Flags.{with_flag, flag_put}
use Rattle.access.specs.Lanes.{LaneIn}
use Rattle.access.proofs.Ways.{performs, shown, well_formed}
use Rattle.access.proofs.FlagLaws.{flags-shown, flags-online, flags-reading}

module _ (m : List ℕ) (l : code.Lane) where
  abbrev own : Lane
  own = lane_of (state m) l.number

  -- g changes the flags alone, and puts b as bit p of them
  pub record Flags (g : Lane → Lane) (p : ℕ) (b : Bool) : Type 0 where
    pub word : with_flag p b (flags own) ≡ flags (g own)
    pub pending : (g own).pending ≡ own.pending
    pub queues : lane_queues (g own) ≡ lane_queues own
    pub alone : lane_words (g own) ≡ set (lane_words own) flags_at (flags (g own))

  pub flag-stored : (g : Lane → Lane) (p : ℕ) (b : Bool) → Flags g p b → LaneIn m l → flag_put m l.address p b ≡ stored (with_lane (state m) l.number g) m
  unfolding state
  flag-stored g p b f k =
      let v = k.named.sound in
      ap (λ (a : ℕ). flag_put m a p b) k.named.address
      ∙ ap (set m (lane_address (sizes m) l.number)) (ap (with_flag p b) (flags-shown m v l.number k.known) ∙ f.word)
      ∙ lane-flags (state m) m (shown m v) (well_formed m v).lanes l.number k.known g f.pending f.queues f.alone

  pub reads : (b : Bool) → Flags (set_reading b) reading_bit b
  unfolding lane_words
  reads b = record { word = flags-reading own b; pending = refl; queues = refl; alone = refl }

  goes_on : Flags (set_online true) online_bit true
  unfolding lane_words
  goes_on = record { word = flags-online own true; pending = refl; queues = refl; alone = refl }

  -- ---- the calls that no cause refuses

  module _ (k : LaneIn m l) (r : Answer) (n : List ℕ) (f : five r ≡ zeros) where
    pub begin-done : 0 ≡ refusal (state m) (begin l.number) → n ≡ flag_put m l.address reading_bit true → Does (on_state (begin l.number)) m r n
    unfolding result performed
    begin-done e g = performs m (begin l.number) k.named.sound e r n f (g ∙ flag-stored _ _ _ (reads true) k)

    pub on-done : 0 ≡ refusal (state m) (on l.number) → n ≡ flag_put m l.address online_bit true → Does (on_state (on l.number)) m r n
    unfolding result performed
    on-done e g = performs m (on l.number) k.named.sound e r n f (g ∙ flag-stored _ _ _ goes_on k)
