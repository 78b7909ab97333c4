-- The slots that a clock moved into done queues: the lengths of the lane's and of the global one after it, less those before it.
use Prim.Native.Nat.{ℕ, ◌+◌, ◌≤◌, ◌<◌}
use mathlib.Core.Path.{◌≡◌, refl, ap, ap₂, ◌∙◌}
use mathlib.Core.List.{List, map}
use native.Mathlib.Omega.{arith}
use lib.ListN.{length, get_or}
use Rattle.model.specs.Word.{less}
use Rattle.model.specs.Lists.{update}
use Rattle.model.specs.State.{lane_count, Lane, Engine, State}
use Rattle.model.specs.Layout.{length_offset, done_offset, queues_at, lane_address}
use Rattle.model.specs.Engine.{fresh_lane, awaiting, clocked, clock_moves}
use Rattle.model.specs.Memory.{at}
use Rattle.laws.specs.ListLaws.{get_or-update-same}
use Rattle.laws.specs.Elements.{map_cases}
use Rattle.representation.proofs.Discipline.Done.{lane_done, counted-clocked}
use Rattle.changes.proofs.Shows.{Shows}
use Rattle.changes.proofs.Shape.{Shape}
use Rattle.changes.specs.Queues.{done, global, lane, queue_of}
use Rattle.changes.proofs.OfQueues.QueueEnds.{length-shown}
use Rattle.changes.proofs.OfQueues.QueueChanges.{queue-few}
use Rattle.periods.specs.Ticks.{done_words}

-- ---- of one lane and all lanes together

module _ (i : ℕ) where
  abbrev own : List Lane → ℕ
  own ls = lane_done (get_or ls i fresh_lane)

  own-changed : (ls : List Lane) (f : Lane → Lane) → i < length ls → own (update ls i f) + lane_done (get_or ls i fresh_lane) ≡ own ls + lane_done (f (get_or ls i fresh_lane))
  own-changed ls f h = omega (arith, ap lane_done (get_or-update-same fresh_lane ls i f h))

  own-awaits : (ls : List Lane) → own (map awaiting ls) ≡ own ls
  own-awaits ls = map_cases fresh_lane (λ (j : ℕ) (l : Lane). lane_done l ≡ lane_done (get_or ls j fresh_lane)) ls awaiting (λ j. refl) (λ j b. refl) i

  -- the slots in the done queues of lane i and of all lanes together
  abbrev pub done_of : Engine → ℕ
  done_of e = length e.global.done + own e.lanes

  pub done-clocked : (e : Engine) → i < length e.lanes → done_of (clocked i e) ≡ done_of e + clock_moves i e
  done-clocked = counted-clocked i own own-changed own-awaits

-- ---- in the words that show a state

module _ (s : State) (m : List ℕ) (shows : Shows m s) (w : Shape s) (i : ℕ) (known : i < lane_count s.sizes) where
  pub done-few : done_of i s.engine ≤ s.sizes.slots + s.sizes.slots
  done-few = omega (arith, queue-few s w (global done), queue-few s w (lane i done))

  pub done-shown : (a : ℕ) → a ≡ lane_address s.sizes i → done_words m a ≡ done_of i s.engine
  done-shown a e =
      let l : at m (a + (queues_at + done_offset + length_offset)) ≡ length (queue_of s (lane i done)) =
      ap (at m) (omega (arith, e)) ∙ length-shown s m shows (lane i done) known in
      let g = length-shown s m shows (global done) tt in
      rw (l, g) (omega (arith, done-few, w.few))

-- before and after the clock, whose state is t
pub moved-shown : (s t : State) (m n : List ℕ) → Shows m s → Shows n t → Shape s → Shape t → (i : ℕ) → i < lane_count s.sizes → t.sizes ≡ s.sizes
    → t.engine ≡ clocked i s.engine → (a : ℕ) → a ≡ lane_address s.sizes i
    → less (done_words n a) (done_words m a) ≡ clock_moves i s.engine
moved-shown s t m n shows after w v i known sizes is a e =
    let x = done-shown s m shows w i known a e in
    let y = done-shown t n after v i (rw sizes known) a (rw sizes e) ∙ ap (done_of i) is ∙ done-clocked i s.engine (omega (arith, known, w.lanes)) in
    ap₂ less y x
    ∙ omega (arith, done-few s m shows w i known, w.few, done-few t n after v i (rw sizes known), v.few, ap (done_of i) is, done-clocked i s.engine (omega (arith, known, w.lanes)))
