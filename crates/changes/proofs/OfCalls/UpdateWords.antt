-- Add, replace, delete and hand-back that no cause refuses: the words after the code's steps, in their order, are those of the state after the call.
use Prim.Native.Nat.{ℕ}
use mathlib.Core.Bool.{true, false}
use mathlib.Core.Path.{◌≡◌}
use mathlib.Core.List.{List}
use Rattle.model.specs.Lists.{is_empty}
use Rattle.model.specs.State.{Sizes, State}
use Rattle.model.specs.Layout.{free_at}
use Rattle.model.specs.Rules.{add, replace, delete, hand_back, lane_of, performed}
use Rattle.model.specs.Memory.{at}
use Rattle.model.specs.Calls.{stored}
use Rattle.representation.proofs.Causes.Accepted.{AddAccepted, ReplaceAccepted, DeleteAccepted, HandBackAccepted}
use Rattle.representation.proofs.WellFormed.{WellFormed}
use Rattle.chains.specs.declared.Found.{Found}
use Rattle.changes.proofs.Shows.{Shows}
use Rattle.changes.proofs.Shape.{Shape, well_formed-shape}
use Rattle.changes.specs.Queues.{global, lane, done, ends_at}
use Rattle.changes.specs.Search.{search_words}
use Rattle.changes.proofs.OfCalls.CallSteps.{added_words, replaced_words, deleted_words, reclaimed_words}
use Rattle.changes.proofs.OfCalls.AddWords.{add_words, replace-words}
use Rattle.changes.proofs.OfCalls.DeleteWords.{delete-words, hand-back-words, hand-back-global-words}

-- ---- calls that no cause refuses

module _ (s : State) (m : List ℕ) (shows : Shows m s) (w : WellFormed s) where
  abbrev sized : Sizes
  sized = s.sizes

  shaped : Shape s
  shaped = well_formed-shape s w

  pub add-stored : (i c d t n : ℕ) → AddAccepted s i c d t → n ≡ at m free_at → added_words sized m n c d t ≡ stored (performed s (add i c d t)) m
  add-stored i c d t n h e = add_words s m shows shaped c d t h.free i n e

  pub replace-stored : (i c d t n : ℕ) (f : Found) → ReplaceAccepted s i c d t → n ≡ at m free_at → f ≡ search_words sized m c
      → replaced_words sized m i n c d t f ≡ stored (performed s (replace i c d t)) m
  replace-stored i c d t n f h e g = replace-words s m shows shaped c d t h.free i h.lane.known h.present n f e g

  pub delete-stored : (i c : ℕ) (f : Found) → DeleteAccepted s i c → f ≡ search_words sized m c
      → deleted_words sized m i c f ≡ stored (performed s (delete i c)) m
  delete-stored i c f h e = delete-words s m shows shaped i c h.lane.known h.present f e

  -- from the lane's done queue, where it is not empty
  pub hand-back-lane-stored : (i n : ℕ) → HandBackAccepted s i → is_empty (lane_of s i).queues.done ≡ false → n ≡ at m (ends_at sized (lane i done))
      → reclaimed_words sized m (lane i done) n ≡ stored (performed s (hand_back i)) m
  hand-back-lane-stored i n h some e = hand-back-words s m shows shaped i n h.lane.known some e

  -- else from the global one
  pub hand-back-global-stored : (i n : ℕ) → HandBackAccepted s i → is_empty (lane_of s i).queues.done ≡ true → n ≡ at m (ends_at sized (global done))
      → reclaimed_words sized m (global done) n ≡ stored (performed s (hand_back i)) m
  hand-back-global-stored i n h empty e =
      let either = h.done in
      hand-back-global-words s m shows shaped i n empty (rw empty at either) e
