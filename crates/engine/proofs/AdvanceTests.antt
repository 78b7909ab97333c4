-- The words of Advance at an owner's addresses, and what their tests read of the state that a memory shows.
use Prim.Native.Nat.{ℕ, ◌-◌}
use mathlib.Core.Bool.{Bool, not, cond}
use mathlib.Core.Path.{◌≡◌, refl, ap, ap₂, sym, ◌∙◌}
use mathlib.Core.List.{List}
use native.Mathlib.Omega.{arith}
use lib.ListN.{set}
use lib.Dec.{eqb, ltb}
use Rattle.model.specs.Word.{up, later}
use Rattle.model.specs.Lists.{is_empty}
use Rattle.model.specs.State.{Sizes, Queues, Engine, State}
use Rattle.model.specs.Layout.{free_at, generation_at, global_generation_at, current_generation_at}
use Rattle.model.specs.Engine.{runs, target}
use Rattle.model.specs.Memory.{at, lane_words}
use Rattle.laws.specs.Tests.{not-not}
use Rattle.representation.proofs.Addresses.Fields.{end, lane}
use Rattle.changes.proofs.Shows.{Shows}
use Rattle.changes.proofs.Shape.{Shape}
use Rattle.changes.specs.Queues.{Part, next, current, done, part_of, queue_of, ends_at}
use Rattle.changes.proofs.OfQueues.QueueChanges.{empty-shown}
use Rattle.changes.proofs.OfOwners.Owners.{named_by, Owner, all_lanes, one_lane, Known, queue_by, queues_by, generation_by, joined_words}
use Rattle.engine.specs.declared.OwnerWords.{OwnerWords}
use Rattle.engine.specs.Period.{requested_words}
use Rattle.representation.proofs.FromState.Periods.{yard_mask-runs}
use Rattle.engine.proofs.PeriodLaws.{turned, current-shown, mask-shown}
use Rattle.engine.specs.Advance.{target_word, settled_words, batched_words, begun_words}

-- ---- the words at the owner's addresses

-- where the owner's words stand
abbrev pub words_by : Sizes → Owner → OwnerWords
words_by z o = record { ends = ends_at z (queue_by o next); generation = generation_by z o }

module _ (z : Sizes) (m : List ℕ) (o : Owner) where
  abbrev pub settled_for : List ℕ
  settled_for = settled_words m z (words_by z o)

  abbrev pub begun_for : List ℕ
  begun_for = begun_words m z (words_by z o)

  -- part r moved to part p, with generation g
  abbrev pub moved_for : Part → Part → ℕ → List ℕ
  moved_for p r g = set (joined_words z m o p r) (generation_by z o) g

  abbrev pub asked_for : ℕ → List ℕ
  asked_for g = requested_words (moved_for current next g) z g

  -- part p of its queues is not empty
  abbrev pub filled : Part → Bool
  filled p = ltb (at m (ends_at z (queue_by o p))) z.slots

pub settled-tests : (z : Sizes) (m : List ℕ) (o : Owner)
    → settled_for z m o ≡ cond (filled z m o current) (cond (later (at m current_generation_at) (at m (generation_by z o))) (moved_for z m o done current 0) m) m
unfolding settled_words
settled-tests z m all_lanes = refl
settled-tests z m (one_lane i) = refl

pub begun-tests : (z : Sizes) (m : List ℕ) (o : Owner)
    → begun_for z m o ≡ cond (filled z m o current) m (cond (filled z m o next) (asked_for z m o (target_word m)) m)
unfolding begun_words batched_words
begun-tests z m all_lanes = refl
begun-tests z m (one_lane i) = refl

-- ---- what the tests read

part_by : (s : State) (o : Owner) (p : Part) → queue_of s (queue_by o p) ≡ part_of (queues_by s o) p
part_by s all_lanes p = refl
part_by s (one_lane i) p = refl

module _ (s : State) (m : List ℕ) (shows : Shows m s) where
  abbrev z : Sizes
  z = s.sizes

  abbrev e : Engine
  e = s.engine

  pub generation-shown : (o : Owner) → Known z o → at m (generation_by z o) ≡ (queues_by s o).generation
  unfolding lane_words
  generation-shown all_lanes h = shows.image (end (global_generation_at - free_at)) (omega arith)
  generation-shown (one_lane i) h = shows.image (lane i generation_at) (h, omega arith)

  module _ (w : Shape s) (o : Owner) (known : Known z o) where
    abbrev q : Queues
    q = queues_by s o

    pub filled-shown : (p : Part) → filled z m o p ≡ not (is_empty (part_of q p))
    filled-shown p =
        sym (not-not (filled z m o p)) ∙ ap not (empty-shown s m shows w (queue_by o p) (named_by z o p known) ∙ ap is_empty (part_by s o p))

    pub target-shown : target_word m ≡ target e
    unfolding target_word target
    target-shown =
        ap₂ (λ (b : Bool) (g : ℕ). cond b g (up g)) (ap (λ (k : ℕ). eqb k 0) (mask-shown s m shows) ∙ yard_mask-runs s w.lanes) (current-shown s m shows)
        ∙ turned (runs e) e.current (up e.current)
