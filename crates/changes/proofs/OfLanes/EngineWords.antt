-- The engine's other words: the current generation, the largest requested, the generation of the global current queue, and the masks.
use Prim.Native.Nat.{ℕ, ◌-◌, ◌<◌}
use mathlib.Core.Bool.{true, cond, ◌&&◌, and-true}
use mathlib.Core.Path.{◌≡◌, refl, ap, ◌∙◌}
use mathlib.Core.List.{List, ◌∷◌, ◌++◌}
use native.Mathlib.Omega.{arith}
use lib.ListN.{length, get_or, set}
use lib.Dec.{eqb}
use Rattle.model.specs.Word.{none}
use Rattle.model.specs.Lists.{concat_map, successor_in}
use Rattle.model.specs.State.{Sizes, Queues, Lane, Engine, State}
use Rattle.model.specs.Layout.{current_generation_at, largest_generation_at, yard_mask_at, global_generation_at, free_at, queue_link_at}
use Rattle.model.specs.Engine.{lane_at, set_queues, with_current, with_largest, with_lanes, with_global}
use Rattle.model.specs.Rules.{with_engine}
use Rattle.model.specs.Memory.{contents, lane_mask, cabinet_mask, yard_mask, lane_words, slot_words, queues_of, lane_queues}
use Rattle.model.specs.Calls.{stored}
use Rattle.laws.specs.ListLaws.{get_or_set}
use Rattle.representation.proofs.Addresses.Fields.{Field, top, head, end, mask, lane, slot, yard, Inside, value, top_words, end_words}
use Rattle.representation.proofs.Addresses.Writes.{Writes, put, writes-none, writes-put, writes-done}
use Rattle.changes.proofs.Shows.{Shows}
use Rattle.changes.proofs.Shape.{Shape, queued}

-- one word of a list set, as the values of fields have it
word_set : (ws : List ℕ) (i k x : ℕ) → i < length ws → get_or (set ws i x) k 0 ≡ cond (eqb k i && true) x (get_or ws k 0)
word_set ws i k x h = get_or_set ws i k x 0 h ∙ rw (and-true (eqb k i))

-- the generation of queues anew
abbrev pub with_generation : ℕ → Queues → Queues
with_generation g q = record { next = q.next; current = q.current; done = q.done; generation = g }

-- of a lane's queues
abbrev pub at_generation : ℕ → Lane → Lane
at_generation g l = set_queues (with_generation g l.queues) l

module _ (s : State) (m : List ℕ) (shows : Shows m s) where
  abbrev z : Sizes
  z = s.sizes

  none_yet : Writes z m m (value s)
  none_yet = writes-none z m shows.long (value s) shows.image

  pub write-current : (g : ℕ) → set m current_generation_at g ≡ stored (with_engine s (with_current g s.engine)) m
  unfolding contents slot_words
  write-current g =
      writes-done (with_engine s (with_current g s.engine)) m (set m current_generation_at g) (put (value s) (top current_generation_at) g) shows.long
      (writes-put z m shows.long m (value s) (top current_generation_at) current_generation_at g refl (omega arith) none_yet) held
    where
      held : (f : Field) → Inside z f → value (with_engine s (with_current g s.engine)) f ≡ put (value s) (top current_generation_at) g f
      held (top k) b = word_set (top_words s) current_generation_at k g (omega arith)
      held (head k) b = refl
      held (end k) b = refl
      held (mask c) b = refl
      held (lane i k) b = refl
      held (slot i k) b = refl
      held (yard y) b = refl

  pub write-largest : (g : ℕ) → set m largest_generation_at g ≡ stored (with_engine s (with_largest g s.engine)) m
  unfolding contents slot_words
  write-largest g =
      writes-done (with_engine s (with_largest g s.engine)) m (set m largest_generation_at g) (put (value s) (top largest_generation_at) g) shows.long
      (writes-put z m shows.long m (value s) (top largest_generation_at) largest_generation_at g refl (omega arith) none_yet) held
    where
      held : (f : Field) → Inside z f → value (with_engine s (with_largest g s.engine)) f ≡ put (value s) (top largest_generation_at) g f
      held (top k) b = word_set (top_words s) largest_generation_at k g (omega arith)
      held (head k) b = refl
      held (end k) b = refl
      held (mask c) b = refl
      held (lane i k) b = refl
      held (slot i k) b = refl
      held (yard y) b = refl

  pub write-global-generation : (g : ℕ) → set m global_generation_at g ≡ stored (with_engine s (with_global (with_generation g s.engine.global) s.engine)) m
  unfolding slot_words
  write-global-generation g =
      writes-done t m (set m global_generation_at g) (put (value s) (end (global_generation_at - free_at)) g) shows.long
      (writes-put z m shows.long m (value s) (end (global_generation_at - free_at)) global_generation_at g refl (omega arith) none_yet) held
    where
      t : State
      t = with_engine s (with_global (with_generation g s.engine.global) s.engine)

      held : (f : Field) → Inside z f → value t f ≡ put (value s) (end (global_generation_at - free_at)) g f
      held (top k) b = refl
      held (head k) b = refl
      held (end k) b = word_set (end_words s) (global_generation_at - free_at) k g (omega arith)
      held (mask c) b = refl
      held (lane i k) b = refl
      held (slot i k) b = refl
      held (yard y) b = refl

-- an engine with as many lanes and the same slots queued
pub shape-engine : (s : State) (e : Engine) → Shape s → length e.lanes ≡ length s.engine.lanes
    → ((x : ℕ) → queued x (with_engine s e) ≡ queued x s) → Shape (with_engine s e)
shape-engine s e w l q = record {
  few = w.few;
  chains = w.chains;
  lanes = l ∙ w.lanes;
  links = w.links;
  products = w.products;
  once = λ x. omega (arith, q x, w.once x);
  below = λ x h. w.below x (omega (arith, q x));
}

-- ---- pending bits anew: the masks alone change

module _ (s : State) (ls : List Lane) where
  -- the lanes anew
  abbrev pub with_pending : State
  with_pending = with_engine s (with_lanes ls s.engine)

  -- the fields of s, with the masks of the lanes ls
  abbrev pub masked_value : Field → ℕ
  masked_value (top k) = cond (eqb k yard_mask_at) (yard_mask with_pending) (value s (top k))
  masked_value (head k) = value s (head k)
  masked_value (end k) = value s (end k)
  masked_value (mask c) = lane_mask with_pending c
  masked_value (lane i k) = value s (lane i k)
  masked_value (slot i k) = value s (slot i k)
  masked_value (yard y) = cabinet_mask with_pending y

  -- the lanes differ in their pending bits alone
  module _ (words : (j : ℕ) → lane_words (lane_at with_pending.engine j) ≡ lane_words (lane_at s.engine j))
      (queues : concat_map lane_queues ls ≡ concat_map lane_queues s.engine.lanes) where
    pub value-with_pending : (f : Field) → value with_pending f ≡ masked_value f
    unfolding contents slot_words
    value-with_pending (top k) = get_or_set (top_words s) yard_mask_at k (yard_mask with_pending) 0 (omega arith)
    value-with_pending (head k) = refl
    value-with_pending (end k) = refl
    value-with_pending (mask c) = refl
    value-with_pending (yard y) = refl
    value-with_pending (lane i k) = ap (λ (ws : List ℕ). get_or ws k 0) (words i)
    value-with_pending (slot i k) =
        ap (λ (r : List (List ℕ)). get_or (set (slot_words s i) queue_link_at (successor_in (s.table.free ∷ queues_of s.engine.global ++ r) i none)) k 0) queues
