-- One lane's own words: a change of one lane that keeps its pending bit and its queues is a store of the words of its record that differ.
use Prim.Native.Nat.{ℕ, zero, suc, ◌+◌, ◌<◌, ◌≤◌}
use mathlib.Core.Bool.{cond, and-true}
use mathlib.Core.Path.{◌≡◌, refl, ap, sym, ◌∙◌}
use mathlib.Core.List.{List, [], ◌∷◌, ◌++◌}
use native.Mathlib.Omega.{arith}
use lib.ListN.{length, get_or, set, length-set}
use lib.Seq.{sets}
use lib.Dec.{eqb}
use Rattle.model.specs.Word.{none}
use Rattle.model.specs.Lists.{update, concat_map, successor_in}
use Rattle.model.specs.State.{Sizes, lane_count, Lane, State}
use Rattle.model.specs.Layout.{lane_length, lane_address, queue_link_at}
use Rattle.model.specs.Engine.{fresh_lane, lane_at, at_lane}
use Rattle.model.specs.Rules.{with_lane}
use Rattle.model.specs.Memory.{lane_words, slot_words, queues_of, lane_queues}
use Rattle.model.specs.Calls.{stored}
use Rattle.laws.specs.Tests.{and-false-right, eqb-self, same, other, decide}
use Rattle.laws.specs.ListLaws.{length-update, get_or_set, get_or-update-same, get_or-update-other}
use Rattle.laws.specs.Elements.{Each}
use Rattle.representation.proofs.Addresses.Fields.{Field, top, head, end, mask, lane, slot, yard, value}
use Rattle.representation.proofs.Addresses.Writes.{Writes, put, writes-none, writes-put, writes-done}
use Rattle.representation.proofs.Addresses.MaskWords.{lane_mask-kept, cabinet_mask-kept, top_kept}
use Rattle.changes.proofs.Shows.{Shows}
use Rattle.changes.proofs.Shape.{LaneAtEach, Shape}
use Rattle.changes.proofs.Puts.{writes-alike}
use Rattle.changes.proofs.OfQueues.QueueFields.{pending-kept}

-- ---- words stored at offsets

-- each of ws, an offset and a word, stored from a on
abbrev pub stored_from : List ℕ → ℕ → List (ℕ × ℕ) → List ℕ
stored_from m a [] = m
stored_from m a (w ∷ ws) = stored_from (set m (a + w.0) w.1) a ws

-- the same in the record itself
abbrev pub set_all : List ℕ → List (ℕ × ℕ) → List ℕ
set_all xs [] = xs
set_all xs (w ∷ ws) = set_all (set xs w.0 w.1) ws

-- ---- lane i's record

-- the fields of s, with the words xs in the record of lane i
abbrev pub lane_over : State → ℕ → List ℕ → Field → ℕ
lane_over s i xs (top k) = value s (top k)
lane_over s i xs (head k) = value s (head k)
lane_over s i xs (end k) = value s (end k)
lane_over s i xs (mask c) = value s (mask c)
lane_over s i xs (lane j k) = cond (eqb j i) (get_or xs k 0) (value s (lane j k))
lane_over s i xs (slot j k) = value s (slot j k)
lane_over s i xs (yard y) = value s (yard y)

module _ (s : State) (i : ℕ) where
  abbrev l : Lane
  l = lane_at s.engine i

  lane_over-own : (f : Field) → value s f ≡ lane_over s i (lane_words l) f
  lane_over-own (top k) = refl
  lane_over-own (head k) = refl
  lane_over-own (end k) = refl
  lane_over-own (mask c) = refl
  lane_over-own (lane j k) =
      elim (decide j i) [
        | same e t u ↦ rw e (rw (eqb-self i))
        | other e t u ↦ rw t
      ]
  lane_over-own (slot j k) = refl
  lane_over-own (yard y) = refl

  lane_over-put : (xs : List ℕ) (a x : ℕ) → a < length xs → (f : Field) → put (lane_over s i xs) (lane i a) x f ≡ lane_over s i (set xs a x) f
  lane_over-put xs a x h (top k) = refl
  lane_over-put xs a x h (head k) = refl
  lane_over-put xs a x h (end k) = refl
  lane_over-put xs a x h (mask c) = refl
  lane_over-put xs a x h (lane j k) =
      elim (decide j i) [
        | same e t u ↦ rw t (rw (and-true (eqb k a)) (sym (get_or_set xs a k x 0 h)))
        | other e t u ↦ rw t (rw (and-false-right (eqb k a)))
      ]
  lane_over-put xs a x h (slot j k) = refl
  lane_over-put xs a x h (yard y) = refl

  module _ (m : List ℕ) (shows : Shows m s) (within : i < lane_count s.sizes) where
    abbrev z : Sizes
    z = s.sizes

    -- no word stored yet
    pub lane-none : Writes z m m (lane_over s i (lane_words l))
    lane-none = writes-alike (lane_over s i (lane_words l)) (λ f b. lane_over-own f) (writes-none z m shows.long (value s) shows.image)

    -- one word more
    pub lane-put : (n xs : List ℕ) (k a x : ℕ) → length xs ≡ lane_length → k < lane_length → a ≡ lane_address z i + k
        → Writes z m n (lane_over s i xs) → Writes z m (set n a x) (lane_over s i (set xs k x))
    lane-put n xs k a x e b q p =
        writes-alike (lane_over s i (set xs k x)) (λ f c. lane_over-put xs k x (omega arith) f)
        (writes-put z m shows.long n (lane_over s i xs) (lane i k) a x q (within, b) p)

    -- words at offsets
    pub lane-all : (ws : List (ℕ × ℕ)) (n xs : List ℕ) → length xs ≡ lane_length → Each (λ w. w.0 < lane_length) ws
        → Writes z m n (lane_over s i xs) → Writes z m (stored_from n (lane_address z i) ws) (lane_over s i (set_all xs ws))
    lane-all [] n xs e b p = p
    lane-all (w ∷ ws) n xs e b p =
        lane-all ws (set n (lane_address z i + w.0) w.1) (set xs w.0 w.1) (length-set xs w.0 w.1 ∙ e) b.1
        (lane-put n xs w.0 (lane_address z i + w.0) w.1 e b.0 refl p)

    -- words one after another
    pub lane-run : (vs : List ℕ) (n xs : List ℕ) (k a : ℕ) → length xs ≡ lane_length → k + length vs ≤ lane_length → a ≡ lane_address z i + k
        → Writes z m n (lane_over s i xs) → Writes z m (sets n a vs) (lane_over s i (sets xs k vs))
    lane-run [] n xs k a e b q p = p
    lane-run (v ∷ vs) n xs k a e b q p =
        lane-run vs (set n a v) (set xs k v) (suc k) (suc a) (length-set xs k v ∙ e) (omega arith) (omega arith) (lane-put n xs k a v e (omega arith) q p)

-- ---- the state with lane i changed by g

queues-kept : (g : Lane → Lane) (ls : List Lane) (i : ℕ) → lane_queues (g (get_or ls i fresh_lane)) ≡ lane_queues (get_or ls i fresh_lane)
    → concat_map lane_queues (update ls i g) ≡ concat_map lane_queues ls
unfolding concat_map update
queues-kept g [] i e = refl
queues-kept g (l ∷ ls) zero e = ap (λ (r : List (List ℕ)). r ++ concat_map lane_queues ls) e
queues-kept g (l ∷ ls) (suc i) e = ap (λ (r : List (List ℕ)). lane_queues l ++ r) (queues-kept g ls i e)

module _ (s : State) (i : ℕ) (g : Lane → Lane) (pending : (g (lane_at s.engine i)).pending ≡ (lane_at s.engine i).pending)
    (queues : lane_queues (g (lane_at s.engine i)) ≡ lane_queues (lane_at s.engine i)) where
  abbrev new : List ℕ
  new = lane_words (g (lane_at s.engine i))

  kept : (j : ℕ) → (lane_at (at_lane i g s.engine) j).pending ≡ (lane_at s.engine j).pending
  kept = pending-kept s.engine i g pending

  pub value-with_lane : i < length s.engine.lanes → (f : Field) → value (with_lane s i g) f ≡ lane_over s i new f
  unfolding slot_words
  value-with_lane h (top k) = top_kept s (at_lane i g s.engine) s.table kept k refl refl
  value-with_lane h (head k) = refl
  value-with_lane h (end k) = refl
  value-with_lane h (mask c) = lane_mask-kept s (at_lane i g s.engine) s.table kept c
  value-with_lane h (yard y) = cabinet_mask-kept s (at_lane i g s.engine) s.table kept y
  value-with_lane h (lane j k) =
      elim (decide j i) [
        | same e t u ↦ rw e (rw (get_or-update-same fresh_lane s.engine.lanes i g h, eqb-self i))
        | other e t u ↦ rw (get_or-update-other fresh_lane s.engine.lanes i g j e, t)
      ]
  value-with_lane h (slot j k) =
      ap (λ (r : List (List ℕ)). get_or (set (slot_words s j) queue_link_at (successor_in (s.table.free ∷ queues_of s.engine.global ++ r) j none)) k 0)
      (queues-kept g s.engine.lanes i queues)

  module _ (m : List ℕ) (shows : Shows m s) (lanes : LaneAtEach s) (within : i < lane_count s.sizes) where
    -- the stores made the record of the changed lane
    pub lane_done : (n : List ℕ) → Writes s.sizes m n (lane_over s i new) → n ≡ stored (with_lane s i g) m
    lane_done n p = writes-done (with_lane s i g) m n (lane_over s i new) shows.long p (λ f b. value-with_lane (omega arith) f)

    -- the words at offsets ws are stored
    pub lane-change : (ws : List (ℕ × ℕ)) → Each (λ w. w.0 < lane_length) ws → new ≡ set_all (lane_words (lane_at s.engine i)) ws
        → stored_from m (lane_address s.sizes i) ws ≡ stored (with_lane s i g) m
    unfolding lane_words
    lane-change ws b e =
        lane_done (stored_from m (lane_address s.sizes i) ws)
        (rw e (lane-all s i m shows within ws m (lane_words (lane_at s.engine i)) refl b (lane-none s i m shows within)))

  pub shape-lane : Shape s → Shape (with_lane s i g)
  shape-lane w = record {
    few = w.few;
    chains = w.chains;
    lanes = length-update s.engine.lanes i g ∙ w.lanes;
    links = w.links;
    products = w.products;
    once = λ x. rw queues-all (w.once x);
    below = λ x h. w.below x (rw queues-all at h);
  }
    where
      queues-all : concat_map lane_queues (update s.engine.lanes i g) ≡ concat_map lane_queues s.engine.lanes
      queues-all = queues-kept g s.engine.lanes i queues
