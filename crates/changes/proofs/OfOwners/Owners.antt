-- The queues of one owner, a lane or all lanes together: one of them moved to the end of another, with a generation. That is how Advance settles a
-- batch (current to done) and begins one (next to current, which is empty).
use Prim.Native.Nat.{ℕ, ◌+◌, ◌<◌}
use mathlib.Core.Path.{◌≡◌, refl, ap, sym, ◌∙◌}
use mathlib.Core.Logic.{◌≢◌}
use mathlib.Core.Bool.{true, not, ◌&&◌}
use mathlib.Core.List.{List, [], ◌++◌}
use native.Mathlib.Omega.{arith}
use lib.ListN.{set}
use Rattle.model.specs.Word.{later}
use Rattle.model.specs.Lists.{update, is_empty}
use Rattle.model.specs.State.{Sizes, lane_count, Queues, Lane, State}
use Rattle.model.specs.Layout.{global_generation_at, generation_at, lane_address}
use Rattle.model.specs.Engine.{fresh_lane, lane_at, set_queues, with_lanes, with_global, settled, batched}
use Rattle.model.specs.Rules.{with_engine, with_lane}
use Rattle.model.specs.Calls.{stored}
use Rattle.laws.specs.ListLaws.{update-update}
use Rattle.laws.specs.Elements.{is_empty-true}
use Rattle.queues.specs.Queue.{joined}
use Rattle.laws.specs.Updates.{update_same, update_alike}
use Rattle.changes.proofs.Shows.{Shows, shows_then, stored-then}
use Rattle.changes.proofs.Shape.{LaneAtEach, Shape}
use Rattle.changes.specs.Queues.{Part, next, current, done, Queue, global, lane, Named, part_of, with_part, at_part, queue_of}
use Rattle.changes.specs.Queues.{with_queue, joined_state, ends_at}
use Rattle.changes.proofs.OfQueues.QueueStates.{lanes-with_queue}
use Rattle.changes.proofs.OfQueues.QueueJoins.{join-queues}
use Rattle.changes.proofs.OfQueues.QueueShapes.{shape-join}
use Rattle.changes.proofs.OfLanes.EngineWords.{with_generation, at_generation, write-global-generation}
use Rattle.changes.proofs.OfLanes.LaneWords.{lane-generation}
use Rattle.changes.proofs.OfLanes.OneLane.{shape-lane}

-- all lanes, or one
pub data Owner : Type 0 where
  all_lanes : Owner
  one_lane : ℕ → Owner

-- the lane is one of the table
abbrev pub Known : Sizes → Owner → Type 0
Known z all_lanes = Unit {0}
Known z (one_lane i) = i < lane_count z

-- the name of one of its queues
abbrev pub queue_by : Owner → Part → Queue
queue_by all_lanes p = global p
queue_by (one_lane i) p = lane i p

-- its queues
abbrev pub queues_by : State → Owner → Queues
queues_by s all_lanes = s.engine.global
queues_by s (one_lane i) = (lane_at s.engine i).queues

-- where the generation of the owner's current queue stands
abbrev pub generation_by : Sizes → Owner → ℕ
generation_by z all_lanes = global_generation_at
generation_by z (one_lane i) = lane_address z i + generation_at

-- the owner's queues anew
abbrev pub with_queues : Owner → Queues → State → State
with_queues all_lanes q s = with_engine s (with_global q s.engine)
with_queues (one_lane i) q s = with_lane s i (set_queues q)

-- part r appended to part p, and empty afterwards, with generation g
abbrev pub moved : Part → Part → ℕ → Queues → Queues
moved p r g q = with_generation g (with_part r (λ xs. []) (with_part p (λ xs. xs ++ part_of q r) q))

pub named_by : (z : Sizes) (o : Owner) (p : Part) → Known z o → Named z (queue_by o p)
named_by z all_lanes p h = tt
named_by z (one_lane i) p h = h

-- different parts of one owner are different queues
global-apart : (p r : Part) → p ≢ r → global p ≢ global r
global-apart p r n e = n (cc)

lane-apart : (i : ℕ) (p r : Part) → p ≢ r → lane i p ≢ lane i r
lane-apart i p r n e = n (cc)

apart_by : (o : Owner) (p r : Part) → p ≢ r → queue_by o p ≢ queue_by o r
apart_by all_lanes p r n = global-apart p r n
apart_by (one_lane i) p r n = lane-apart i p r n

module _ (s : State) (p r : Part) where
  -- the state after the queues are joined
  abbrev joined_by : Owner → State
  joined_by o = joined_state (queue_by o p) (queue_by o r) s

  -- part r of a lane's queues appended to part p, with r's slots as s has them
  abbrev longer : ℕ → Lane → Lane
  longer i = at_part p (λ xs. xs ++ queue_of s (lane i r))

  abbrev less : Lane → Lane
  less = at_part r (λ xs. [])

  lanes-moved : (i g : ℕ)
      → update (update (update s.engine.lanes i (longer i)) i less) i (at_generation g)
      ≡ update s.engine.lanes i (set_queues (moved p r g (lane_at s.engine i).queues))
  lanes-moved i g =
      ap (λ (ls : List Lane). update ls i (at_generation g)) (update-update s.engine.lanes i (longer i) less)
      ∙ update-update s.engine.lanes i (λ (k : Lane). less (longer i k)) (at_generation g)
      ∙ update_alike fresh_lane s.engine.lanes i _ _ refl

-- the words after the queues are joined
abbrev pub joined_words : Sizes → List ℕ → Owner → Part → Part → List ℕ
joined_words z m o p r = joined m z (ends_at z (queue_by o p)) (ends_at z (queue_by o r))

module _ (s : State) (m : List ℕ) (shows : Shows m s) (w : Shape s) (p r : Part) (apart : p ≢ r) (g : ℕ) where
  abbrev z : Sizes
  z = s.sizes

  joins : (o : Owner) → Known z o → joined_words z m o p r ≡ stored (joined_by s p r o) m
  joins o h = join-queues s m shows w (queue_by o p) (queue_by o r) (named_by z o p h) (named_by z o r h) (apart_by o p r apart)

  lanes-joined : (o : Owner) → LaneAtEach (joined_by s p r o)
  lanes-joined o =
      lanes-with_queue (with_queue (queue_by o p) (λ xs. xs ++ queue_of s (queue_by o r)) s) (queue_by o r) (λ xs. [])
      (lanes-with_queue s (queue_by o p) (λ xs. xs ++ queue_of s (queue_by o r)) w.lanes)

  pub move-queue : (o : Owner) → Known z o → set (joined_words z m o p r) (generation_by z o) g ≡ stored (with_queues o (moved p r g (queues_by s o)) s) m
  move-queue all_lanes h =
      stored-then u (with_queues all_lanes (moved p r g s.engine.global) s) m n (set n global_generation_at g) refl (joins all_lanes h)
      (write-global-generation u n (shows_then u m n shows.long (joins all_lanes h)) g)
    where
      u : State
      u = joined_by s p r all_lanes

      n : List ℕ
      n = joined_words z m all_lanes p r
  move-queue (one_lane i) h =
      stored-then u (with_lane u i (at_generation g)) m n (set n (lane_address z i + generation_at) g) refl (joins (one_lane i) h)
      (lane-generation u n (shows_then u m n shows.long (joins (one_lane i) h)) (lanes-joined (one_lane i)) i h g)
      ∙ ap (λ (ls : List Lane). stored (with_engine s (with_lanes ls s.engine)) m) (lanes-moved s p r i g)
    where
      u : State
      u = joined_by s p r (one_lane i)

      n : List ℕ
      n = joined_words z m (one_lane i) p r

-- the moved queue keeps the shape
module _ (s : State) (w : Shape s) (p r : Part) (apart : p ≢ r) (g : ℕ) where
  shape-joined : (o : Owner) → Known s.sizes o → Shape (joined_by s p r o)
  shape-joined o h = shape-join s w (queue_by o p) (queue_by o r) (named_by s.sizes o p h) (named_by s.sizes o r h) (apart_by o p r apart)

  pub shape-move : (o : Owner) → Known s.sizes o → Shape (with_queues o (moved p r g (queues_by s o)) s)
  shape-move all_lanes h =
      let x = shape-joined all_lanes h in
      record { few = x.few; chains = x.chains; lanes = x.lanes; links = x.links; products = x.products; once = x.once; below = x.below }
  shape-move (one_lane i) h =
      rw (sym (ap (λ (ls : List Lane). with_engine s (with_lanes ls s.engine)) (lanes-moved s p r i g)))
      (shape-lane (joined_by s p r (one_lane i)) i (at_generation g) refl refl (shape-joined (one_lane i) h))

-- ---- advance

pub done-current : done ≢ current
done-current e = let z : ◌≡◌ {A = ℕ} 0 1 = cc in omega arith

pub current-next : current ≢ next
current-next e = let z : ◌≡◌ {A = ℕ} 0 1 = cc in omega arith

-- an owner's queues as they are
pub with_queues-same : (s : State) (o : Owner) → with_queues o (queues_by s o) s ≡ s
with_queues-same s all_lanes = refl
with_queues-same s (one_lane i) =
    ap (λ (ls : List Lane). with_engine s (with_lanes ls s.engine))
    (update_same fresh_lane s.engine.lanes i (set_queues (lane_at s.engine i).queues) refl)

module _ (s : State) (m : List ℕ) (shows : Shows m s) (w : Shape s) (o : Owner) (known : Known s.sizes o) where
  abbrev q : Queues
  q = queues_by s o

  -- the current queue's generation is earlier than c, the current one: it is appended to done
  pub settle-stored : (c : ℕ) → (not (is_empty q.current) && later c q.generation) ≡ true
      → set (joined_words s.sizes m o done current) (generation_by s.sizes o) 0 ≡ stored (with_queues o (settled c q) s) m
  unfolding settled
  settle-stored c e = rw e (move-queue s m shows w done current done-current 0 o known)

  -- current is empty: next becomes current, with generation g
  pub batch-stored : (g : ℕ) → is_empty q.current ≡ true
      → set (joined_words s.sizes m o current next) (generation_by s.sizes o) g ≡ stored (with_queues o (batched g q) s) m
  batch-stored g e =
      move-queue s m shows w current next current-next g o known
      ∙ ap (λ (xs : List ℕ). stored (with_queues o (record { next = []; current = xs ++ q.next; done = q.done; generation = g }) s) m)
      (is_empty-true q.current e)
