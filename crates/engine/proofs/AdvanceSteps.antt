-- The steps of an advance on the state, for any owner: its current queue is settled, then a batch begins. They make the model's advance, and keep the shape.
use Prim.Native.Nat.{ℕ}
use mathlib.Core.Bool.{Bool, true, false, not, cond, ◌&&◌}
use mathlib.Core.Path.{◌≡◌, refl, ap, sym, ◌∙◌}
use mathlib.Core.List.{List}
use native.Mathlib.Omega.{arith}
use Rattle.model.specs.Word.{up, later}
use Rattle.model.specs.Lists.{is_empty}
use Rattle.model.specs.State.{Queues, Lane, Engine, State}
use Rattle.model.specs.Engine.{fresh_lane, set_queues, at_lane, with_lanes, with_global, is_pending, settled}
use Rattle.model.specs.Engine.{ready, target, batched, requested, advanced_lane, advanced_global}
use Rattle.model.specs.Rules.{with_engine}
use Rattle.laws.specs.ListLaws.{get_or-update-same, update-update}
use Rattle.laws.specs.Elements.{any-update-same, is_empty-true}
use Rattle.changes.proofs.Shape.{LaneAtEach, Shape}
use Rattle.changes.specs.Queues.{next, current, done}
use Rattle.changes.proofs.OfOwners.Owners.{Owner, all_lanes, one_lane, Known, queues_by, with_queues}
use Rattle.changes.proofs.OfOwners.Owners.{moved, shape-move, done-current, current-next, with_queues-same}
use Rattle.engine.proofs.PeriodLaws.{shape-requested}

-- the engine after the owner's advance
abbrev pub advanced_by : Owner → Engine → Engine
advanced_by all_lanes e = advanced_global e
advanced_by (one_lane i) e = advanced_lane i e

-- the owner's queues anew
abbrev pub queues_set : Owner → Queues → Engine → Engine
queues_set all_lanes q e = with_global q e
queues_set (one_lane i) q e = at_lane i (set_queues q) e

abbrev pub with_set : Owner → Queues → State → State
with_set o q s = with_engine s (queues_set o q s.engine)

pub state-set : (s : State) (o : Owner) (q : Queues) → with_queues o q s ≡ with_set o q s
state-set s all_lanes q = refl
state-set s (one_lane i) q = refl

module _ (s : State) (o : Owner) where
  -- the owner's queues, the current one settled
  abbrev pub settled_queues : Queues
  settled_queues = settled s.engine.current (queues_by s o)

  abbrev pub settled_state : State
  settled_state = with_set o settled_queues s

  -- next becomes current, with generation g
  abbrev pub batched_state : ℕ → State
  batched_state g = with_set o (batched g (queues_by s o)) s

  -- which is requested
  abbrev pub asked_engine : ℕ → Engine
  asked_engine g = requested g (batched_state g).engine

  -- if current is empty and next is not
  abbrev pub begun_state : State
  begun_state = with_engine s (cond (ready (queues_by s o)) (asked_engine (target s.engine)) s.engine)

-- ---- an advance settles, and then begins a batch

module _ (s : State) (each : LaneAtEach s) where
  set-queues : (o : Owner) (q : Queues) → Known s.sizes o → queues_by (with_set o q s) o ≡ q
  set-queues all_lanes q h = refl
  set-queues (one_lane i) q h = ap (λ (l : Lane). l.queues) (get_or-update-same fresh_lane s.engine.lanes i (set_queues q) (omega (arith, each)))

  set-target : (o : Owner) (q : Queues) → target (queues_set o q s.engine) ≡ target s.engine
  unfolding target
  set-target all_lanes q = refl
  set-target (one_lane i) q =
      let e = s.engine in
      ap (λ (b : Bool). cond b (up e.current) e.current) (any-update-same is_pending (set_queues q) e.lanes i (λ l. refl))

  set-set : (o : Owner) (q r : Queues) → queues_set o r (queues_set o q s.engine) ≡ queues_set o r s.engine
  set-set all_lanes q r = refl
  set-set (one_lane i) q r = ap (λ (ls : List Lane). with_lanes ls s.engine) (update-update s.engine.lanes i (set_queues q) (set_queues r))

  module _ (o : Owner) (known : Known s.sizes o) where
    abbrev q : Queues
    q = settled_queues s o

    abbrev either : Queues → ℕ → Engine → Engine
    either r g f = cond (ready r) (requested g f) (queues_set o q s.engine)

    advanced-either : (o : Owner) → advanced_by o s.engine
        ≡ cond (ready (settled_queues s o)) (requested (target s.engine) (queues_set o (batched (target s.engine) (settled_queues s o)) s.engine))
        (queues_set o (settled_queues s o) s.engine)
    unfolding advanced_lane advanced_global
    advanced-either all_lanes = refl
    advanced-either (one_lane i) = refl

    pub advanced-steps : begun_state (settled_state s o) o ≡ with_engine s (advanced_by o s.engine)
    advanced-steps =
        let g = target s.engine in
        ap (with_engine s)
        (ap (λ (r : Queues). either r (target (queues_set o q s.engine))
        (queues_set o (batched (target (queues_set o q s.engine)) r) (queues_set o q s.engine))) (set-queues o q known)
        ∙ ap (λ (h : ℕ). either q h (queues_set o (batched h q) (queues_set o q s.engine))) (set-target o q)
        ∙ ap (either q g) (set-set o q (batched g q))
        ∙ sym (advanced-either o))

-- ---- the shape stays

module _ (s : State) (w : Shape s) (o : Owner) (known : Known s.sizes o) where
  abbrev r : Queues
  r = queues_by s o

  pub shape-settled : Shape (settled_state s o)
  unfolding settled
  shape-settled = rw (sym (state-set s o (settled_queues s o))) (go (not (is_empty r.current) && later s.engine.current r.generation))
    where
      go : (b : Bool) → Shape (with_queues o (cond b (moved done current 0 r) r) s)
      go true = shape-move s w done current done-current 0 o known
      go false = rw (with_queues-same s o) w

  pub shape-batched : (g : ℕ) → is_empty r.current ≡ true → Shape (batched_state s o g)
  shape-batched g h = rw (sym (state-set s o (batched g r))) (rw (is_empty-true r.current h) at (shape-move s w current next current-next g o known))

  pub shape-begun : Shape (begun_state s o)
  unfolding ready
  shape-begun = go (is_empty r.current) refl (not (is_empty r.next))
    where
      g : ℕ
      g = target s.engine

      go : (x : Bool) → is_empty r.current ≡ x → (y : Bool) → Shape (with_engine s (cond (x && y) (asked_engine s o g) s.engine))
      go true h true = shape-requested (batched_state s o g) (shape-batched g h) g
      go true h false = w
      go false h y = w

module _ (s : State) (w : Shape s) (o : Owner) (known : Known s.sizes o) where
  pub shape-advanced : Shape (with_engine s (advanced_by o s.engine))
  shape-advanced = rw (sym (advanced-steps s w.lanes o known)) (shape-begun (settled_state s o) (shape-settled s w o known) o known)
