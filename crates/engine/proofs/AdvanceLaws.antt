-- Which change of the state the words of Advance are, for any owner: a memory that shows a state s, advanced at the owner's addresses, is that of the
-- advanced state.
use Prim.Native.Nat.{ℕ}
use mathlib.Core.Bool.{Bool, true, false, not, cond, ◌&&◌}
use mathlib.Core.Path.{◌≡◌, refl, ap, ap₂, sym, ◌∙◌}
use mathlib.Core.List.{List}
use Rattle.model.specs.Word.{later}
use Rattle.model.specs.Lists.{is_empty}
use Rattle.model.specs.State.{Sizes, Queues, Engine, State}
use Rattle.model.specs.Engine.{settled, ready, target, batched}
use Rattle.model.specs.Rules.{with_engine}
use Rattle.model.specs.Calls.{stored}
use Rattle.changes.proofs.Shows.{Shows, stored-shown, shows_then, stored-then}
use Rattle.changes.proofs.Shape.{Shape}
use Rattle.changes.specs.Queues.{next, current, done}
use Rattle.changes.proofs.OfOwners.Owners.{Owner, Known, queues_by, with_queues}
use Rattle.changes.proofs.OfOwners.Owners.{with_queues-same, settle-stored, batch-stored}
use Rattle.engine.proofs.PeriodLaws.{current-shown, requested-stored}
use Rattle.engine.specs.Advance.{advanced_words}
use Rattle.engine.proofs.AdvanceSteps.{advanced_by, state-set, settled_queues, settled_state, batched_state}
use Rattle.engine.proofs.AdvanceSteps.{asked_engine, begun_state, advanced-steps, shape-settled, shape-batched}
use Rattle.engine.proofs.AdvanceTests.{words_by, settled_for, begun_for, moved_for, asked_for, filled}
use Rattle.engine.proofs.AdvanceTests.{settled-tests, begun-tests, generation-shown, filled-shown, target-shown}

module _ (s : State) (m : List ℕ) (shows : Shows m s) (w : Shape s) (o : Owner) (known : Known s.sizes o) where
  abbrev z : Sizes
  z = s.sizes

  abbrev e : Engine
  e = s.engine

  abbrev q : Queues
  q = queues_by s o

  -- ---- settle

  settled-keeps : (not (is_empty q.current) && later e.current q.generation) ≡ false → m ≡ stored (settled_state s o) m
  unfolding settled
  settled-keeps h =
      sym (stored-shown s m shows)
      ∙ ap (λ (t : State). stored t m) (sym (with_queues-same s o) ∙ ap (λ (r : Queues). with_queues o r s) (rw h) ∙ state-set s o (settled_queues s o))

  settled-by : (x y : Bool) → not (is_empty q.current) ≡ x → later e.current q.generation ≡ y
      → cond x (cond y (moved_for z m o done current 0) m) m ≡ stored (settled_state s o) m
  settled-by true true h k =
      settle-stored s m shows w o known e.current (rw (h, k)) ∙ ap (λ (t : State). stored t m) (state-set s o (settled_queues s o))
  settled-by true false h k = settled-keeps (rw (h, k))
  settled-by false y h k = settled-keeps (rw h)

  settled-stored : settled_for z m o ≡ stored (settled_state s o) m
  settled-stored =
      settled-tests z m o
      ∙ ap₂ (λ (x y : Bool). cond x (cond y (moved_for z m o done current 0) m) m) (filled-shown s m shows w o known current)
      (ap₂ later (current-shown s m shows) (generation-shown s m shows o known))
      ∙ settled-by (not (is_empty q.current)) (later e.current q.generation) refl refl

  -- ---- begin a batch

  batched-stored : (g : ℕ) → is_empty q.current ≡ true → moved_for z m o current next g ≡ stored (batched_state s o g) m
  batched-stored g h = batch-stored s m shows w o known g h ∙ ap (λ (t : State). stored t m) (state-set s o (batched g q))

  begun-by : (x y : Bool) → is_empty q.current ≡ x → is_empty q.next ≡ y
      → cond (not x) m (cond (not y) (asked_for z m o (target e)) m) ≡ stored (begun_state s o) m
  unfolding ready
  begun-by true true h k = rw (h, k) (sym (stored-shown s m shows))
  begun-by true false h k =
      let g = target e in
      let t = batched_state s o g in
      let n = moved_for z m o current next g in
      rw (h, k)
      (stored-then t (with_engine s (asked_engine s o g)) m n (asked_for z m o g) refl (batched-stored g h)
      (requested-stored t n (shows_then t m n shows.long (batched-stored g h)) (shape-batched s w o known g h).lanes g))
  begun-by false y h k = rw h (sym (stored-shown s m shows))

  begun-stored : begun_for z m o ≡ stored (begun_state s o) m
  begun-stored =
      begun-tests z m o
      ∙ ap (λ (g : ℕ). cond (filled z m o current) m (cond (filled z m o next) (asked_for z m o g) m)) (target-shown s m shows w o known)
      ∙ ap₂ (λ (x y : Bool). cond x m (cond y (asked_for z m o (target e)) m)) (filled-shown s m shows w o known current) (filled-shown s m shows w o known next)
      ∙ begun-by (is_empty q.current) (is_empty q.next) refl refl

-- ---- both

module _ (s : State) (m : List ℕ) (shows : Shows m s) (w : Shape s) (o : Owner) (known : Known s.sizes o) where
  pub advanced-stored :
      advanced_words m s.sizes (words_by s.sizes o)
      ≡ stored (with_engine s (advanced_by o s.engine)) m
  unfolding advanced_words
  advanced-stored =
      let t = settled_state s o in
      let n = settled_for s.sizes m o in
      stored-then t (begun_state t o) m n (begun_for s.sizes n o) refl (settled-stored s m shows w o known)
      (begun-stored t n (shows_then t m n shows.long (settled-stored s m shows w o known)) (shape-settled s w o known) o known)
      ∙ ap (λ (x : State). stored x m) (advanced-steps s w.lanes o known)
