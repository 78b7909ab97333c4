-- Hand-back: the queue that it takes from, the causes that refuse it, and where none does what its stores need and leave.
use Prim.Native.Nat.{ℕ, ◌+◌, ◌<◌}
use mathlib.Core.Path.{◌≡◌, refl, ap, ap₂, sym, subst, ◌∙◌}
use mathlib.Core.Bool.{Bool, true, false, not, ◌&&◌, cond}
use mathlib.Core.List.{List, [], ◌∷◌}
use native.Mathlib.Omega.{arith}
use lib.Dec.{ltb}
use Rattle.std.specs.Prelude.{Option, Some, None, Result, Ok, Err}
use Rattle.std.specs.Result.{result_ok}
use Rattle.std.specs.Result.{IsErrAnd}
use Rattle.model.specs.Lists.{is_empty, first}
use Rattle.model.specs.State.{Sizes, lane_count, State}
use Rattle.model.specs.Layout.{done_offset, free_at, queues_at, slot_address}
use Rattle.model.specs.Rules.{Cause as Rule, cause, Op, hand_back, accepted, lane_of, causes, first_cause, of_lane, from_global, handed_back, refusal, result, performed}
use Rattle.model.specs.Memory.{at, sizes, state}
use Rattle.model.specs.Calls.{on_state, stored}
use Rattle.representation.proofs.Causes.Accepted.{HandBackAccepted}
use Rattle.words.specs.Lent.{sizes_of}
use Rattle.queues.specs.Queue.{appended, less_first, Taken}
use Rattle.chains.specs.Chain.{cleared}
use Rattle.changes.specs.Queues.{Queue, global, lane, done, Named as QueueNamed, queue_of, ends_at}
use Rattle.changes.proofs.OfCalls.CallSteps.{reclaimed_words}
use Rattle.changes.proofs.OfCalls.UpdateWords.{hand-back-lane-stored, hand-back-global-stored}
use Rattle.access.specs.declared.Lane.{Lane}
use Rattle.access.specs.declared.causes.Cause.{Cause}
use Rattle.access.specs.declared.causes.Cause.TheVariants.{NothingDone}
use Rattle.access.specs.Causes.{number_of, answer_of}
use Rattle.access.specs.Contract.{Does}
use Rattle.access.specs.Lanes.{Named, LaneIn}
use Rattle.access.specs.TableSizes.{TableIn}
use Rattle.access.proofs.Ways.{cause-refuses, performs, passed, shown, well_formed}
use Rattle.access.proofs.Refusals.{lane-stops}
use Rattle.access.proofs.TableReads.{table-of-lane}
use Rattle.updates.specs.UpdateStores.{QueueIn, NoneIn, handed_from, ReclaimedAt, Reclaimed}
use Rattle.updates.proofs.Causes.{after-lane}
use Rattle.updates.proofs.Shown.{queue-shown, queue-first, queue-in, queue-none, queue-some, none-taken, some-taken}

-- ---- the queue that it takes from

module _ (s : State) (i : ℕ) where
  abbrev pick : Bool → Queue
  pick b = cond b (global done) (lane i done)

  -- it is empty where both are
  pub handed-empty : is_empty (queue_of s (handed_from s i)) ≡ (is_empty (lane_of s i).queues.done && is_empty s.engine.global.done)
  handed-empty = go (from_global s i) refl
    where
      go : (b : Bool) → from_global s i ≡ b → is_empty (queue_of s (pick b)) ≡ (b && is_empty s.engine.global.done)
      go true e = refl
      go false e = e

  pub handed-first : first (queue_of s (handed_from s i)) ≡ handed_back s i
  handed-first = go (from_global s i)
    where
      go : (b : Bool) → first (queue_of s (pick b)) ≡ cond b (first s.engine.global.done) (first (lane_of s i).queues.done)
      go true = refl
      go false = refl

  pub handed-named : i < lane_count s.sizes → QueueNamed s.sizes (handed_from s i)
  handed-named h = go (from_global s i)
    where
      go : (b : Bool) → QueueNamed s.sizes (pick b)
      go true = tt
      go false = h

module _ (m : List ℕ) (l : Lane) (k : LaneIn m l) where
  abbrev from : Queue
  from = handed_from (state m) l.number

  table : TableIn m l.sizes
  table = table-of-lane m l k.named

  named : QueueNamed (sizes m) from
  unfolding state
  named = handed-named (state m) l.number k.known

  -- the lane's queue, tested
  module _ (b : Bool) (e : b ≡ not (ltb (at m (l.address + (queues_at + done_offset))) l.sizes.slots)) where
    lane-ends : l.address + (queues_at + done_offset) ≡ ends_at (sizes m) (lane l.number done)
    lane-ends = omega (arith, k.named.address)

    picked : (c : Bool) → b ≡ c → ends_at (sizes m) (pick (state m) l.number c) ≡ ends_at (sizes m) from
    picked c q =
        ap (λ (y : Bool). ends_at (sizes m) (pick (state m) l.number y))
        (sym q ∙ queue-shown m l.sizes table (lane l.number done) k.known _ lane-ends b e)

    pub lane-empty : b ≡ true → ends_at (sizes m) (global done) ≡ ends_at (sizes m) from
    lane-empty q = picked true q

    pub lane-some : b ≡ false → l.address + (queues_at + done_offset) ≡ ends_at (sizes m) from
    lane-some q = lane-ends ∙ picked false q

-- ---- what it takes

pub none-reclaimed : (m n : List ℕ) (z : Sizes) (ends : ℕ) (r : Option ℕ) (t : Result ℕ ℕ) → Taken m z ends t n → result_ok t ≡ None → r ≡ None
    → Reclaimed m z ends r n
none-reclaimed m n z ends r t u q e = subst (λ (x : Option ℕ). Reclaimed m z ends x n) (sym e) (none-taken m z ends n t u q)

-- taken, then cleared, and then appended
pub slot-reclaimed : (m n k j : List ℕ) (z : Sizes) (ends : ℕ) (t : Result ℕ ℕ) (o : ℕ) → Taken m z ends t n → result_ok t ≡ Some o
    → k ≡ cleared n (slot_address z o) → j ≡ appended k z free_at o → Reclaimed m z ends (Some o) j
slot-reclaimed m n k j z ends t o u q e f =
    let first = some-taken m z ends n t o u q in
    record {
      slot = first.0;
      inside = first.1;
      memory =
          f ∙ ap (λ (y : List ℕ). appended y z free_at o) e ∙ ap (λ (y : List ℕ). appended (cleared y (slot_address z o)) z free_at o) u.memory;
    }

module _ (m : List ℕ) (l : Lane) (k : Named m l) where
  abbrev op : Op
  op = hand_back l.number

  abbrev others : List Rule
  others = cause 16 (is_empty (lane_of (state m) l.number).queues.done && is_empty (state m).engine.global.done) ∷ []

  -- a cause of its lane applies
  pub hand-back-lane : (e : Cause) (r : Result (List ℕ) Cause) → number_of e ≡ first_cause (of_lane (state m) l.number []) → IsErrAnd r (λ d. d ≡ e)
      → Does (on_state op) m (answer_of r) m
  unfolding causes
  hand-back-lane e r q h = cause-refuses m op k.sound e r (lane-stops {T = List ℕ} (state m) l.number _ e (Err e) q refl) h

  -- none of them does
  module _ (clear : 0 ≡ first_cause (of_lane (state m) l.number [])) (within : LaneIn m l) (ends : ℕ)
      (ee : ends ≡ ends_at (sizes m) (handed_from (state m) l.number))
    where
      abbrev q : Queue
      q = handed_from (state m) l.number

      in_table : TableIn m l.sizes
      in_table = table m l within

      pub hand-back-in : QueueIn m (sizes_of l.sizes) ends
      hand-back-in = queue-in m l.sizes in_table q (named m l within) ends ee

      module _ (o : Option ℕ) (n : List ℕ) (u : Reclaimed m (sizes_of l.sizes) ends o n) where
        pub hand-back-none : o ≡ None → (r : Result (List ℕ) Cause) → IsErrAnd r (λ d. d ≡ NothingDone) → Does (on_state op) m (answer_of r) n
        unfolding causes first_cause
        hand-back-none e r h =
            let none : NoneIn m (sizes_of l.sizes) ends n = subst (λ (x : Option ℕ). Reclaimed m (sizes_of l.sizes) ends x n) e u in
            let empty = sym (handed-empty (state m) l.number) ∙ queue-none m l.sizes in_table q (named m l within) ends ee none.empty in
            subst (Does (on_state op) m (answer_of r)) (sym none.memory)
            (cause-refuses m op k.sound NothingDone r (sym (after-lane (state m) l.number clear others ∙ rw empty)) h)

        module _ (i : ℕ) (e : o ≡ Some i) where
          f : ReclaimedAt m (sizes_of l.sizes) ends i n
          f = subst (λ (x : Option ℕ). Reclaimed m (sizes_of l.sizes) ends x n) e u

          none_applies : 0 ≡ refusal (state m) op
          unfolding causes first_cause
          none_applies =
              let some =
              sym (handed-empty (state m) l.number) ∙ queue-some m l.sizes in_table q (named m l within) ends ee (omega (arith, f.slot, f.inside)) in
              sym (after-lane (state m) l.number clear others ∙ rw some)

          known : HandBackAccepted (state m) l.number
          known = passed m op none_applies

          -- from one queue or the other
          reclaims : i ≡ at m (ends_at (sizes m) q) → reclaimed_words (sizes m) m q i ≡ stored (performed (state m) op) m
          unfolding state
          reclaims = go (from_global (state m) l.number) refl
            where
              go : (b : Bool) → from_global (state m) l.number ≡ b → i ≡ at m (ends_at (sizes m) (pick (state m) l.number b))
                  → reclaimed_words (sizes m) m (pick (state m) l.number b) i ≡ stored (performed (state m) op) m
              go true g eo = hand-back-global-stored (state m) m (shown m k.sound) (well_formed m k.sound) l.number i known g eo
              go false g eo = hand-back-lane-stored (state m) m (shown m k.sound) (well_formed m k.sound) l.number i known g eo

          pub hand-back-done : Does (on_state op) m (answer_of (Ok (i ∷ 0 ∷ 0 ∷ 0 ∷ []))) n
          unfolding result
          hand-back-done =
              let first = f.slot ∙ queue-first m l.sizes in_table q (named m l within) ends ee ∙ handed-first (state m) l.number in
              performs m op k.sound none_applies _ n (ap (λ (y : ℕ). accepted y 0 0 0) first)
              (f.memory
              ∙ ap₂ (λ (z : Sizes) (a : ℕ). appended (cleared (less_first m z a) (slot_address z i)) z free_at i) k.sizes ee
              ∙ reclaims (f.slot ∙ ap (at m) ee))
