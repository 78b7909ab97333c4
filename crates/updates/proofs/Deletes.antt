-- Delete: the causes that refuse it, and where none does what its stores need and leave. The slot that was found leaves its chain for the lane's next
-- queue.
use Prim.Native.Nat.{ℕ, ◌+◌}
use mathlib.Core.Bool.{Bool, true, false, not}
use mathlib.Core.Path.{◌≡◌, refl, ap, sym, ◌∙◌}
use mathlib.Core.List.{List, [], ◌∷◌}
use native.Mathlib.Omega.{arith}
use lib.ListN.{length}
use Rattle.std.specs.Prelude.{Option, Some, None, Result, Ok, Err}
use Rattle.std.specs.Result.{IsErrAnd}
use Rattle.model.specs.State.{Sizes}
use Rattle.model.specs.Layout.{heads_at, queues_at, lane_address}
use Rattle.model.specs.Table.{chain_number, present}
use Rattle.model.specs.Rules.{Cause as Rule, cause, Op, delete, accepted, causes, first_cause, of_lane, wrong_code, refusal, result}
use Rattle.model.specs.Memory.{sizes, state}
use Rattle.model.specs.Calls.{on_state}
use Rattle.representation.proofs.Causes.Accepted.{DeleteAccepted}
use Rattle.words.specs.Lent.{sizes_of}
use Rattle.words.proofs.LentLaws.{lent_same}
use Rattle.queues.specs.Queue.{appended}
use Rattle.chains.specs.declared.Found.{Found}
use Rattle.chains.specs.Chain.{found, unlinked}
use Rattle.changes.specs.Search.{search_words}
use Rattle.changes.proofs.OfCalls.UpdateWords.{delete-stored}
use Rattle.access.specs.declared.Lane.{Lane}
use Rattle.access.specs.declared.causes.Cause.{Cause}
use Rattle.access.specs.declared.causes.Cause.TheVariants.{OutOfRange, CodeMissing}
use Rattle.access.specs.Causes.{number_of, answer_of}
use Rattle.access.specs.Contract.{Does}
use Rattle.access.specs.Lanes.{Named, LaneIn}
use Rattle.access.proofs.Ways.{cause-refuses, performs, passed, shown, well_formed}
use Rattle.access.proofs.Refusals.{lane-stops}
use Rattle.access.proofs.TableReads.{table-of-lane}
use Rattle.updates.specs.UpdateStores.{Leaves}
use Rattle.updates.proofs.Causes.{after-lane}
use Rattle.updates.proofs.Shown.{none-found, some-found, found-words, found-slot, found_inside}

-- what was found in m, after stores that left n
pub leaves : (m : List ℕ) (l : Lane) → LaneIn m l → (c : ℕ) (f : Found) (head : ℕ) (n : List ℕ) → head ≡ heads_at + chain_number c
    → f ≡ search_words (sizes_of l.sizes) m c → present (state m).table c ≡ true → length n ≡ length m
    → Leaves n (sizes_of l.sizes) head (l.address + queues_at) f
leaves m l k c f head n eh ef here en =
    let lent = k.named.lent in
    record {
      lent = lent_same m (sizes_of l.sizes) lent n en;
      chain = omega (arith, lent.long);
      queue = omega (arith, k.inside);
      inside = found_inside m l.sizes (table-of-lane m l k.named) c f ef here;
    }

module _ (m : List ℕ) (l : Lane) (k : Named m l) (c : ℕ) where
  abbrev op : Op
  op = delete l.number c

  abbrev others : List Rule
  others = cause 11 (wrong_code c) ∷ cause 13 (not (present (state m).table c)) ∷ []

  -- a cause of its lane applies
  pub delete-lane : (e : Cause) (r : Result (List ℕ) Cause) → number_of e ≡ first_cause (of_lane (state m) l.number []) → IsErrAnd r (λ d. d ≡ e)
      → Does (on_state op) m (answer_of r) m
  unfolding causes
  delete-lane e r q h = cause-refuses m op k.sound e r (lane-stops {T = List ℕ} (state m) l.number _ e (Err e) q refl) h

  -- none of them does
  module _ (lane : 0 ≡ first_cause (of_lane (state m) l.number [])) (b : Bool) (eb : b ≡ wrong_code c) where
    pub delete-far : b ≡ true → Does (on_state op) m (answer_of (Err OutOfRange)) m
    unfolding causes first_cause
    delete-far t = cause-refuses m op k.sound OutOfRange (Err OutOfRange) (sym (after-lane (state m) l.number lane others ∙ rw (sym eb ∙ t))) refl

    module _ (t : b ≡ false) (o : Option Found) (eo : o ≡ found (search_words (sizes_of l.sizes) m c)) where
      pub delete-missing : o ≡ None → (r : Result (List ℕ) Cause) → IsErrAnd r (λ d. d ≡ CodeMissing) → Does (on_state op) m (answer_of r) m
      unfolding causes first_cause
      delete-missing q r h =
          let absent = none-found m l.sizes (table-of-lane m l k) c o eo q in
          cause-refuses m op k.sound CodeMissing r (sym (after-lane (state m) l.number lane others ∙ rw (sym eb ∙ t, absent))) h

      module _ (f : Found) (q : o ≡ Some f) where
        ef : f ≡ search_words (sizes_of l.sizes) m c
        ef = (some-found m l.sizes (table-of-lane m l k) c o eo f q).0

        none_applies : 0 ≡ refusal (state m) op
        unfolding causes first_cause
        none_applies =
            let here = (some-found m l.sizes (table-of-lane m l k) c o eo f q).1 in
            sym (after-lane (state m) l.number lane others ∙ rw (sym eb ∙ t, here))

        known : DeleteAccepted (state m) l.number c
        known = passed m op none_applies

        module _ (head : ℕ) (eh : head ≡ heads_at + chain_number c) where
          pub delete-leaves : LaneIn m l → Leaves m (sizes_of l.sizes) head (l.address + queues_at) f
          delete-leaves within = leaves m l within c f head m eh ef known.present refl

          pub delete-done : (n : List ℕ) → n ≡ appended (unlinked m (sizes_of l.sizes) head f.slot f.prev) (sizes_of l.sizes) (l.address + queues_at) f.slot
              → Does (on_state op) m (answer_of (Ok (f.slot ∷ 0 ∷ 0 ∷ 0 ∷ []))) n
          unfolding result state
          delete-done n en =
              let table = table-of-lane m l k in
              performs m op k.sound none_applies _ n (ap (λ (y : ℕ). accepted y 0 0 0) (found-slot m l.sizes table c f ef))
              (en ∙ rw (eh, k.address)
              (ap (λ (z : Sizes). appended (unlinked m z (heads_at + chain_number c) f.slot f.prev) z (lane_address (sizes m) l.number + queues_at) f.slot) k.sizes
              ∙ delete-stored (state m) m (shown m k.sound) (well_formed m k.sound) l.number c f known (found-words m l.sizes table c f ef)))
