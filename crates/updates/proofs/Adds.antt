-- Add and replace: the causes that refuse them, and where none does what their stores need and leave.
use Prim.Native.Nat.{ℕ, ◌+◌, ◌<◌}
use mathlib.Core.Bool.{Bool, true, false, not}
use mathlib.Core.Path.{◌≡◌, refl, ap, ap₂, sym, subst, ◌∙◌}
use mathlib.Core.List.{List, [], ◌∷◌}
use native.Mathlib.Omega.{arith}
use lib.ListN.{length}
use Rattle.std.specs.Prelude.{Option, Some, None, Result, Ok, Err}
use Rattle.std.specs.Option.{is_some}
use Rattle.std.specs.Result.{result_ok}
use Rattle.std.specs.Result.{IsErrAnd}
use Rattle.model.specs.Lists.{is_empty}
use Rattle.model.specs.State.{Sizes}
use Rattle.model.specs.Layout.{free_at, heads_at, queues_at, lane_address, slot_address}
use Rattle.model.specs.Table.{chain_number, present}
use Rattle.model.specs.Rules.{Cause as Rule, cause, Op, add, replace, accepted, causes, first_cause, of_entry, refusal, result}
use Rattle.model.specs.Memory.{sizes, state}
use Rattle.model.specs.Calls.{on_state}
use Rattle.representation.proofs.Causes.Accepted.{AddAccepted, ReplaceAccepted}
use Rattle.words.specs.declared.product.Product.{Product}
use Rattle.words.specs.Lent.{sizes_of}
use Rattle.queues.specs.Queue.{appended, less_first, Taken}
use Rattle.chains.specs.declared.Found.{Found}
use Rattle.chains.specs.Chain.{found, linked_at_head, put_in_place, product_set}
use Rattle.changes.specs.Queues.{free}
use Rattle.changes.specs.Search.{search_words}
use Rattle.changes.proofs.OfCalls.UpdateWords.{add-stored, replace-stored}
use Rattle.access.specs.declared.Lane.{Lane}
use Rattle.access.specs.declared.causes.Cause.{Cause}
use Rattle.access.specs.declared.causes.Cause.TheVariants.{CodePresent, CodeMissing, NoFreeSlot}
use Rattle.access.specs.Causes.{number_of, answer_of}
use Rattle.access.specs.Contract.{Does}
use Rattle.access.specs.Lanes.{Named, LaneIn}
use Rattle.access.specs.TableSizes.{TableIn}
use Rattle.access.proofs.Ways.{cause-refuses, performs, passed, shown, well_formed}
use Rattle.access.proofs.Refusals.{entry-stops}
use Rattle.access.proofs.TableReads.{table-of-lane}
use Rattle.updates.specs.UpdateStores.{NoneIn, Leaves, FilledAt, Filled}
use Rattle.updates.proofs.Causes.{after-entry}
use Rattle.updates.proofs.Shown.{none-found, some-found, found-words, found-slot, queue-first, queue-none, queue-some, none-taken, some-taken}
use Rattle.updates.proofs.Deletes.{leaves}

-- ---- the free slot

pub none-filled : (m n : List ℕ) (z : Sizes) (p : Product) (r : Option ℕ) (t : Result ℕ ℕ) → Taken m z free_at t n → result_ok t ≡ None → r ≡ None
    → Filled m z p r n
none-filled m n z p r t u q e = subst (λ (x : Option ℕ). Filled m z p x n) (sym e) (none-taken m z free_at n t u q)

-- taken, and then written
pub slot-filled : (m n k : List ℕ) (z : Sizes) (p : Product) (t : Result ℕ ℕ) (o : ℕ) → Taken m z free_at t n → result_ok t ≡ Some o
    → k ≡ product_set n (slot_address z o) p.code p.deposit p.material → Filled m z p (Some o) k
slot-filled m n k z p t o u q e =
    let first = some-taken m z free_at n t o u q in
    record {
      slot = first.0;
      inside = first.1;
      memory = e ∙ ap (λ (y : List ℕ). product_set y (slot_address z o) p.code p.deposit p.material) u.memory;
    }

module _ (m : List ℕ) (l : Lane) (k : Named m l) where
  table : TableIn m l.sizes
  table = table-of-lane m l k

  module _ (p : Product) (o : Option ℕ) (n : List ℕ) (u : Filled m (sizes_of l.sizes) p o n) where
    none-free : o ≡ None → (is_empty (state m).table.free ≡ true) × (n ≡ m)
    none-free q =
        let none : NoneIn m (sizes_of l.sizes) free_at n = subst (λ (x : Option ℕ). Filled m (sizes_of l.sizes) p x n) q u in
        (queue-none m l.sizes table free tt free_at refl none.empty, none.memory)

    filled : (r : ℕ) → o ≡ Some r → FilledAt m (sizes_of l.sizes) p r n
    filled r q = subst (λ (x : Option ℕ). Filled m (sizes_of l.sizes) p x n) q u

    some-free : (r : ℕ) → FilledAt m (sizes_of l.sizes) p r n → is_empty (state m).table.free ≡ false
    some-free r f = queue-some m l.sizes table free tt free_at refl (omega (arith, f.slot, f.inside))

-- ---- add

module _ (m : List ℕ) (l : Lane) (k : Named m l) (p : Product) where
  abbrev adds : Op
  adds = add l.number p.code p.deposit p.material

  abbrev add_others : List Rule
  add_others = cause 12 (present (state m).table p.code) ∷ cause 14 (is_empty (state m).table.free) ∷ []

  -- a cause of every entry applies
  pub add-entry : (e : Cause) (r : Result (List ℕ) Cause) → number_of e ≡ first_cause (of_entry (state m) l.number p.code p.deposit p.material [])
      → IsErrAnd r (λ d. d ≡ e) → Does (on_state adds) m (answer_of r) m
  unfolding causes
  add-entry e r q h = cause-refuses m adds k.sound e r (entry-stops {T = List ℕ} (state m) l.number p.code p.deposit p.material _ e (Err e) q refl) h

  -- none of them does
  module _ (entry : 0 ≡ first_cause (of_entry (state m) l.number p.code p.deposit p.material [])) (o : Option Found)
      (eo : o ≡ found (search_words (sizes_of l.sizes) m p.code)) (b : Bool) (eb : b ≡ is_some o)
    where
      pub add-present : b ≡ true → Does (on_state adds) m (answer_of (Err CodePresent)) m
      unfolding causes first_cause
      add-present t = go o refl
        where
          go : (x : Option Found) → o ≡ x → Does (on_state adds) m (answer_of (Err CodePresent)) m
          go None q = let clash = rw q at (sym eb ∙ t) in absurd cc
          go (Some f) q =
              let here = (some-found m l.sizes (table m l k) p.code o eo f q).1 in
              cause-refuses m adds k.sound CodePresent (Err CodePresent) (sym (after-entry (state m) l.number p.code p.deposit p.material entry add_others ∙ rw here)) refl

      module _ (t : b ≡ false) where
        absent : present (state m).table p.code ≡ false
        absent = go o refl
          where
            go : (x : Option Found) → o ≡ x → present (state m).table p.code ≡ false
            go None q = none-found m l.sizes (table m l k) p.code o eo q
            go (Some f) q = let clash = rw q at (sym eb ∙ t) in absurd cc

        module _ (s : Option ℕ) (n : List ℕ) (u : Filled m (sizes_of l.sizes) p s n) where
          pub add-none : s ≡ None → (r : Result (List ℕ) Cause) → IsErrAnd r (λ d. d ≡ NoFreeSlot) → Does (on_state adds) m (answer_of r) n
          unfolding causes first_cause
          add-none q r h =
              let none = none-free m l k p s n u q in
              subst (Does (on_state adds) m (answer_of r)) (sym none.1)
              (cause-refuses m adds k.sound NoFreeSlot r (sym (after-entry (state m) l.number p.code p.deposit p.material entry add_others ∙ rw (absent, none.0))) h)

          module _ (i : ℕ) (q : s ≡ Some i) where
            f : FilledAt m (sizes_of l.sizes) p i n
            f = filled m l k p s n u i q

            none_applies : 0 ≡ refusal (state m) adds
            unfolding causes first_cause
            none_applies = sym (after-entry (state m) l.number p.code p.deposit p.material entry add_others ∙ rw (absent, some-free m l k p s n u i f))

            known : AddAccepted (state m) l.number p.code p.deposit p.material
            known = passed m adds none_applies

            pub add-done : (head : ℕ) → head ≡ heads_at + chain_number p.code → (j : List ℕ) → j ≡ linked_at_head n (sizes_of l.sizes) head i
                → Does (on_state adds) m (answer_of (Ok (i ∷ 0 ∷ 0 ∷ 0 ∷ []))) j
            unfolding result state
            add-done head eh j ej =
                let first = f.slot ∙ queue-first m l.sizes (table m l k) free tt free_at refl in
                performs m adds k.sound none_applies _ j (ap (λ (y : ℕ). accepted y 0 0 0) first)
                (ej ∙ rw (f.memory, eh)
                (ap (λ (z : Sizes). linked_at_head (product_set (less_first m z free_at) (slot_address z i) p.code p.deposit p.material) z (heads_at + chain_number p.code) i) k.sizes
                ∙ add-stored (state m) m (shown m k.sound) (well_formed m k.sound) l.number p.code p.deposit p.material i known f.slot))

-- ---- replace

module _ (m : List ℕ) (l : Lane) (k : Named m l) (p : Product) where
  abbrev replaces : Op
  replaces = replace l.number p.code p.deposit p.material

  abbrev replace_others : List Rule
  replace_others = cause 13 (not (present (state m).table p.code)) ∷ cause 14 (is_empty (state m).table.free) ∷ []

  pub replace-entry : (e : Cause) (r : Result (List ℕ) Cause) → number_of e ≡ first_cause (of_entry (state m) l.number p.code p.deposit p.material [])
      → IsErrAnd r (λ d. d ≡ e) → Does (on_state replaces) m (answer_of r) m
  unfolding causes
  replace-entry e r q h = cause-refuses m replaces k.sound e r (entry-stops {T = List ℕ} (state m) l.number p.code p.deposit p.material _ e (Err e) q refl) h

  module _ (entry : 0 ≡ first_cause (of_entry (state m) l.number p.code p.deposit p.material [])) (o : Option Found)
      (eo : o ≡ found (search_words (sizes_of l.sizes) m p.code))
    where
      pub replace-missing : o ≡ None → (r : Result (List ℕ) Cause) → IsErrAnd r (λ d. d ≡ CodeMissing) → Does (on_state replaces) m (answer_of r) m
      unfolding causes first_cause
      replace-missing q r h =
          let absent = none-found m l.sizes (table m l k) p.code o eo q in
          cause-refuses m replaces k.sound CodeMissing r (sym (after-entry (state m) l.number p.code p.deposit p.material entry replace_others ∙ rw absent)) h

      module _ (f : Found) (q : o ≡ Some f) (s : Option ℕ) (n : List ℕ) (u : Filled m (sizes_of l.sizes) p s n) where
        ef : f ≡ search_words (sizes_of l.sizes) m p.code
        ef = (some-found m l.sizes (table m l k) p.code o eo f q).0

        here : present (state m).table p.code ≡ true
        here = (some-found m l.sizes (table m l k) p.code o eo f q).1

        pub replace-none : s ≡ None → (r : Result (List ℕ) Cause) → IsErrAnd r (λ d. d ≡ NoFreeSlot) → Does (on_state replaces) m (answer_of r) n
        unfolding causes first_cause
        replace-none e r h =
            let none = none-free m l k p s n u e in
            subst (Does (on_state replaces) m (answer_of r)) (sym none.1)
            (cause-refuses m replaces k.sound NoFreeSlot r (sym (after-entry (state m) l.number p.code p.deposit p.material entry replace_others ∙ rw (here, none.0))) h)

        module _ (i : ℕ) (e : s ≡ Some i) where
          g : FilledAt m (sizes_of l.sizes) p i n
          g = filled m l k p s n u i e

          no_cause : 0 ≡ refusal (state m) replaces
          unfolding causes first_cause
          no_cause = sym (after-entry (state m) l.number p.code p.deposit p.material entry replace_others ∙ rw (here, some-free m l k p s n u i g))

          accepts : ReplaceAccepted (state m) l.number p.code p.deposit p.material
          accepts = passed m replaces no_cause

          module _ (head : ℕ) (eh : head ≡ heads_at + chain_number p.code) where
            pub replace-leaves : LaneIn m l → length n ≡ length m → Leaves n (sizes_of l.sizes) head (l.address + queues_at) f × (i < l.sizes.slots)
            replace-leaves within en = (leaves m l within p.code f head n eh ef here en, g.inside)

            pub replace-done : (j : List ℕ)
                → j ≡ appended (put_in_place n (sizes_of l.sizes) head f.slot f.prev i) (sizes_of l.sizes) (l.address + queues_at) f.slot
                → Does (on_state replaces) m (answer_of (Ok (i ∷ f.slot ∷ 0 ∷ 0 ∷ []))) j
            unfolding result state
            replace-done j ej =
                let first = g.slot ∙ queue-first m l.sizes (table m l k) free tt free_at refl in
                let words = found-words m l.sizes (table m l k) p.code f ef in
                performs m replaces k.sound no_cause _ j (ap₂ (λ (y w : ℕ). accepted y w 0 0) first (found-slot m l.sizes (table m l k) p.code f ef))
                (ej ∙ rw (g.memory, eh, k.address)
                (ap (λ (z : Sizes). appended (put_in_place (product_set (less_first m z free_at) (slot_address z i) p.code p.deposit p.material) z (heads_at + chain_number p.code) f.slot f.prev i) z (lane_address (sizes m) l.number + queues_at) f.slot) k.sizes
                ∙ replace-stored (state m) m (shown m k.sound) (well_formed m k.sound) l.number p.code p.deposit p.material i f accepts g.slot words))
