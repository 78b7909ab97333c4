-- What a legal memory shows of a code, by the search for it, and of a queue, by its first word; and what taking the first of a queue leaves.
use Prim.Native.Nat.{ℕ, ◌+◌, ◌≤◌, ◌<◌}
use mathlib.Core.Path.{◌≡◌, refl, ap, ap₂, sym, subst, ◌∙◌}
use mathlib.Core.Bool.{Bool, true, false, not, cond}
use mathlib.Core.List.{List}
use native.Mathlib.Omega.{arith}
use lib.ListN.{length}
use Rattle.std.specs.Prelude.{Option, Some, None, Result}
use Rattle.std.specs.Result.{result_ok}
use lib.Dec.{ltb, eqb}
use borrow.Author.Tests.{lt-ltb, le-ltb, ltb-true, ltb-false}
use Rattle.model.specs.Word.{none}
use Rattle.model.specs.Lists.{is_empty, first}
use Rattle.model.specs.Layout.{queue_width, slots_body}
use Rattle.model.specs.State.{Sizes as TableSizes}
use Rattle.model.specs.Table.{chain_number, slot_of, present}
use Rattle.model.specs.Memory.{at, sizes, state}
use Rattle.words.specs.declared.sizes.Sizes.{Sizes}
use Rattle.words.specs.Lent.{sizes_of}
use Rattle.queues.specs.Queue.{less_first, Taken}
use Rattle.chains.specs.declared.Found.{Found}
use Rattle.chains.specs.Chain.{found}
use Rattle.changes.proofs.Shape.{Shape, well_formed-shape}
use Rattle.changes.specs.Queues.{Queue, free, global, lane, next, current, done, Named, queue_of, ends_at}
use Rattle.changes.proofs.OfQueues.QueueEnds.{first-shown}
use Rattle.changes.proofs.OfQueues.QueueChanges.{empty-shown}
use Rattle.changes.proofs.OfChains.ChainLinks.{old-inside}
use Rattle.changes.proofs.OfChains.Find.{find-slot, slot-in-chain}
use Rattle.changes.specs.Search.{search_words}
use Rattle.access.specs.TableSizes.{TableIn}
use Rattle.access.proofs.Ways.{shown, well_formed, long}
use Rattle.updates.specs.UpdateStores.{QueueIn, NoneIn}

-- ---- the search for a code

module _ (m : List ℕ) (z : Sizes) (k : TableIn m z) where
  shaped : Shape (state m)
  shaped = well_formed-shape (state m) (well_formed m k.sound)

  module _ (c : ℕ) (f : Found) (e : f ≡ search_words (sizes_of z) m c) where
    pub found-words : f ≡ search_words (sizes m) m c
    found-words = e ∙ ap (λ (y : TableSizes). search_words y m c) k.sizes

    pub found-slot : f.slot ≡ slot_of (state m).table c
    unfolding state
    found-slot = ap (λ (g : Found). g.slot) (found-words ∙ find-slot (state m) m (shown m k.sound) shaped c)

    pub found-present : not (eqb f.slot none) ≡ present (state m).table c
    found-present = ap (λ (o : ℕ). not (eqb o none)) found-slot

    pub found_inside : present (state m).table c ≡ true → f.slot < z.slots
    unfolding state
    found_inside here =
        let o = slot_of (state m).table c in
        let inside = old-inside (state m) shaped (chain_number c) o (omega arith) (slot-in-chain (state m) m (shown m k.sound) shaped c here) in
        subst (λ (y : TableSizes). f.slot < y.slots) (sym k.sizes) (omega (arith, found-slot, inside))

  -- as the search answered it
  module _ (c : ℕ) (o : Option Found) (e : o ≡ found (search_words (sizes_of z) m c)) where
    abbrev f : Found
    f = search_words (sizes_of z) m c

    by-test : (b : Bool) → eqb f.slot none ≡ b → (o ≡ cond b None (Some f)) × (not b ≡ present (state m).table c)
    by-test b t = (e ∙ rw t, sym (ap not t) ∙ found-present c f refl)

    pub none-found : o ≡ None → present (state m).table c ≡ false
    none-found q = go (eqb f.slot none) refl
      where
        go : (b : Bool) → eqb f.slot none ≡ b → present (state m).table c ≡ false
        go true t = sym (by-test true t).1
        go false t = let clash = (by-test false t).0 in cc

    pub some-found : (g : Found) → o ≡ Some g → (g ≡ f) × (present (state m).table c ≡ true)
    some-found g q = go (eqb f.slot none) refl
      where
        go : (b : Bool) → eqb f.slot none ≡ b → (g ≡ f) × (present (state m).table c ≡ true)
        go true t = let clash = (by-test true t).0 in absurd cc
        go false t = let same = (by-test false t).0 in (cc, sym (by-test false t).1)

  -- ---- the first slot of a queue

  -- by the test for an empty one
  module _ (q : Queue) (named : Named (sizes m) q) (ends : ℕ) (ee : ends ≡ ends_at (sizes m) q) where
    pub queue-shown : (b : Bool) → b ≡ not (ltb (at m ends) z.slots) → b ≡ is_empty (queue_of (state m) q)
    unfolding state
    queue-shown b e =
        e ∙ ap₂ (λ (a : ℕ) (y : TableSizes). not (ltb (at m a) y.slots)) ee k.sizes ∙ empty-shown (state m) m (shown m k.sound) shaped q named

    pub queue-first : at m ends ≡ first (queue_of (state m) q)
    unfolding state
    queue-first = ap (at m) ee ∙ first-shown (state m) m (shown m k.sound) q named

    -- its ends are in the memory
    pub queue-inside : ends + queue_width ≤ length m
    queue-inside = omega (arith, ee, go q named, long m k.sound)
      where
        go : (q : Queue) → Named (sizes m) q → ends_at (sizes m) q + queue_width ≤ slots_body (sizes m)
        go free h = omega arith
        go (global next) h = omega arith
        go (global current) h = omega arith
        go (global done) h = omega arith
        go (lane i next) h = omega arith
        go (lane i current) h = omega arith
        go (lane i done) h = omega arith

    pub queue-in : QueueIn m (sizes_of z) ends
    queue-in = record { lent = k.lent; queue = queue-inside }

    -- without a first slot it is empty, and with one it is not
    pub queue-none : z.slots ≤ at m ends → is_empty (queue_of (state m) q) ≡ true
    queue-none h = sym (queue-shown _ refl) ∙ ap not (le-ltb (at m ends) z.slots h)

    pub queue-some : at m ends < z.slots → is_empty (queue_of (state m) q) ≡ false
    queue-some h = sym (queue-shown _ refl) ∙ ap not (lt-ltb (at m ends) z.slots h)

-- ---- the first of a queue, taken or not

module _ (m : List ℕ) (z : TableSizes) (ends : ℕ) (n : List ℕ) where
  pub none-taken : (r : Result ℕ ℕ) → Taken m z ends r n → result_ok r ≡ None → NoneIn m z ends n
  unfolding less_first
  none-taken r t q = go (ltb (at m ends) z.slots) refl
    where
      go : (b : Bool) → ltb (at m ends) z.slots ≡ b → NoneIn m z ends n
      go true e = absurd (let clash : Some (at m ends) ≡ None = sym (ap result_ok (rw e at t.slot)) ∙ q in cc)
      go false e = record { empty = ltb-false (at m ends) z.slots e; memory = t.memory ∙ rw e }

  pub some-taken : (r : Result ℕ ℕ) (o : ℕ) → Taken m z ends r n → result_ok r ≡ Some o → (o ≡ at m ends) × (o < z.slots)
  some-taken r o t q = go (ltb (at m ends) z.slots) refl
    where
      go : (b : Bool) → ltb (at m ends) z.slots ≡ b → (o ≡ at m ends) × (o < z.slots)
      go true e =
          let same : o ≡ at m ends = (let s : Some (at m ends) ≡ Some o = sym (ap result_ok (rw e at t.slot)) ∙ q in cc) in
          (same, omega (arith, ltb-true (at m ends) z.slots e))
      go false e = absurd (let clash : None ≡ Some o = sym (ap result_ok (rw e at t.slot)) ∙ q in cc)
