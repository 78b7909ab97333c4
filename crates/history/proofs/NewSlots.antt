-- A slot that add or replace answers was unused: in no chain and no queue, no code's, and not out.
use Prim.Native.Nat.{ℕ, ◌<◌}
use mathlib.Core.Path.{◌≡◌, sym, ap, ◌∙◌}
use mathlib.Core.Logic.{inl, inr, ◌≢◌}
use mathlib.Core.Bool.{false}
use mathlib.Core.List.{List, [], ◌∷◌, Memᴰ}
use native.Mathlib.Omega.{arith}
use Rattle.model.specs.Lists.{count, is_empty, first}
use Rattle.model.specs.State.{Product, State}
use Rattle.model.specs.Table.{product_at, chain_of}
use Rattle.model.specs.Rules.{Op, add, replace, Answer, accepted, causes, result, answer}
use Rattle.model.specs.Memory.{state}
use Rattle.model.specs.Calls.{on_state, reply}
use Rattle.model.specs.Ledger.{Out, Ledger, Event, ledger, search}
use Rattle.laws.specs.Tests.{same_or}
use Rattle.laws.specs.Counts.{mark-self, count-first}
use Rattle.representation.proofs.Discipline.Frame.{queued}
use Rattle.representation.proofs.Causes.Passed.{call-cases}
use Rattle.representation.proofs.Causes.Accepted.{accepts}
use Rattle.representation.proofs.WellFormed.{chained}
use Rattle.history.proofs.Ties.Halves.{searched}
use Rattle.history.proofs.Ties.Invariant.{Tied}
use Rattle.history.proofs.ChainHalf.ChainStretches.{SameOr, chained-at, searched-here, searched-on}
use Rattle.history.proofs.CallsKeep.SlotFacts.{standing-once}

-- ---- a slot that add or replace answers was unused

-- the state has slot x in no chain and in no next, current or done queue; to the ledger it is no code's slot, and it is not out
pub record Unused (s : State) (g : Ledger) (x : ℕ) : Type 0 where
  pub no_chain : chained x s.table ≡ 0
  pub no_queue : queued x s.engine ≡ 0
  pub no_entry : (c d k : ℕ) → search g c ≢ accepted 1 x d k
  pub not_out : (o : Out) → Memᴰ o g.outs → o.slot ≢ x

-- an add or a replace
pub data Enters : Op → Type 0 where
  adds : (i c d k : ℕ) → Enters (add i c d k)
  replaces : (i c d k : ℕ) → Enters (replace i c d k)

-- the slot that the next add or replace answers is in no chain and no queue just before it
abbrev pub NewSlots : List Event → List ℕ → Type 0
NewSlots h m = (o : Op) → Enters o → (reply m (on_state o)).status ≡ 0 → Unused (state m) (ledger h) (reply m (on_state o)).a

-- a slot that a search gives is among those searched
searched-in : (ps : List Product) (c x d k : ℕ) (xs : List ℕ) → searched ps c xs ≡ accepted 1 x d k → 0 < count x xs
unfolding searched count
searched-in ps c x d k [] e = let z : ◌≡◌ {A = ℕ} 2 1 = ap (λ (r : Answer). r.a) e in absurd (omega arith)
searched-in ps c x d k (y ∷ xs) e = go (same_or (product_at ps y).code c) (searched-in ps c x d k xs)
  where
    go : SameOr (product_at ps y).code c → (searched ps c xs ≡ accepted 1 x d k → 0 < count x xs) → 0 < count x (y ∷ xs)
    go (inl q) ih =
        let z : y ≡ x = ap (λ (r : Answer). r.b) (sym (searched-here ps c y xs q) ∙ e) in
        rw z (omega (arith, mark-self x))
    go (inr q) ih = omega (arith, ih (sym (searched-on ps c y xs q.0) ∙ e))

module _ {k : ℕ} {s : State} {g : Ledger} (v : Tied k s g) where
  -- the first free slot is unused
  free-unused : is_empty s.table.free ≡ false → Unused s g (first s.table.free)
  free-unused f = record {
    no_chain = unchained;
    no_queue = omega (arith, free, standing-once v.well_formed x);
    no_entry = λ c d k e. no-chain (omega (
      arith,
      chained-at s.table c x,
      searched-in s.table.products c x d k (chain_of s.table c) (sym (v.entries c) ∙ e),
    ));
    not_out = λ o m e. no-queue (rw e at (v.outs.is_queued o m));
  }
    where
      x : ℕ
      x = first s.table.free

      free : 0 < count x s.table.free
      free = omega (arith, count-first x s.table.free f, mark-self x)

      unchained : chained x s.table ≡ 0
      unchained = omega (arith, free, standing-once v.well_formed x)

      no-chain : 0 < chained x s.table → ⊥
      no-chain h = omega (arith, unchained)

      no-queue : 0 < queued x s.engine → ⊥
      no-queue h = omega (arith, free, standing-once v.well_formed x)

  pub enters-unused : (o : Op) → Enters o → (answer s o).status ≡ 0 → Unused s g (answer s o).a
  unfolding causes result
  enters-unused o (adds i c d n) = call-cases (λ (t : State) (r : Answer). r.status ≡ 0 → Unused s g r.a) s (add i c d n)
      (λ z h. free-unused (accepts s (add i c d n) z).free)
      (λ m h. absurd (omega arith))
  enters-unused o (replaces i c d n) = call-cases (λ (t : State) (r : Answer). r.status ≡ 0 → Unused s g r.a) s (replace i c d n)
      (λ z h. free-unused (accepts s (replace i c d n) z).free)
      (λ m h. absurd (omega arith))
