-- Demand 3, whole: one statement over every list of calls, with nothing assumed.
use Prim.Native.Nat.{ℕ, zero, suc}
use mathlib.Core.Path.{◌≡◌, refl}
use mathlib.Core.List.{List, []}
use native.Mathlib.Omega.{arith}
use Rattle.model.specs.State.{Sizes, State}
use Rattle.model.specs.Rules.{fresh}
use Rattle.model.specs.Calls.{Call, set_up, refusal_of, reply_of, reply, left}
use Rattle.model.specs.Ledger.{ledger_from, events, RefusesSetUps, Demand3}
use Rattle.representation.proofs.CallsWellFormed.Fresh.{fresh-well_formed}
use Rattle.representation.proofs.MemoryCalls.{set_up-accepted, left-set_up}
use Rattle.history.proofs.CallsKeep.Start.{invariant-fresh}
use Rattle.history.proofs.OverLists.Stands.{Stands, stands-stored}
use Rattle.history.proofs.OverLists.ListInvariant.{At}
use Rattle.history.proofs.OverLists.Instants.{past}
use Rattle.history.proofs.OverLists.OneList.{explained-list, kept-list, returned-list}

-- a set-up of status 0 was refused by no cause
set-up-accepted : (m : List ℕ) (z : Sizes) → (reply m (set_up z)).status ≡ 0 → refusal_of m (set_up z) ≡ 0
unfolding reply reply_of
set-up-accepted m z = go (refusal_of m (set_up z))
  where
    go : (x : ℕ) → (reply_of m x (set_up z)).status ≡ 0 → x ≡ 0
    go zero h = refl
    go (suc x) h = absurd (omega arith)

-- it leaves a memory that holds the fresh state
pub set-up-stands : (m : List ℕ) (z : Sizes) → (reply m (set_up z)).status ≡ 0 → Stands (fresh z) (left m (set_up z))
unfolding fresh
set-up-stands m z h =
    let free = set-up-accepted m z h in
    let u = set_up-accepted m z free in
    rw (left-set_up m z free) (stands-stored (fresh z) m (fresh-well_formed z u.in_range) u.long)

-- the list, from its set-up on
pub at-set-up : (m : List ℕ) (z : Sizes) → (reply m (set_up z)).status ≡ 0 → (ks : List Call) → RefusesSetUps (left m (set_up z)) ks
    → At (events (left m (set_up z)) ks) [] (fresh z) (left m (set_up z)) ks
unfolding ledger_from
at-set-up m z ok ks r =
    let v = set-up-stands m z ok in
    let h = events (left m (set_up z)) ks in
    record { all = refl; stands = v; refuses = r; invariant = invariant-fresh (past h) z v.well_formed }

pub demand3 : Demand3
demand3 m z ok ks r = record {
  explained = explained-list m₀ ks s a;
  kept = kept-list m₀ ks s a;
  returned = returned-list m₀ ks s a;
}
  where
    m₀ : List ℕ
    m₀ = left m (set_up z)

    s : State
    s = fresh z

    a : At (events m₀ ks) [] s m₀ ks
    a = at-set-up m z ok ks r
