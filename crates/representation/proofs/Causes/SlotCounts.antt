-- How often each slot stands in chains and queues, and how a call changes that.
use Prim.Native.Nat.{ℕ, ◌+◌, ◌%◌, ◌<◌}
use mathlib.Core.Path.{◌≡◌, refl}
use mathlib.Core.Bool.{Bool, true, false, ◌&&◌}
use mathlib.Core.List.{List, [], ◌∷◌}
use native.Mathlib.Omega.{arith}
use lib.ListN.{length}
use borrow.Author.Tests.{not-true, eq-eqb}
use Rattle.model.specs.Lists.{count, is_empty, first, without, swapped}
use Rattle.model.specs.State.{Product, Table, State}
use Rattle.model.specs.Layout.{chain_count}
use Rattle.model.specs.Engine.{fresh_lane, lane_at}
use Rattle.model.specs.Table.{chain_of, slot_of, present, added, replaced, deleted, reclaimed}
use Rattle.model.specs.Rules.{retired, handed_back, less_handed_back, from_global, retiring, reclaiming}
use Rattle.laws.specs.Tests.{clash}
use Rattle.laws.specs.Sums.{sum, sum-update}
use Rattle.laws.specs.Counts.{mark, count-append, count-first, count-swapped, count-without}
use Rattle.representation.proofs.Discipline.Frame.{in_lane, queued}
use Rattle.representation.proofs.Causes.Searches.{slot_in-in}

-- how often slot x stands in chains and in the free queue
abbrev pub in_table : ℕ → Table → ℕ
in_table x t = sum (count x) t.chains + count x t.free

pub present-in : (t : Table) (c : ℕ) → present t c ≡ true → 0 < count (slot_of t c) (chain_of t c)
present-in t c h = slot_in-in t.products c (chain_of t c) (λ p. clash (eq-eqb _ _ p) (not-true _ h))

module _ (t : Table) (h : length t.chains ≡ chain_count) (x : ℕ) where
  spot : (c : ℕ) → c % chain_count < length t.chains
  spot c = omega arith

  pub in-added : (p : Product) → is_empty t.free ≡ false → in_table x (added p t) ≡ in_table x t
  unfolding added count
  in-added p f =
      omega (
        arith,
        count-first x t.free f,
        sum-update (count x) [] t.chains
            (p.code % chain_count) (λ (xs : List ℕ). first t.free ∷ xs) (spot p.code),
      )

  pub in-replaced : (p : Product) → is_empty t.free ≡ false → present t p.code ≡ true
      → in_table x (replaced p t) + mark x (slot_of t p.code) ≡ in_table x t
  unfolding replaced
  in-replaced p f k =
      let o = slot_of t p.code in
      let s = first t.free in
      omega (
        arith,
        count-first x t.free f,
        sum-update (count x) [] t.chains (p.code % chain_count) (swapped o s) (spot p.code),
        count-swapped x o s (chain_of t p.code) (present-in t p.code k),
      )

  pub in-deleted : (c : ℕ) → present t c ≡ true → in_table x (deleted c t) + mark x (slot_of t c) ≡ in_table x t
  unfolding deleted
  in-deleted c k =
      let o = slot_of t c in
      omega (arith, sum-update (count x) [] t.chains (c % chain_count) (without o) (spot c), count-without x o (chain_of t c) (present-in t c k))

  pub in-reclaimed : (s : ℕ) → in_table x (reclaimed s t) ≡ in_table x t + mark x s
  unfolding reclaimed count
  in-reclaimed s = omega (arith, count-append x t.free (s ∷ []))

module _ (s : State) (i : ℕ) (h : i < length s.engine.lanes) (x : ℕ) where
  pub in-retired : (o : ℕ) → queued x (retired s i o) ≡ queued x s.engine + mark x o
  unfolding count
  in-retired o =
      omega (arith, count-append x (lane_at s.engine i).queues.next (o ∷ []), sum-update (in_lane x) fresh_lane s.engine.lanes i (retiring o) h)

  pub in-handed : (is_empty (lane_at s.engine i).queues.done && is_empty s.engine.global.done) ≡ false
      → queued x (less_handed_back s i) + mark x (handed_back s i) ≡ queued x s.engine
  in-handed k = go (from_global s i) refl
    where
      go : (b : Bool) → from_global s i ≡ b → queued x (less_handed_back s i) + mark x (handed_back s i) ≡ queued x s.engine
      go true e = rw e (omega (arith, count-first x s.engine.global.done (rw e at k)))
      go false e = rw e (omega (arith, count-first x (lane_at s.engine i).queues.done e, sum-update (in_lane x) fresh_lane s.engine.lanes i reclaiming h))
