-- A fresh state has the invariant with the empty ledger.
use Prim.Native.Nat.{ℕ, zero, suc}
use mathlib.Core.Path.{◌≡◌, refl, sym, ap}
use mathlib.Core.List.Memᴰ
use mathlib.Core.List.{List, []}
use native.Mathlib.Omega.{arith}
use lib.ListN.{get_or, replicate}
use Rattle.model.specs.Word.{later}
use Rattle.model.specs.Lists.{count}
use Rattle.model.specs.Layout.{chain_count}
use Rattle.model.specs.State.{Sizes, Queues, lane_count}
use Rattle.model.specs.Engine.{fresh_lane, lane_at}
use Rattle.model.specs.Table.{chain_number}
use Rattle.model.specs.Rules.{fresh}
use Rattle.model.specs.Ledger.{Ledger, empty, search_in}
use Rattle.laws.specs.Tests.{clash}
use Rattle.laws.specs.Sums.{sum}
use Rattle.representation.proofs.Discipline.Frame.{in_lane}
use Rattle.representation.proofs.WellFormed.{WellFormed}
use Rattle.history.proofs.Ties.Halves.{WaitsFor, SafeIn, searched, quiet}
use Rattle.history.proofs.Ties.Invariant.{Invariant}

module _ {A : Type 0} where
  get_or_replicate : (n i : ℕ) (d : A) → get_or (replicate n d) i d ≡ d
  get_or_replicate zero i d = refl
  get_or_replicate (suc n) zero d = refl
  get_or_replicate (suc n) (suc i) d = get_or_replicate n i d

  sum-replicate : (h : A → ℕ) (n : ℕ) (a : A) → h a ≡ 0 → sum h (replicate n a) ≡ 0
  sum-replicate h zero a z = refl
  sum-replicate h (suc n) a z = omega (arith, sum-replicate h n a z)

-- no entry, section, lookup or slot out, and nothing in the chains and queues
pub invariant-fresh : (past : ℕ → Ledger) (z : Sizes) → WellFormed (fresh z) → Invariant past 0 (fresh z) empty
unfolding fresh searched search_in count later
invariant-fresh past z w = record {
  tied = record {
    well_formed = w;
    entries = λ c. sym (ap (searched _ c) (get_or_replicate {A = List ℕ} chain_count (chain_number c) []));
    sections = record {
      reading = λ s m. absurd (Memᴰ.not-nil m);
      section = λ i r. clash r (ap (λ l. l.reading) (lane i));
      opened = λ s m. absurd (Memᴰ.not-nil m);
    };
    outs = record {
      out = λ x p. absurd (omega (arith, sum-replicate (in_lane x) (lane_count z) fresh_lane refl));
      is_queued = λ o m. absurd (Memᴰ.not-nil m);
      before = λ o s m n. absurd (Memᴰ.not-nil m);
    };
    grace = record {
      word = omega arith;
      asked = quiet (record { none = λ i. ap (λ l. l.pending) (lane i); behind = refl });
      snapshots = λ i h. ap (λ l. l.snapshot) (lane i);
      reads = λ x i q. absurd (Memᴰ.not-nil q.retains.is_out);
      global = nobody _;
      lanes = λ j. nobody _;
    };
  };
  looking = λ i. rw (lane i) tt;
}
  where
    -- nothing is out, so no slot waits
    nobody : (q : Queues) → SafeIn (WaitsFor empty) (fresh z).engine q
    nobody q = record {
      done = λ x i h w. Memᴰ.not-nil w.retains.is_out;
      current = λ x i h w. absurd (Memᴰ.not-nil w.retains.is_out);
    }

    lane : (i : ℕ) → lane_at (fresh z).engine i ≡ fresh_lane
    lane i = get_or_replicate (lane_count z) i fresh_lane
