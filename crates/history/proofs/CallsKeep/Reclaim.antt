-- Hand-back: a done slot waits for nobody, so clearing it takes nothing from a reader. Here the two halves of the proof meet.
use Prim.Native.Nat.{ℕ, suc, ◌+◌, ◌<◌}
use mathlib.Core.Path.{◌≡◌, refl, sym, ap, ◌∙◌}
use mathlib.Core.Logic.{inl, inr, ◌≢◌}
use mathlib.Core.Bool.{Bool, true, false, ◌&&◌}
use native.Mathlib.Omega.{arith}
use lib.ListN.{length}
use lib.Seq.{get_or-set_other}
use borrow.Author.Tests.{ne_eqb}
use Rattle.model.specs.Word.{none}
use Rattle.model.specs.Lists.{count, is_empty, first, drops}
use Rattle.model.specs.State.{Queues, Lane, Engine, Table, State}
use Rattle.model.specs.Engine.{fresh_lane, lane_at}
use Rattle.model.specs.Table.{blank, chain_of, reclaimed}
use Rattle.model.specs.Rules.{lane_of, with, less_done, reclaiming, from_global, handed_back, less_handed_back}
use Rattle.model.specs.Ledger.{Section, Ledger, of_slot, slot_back}
use Rattle.laws.specs.Tests.{same_or}
use Rattle.laws.specs.ListLaws.{update-cases}
use Rattle.laws.specs.Elements.{of-drops, to-drops}
use Rattle.laws.specs.Counts.{mark, mark-self, count-first}
use Rattle.representation.proofs.Discipline.Frame.{queued}
use Rattle.representation.proofs.Causes.SlotCounts.{in-handed}
use Rattle.representation.proofs.WellFormed.{WellFormed, chained}
use Rattle.history.proofs.Ties.Halves.{Retains, Waits, SafeIn, Grace, RetainedBy, WaitsFor}
use Rattle.history.proofs.Ties.Invariant.{OutOf, Outs, Tied, in_chain}
use Rattle.history.proofs.EngineHalf.Grace.{grace-lane, grace-global, grace-wider}
use Rattle.history.proofs.ChainHalf.ChainStretches.{SameOr, searched-agree}
use Rattle.history.proofs.ChainHalf.Trail.{Kept, agree-chain}
use Rattle.history.proofs.CallsKeep.SlotFacts.{standing-once, retains-map, waits-map}
use Rattle.history.proofs.CallsKeep.Respects.{heads, Respects, sections-same, Keeps}

-- ---- the first of a done queue is taken

-- the queues less their first done slot are as safe
safe-less_done : {W : ℕ → ℕ → Type 0} (e : Engine) (q : Queues) → is_empty q.done ≡ false → SafeIn W e q → SafeIn W e (less_done q)
safe-less_done e q n o = record { done = λ x j p w. o.done x j (omega (arith, count-first x q.done n)) w; current = o.current }

module _ (s : State) (i : ℕ) (some : (is_empty (lane_of s i).queues.done && is_empty s.engine.global.done) ≡ false) where
  grace-less_handed_back : {W : ℕ → ℕ → Type 0} → Grace W s.engine → Grace W (less_handed_back s i)
  grace-less_handed_back {W} h = go (from_global s i) refl
    where
      go : (b : Bool) → from_global s i ≡ b → Grace W (less_handed_back s i)
      go true t = rw t (grace-global (less_done s.engine.global) s.engine h
          (safe-less_done s.engine s.engine.global (rw t at some) h.global))
      go false t = rw t (grace-lane i reclaiming s.engine h (record {
        snapshot = h.snapshots i;
        reads = λ x. h.reads x i;
        awaited = λ x w a. record { pending = a.pending; unmoved = a.unmoved };
        pending = λ p. p;
        queues = safe-less_done s.engine (lane_of s i).queues t (h.lanes i);
      }))

  -- the slot taken waits for no lane
  done-waits : {W : ℕ → ℕ → Type 0} → Grace W s.engine → (j : ℕ) → W (handed_back s i) j → ⊥
  done-waits {W} h j = go (from_global s i) refl
    where
      done : (q : Queues) → is_empty q.done ≡ false → 0 < count (first q.done) q.done
      done q n = omega (arith, count-first (first q.done) q.done n, mark-self (first q.done))

      go : (b : Bool) → from_global s i ≡ b → W (handed_back s i) j → ⊥
      go true t = rw t (h.global.done (first s.engine.global.done) j (done s.engine.global (rw t at some)))
      go false t = rw t ((h.lanes i).done (first (lane_of s i).queues.done) j (done (lane_of s i).queues t))

  -- sections and lookups are as they were
  pub lanes-same : (j : ℕ) → ((lane_at (less_handed_back s i) j).reading ≡ (lane_of s j).reading) × ((lane_at (less_handed_back s i) j).lookup ≡ (lane_of s j).lookup)
  lanes-same = go (from_global s i) refl
    where
      Same : Engine → Type 0
      Same e = (j : ℕ) → ((lane_at e j).reading ≡ (lane_of s j).reading) × ((lane_at e j).lookup ≡ (lane_of s j).lookup)

      go : (b : Bool) → from_global s i ≡ b → Same (less_handed_back s i)
      go true t = rw t (λ j. (refl, refl))
      go false t = rw t (update-cases fresh_lane (λ (j : ℕ) (l : Lane). (l.reading ≡ (lane_of s j).reading) × (l.lookup ≡ (lane_of s j).lookup))
          s.engine.lanes i reclaiming (λ j. (refl, refl)) (refl, refl))

-- ---- the call

module _ {k : ℕ} {s : State} {g : Ledger} (v : Tied k s g) (i : ℕ) (inside : i < length s.engine.lanes)
    (some : (is_empty (lane_of s i).queues.done && is_empty s.engine.global.done) ≡ false) where
  abbrev x₀ : ℕ
  x₀ = handed_back s i

  abbrev u : Table
  u = reclaimed x₀ s.table

  -- the slot was queued, and is so no longer
  counts : (x : ℕ) → queued x (less_handed_back s i) + mark x x₀ ≡ queued x s.engine
  counts x = in-handed s i inside x some

  was-queued : 0 < queued x₀ s.engine
  was-queued = omega (arith, mark-self x₀, counts x₀)

  -- no open section retains it: the grace period is over
  pub none-retains : (z : Section) → RetainedBy g z x₀ → ⊥
  none-retains z r = done-waits s i some v.grace z.lane (record { section = z; of_lane = refl; retains = r })

  -- it was out
  pub was-out : OutOf g.outs x₀
  was-out = v.outs.out x₀ was-queued

  other-chained : (x : ℕ) → 0 < chained x s.table → x ≢ x₀
  other-chained x h e = twice (rw e at h)
    where
      twice : 0 < chained x₀ s.table → ⊥
      twice q = omega (arith, was-queued, standing-once v.well_formed x₀)

  still : (z : Section) (x : ℕ) → x ≢ x₀ → RetainedBy g z x → Retains (drops (of_slot x₀) g.outs) g.sections z x
  still z x n = retains-map z x (λ o e m. to-drops (of_slot x₀) o g.outs m (ne_eqb o.slot x₀ (λ q. n (sym e ∙ q)))) (λ m. m)

  fewer : (x j : ℕ) → Waits (drops (of_slot x₀) g.outs) g.sections x j → WaitsFor g x j
  fewer x j = waits-map x j (λ z. retains-map z x (λ o e m. (of-drops (of_slot x₀) o g.outs m).0) (λ m. m))

  kept-reclaimed : Kept s.table u
  unfolding reclaimed
  kept-reclaimed x h = get_or-set_other s.table.products x₀ x blank blank (other-chained x h)

  respects-reclaimed : Respects k s.table u g (slot_back x₀ g)
  unfolding reclaimed
  respects-reclaimed = record {
    was = λ z m o. m;
    stay = λ z m x r. let n : x ≢ x₀ = λ e. none-retains z (rw e at r) in (
      still z x n r,
      get_or-set_other s.table.products x₀ x blank blank n,
      get_or-set_other s.table.links x₀ x none none n,
    );
    kept = kept-reclaimed;
    anchored = λ z x m m' c. in_chain c;
    chains = heads (λ c xs ys e. (xs, e));
  }

  outs-reclaimed : Outs (suc k) (less_handed_back s i) (drops (of_slot x₀) g.outs)
  outs-reclaimed = record {
    out = λ x p. found x p (same_or x x₀);
    is_queued = λ o m. let d = of-drops (of_slot x₀) o g.outs m in
        let n : mark o.slot x₀ ≡ 0 = rw d.1 in omega (arith, counts o.slot, v.outs.is_queued o d.0);
    before = λ o z m n. omega (arith, v.outs.before o z (of-drops (of_slot x₀) o g.outs m).0 n);
  }
    where
      found : (x : ℕ) → 0 < queued x (less_handed_back s i) → SameOr x x₀ → OutOf (drops (of_slot x₀) g.outs) x
      found x h (inl e) = absurd (omega (arith, counts x, standing-once v.well_formed x, ap (mark x) (sym e), mark-self x))
      found x h (inr e) =
          let o = v.outs.out x (omega (arith, counts x)) in
          record { out = o.out; is_out = to-drops (of_slot x₀) o.out g.outs o.is_out (rw o.of_slot e.1); of_slot = o.of_slot }

  pub keeps-hand_back : WellFormed (with s (less_handed_back s i) u) → Keeps k s (with s (less_handed_back s i) u) g (slot_back x₀ g)
  unfolding reclaimed
  keeps-hand_back w = record {
    tied = record {
      well_formed = w;
      entries = λ c. v.entries c
          ∙ sym (searched-agree s.table.products u.products c (chain_of s.table c) (agree-chain s.table u kept-reclaimed c));
      sections = sections-same (less_handed_back s i) (λ j. (lanes-same s i some j).0) v.sections;
      outs = outs-reclaimed;
      grace = grace-less_handed_back s i some (grace-wider s.engine (λ x j q. inl (fewer x j q)) v.grace);
    };
    respects = respects-reclaimed;
  }
