-- The engine half: what a change of one lane or of the global queues leaves of `Grace`, over any relation W of slots to lanes.
use Prim.Native.Nat.{ℕ, ◌≤◌}
use mathlib.Core.Path.{◌≡◌, refl, sym, ◌∙◌}
use mathlib.Core.Logic.{◌⊎◌, ⊎_elim}
use mathlib.Core.Bool.{true, false}
use native.Mathlib.Omega.{arith}
use Rattle.model.specs.Lists.{count}
use Rattle.model.specs.State.{Queues, Lane, Engine}
use Rattle.model.specs.Engine.{fresh_lane, lane_at, with_global, at_lane}
use Rattle.laws.specs.ListLaws.{update-cases}
use Rattle.laws.specs.Sums.{sum-get_or}
use Rattle.representation.proofs.Discipline.Frame.{in_queues, in_lane, queued}
use Rattle.history.proofs.Ties.Halves.{Awaited, AwaitedIn, SafeIn, Asked, now, soon, quiet}
use Rattle.history.proofs.Ties.Halves.{Unsampled, Reads, Grace}
use Rattle.history.proofs.EngineHalf.SafeQueues.{safe-mono}

-- ---- one lane or the global queues anew

-- lane j of e may become l
pub record MayBecome (W : ℕ → ℕ → Type 0) (e : Engine) (j : ℕ) (l : Lane) : Type 0 where
  pub snapshot : Unsampled l
  pub reads : (x : ℕ) → W x j → Reads l
  pub awaited : (x : ℕ) → W x j → AwaitedIn e j → Awaited l
  pub pending : (lane_at e j).pending ≡ false → l.pending ≡ false
  pub queues : SafeIn W e l.queues

module _ {W : ℕ → ℕ → Type 0} where
  pub grace-lane : (j : ℕ) (f : Lane → Lane) (e : Engine) → Grace W e → MayBecome W e j (f (lane_at e j)) → Grace W (at_lane j f e)
  grace-lane j f e s h = record {
    word = s.word;
    asked = asked s.asked;
    snapshots = update-cases fresh_lane (λ (i : ℕ). Unsampled) e.lanes j f s.snapshots h.snapshot;
    reads = λ x. update-cases fresh_lane (λ (i : ℕ) (l : Lane). W x i → Reads l) e.lanes j f (s.reads x) (h.reads x);
    global = still s.global;
    lanes = update-cases fresh_lane (λ (i : ℕ) (l : Lane). SafeIn W (at_lane j f e) l.queues) e.lanes j f
        (λ i. still (s.lanes i)) (still h.queues);
  }
    where
      awaited : (x i : ℕ) → W x i → AwaitedIn e i → AwaitedIn (at_lane j f e) i
      awaited x = update-cases fresh_lane (λ (i : ℕ) (l : Lane). W x i → AwaitedIn e i → Awaited l) e.lanes j f (λ i w a. a) (h.awaited x)

      still : {q : Queues} → SafeIn W e q → SafeIn W (at_lane j f e) q
      still o = safe-mono (λ x i w. w) awaited o

      asked : Asked e → Asked (at_lane j f e)
      asked (now p) = now p
      asked (soon p) = soon p
      asked (quiet q) = quiet (record {
        none = update-cases fresh_lane (λ (i : ℕ) (l : Lane). l.pending ≡ false) e.lanes j f q.none (h.pending (q.none j));
        behind = q.behind;
      })

  pub grace-global : (q : Queues) (e : Engine) → Grace W e → SafeIn W e q → Grace W (with_global q e)
  grace-global q e s o = record { word = s.word; asked = asked s.asked; snapshots = s.snapshots; reads = s.reads; global = o; lanes = s.lanes }
    where
      asked : Asked e → Asked (with_global q e)
      asked (now p) = now p
      asked (soon p) = soon p
      asked (quiet k) = quiet (record { none = k.none; behind = k.behind })

  -- what the engine sees of the lane stays, as far as a slot waits for it
  pub grace-same : (j : ℕ) (f : Lane → Lane) (e : Engine)
      → (f (lane_at e j)).queues ≡ (lane_at e j).queues → (f (lane_at e j)).pending ≡ (lane_at e j).pending → (f (lane_at e j)).snapshot ≡ (lane_at e j).snapshot
      → ((x : ℕ) → W x j → ((f (lane_at e j)).online ≡ true) × ((f (lane_at e j)).reading ≡ true) × ((f (lane_at e j)).quiescent ≡ (lane_at e j).quiescent))
      → Grace W e → Grace W (at_lane j f e)
  grace-same j f e q p n h s = grace-lane j f e s (record {
    snapshot = λ b. n ∙ s.snapshots j (sym p ∙ b);
    reads = λ x w. ((h x w).0, (h x w).1);
    awaited = λ x w a. record { pending = p ∙ a.pending; unmoved = rw (n, (h x w).2) a.unmoved };
    pending = λ b. p ∙ b;
    queues = rw q (s.lanes j);
  })

-- ---- other slots wait: fewer, or some that are in no queue

-- slot x is in no queue yet, and lane i reads
pub record Newly (e : Engine) (x i : ℕ) : Type 0 where
  pub unqueued : queued x e ≡ 0
  pub online : (lane_at e i).online ≡ true
  pub reading : (lane_at e i).reading ≡ true

pub grace-wider : (e : Engine) {W U : ℕ → ℕ → Type 0} → ((x i : ℕ) → U x i → W x i ⊎ Newly e x i) → Grace W e → Grace U e
unfolding count
grace-wider e {W} {U} f s = record {
  word = s.word;
  asked = s.asked;
  snapshots = s.snapshots;
  reads = λ x i u. ⊎_elim (λ w. s.reads x i w) (λ n. (n.online, n.reading)) (f x i u);
  global = safe e.global (λ x. omega arith) s.global;
  lanes = λ i. safe (lane_at e i).queues (λ x. omega (arith, sum-get_or (in_lane x) fresh_lane e.lanes i refl)) (s.lanes i);
}
  where
    safe : (q : Queues) → ((x : ℕ) → in_queues x q ≤ queued x e) → SafeIn W e q → SafeIn U e q
    safe q h o = record {
      done = λ x i p u. ⊎_elim (λ w. o.done x i p w) (λ n. omega (arith, h x, n.unqueued)) (f x i u);
      current = λ x i p u. ⊎_elim (λ w. o.current x i p w) (λ n. absurd (omega (arith, h x, n.unqueued))) (f x i u);
    }
