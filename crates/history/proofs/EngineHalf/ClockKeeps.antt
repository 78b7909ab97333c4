-- The engine half, continued: a batch asks for its generation, owners advance, and clock and off keep `Grace`.
use Prim.Native.Nat.{ℕ, ◌<◌}
use mathlib.Core.Path.{◌≡◌, refl}
use mathlib.Core.Logic.{◌⊎◌, inl, inr, ⊎_elim}
use mathlib.Core.Bool.{Bool, true, false, not, ◌&&◌}
use native.Mathlib.Omega.{arith}
use Rattle.model.specs.Word.{up, later}
use Rattle.model.specs.Lists.{count}
use Rattle.model.specs.State.{held, Queues, Lane, Engine, is_held}
use Rattle.model.specs.Engine.{fresh_lane, lane_at, set_pending, set_queues, with_largest, with_global, at_lane, runs, started, settled, ready, target}
use Rattle.model.specs.Engine.{batched, requested, advanced_lane, advanced_global, quiesced, sampled, clocked, taken, emptied, went_off, differs}
use Rattle.laws.specs.Tests.{clash, and-true, cond_cases, same_self}
use Rattle.laws.specs.Elements.{any-false-intro}
use Rattle.laws.specs.Generations.{later-self, later-up, up-later, up_word}
use Rattle.representation.proofs.Discipline.Requests.{none-pending, requested-lane, requested-global, raised}
use Rattle.history.proofs.Ties.Halves.{this, following, SafeIn, Asked, now, soon, quiet, Grace}
use Rattle.history.proofs.EngineHalf.SafeQueues.{safe-mono, safe-raised, safe-settled, safe-taken}
use Rattle.history.proofs.EngineHalf.Grace.{MayBecome, grace-lane, grace-global}
use Rattle.history.proofs.EngineHalf.GracePeriods.{started-awaited, grace-started, grace-released}

-- the engine keeps the grace period, and the queues q would be safe in it
pub record GraceWith (W : ℕ → ℕ → Type 0) (e : Engine) (q : Queues) : Type 0 where
  pub grace : Grace W e
  pub safe : SafeIn W e q

module _ {W : ℕ → ℕ → Type 0} where
  -- ---- a batch begins to wait

  -- a larger generation is asked for
  grace-raised : (n : ℕ) (e : Engine) → Grace W e → Asked (with_largest n e) → (e.largest ≡ up e.current → n ≡ up e.current)
      → Grace W (with_largest n e)
  grace-raised n e s a f = record {
    word = s.word;
    asked = a;
    snapshots = s.snapshots;
    reads = s.reads;
    global = safe-raised n f s.global;
    lanes = λ i. safe-raised n f (s.lanes i);
  }

  -- next becomes current with the generation that `target` gives, which is asked for
  module _ (e : Engine) (q : Queues) (s : Grace W e) (done : (x i : ℕ) → 0 < count x q.done → W x i → ⊥) where
    -- a period runs, whose lanes may have passed before the removal: the batch waits for the period after it
    joins : runs e ≡ true → GraceWith W (with_largest (raised (up e.current) e) e) (batched (up e.current) q)
    joins t = record { grace = grace-raised n e s (soon m) (λ p. m); safe = record { done = done; current = λ x i p w. following refl m } }
      where
        n : ℕ
        n = raised (up e.current) e

        size : Asked e → n ≡ up e.current
        size (now p) = let k : later (up e.current) e.largest ≡ true = rw p (up-later s.word) in rw k
        size (soon p) = let k : later (up e.current) e.largest ≡ false = rw p (later-self (up_word e.current)) in rw k p
        size (quiet r) = clash t (any-false-intro fresh_lane (λ (l : Lane). l.pending) e.lanes r.none)

        m : n ≡ up e.current
        m = size s.asked

    -- none runs: one begins, and the batch waits for its end
    opens : runs e ≡ false → GraceWith W (started (with_largest (raised e.current e) e)) (batched e.current q)
    unfolding started
    opens t = record {
      grace = grace-started e.current f s.word sf none (begins (size s.asked))
          (λ p. safe-mono (λ x i w. w) (λ x i w a. started-awaited e s none x i w));
      safe = record { done = done; current = λ x i p w. this refl (started-awaited e s none x i w) };
    }
      where
        n : ℕ
        n = raised e.current e

        f : Engine
        f = with_largest n e

        none : (i : ℕ) → (lane_at e i).pending ≡ false
        none = none-pending e t

        kept : e.largest ≡ up e.current → n ≡ up e.current
        kept p = let k : later e.current e.largest ≡ false = rw p (later-up s.word) in rw k p

        size : Asked e → (n ≡ e.current) ⊎ (n ≡ up e.current)
        size (now p) = let k : later e.current e.largest ≡ false = rw p (later-self s.word) in inl (rw k p)
        size (soon p) = inr (kept p)
        size (quiet r) = inl (rw r.behind)

        sf : Grace W f
        sf = grace-raised n e s (⊎_elim (λ p. now p) (λ p. soon p) (size s.asked)) kept

        begins : (n ≡ e.current) ⊎ (n ≡ up e.current) → Asked (started f)
        begins (inl p) = now p
        begins (inr p) = soon p

    grace-requested : GraceWith W (requested (target e) e) (batched (target e) q)
    unfolding requested target
    grace-requested = go (runs e) refl
      where
        go : (b : Bool) → runs e ≡ b → GraceWith W (requested (target e) e) (batched (target e) q)
        go true t = rw (t, target, requested) (joins t)
        go false t = rw (t, target, requested) (opens t)

  -- ---- advance

  -- new queues for a lane, all else as it was
  grace-queues : (i : ℕ) (q : Queues) (e : Engine) → GraceWith W e q → Grace W (at_lane i (set_queues q) e)
  grace-queues i q e h = grace-lane i (set_queues q) e h.grace (record {
    snapshot = h.grace.snapshots i;
    reads = λ x. h.grace.reads x i;
    awaited = λ x w a. record { pending = a.pending; unmoved = a.unmoved };
    pending = λ p. p;
    queues = h.safe;
  })

  pub grace-advanced_lane : (i : ℕ) (e : Engine) → Grace W e → Grace W (advanced_lane i e)
  unfolding advanced_lane
  grace-advanced_lane i e s = cond_cases (Grace W) (ready q)
      (λ t. rw (requested-lane (target e) i (batched (target e) q) e)
      (grace-queues i (batched (target e) q) (requested (target e) e) (grace-requested e q s o.done)))
      (λ t. grace-queues i q e (record { grace = s; safe = o }))
    where
      q : Queues
      q = settled e.current (lane_at e i).queues

      o : SafeIn W e q
      o = safe-settled s.word (s.lanes i)

  pub grace-advanced_global : (e : Engine) → Grace W e → Grace W (advanced_global e)
  unfolding advanced_global
  grace-advanced_global e s = cond_cases (Grace W) (ready q)
      (λ t. rw (requested-global (target e) (batched (target e) q) e) (waits (grace-requested e q s o.done)))
      (λ t. grace-global q e s o)
    where
      q : Queues
      q = settled e.current e.global

      o : SafeIn W e q
      o = safe-settled s.word s.global

      waits : GraceWith W (requested (target e) e) (batched (target e) q) → Grace W (with_global (batched (target e) q) (requested (target e) e))
      waits g = grace-global (batched (target e) q) (requested (target e) e) g.grace g.safe

  -- ---- clock and off

  -- a pending lane copies its counts: it is awaited as before
  grace-sampled : (i : ℕ) (e : Engine) → Grace W e → Grace W (at_lane i sampled e)
  unfolding sampled differs
  grace-sampled i e s = grace-lane i sampled e s (cond_cases (MayBecome W e i) (l.pending && not (is_held l.snapshot)) takes stays)
    where
      l : Lane
      l = lane_at e i

      takes : (l.pending && not (is_held l.snapshot)) ≡ true → MayBecome W e i (set_pending true (held l.quiescent) l)
      takes t = record {
        snapshot = λ p. clash refl p;
        reads = λ x. s.reads x i;
        awaited = λ x w a. record { pending = refl; unmoved = rw (same_self l.quiescent) };
        pending = λ p. clash (and-true l.pending (not (is_held l.snapshot)) t).0 p;
        queues = s.lanes i;
      }

      stays : (l.pending && not (is_held l.snapshot)) ≡ false → MayBecome W e i l
      stays t = record { snapshot = s.snapshots i; reads = λ x. s.reads x i; awaited = λ x w a. a; pending = λ p. p; queues = s.lanes i }

  -- a lane that went through a quiescent state is not awaited, so no slot waits for it
  pub grace-clocked : (i : ℕ) (e : Engine) → Grace W e → Grace W (clocked i e)
  unfolding clocked
  grace-clocked i e s =
      grace-sampled i _ (grace-advanced_global _ (grace-advanced_lane i _
      (cond_cases (Grace W) (quiesced (lane_at e i)) (λ t. grace-released i e s (λ x w a. clash t a.unmoved)) (λ t. s))))

  -- a lane that leaves does not read, so no slot waits for it
  pub grace-went_off : (i : ℕ) (e : Engine) → Grace W e → ((x : ℕ) → W x i → ⊥) → Grace W (went_off i e)
  unfolding went_off count
  grace-went_off i e s h = grace-advanced_global _ (grace-released i _ (grace-lane i emptied f sf fits) (λ x w a. h x w))
    where
      f : Engine
      f = with_global (taken e.global (lane_at e i).queues) e

      sf : Grace W f
      sf = grace-global (taken e.global (lane_at e i).queues) e s (safe-taken s.global (s.lanes i))

      fits : MayBecome W f i (emptied (lane_at e i))
      fits = record {
        snapshot = s.snapshots i;
        reads = λ x w. absurd (h x w);
        awaited = λ x w. absurd (h x w);
        pending = λ p. p;
        queues = record { done = λ x j p w. absurd (omega arith); current = λ x j p w. absurd (omega arith) };
      }
