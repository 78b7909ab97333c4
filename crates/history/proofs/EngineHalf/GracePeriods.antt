-- The engine half: what the begin and the end of a period leave of `Grace`, over any relation W of slots to lanes.
use Prim.Native.Nat.{ℕ, ◌<◌}
use mathlib.Core.Path.{◌≡◌, refl}
use mathlib.Core.Bool.{true, false, not, ◌&&◌}
use Rattle.model.specs.Word.{word_limit, up, later}
use Rattle.model.specs.State.{unheld, Queues, Lane, Engine}
use Rattle.model.specs.Engine.{fresh_lane, lane_at, set_pending, with_current, at_lane, runs, awaiting, started, ended, released}
use Rattle.model.specs.Engine.{differs}
use borrow.Author.Tests.{not-true}
use Rattle.laws.specs.Tests.{clash, and-true, cond_cases}
use Rattle.laws.specs.Elements.{map_cases, get_or_map, get_or-within}
use Rattle.laws.specs.Generations.{later-self, later-up, up-later, up_word}
use Rattle.representation.proofs.Discipline.Requests.{none-pending}
use Rattle.history.proofs.Ties.Halves.{Safe, AwaitedIn, SafeIn, Quiet, Asked, now, soon, quiet}
use Rattle.history.proofs.Ties.Halves.{Unsampled, Reads, Grace}
use Rattle.history.proofs.EngineHalf.SafeQueues.{safe-next}
use Rattle.history.proofs.EngineHalf.Grace.{grace-lane}

module _ {W : ℕ → ℕ → Type 0} where
  -- ---- a period begins

  -- it waits for every lane that is waited for, and no snapshot is held
  pub started-awaited : (e : Engine) → Grace W e → ((i : ℕ) → (lane_at e i).pending ≡ false) → (x i : ℕ) → W x i → AwaitedIn (started e) i
  unfolding started differs
  started-awaited e s none x i w =
      let r = s.reads x i w in
      rw (get_or_map fresh_lane fresh_lane awaiting e.lanes i (get_or-within fresh_lane (λ (l : Lane). l.reading) e.lanes i refl r.1))
      (record { pending = r.0; unmoved = rw (s.snapshots i (none i)) })

  -- with generation c from now on, which may be the next one
  pub grace-started : (c : ℕ) (e : Engine) → c < word_limit → Grace W e → ((i : ℕ) → (lane_at e i).pending ≡ false) → Asked (started (with_current c e))
      → ((q : Queues) → SafeIn W e q → Safe c e.largest W (AwaitedIn (started e)) q) → Grace W (started (with_current c e))
  unfolding started
  grace-started c e h s none asked safe = record {
    word = h;
    asked = asked;
    snapshots = map_cases fresh_lane (λ (i : ℕ). Unsampled) e.lanes awaiting s.snapshots (λ i b p. s.snapshots i (none i));
    reads = λ x. map_cases fresh_lane (λ (i : ℕ) (l : Lane). W x i → Reads l) e.lanes awaiting (s.reads x) (λ i b. s.reads x i);
    global = safe e.global s.global;
    lanes = map_cases fresh_lane (λ (i : ℕ) (l : Lane). Safe c e.largest W (AwaitedIn (started e)) l.queues) e.lanes awaiting
        (λ i. safe (lane_at e i).queues (s.lanes i)) (λ i b. safe (lane_at e i).queues (s.lanes i));
  }

  -- ---- a period ends

  -- no lane is pending any more: the next generation, with its period if it is asked for
  pub grace-ended : (e : Engine) → Grace W e → ((i : ℕ) → (lane_at e i).pending ≡ false) → (Quiet e → ⊥) → Grace W (ended e)
  unfolding ended started
  grace-ended e s none busy = cond_cases (Grace W) (later (up e.current) e.largest) rests goes
    where
      nobody : (x i : ℕ) → W x i → AwaitedIn e i → ⊥
      nobody x i w a = clash a.pending (none i)

      rests : later (up e.current) e.largest ≡ true → Grace W (with_current (up e.current) e)
      rests t = record {
        word = up_word e.current;
        asked = quiet (record { none = none; behind = t });
        snapshots = s.snapshots;
        reads = s.reads;
        global = safe-next nobody never s.global;
        lanes = λ i. safe-next nobody never (s.lanes i);
      }
        where
          never : e.largest ≡ up e.current → (x i : ℕ) → W x i → AwaitedIn e i
          never p x i w = let k : later (up e.current) e.largest ≡ false = rw p (later-self (up_word e.current)) in clash t k

      goes : later (up e.current) e.largest ≡ false → Grace W (started (with_current (up e.current) e))
      goes t = grace-started (up e.current) e (up_word e.current) s none (asked s.asked)
          (λ q. safe-next nobody (λ p. started-awaited e s none))
        where
          asked : Asked e → Asked (started (with_current (up e.current) e))
          asked (now p) = let k : later (up e.current) e.largest ≡ true = rw p (up-later s.word) in clash k t
          asked (soon p) = now p
          asked (quiet q) = absurd (busy q)

  -- a lane is waited for no longer, and ends the period if it was the last
  pub grace-released : (j : ℕ) (e : Engine) → Grace W e → ((x : ℕ) → W x j → AwaitedIn e j → ⊥) → Grace W (released j e)
  unfolding released
  grace-released j e s h = cond_cases (Grace W) ((lane_at e j).pending && not (runs f)) last (λ p. sf)
    where
      f : Engine
      f = at_lane j (set_pending false unheld) e

      sf : Grace W f
      sf = grace-lane j (set_pending false unheld) e s (record {
        snapshot = λ p. refl;
        reads = λ x. s.reads x j;
        awaited = λ x w a. absurd (h x w a);
        pending = λ p. refl;
        queues = s.lanes j;
      })

      last : ((lane_at e j).pending && not (runs f)) ≡ true → Grace W (ended f)
      last t = grace-ended f sf (none-pending f (not-true (runs f) b.1)) (λ q. busy q s.asked)
        where
          b : ((lane_at e j).pending ≡ true) × (not (runs f) ≡ true)
          b = and-true (lane_at e j).pending (not (runs f)) t

          busy : Quiet f → Asked e → ⊥
          busy q (now p) = let k : later e.current e.largest ≡ false = rw p (later-self s.word) in clash q.behind k
          busy q (soon p) = let k : later e.current e.largest ≡ false = rw p (later-up s.word) in clash q.behind k
          busy q (quiet r) = clash b.0 (r.none j)
