-- Clock and off keep each lane's fields as legality asks.
use Prim.Native.Nat.{ℕ}
use mathlib.Core.Path.{◌≡◌, refl, ap, ◌∙◌}
use mathlib.Core.Bool.{Bool, true, false, not, cond, ◌&&◌}
use Rattle.model.specs.Word.{up}
use Rattle.model.specs.Lists.{is_empty}
use Rattle.model.specs.State.{Snapshot, unheld, held, Queues, Lane, Engine, is_held}
use Rattle.model.specs.Engine.{fresh_lane, awaiting, emptied, lane_at, set_pending, set_queues, with_current, with_largest}
use Rattle.model.specs.Engine.{with_global, at_lane, runs, started, released, settled, ready, target, batched, requested}
use Rattle.model.specs.Engine.{advanced_lane, advanced_global, quiesced, sampled, clocked, taken, went_off}
use Rattle.laws.specs.Tests.{clash, and-true, cond_cases}
use Rattle.laws.specs.ListLaws.{update-cases, update-update}
use Rattle.laws.specs.Elements.{map_cases}
use Rattle.representation.proofs.Discipline.Frame.{ended-cases}
use Rattle.representation.proofs.Discipline.Requests.{raised}
use Rattle.representation.proofs.Discipline.GenerationsKept.{own-released}
use Rattle.representation.proofs.ExtraWords.{extra-off}
use Rattle.representation.proofs.WellFormed.{LaneFits, SnapshotFits}

module _ (n : ℕ) where
  abbrev pub Fits : Engine → Type 0
  Fits e = (i : ℕ) → LaneFits n (lane_at e i)

  awaiting-fits : (l : Lane) → LaneFits n l → LaneFits n (awaiting l)
  awaiting-fits l f = record {
    counts = f.counts;
    lookup = f.lookup;
    snapshot = held_on l.snapshot f.snapshot;
    off = λ o. let u = f.off o in record { reading = u.reading; pending = o; queues = u.queues };
    extra = f.extra;
  }
    where
      lit : l.pending ≡ true → (b : Bool) → l.online ≡ b → l.online ≡ true
      lit p true q = q
      lit p false q = clash p (f.off q).pending

      held_on : (d : Snapshot) → SnapshotFits l.pending d → SnapshotFits l.online d
      held_on unheld g = tt
      held_on (held c) g = (lit g.0 l.online refl, g.1)

  fits-started : (e : Engine) → Fits e → Fits (started e)
  unfolding started
  fits-started e f = map_cases fresh_lane (λ (i : ℕ) (l : Lane). LaneFits n l) e.lanes awaiting f (λ i b. awaiting-fits (lane_at e i) (f i))

  released-fits : (l : Lane) → LaneFits n l → LaneFits n (set_pending false unheld l)
  released-fits l f = record {
    counts = f.counts;
    lookup = f.lookup;
    snapshot = tt;
    off = λ o. let u = f.off o in record { reading = u.reading; pending = refl; queues = u.queues };
    extra = f.extra;
  }

  fits-at : (i : ℕ) (g : Lane → Lane) (e : Engine) → LaneFits n (g (lane_at e i)) → Fits e → Fits (at_lane i g e)
  fits-at i g e k f = update-cases fresh_lane (λ (j : ℕ) (l : Lane). LaneFits n l) e.lanes i g f k

  -- lane i is dropped already
  fits-released : (i : ℕ) (e : Engine) → Fits (at_lane i (set_pending false unheld) e) → Fits (released i e)
  unfolding released
  fits-released i e f =
      cond_cases Fits ((lane_at e i).pending && not (runs g)) (λ r. ended-cases Fits g (λ q. f) (λ q. fits-started (with_current (up e.current) g) f)) (λ r. f)
    where
      g : Engine
      g = at_lane i (set_pending false unheld) e

  fits-requested : (g : ℕ) (e : Engine) → Fits e → Fits (requested g e)
  unfolding requested
  fits-requested g e f = cond_cases Fits (runs e) (λ r. f) (λ r. fits-started (with_largest (raised g e) e) f)

  pub queued-fits : (q : Queues) (l : Lane) → l.online ≡ true → LaneFits n l → LaneFits n (set_queues q l)
  queued-fits q l o f = record { counts = f.counts; lookup = f.lookup; snapshot = f.snapshot; off = λ x. clash o x; extra = f.extra }

  fits-advanced_lane : (i : ℕ) (e : Engine) → (lane_at e i).online ≡ true → Fits e → Fits (advanced_lane i e)
  unfolding advanced_lane
  fits-advanced_lane i e o f = cond_cases Fits (ready q)
      (λ r. fits-requested (target e) (at_lane i (set_queues (batched (target e) q)) e)
      (fits-at i (set_queues (batched (target e) q)) e (queued-fits _ (lane_at e i) o (f i)) f))
      (λ r. fits-at i (set_queues q) e (queued-fits _ (lane_at e i) o (f i)) f)
    where
      q : Queues
      q = settled e.current (lane_at e i).queues

  fits-advanced_global : (e : Engine) → Fits e → Fits (advanced_global e)
  unfolding advanced_global
  fits-advanced_global e f = cond_cases Fits (ready q) (λ r. fits-requested (target e) (with_global (batched (target e) q) e) f) (λ r. f)
    where
      q : Queues
      q = settled e.current e.global

  sampled-fits : (l : Lane) → LaneFits n l → LaneFits n (sampled l)
  unfolding sampled
  sampled-fits l f = cond_cases (LaneFits n) (l.pending && not (is_held l.snapshot))
      (λ r. record {
        counts = f.counts;
        lookup = f.lookup;
        snapshot = (refl, f.counts);
        off = λ o. clash (and-true l.pending (not (is_held l.snapshot)) r).0 (f.off o).pending;
        extra = f.extra;
      })
      (λ r. f)

  pub fits-clocked : (i : ℕ) (e : Engine) → (lane_at e i).online ≡ true → Fits e → Fits (clocked i e)
  unfolding clocked
  fits-clocked i e o f = fits-at i sampled h (sampled-fits (lane_at h i) (k i)) k
    where
      g : Engine
      g = cond (quiesced (lane_at e i)) (released i e) e

      lit : (lane_at g i).online ≡ true
      lit = cond_cases (λ (d : Engine). (lane_at d i).online ≡ true) (quiesced (lane_at e i)) (λ r. (own-released i e i).online ∙ o) (λ r. o)

      j : Fits g
      j = cond_cases Fits (quiesced (lane_at e i)) (λ r. fits-released i e (fits-at i (set_pending false unheld) e (released-fits (lane_at e i) (f i)) f)) (λ r. f)

      h : Engine
      h = advanced_global (advanced_lane i g)

      k : Fits h
      k = fits-advanced_global (advanced_lane i g) (fits-advanced_lane i g lit j)

  pub fits-went_off : (i : ℕ) (e : Engine) → (lane_at e i).reading ≡ false → Fits e → Fits (went_off i e)
  unfolding went_off
  fits-went_off i e r f =
      fits-advanced_global (released i (at_lane i emptied d))
      (fits-released i (at_lane i emptied d) (rw (update-update e.lanes i emptied (set_pending false unheld))
      (fits-at i (λ (l : Lane). set_pending false unheld (emptied l)) e gone f)))
    where
      d : Engine
      d = with_global (taken e.global (lane_at e i).queues) e

      gone : LaneFits n (set_pending false unheld (emptied (lane_at e i)))
      gone = let g = f i in record {
        counts = g.counts;
        lookup = g.lookup;
        snapshot = tt;
        off = λ o. record { reading = r; pending = refl; queues = refl };
        extra = extra-off (lane_at e i) g.extra;
      }

  pub empty-off : (e : Engine) → Fits e → (i : ℕ) → (lane_at e i).online ≡ false → is_empty (lane_at e i).queues.current ≡ true
  unfolding is_empty
  empty-off e f i o = ap (λ (q : Queues). is_empty q.current) ((f i).off o).queues
