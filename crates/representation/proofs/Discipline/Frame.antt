-- What clock and off leave as it was: sections, lookups, and how often each slot is queued.
use Prim.Native.Nat.{ℕ, ◌+◌}
use mathlib.Core.Path.{◌≡◌, refl, ◌∙◌}
use mathlib.Core.Bool.{Bool, true, false, not, cond, ◌&&◌}
use mathlib.Core.List.{◌++◌}
use native.Mathlib.Omega.{arith}
use lib.ListN.{length, length-map}
use Rattle.model.specs.Word.{up, later}
use Rattle.model.specs.Lists.{count, is_empty}
use Rattle.model.specs.State.{unheld, Queues, Lane, Engine, is_held}
use Rattle.model.specs.Engine.{fresh_lane, awaiting, emptied, lane_at, set_pending, set_queues, with_current, with_largest, with_global, at_lane, runs, started, ended}
use Rattle.model.specs.Engine.{released, settled, ready, target, batched, requested, advanced_lane, advanced_global, quiesced, sampled, clocked, taken, went_off}
use Rattle.laws.specs.Tests.{clash, and-true, cond_cases}
use Rattle.laws.specs.ListLaws.{update-cases, length-update}
use Rattle.laws.specs.Elements.{map_cases}
use Rattle.laws.specs.Sums.{sum, sum-update-same, sum-update-zero, sum-map}
use Rattle.laws.specs.Counts.{count-append, count-empty}

-- how often slot x stands in queues, in lanes' queues, in all queues of an engine
abbrev pub in_queues : ℕ → Queues → ℕ
in_queues x q = count x q.next + count x q.current + count x q.done

abbrev pub in_lane : ℕ → Lane → ℕ
in_lane x l = in_queues x l.queues

abbrev pub queued : ℕ → Engine → ℕ
queued x e = in_queues x e.global + sum (in_lane x) e.lanes

-- f has the sections and lookups of e and queues each slot as often; a reading lane stays on
pub record Frame (e f : Engine) : Type 0 where
  pub size : length f.lanes ≡ length e.lanes
  pub reading : (i : ℕ) → (lane_at f i).reading ≡ (lane_at e i).reading
  pub lookup : (i : ℕ) → (lane_at f i).lookup ≡ (lane_at e i).lookup
  pub online : (i : ℕ) → (lane_at e i).reading ≡ true → (lane_at e i).online ≡ true → (lane_at f i).online ≡ true
  pub once : (x : ℕ) → queued x f ≡ queued x e

pub frame-refl : (e : Engine) → Frame e e
frame-refl e = record { size = refl; reading = λ i. refl; lookup = λ i. refl; online = λ i r o. o; once = λ x. refl }

pub frame-trans : {e f g : Engine} → Frame e f → Frame f g → Frame e g
frame-trans a b = record {
  size = b.size ∙ a.size;
  reading = λ i. b.reading i ∙ a.reading i;
  lookup = λ i. b.lookup i ∙ a.lookup i;
  online = λ i r o. b.online i (a.reading i ∙ r) (a.online i r o);
  once = λ x. b.once x ∙ a.once x;
}

-- the lane's own fields, before and after
pub record Alike (l k : Lane) : Type 0 where
  pub reading : k.reading ≡ l.reading
  pub lookup : k.lookup ≡ l.lookup
  pub online : l.reading ≡ true → l.online ≡ true → k.online ≡ true

abbrev pub alike_at : (j : ℕ) (f : Lane → Lane) (e : Engine) → Type 0
alike_at j f e = Alike (lane_at e j) (f (lane_at e j))

same-lane : (l : Lane) → Alike l l
same-lane l = record { reading = refl; lookup = refl; online = λ r o. o }

frame_at : (j : ℕ) (f : Lane → Lane) (e : Engine) (g : Queues) → alike_at j f e → ((x : ℕ) → queued x (at_lane j f (with_global g e)) ≡ queued x e)
    → Frame e (at_lane j f (with_global g e))
frame_at j f e g a h = record {
  size = length-update e.lanes j f;
  reading = λ i. (all i).reading;
  lookup = λ i. (all i).lookup;
  online = λ i. (all i).online;
  once = h;
}
  where
    all : (i : ℕ) → Alike (lane_at e i) (lane_at (at_lane j f e) i)
    all = update-cases fresh_lane (λ (i : ℕ) (l : Lane). Alike (lane_at e i) l) e.lanes j f (λ i. same-lane (lane_at e i)) a

pub frame-lane : (j : ℕ) (f : Lane → Lane) (e : Engine) → alike_at j f e → ((x : ℕ) → in_lane x (f (lane_at e j)) ≡ in_lane x (lane_at e j)) → Frame e (at_lane j f e)
frame-lane j f e a h = frame_at j f e e.global a (λ x. omega (arith, sum-update-same (in_lane x) fresh_lane e.lanes j f (h x)))

frame-global : (q : Queues) (e : Engine) → ((x : ℕ) → in_queues x q ≡ in_queues x e.global) → Frame e (with_global q e)
frame-global q e h = record { size = refl; reading = λ i. refl; lookup = λ i. refl; online = λ i r o. o; once = λ x. omega (arith, h x) }

frame-started : (e : Engine) → Frame e (started e)
unfolding started
frame-started e = record {
  size = length-map e.lanes awaiting;
  reading = λ i. (all i).reading;
  lookup = λ i. (all i).lookup;
  online = λ i. (all i).online;
  once = λ x. omega (arith, sum-map (in_lane x) e.lanes awaiting (λ l. refl));
}
  where
    all : (i : ℕ) → Alike (lane_at e i) (lane_at (started e) i)
    all =
        map_cases fresh_lane (λ (i : ℕ) (l : Lane). Alike (lane_at e i) l) e.lanes awaiting
        (λ i. same-lane (lane_at e i)) (λ i h. record { reading = refl; lookup = refl; online = λ r o. o })

frame-numbers : (c m : ℕ) (e : Engine) → Frame e (with_current c (with_largest m e))
frame-numbers c m e = record { size = refl; reading = λ i. refl; lookup = λ i. refl; online = λ i r o. o; once = λ x. refl }

-- the end of a period: the current generation is one more, and if the largest requested is not earlier, a period begins
pub ended-cases : (P : Engine → Type 0) (e : Engine) → (later (up e.current) e.largest ≡ true → P (with_current (up e.current) e))
    → (later (up e.current) e.largest ≡ false → P (started (with_current (up e.current) e))) → P (ended e)
unfolding ended
ended-cases P e f g = cond_cases P (later (up e.current) e.largest) f g

frame-ended : (e : Engine) → Frame e (ended e)
frame-ended e = ended-cases (Frame e) e (λ t. n) (λ t. frame-trans n (frame-started _))
  where
    n : Frame e (with_current (up e.current) e)
    n = frame-numbers (up e.current) e.largest e

pub frame-released : (i : ℕ) (e : Engine) → Frame e (released i e)
unfolding released
frame-released i e = cond_cases (Frame e) ((lane_at e i).pending && not (runs f)) (λ t. frame-trans n (frame-ended f)) (λ t. n)
  where
    f : Engine
    f = at_lane i (set_pending false unheld) e

    n : Frame e f
    n = frame-lane i (set_pending false unheld) e (record { reading = refl; lookup = refl; online = λ r o. o }) (λ x. refl)

pub frame-requested : (t : ℕ) (e : Engine) → Frame e (requested t e)
unfolding requested
frame-requested t e = cond_cases (Frame e) (runs e) (λ p. n) (λ p. frame-trans n (frame-started _))
  where
    n : Frame e (with_largest (cond (later t e.largest) t e.largest) e)
    n = frame-numbers e.current _ e

in-settled : (x c : ℕ) (q : Queues) → in_queues x (settled c q) ≡ in_queues x q
unfolding settled count
in-settled x c q =
    cond_cases (λ (p : Queues). in_queues x p ≡ in_queues x q) (not (is_empty q.current) && later c q.generation)
    (λ t. omega (arith, count-append x q.done q.current)) (λ t. refl)

in-batched : (x g : ℕ) (q : Queues) → ready q ≡ true → in_queues x (batched g q) ≡ in_queues x q
unfolding ready count
in-batched x g q h = omega (arith, count-empty x q.current (and-true (is_empty q.current) (not (is_empty q.next)) h).0)

frame-queues : (i : ℕ) (q : Queues) (e : Engine) → ((x : ℕ) → in_queues x q ≡ in_lane x (lane_at e i)) → Frame e (at_lane i (set_queues q) e)
frame-queues i q e h = frame-lane i (set_queues q) e (record { reading = refl; lookup = refl; online = λ r o. o }) h

pub frame-advanced_lane : (i : ℕ) (e : Engine) → Frame e (advanced_lane i e)
unfolding advanced_lane
frame-advanced_lane i e = cond_cases (Frame e) (ready q)
    (λ t. frame-trans (frame-queues i (batched (target e) q) e (λ x. in-batched x (target e) q t ∙ in-settled x e.current (lane_at e i).queues))
    (frame-requested (target e) _))
    (λ t. frame-queues i q e (λ x. in-settled x e.current (lane_at e i).queues))
  where
    q : Queues
    q = settled e.current (lane_at e i).queues

pub frame-advanced_global : (e : Engine) → Frame e (advanced_global e)
unfolding advanced_global
frame-advanced_global e = cond_cases (Frame e) (ready q)
    (λ t. frame-trans (frame-global (batched (target e) q) e (λ x. in-batched x (target e) q t ∙ in-settled x e.current e.global))
    (frame-requested (target e) _))
    (λ t. frame-global q e (λ x. in-settled x e.current e.global))
  where
    q : Queues
    q = settled e.current e.global

frame-snapped : (i : ℕ) (e : Engine) → Frame e (at_lane i sampled e)
unfolding sampled
frame-snapped i e = frame-lane i sampled e
    (cond_cases (Alike l) t (λ p. record { reading = refl; lookup = refl; online = λ r o. o }) (λ p. same-lane l))
    (λ x. cond_cases (λ (k : Lane). in_lane x k ≡ in_lane x l) t (λ p. refl) (λ p. refl))
  where
    l : Lane
    l = lane_at e i

    t : Bool
    t = l.pending && not (is_held l.snapshot)

pub frame-clocked : (i : ℕ) (e : Engine) → Frame e (clocked i e)
unfolding clocked
frame-clocked i e =
    frame-trans (frame-trans (frame-trans
    (cond_cases (Frame e) (quiesced (lane_at e i)) (λ t. frame-released i e) (λ t. frame-refl e))
    (frame-advanced_lane i _)) (frame-advanced_global _)) (frame-snapped i _)

pub frame-went_off : (i : ℕ) (e : Engine) → (lane_at e i).reading ≡ false → Frame e (went_off i e)
unfolding count went_off
frame-went_off i e h =
    frame-trans (frame-trans (frame_at i emptied e g (record { reading = refl; lookup = refl; online = λ r o. clash r h }) all) (frame-released i _))
    (frame-advanced_global _)
  where
    g : Queues
    g = taken e.global (lane_at e i).queues

    all : (x : ℕ) → queued x (at_lane i emptied (with_global g e)) ≡ queued x e
    all x = let q = (lane_at e i).queues in
        omega (
          arith,
          sum-update-zero (in_lane x) fresh_lane e.lanes i emptied refl refl,
          count-append x (e.global.next ++ q.current) q.next,
          count-append x e.global.next q.current,
          count-append x e.global.done q.done,
        )
