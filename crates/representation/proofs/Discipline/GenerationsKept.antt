-- Clock and off keep the discipline of generations.
use Prim.Native.Nat.{ℕ, ◌<◌}
use mathlib.Core.Path.{◌≡◌, refl, sym, ap, ◌∙◌}
use mathlib.Core.Logic.{inl, ⊎_elim}
use mathlib.Core.Bool.{true, false, not, cond, ◌&&◌}
use lib.ListN.{length}
use Rattle.model.specs.Lists.{update, any, is_empty}
use Rattle.model.specs.State.{unheld, Lane, Engine, is_held}
use Rattle.model.specs.Word.{up}
use Rattle.model.specs.Engine.{with_current, no_queues, fresh_lane, awaiting, is_pending, emptied, lane_at, set_pending, set_online}
use Rattle.model.specs.Engine.{with_global, at_lane, runs, started, released, quiesced, sampled, clocked, taken, went_off}
use Rattle.model.specs.Rules.{is_online}
use Rattle.laws.specs.Tests.{and-true, cond_cases}
use Rattle.laws.specs.ListLaws.{update-cases, get_or-update-same}
use Rattle.laws.specs.Elements.{map_cases, any-update-same, any-update-alike}
use Rattle.representation.proofs.Discipline.Frame.{ended-cases, frame-released}
use Rattle.representation.proofs.Discipline.Ages.{none, old, now, soon, Strict, Clean, Disciplined, LooseAt}
use Rattle.representation.proofs.Discipline.Ages.{LooseGlobal, age-map, level-anew, strict-anew, OffEmpty}
use Rattle.representation.proofs.Discipline.Advances.{tidy-advanced_lane, tidy-advanced_global}
use Rattle.representation.proofs.Discipline.Releases.{strict_in, tidy-released}

-- a period that ends or begins leaves a lane's queues, and whether it is on
pub record Own (l k : Lane) : Type 0 where
  pub online : k.online ≡ l.online
  pub queues : k.queues ≡ l.queues

own-started : (e : Engine) (j : ℕ) → Own (lane_at e j) (lane_at (started e) j)
unfolding started
own-started e =
    map_cases fresh_lane (λ (j : ℕ) (l : Lane). Own (lane_at e j) l) e.lanes awaiting
    (λ j. record { online = refl; queues = refl }) (λ j b. record { online = refl; queues = refl })

pub own-released : (i : ℕ) (e : Engine) (j : ℕ) → Own (lane_at e j) (lane_at (released i e) j)
unfolding released
own-released i e j =
    cond_cases P ((lane_at e i).pending && not (runs f))
    (λ r. ended-cases P f (λ q. a) (λ q. again (own-started (with_current (up f.current) f) j)))
    (λ r. a)
  where
    f : Engine
    f = at_lane i (set_pending false unheld) e

    P : Engine → Type 0
    P g = Own (lane_at e j) (lane_at g j)

    a : Own (lane_at e j) (lane_at f j)
    a =
        update-cases fresh_lane (λ (j : ℕ) (l : Lane). Own (lane_at e j) l) e.lanes i (set_pending false unheld)
        (λ j. record { online = refl; queues = refl }) (record { online = refl; queues = refl }) j

    again : {l : Lane} → Own (lane_at f j) l → Own (lane_at e j) l
    again b = record { online = b.online ∙ a.online; queues = b.queues ∙ a.queues }

-- a lane anew, but as it was in what the discipline speaks of
tidy-alike : (i : ℕ) (f : Lane → Lane) (e : Engine) → ((l : Lane) → ((f l).online ≡ l.online) × ((f l).pending ≡ l.pending) × ((f l).queues ≡ l.queues))
    → Disciplined e → Disciplined (at_lane i f e)
tidy-alike i f e h t = record {
  word = t.word;
  level = level-anew e g.lanes e.global same t.level;
  some = any-update-same is_online f e.lanes i (λ l. (h l).0) ∙ t.some;
  off = update-cases fresh_lane (λ (j : ℕ). OffEmpty) e.lanes i f t.off (λ o. rw (h (lane_at e i)).2 (t.off i (sym (h (lane_at e i)).0 ∙ o)));
  lanes =
      λ j. inl (update-cases fresh_lane (λ (j : ℕ) (l : Lane). Strict g l) e.lanes i f (λ j. strict (lane_at e j) (lane_at e j) refl refl (strict_in i e t j))
      (strict (lane_at e i) (f (lane_at e i)) (h (lane_at e i)).1 (h (lane_at e i)).2 (strict_in i e t i)) j);
  global = t.global;
}
  where
    g : Engine
    g = at_lane i f e

    same : runs g ≡ runs e
    same = any-update-same is_pending f e.lanes i (λ l. (h l).1)

    strict : (l k : Lane) → k.pending ≡ l.pending → k.queues ≡ l.queues → Strict e l → Strict g k
    strict l k p q a =
        rw q (age-map e.largest (λ y u. record { word = u.word; before = u.before; waits = λ r. p ∙ u.waits (sym same ∙ r) }) (λ x. x) (λ x. x) a)

loose-lane : (i : ℕ) (e : Engine) → Disciplined e → LooseAt i e
loose-lane i e t = record {
  word = t.word;
  level = t.level;
  some = t.some;
  off = t.off;
  lanes = λ j. inl (strict_in i e t j);
  global = ⊎_elim (λ a. inl a) (λ a. absurd a.0) t.global;
}

snapped-alike : (l : Lane) → ((sampled l).online ≡ l.online) × ((sampled l).pending ≡ l.pending) × ((sampled l).queues ≡ l.queues)
unfolding sampled
snapped-alike l =
    cond_cases (λ (k : Lane). (k.online ≡ l.online) × (k.pending ≡ l.pending) × (k.queues ≡ l.queues)) (l.pending && not (is_held l.snapshot))
    (λ r. (refl, sym (and-true l.pending (not (is_held l.snapshot)) r).0, refl)) (λ r. (refl, refl, refl))

pub tidy-clocked : (i : ℕ) (e : Engine) → i < length e.lanes → (lane_at e i).online ≡ true → Disciplined e → Disciplined (clocked i e)
unfolding clocked
tidy-clocked i e b o t = tidy-alike i sampled _ snapped-alike (tidy-advanced_global _ (tidy-advanced_lane i f size lit tidy))
  where
    f : Engine
    f = cond (quiesced (lane_at e i)) (released i e) e

    size : i < length f.lanes
    size = cond_cases (λ (g : Engine). i < length g.lanes) (quiesced (lane_at e i)) (λ r. rw (frame-released i e).size b) (λ r. b)

    lit : (lane_at f i).online ≡ true
    lit = cond_cases (λ (g : Engine). (lane_at g i).online ≡ true) (quiesced (lane_at e i)) (λ r. (own-released i e i).online ∙ o) (λ r. o)

    tidy : LooseAt i f
    tidy = cond_cases (LooseAt i) (quiesced (lane_at e i)) (λ r. tidy-released i e t) (λ r. loose-lane i e t)

pub tidy-went_off : (i : ℕ) (e : Engine) → i < length e.lanes → any is_online (update e.lanes i (set_online false)) ≡ true → Disciplined e
    → Disciplined (went_off i e)
unfolding is_empty went_off
tidy-went_off i e b s t = tidy-advanced_global _ shut
  where
    g : Engine
    g = at_lane i emptied (with_global (taken e.global (lane_at e i).queues) e)

    same : runs g ≡ runs e
    same = any-update-same is_pending emptied e.lanes i (λ l. refl)

    retype : Clean e e.global → Clean g g.global
    retype (none a b) = none a b
    retype (old a b) = old a b
    retype (now a b d) = now a b d
    retype (soon a b d) = soon a b d

    tg : Disciplined g
    tg = record {
      word = t.word;
      level = level-anew e g.lanes g.global same t.level;
      some = any-update-alike is_online emptied (set_online false) e.lanes i (λ l. refl) ∙ s;
      off = update-cases fresh_lane (λ (j : ℕ). OffEmpty) e.lanes i emptied t.off (λ o. refl);
      lanes =
          λ j. inl (update-cases fresh_lane (λ (j : ℕ) (l : Lane). Strict g l) e.lanes i emptied
          (λ j. strict-anew e g.lanes g.global (λ r. sym same ∙ r) (lane_at e j) (strict_in i e t j)) (none refl refl) j);
      global = ⊎_elim (λ a. inl (retype a)) (λ a. absurd a.0) t.global;
    }

    r : LooseAt i (released i g)
    r = tidy-released i g tg

    none-there : (lane_at (released i g) i).queues ≡ no_queues
    none-there = (own-released i g i).queues ∙ ap (λ (l : Lane). l.queues) (get_or-update-same fresh_lane e.lanes i emptied b)

    shut : LooseGlobal (released i g)
    shut = record {
      word = r.word;
      level = r.level;
      some = r.some;
      off = r.off;
      global = r.global;
      lanes = λ j. inl (⊎_elim (λ a. a) (λ a. empty j a.0) (r.lanes j));
    }
      where
        empty : (j : ℕ) → j ≡ i → Strict (released i g) (lane_at (released i g) j)
        empty j d = rw d (rw none-there (none refl refl))
