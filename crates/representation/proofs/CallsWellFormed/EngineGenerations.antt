-- Lanes and queues anew, clock and off keep the generations as legality asks.
use Prim.Native.Nat.{ℕ, ◌<◌}
use mathlib.Core.Path.{◌≡◌, refl, sym, ap, ◌∙◌}
use mathlib.Core.Logic.{inl, ⊎_elim}
use mathlib.Core.Bool.{true, false}
use lib.ListN.{length}
use Rattle.model.specs.Word.{up}
use Rattle.model.specs.Lists.{update, any, is_empty}
use Rattle.model.specs.State.{Queues, Lane, Engine}
use Rattle.model.specs.Engine.{fresh_lane, is_pending, lane_at, set_online, with_global, at_lane, runs, clocked, went_off}
use Rattle.model.specs.Rules.{is_online}
use Rattle.laws.specs.ListLaws.{update-cases}
use Rattle.laws.specs.Elements.{any-update-same, any-true}
use Rattle.representation.proofs.Discipline.Ages.{none as none_a, old, now, soon, Strict, Clean, Disciplined, level-anew, strict-anew}
use Rattle.representation.proofs.Discipline.GenerationsKept.{tidy-clocked, tidy-went_off}
use Rattle.representation.proofs.WellFormed.{Generations}
use Rattle.representation.proofs.CallsWellFormed.EngineFields.{Fits, empty-off}

-- a lane anew, its bit, its current queue and that one's generation as they were
pub record Steady (l k : Lane) : Type 0 where
  pub pending : k.pending ≡ l.pending
  pub current : k.queues.current ≡ l.queues.current
  pub generation : k.queues.generation ≡ l.queues.generation

pub generations-at : (i : ℕ) (f : Lane → Lane) (e : Engine) → ((l : Lane) → Steady l (f l)) → Generations e → Generations (at_lane i f e)
generations-at i f e h t = record {
  word = t.word;
  largest = level-anew e g.lanes e.global alike t.largest;
  lanes =
      update-cases fresh_lane (λ (j : ℕ) (l : Lane). Strict g l) e.lanes i f
      (λ j. strict (lane_at e j) (lane_at e j) (record { pending = refl; current = refl; generation = refl }) (t.lanes j))
      (strict (lane_at e i) (f (lane_at e i)) (h (lane_at e i)) (t.lanes i));
  global = t.global;
}
  where
    g : Engine
    g = at_lane i f e

    alike : runs g ≡ runs e
    alike = any-update-same is_pending f e.lanes i (λ l. (h l).pending)

    strict : (l k : Lane) → Steady l k → Strict e l → Strict g k
    strict l k u (none_a a b) = none_a (ap is_empty u.current ∙ a) (u.generation ∙ b)
    strict l k u (old a b) = old (ap is_empty u.current ∙ a) (record {
      word = rw u.generation b.word;
      before = ap up u.generation ∙ b.before;
      waits = λ r. u.pending ∙ b.waits (sym alike ∙ r);
    })
    strict l k u (now a b d) = now (ap is_empty u.current ∙ a) (u.generation ∙ b) d
    strict l k u (soon a b d) = soon (ap is_empty u.current ∙ a) (u.generation ∙ b) d

pub generations-global : (q : Queues) (e : Engine) → q.current ≡ e.global.current → q.generation ≡ e.global.generation → Generations e
    → Generations (with_global q e)
generations-global q e a b t = record {
  word = t.word;
  largest = level-anew e e.lanes q refl t.largest;
  lanes = λ i. strict-anew e e.lanes q (λ r. r) (lane_at e i) (t.lanes i);
  global = clean t.global;
}
  where
    g : Engine
    g = with_global q e

    clean : Clean e e.global → Clean g q
    clean (none_a c d) = none_a (ap is_empty a ∙ c) (b ∙ d)
    clean (old c d) = absurd d
    clean (now c d k) = now (ap is_empty a ∙ c) (b ∙ d) k
    clean (soon c d k) = soon (ap is_empty a ∙ c) (b ∙ d) k

module _ (n i : ℕ) (e : Engine) (b : i < length e.lanes) (o : (lane_at e i).online ≡ true) (f : Fits n e) (t : Generations e) where
  tidy : Disciplined e
  tidy = record {
    word = t.word;
    level = t.largest;
    some = any-true fresh_lane is_online e.lanes i b o;
    off = empty-off n e f;
    lanes = λ j. inl (t.lanes j);
    global = inl t.global;
  }

  back : {d : Engine} → Disciplined d → Generations d
  back u = record {
    word = u.word;
    largest = u.level;
    lanes = λ j. ⊎_elim (λ a. a) (λ a. absurd a.0) (u.lanes j);
    global = ⊎_elim (λ a. a) (λ a. absurd a.0) u.global;
  }

  pub generations-clocked : Generations (clocked i e)
  generations-clocked = back (tidy-clocked i e b o tidy)

  pub generations-went_off : any is_online (update e.lanes i (set_online false)) ≡ true → Generations (went_off i e)
  generations-went_off s = back (tidy-went_off i e b s tidy)
