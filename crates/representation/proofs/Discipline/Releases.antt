-- A lane's bit goes: the period goes on, ends, or ends and begins anew, and the discipline of generations is kept, but for lane i and the global
-- queues, whose generation may be over.
use Prim.Native.Nat.{ℕ}
use mathlib.Core.Path.{◌≡◌, refl, sym, ap, ◌∙◌}
use mathlib.Core.Logic.{◌⊎◌, inl, inr, ⊎_elim, ◌≢◌}
use mathlib.Core.Bool.{Bool, true, false}
use lib.Dec.{eqb}
use Rattle.model.specs.Word.{up, later}
use Rattle.model.specs.State.{unheld, Lane, Engine}
use Rattle.model.specs.Engine.{fresh_lane, is_pending, lane_at, set_pending, with_current, at_lane, runs, started, released}
use Rattle.model.specs.Rules.{is_online}
use Rattle.laws.specs.Generations.{later-self, up-later, up_word, up-up-later}
use Rattle.laws.specs.Tests.{clash, same_or}
use Rattle.laws.specs.ListLaws.{update-cases, get_or-update-other}
use Rattle.laws.specs.Elements.{any-update-same, any-false-intro}
use Rattle.representation.proofs.Discipline.Frame.{ended-cases}
use Rattle.representation.proofs.Discipline.Requests.{none-pending}
use Rattle.representation.proofs.Discipline.Ages.{Strict, Loose, Level, rests, goes, Tidy, Disciplined, LooseAt}
use Rattle.representation.proofs.Discipline.Ages.{age-map, age-next, loosen, level-moving, OffEmpty}
use Rattle.representation.proofs.Discipline.Advances.{runs_of, tidy-started}

module _ (i : ℕ) (e : Engine) (t : Disciplined e) where
  less : Engine
  less = at_lane i (set_pending false unheld) e

  pub strict_in : (j : ℕ) → Strict e (lane_at e j)
  strict_in j = ⊎_elim (λ a. a) (λ a. absurd a.0) (t.lanes j)

  -- l has online and queues of lane j, and its bit where j is not i; no lane gets a bit
  record Less (j : ℕ) (l : Lane) : Type 0 where
    online : l.online ≡ (lane_at e j).online
    queues : l.queues ≡ (lane_at e j).queues
    pending : l.pending ≡ true → (lane_at e j).pending ≡ true
    other : j ≢ i → l.pending ≡ (lane_at e j).pending

  less-kept : (j : ℕ) → Less j (lane_at less j)
  unfolding less
  less-kept =
      update-cases fresh_lane Less e.lanes i (set_pending false unheld)
      (λ j. record { online = refl; queues = refl; pending = λ p. p; other = λ n. refl })
      (record { online = refl; queues = refl; pending = λ p. clash p refl; other = λ n. absurd (n refl) })

  none-less : ((j : ℕ) → (lane_at e j).pending ≡ false) → runs less ≡ false
  none-less h = any-false-intro fresh_lane is_pending less.lanes (λ j. go j (lane_at less j).pending refl)
    where
      go : (j : ℕ) (b : Bool) → (lane_at less j).pending ≡ b → (lane_at less j).pending ≡ false
      go j true p = clash ((less-kept j).pending p) (h j)
      go j false p = p

  runs-back : runs less ≡ true → runs e ≡ true
  runs-back r = go (runs e) refl
    where
      go : (b : Bool) → runs e ≡ b → runs e ≡ true
      go true q = q
      go false q = clash r (none-less (none-pending e q))

  -- the lane is dropped and the period goes on, or none ran
  tidy-less : Level less → LooseAt i less
  unfolding less
  tidy-less l = record {
    word = t.word;
    level = l;
    some = any-update-same is_online (set_pending false unheld) e.lanes i (λ l. refl) ∙ t.some;
    off = update-cases fresh_lane (λ (j : ℕ). OffEmpty) e.lanes i (set_pending false unheld) t.off (t.off i);
    lanes = λ j. lanes j (same_or j i);
    global = ⊎_elim (λ a. inl a) (λ a. absurd a.0) t.global;
  }
    where
      lanes : (j : ℕ) → (j ≡ i) ⊎ ((j ≢ i) × (eqb j i ≡ false)) → Strict less (lane_at less j) ⊎ ((j ≡ i) × Loose less (lane_at less j).queues)
      lanes j (inl d) = inr (d, rw (less-kept j).queues (loosen e (lane_at e j) (strict_in j)))
      lanes j (inr d) = inl (rw (get_or-update-other fresh_lane e.lanes i (set_pending false unheld) j d.0)
          (age-map e.largest (λ y u. record { word = u.word; before = u.before; waits = λ r. u.waits (runs-back r) }) (λ x. x) (λ x. x) (strict_in j)))

  -- the period ends
  tidy-over : runs e ≡ true → runs less ≡ false → Tidy (λ (e : Engine). Unit {0}) (λ (j : ℕ). j ≡ i) (Unit {0}) (with_current (up e.current) less)
  unfolding less
  tidy-over r n = record {
    word = up_word e.current;
    level = tt;
    some = any-update-same is_online (set_pending false unheld) e.lanes i (λ l. refl) ∙ t.some;
    off = update-cases fresh_lane (λ (j : ℕ). OffEmpty) e.lanes i (set_pending false unheld) t.off (t.off i);
    lanes = λ j. lanes j (same_or j i);
    global = inr (tt, ⊎_elim (λ a. age-next (λ y u. absurd u) (λ g y. rw g (up-later t.word)) a) (λ a. absurd a.0) t.global);
  }
    where
      f : Engine
      f = with_current (up e.current) less

      lanes : (j : ℕ) → (j ≡ i) ⊎ ((j ≢ i) × (eqb j i ≡ false)) → Strict f (lane_at f j) ⊎ ((j ≡ i) × Loose f (lane_at f j).queues)
      lanes j (inl d) =
          inr (d, rw (less-kept j).queues (age-next (λ y u. rw (← u.before) (up-up-later u.word)) (λ g y. rw g (up-later t.word)) (strict_in j)))
      lanes j (inr d) = inl (rw (get_or-update-other fresh_lane e.lanes i (set_pending false unheld) j d.0)
          (age-next (λ y u. clash (u.waits r) (sym ((less-kept j).other d.0) ∙ none-pending less n j))
          (λ g y. record { word = rw g t.word; before = ap up g; waits = λ x. clash x n }) (strict_in j)))

  pub tidy-released : LooseAt i (released i e)
  unfolding less released
  tidy-released = go (lane_at e i).pending (runs less) refl refl
    where
      go : (a b : Bool) → (lane_at e i).pending ≡ a → runs less ≡ b → LooseAt i (released i e)
      go true true p r = rw (p, r) (tidy-less (goes r (level-moving e t.level (runs-back r))))
      go false true p r = rw p (tidy-less (goes r (level-moving e t.level (runs-back r))))
      go false false p r = rw p (tidy-less (level t.level))
        where
          level : Level e → Level less
          level (rests a b c) = rests r b c
          level (goes a b) = clash a (any-false-intro fresh_lane is_pending e.lanes (λ j. each j (same_or j i)))
            where
              each : (j : ℕ) → (j ≡ i) ⊎ ((j ≢ i) × (eqb j i ≡ false)) → (lane_at e j).pending ≡ false
              each j (inl d) = rw d p
              each j (inr d) = sym ((less-kept j).other d.0) ∙ none-pending less r j
      go true false p r = rw (p, r) (ended-cases (LooseAt i) less stops starts)
        where
          w : Tidy (λ (e : Engine). Unit {0}) (λ (j : ℕ). j ≡ i) (Unit {0}) (with_current (up e.current) less)
          w = tidy-over (runs_of e i p) r

          m : (e.largest ≡ e.current) ⊎ (e.largest ≡ up e.current)
          m = level-moving e t.level (runs_of e i p)

          stops : later (up e.current) e.largest ≡ true → LooseAt i (with_current (up e.current) less)
          stops l = record {
            word = w.word;
            some = w.some;
            off = w.off;
            lanes = w.lanes;
            global = w.global;
            level =
                ⊎_elim (λ q. rests r (rw q t.word) (ap up q))
                (λ q. let k : later (up e.current) e.largest ≡ false = rw q (later-self (up_word e.current)) in clash l k) m;
          }

          starts : later (up e.current) e.largest ≡ false → LooseAt i (started (with_current (up e.current) less))
          starts l =
              tidy-started e.largest (with_current (up e.current) less) w
              (⊎_elim (λ q. let k : later (up e.current) e.largest ≡ true = rw q (up-later t.word) in clash k l) (λ q. inl q) m) (λ x. x)
