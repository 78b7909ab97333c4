-- To begin a period, to request a generation and to advance keep the discipline of generations.
use Prim.Native.Nat.{ℕ, ◌<◌}
use mathlib.Core.Path.{◌≡◌, refl, sym, ◌∙◌}
use mathlib.Core.Logic.{◌⊎◌, inl, inr, ⊎_elim, ◌≢◌}
use mathlib.Core.Bool.{Bool, true, false, not}
use lib.ListN.{length}
use lib.Dec.{eqb}
use borrow.Author.Tests.{not-true}
use Rattle.model.specs.Word.{up, later}
use Rattle.model.specs.Lists.{any, is_empty}
use Rattle.model.specs.State.{Queues, Lane, Engine}
use Rattle.model.specs.Engine.{fresh_lane, awaiting, is_pending, lane_at, set_queues, with_largest, with_global, at_lane, runs}
use Rattle.model.specs.Engine.{started, settled, ready, target, batched, requested, advanced_lane, advanced_global}
use Rattle.model.specs.Rules.{is_online}
use Rattle.laws.specs.Generations.{later-self, later-up, up-later, up_word}
use Rattle.laws.specs.Tests.{clash, and-true, cond_cases, same_or}
use Rattle.laws.specs.ListLaws.{update-cases, get_or-update-same, get_or-update-other}
use Rattle.laws.specs.Elements.{map_cases, map-cases-default, any-map, any-update-same}
use Rattle.representation.proofs.Discipline.Frame.{frame-requested}
use Rattle.representation.proofs.Discipline.Requests.{none-pending, requested-lane, requested-global, raised}
use Rattle.representation.proofs.Discipline.Ages.{none, now, soon, Strict, Loose, Clean, Level, rests, goes, Tidy, Disciplined}
use Rattle.representation.proofs.Discipline.Ages.{LooseGlobal, age-map, age-settled, loosen, level-anew, strict-anew, OffEmpty}

runs-started : (e : Engine) → any is_online e.lanes ≡ true → runs (started e) ≡ true
unfolding started
runs-started e h = any-map is_pending awaiting e.lanes ∙ h

pub runs_of : (e : Engine) (i : ℕ) → (lane_at e i).pending ≡ true → runs e ≡ true
runs_of e i h = go (runs e) refl
  where
    go : (b : Bool) → runs e ≡ b → runs e ≡ true
    go true r = r
    go false r = clash h (none-pending e r i)

module _ {X : ℕ → Type 0} {Y : Type 0} where
  on_of : {L : Engine → Type 0} (e : Engine) → Tidy L X Y e → (i : ℕ) → is_empty (lane_at e i).queues.current ≡ false → (lane_at e i).online ≡ true
  on_of e t i h = go (lane_at e i).online refl
    where
      go : (b : Bool) → (lane_at e i).online ≡ b → (lane_at e i).online ≡ true
      go true r = r
      go false r = clash (t.off i r) h

  -- ---- a period begins, or the largest requested is raised

  tidy-largest : (n : ℕ) (e : Engine) → Tidy Level X Y e → Level (with_largest n e)
      → ((e.largest ≡ e.current) ⊎ (e.largest ≡ up e.current) → (n ≡ e.current) ⊎ (n ≡ up e.current))
      → (e.largest ≡ up e.current → n ≡ up e.current) → Tidy Level X Y (with_largest n e)
  tidy-largest n e t l g h = record {
    word = t.word;
    level = l;
    some = t.some;
    off = t.off;
    lanes =
        λ i. ⊎_elim (λ a. inl (age-map n (λ f o. record { word = o.word; before = o.before; waits = o.waits }) g h a))
        (λ a. inr (a.0, age-map n (λ f o. o) g h a.1)) (t.lanes i);
    global = ⊎_elim (λ a. inl (age-map n (λ f o. o) g h a)) (λ a. inr (a.0, age-map n (λ f o. o) g h a.1)) t.global;
  }

  pub tidy-started : {L : Engine → Type 0} (n : ℕ) (e : Engine) → Tidy L X Y e → (n ≡ e.current) ⊎ (n ≡ up e.current)
      → (e.largest ≡ up e.current → n ≡ up e.current) → Tidy Level X Y (started (with_largest n e))
  unfolding is_empty started
  tidy-started n e t l h = record {
    word = t.word;
    level = goes (runs-started e t.some) l;
    some = any-map is_online awaiting e.lanes ∙ t.some;
    off = map-cases-default fresh_lane (λ (i : ℕ). OffEmpty) e.lanes awaiting (λ i b h. clash refl h) (λ i b h. t.off i h);
    lanes = map-cases-default fresh_lane (λ (i : ℕ) (l : Lane). Strict f l ⊎ (X i × Loose f l.queues)) e.lanes awaiting (λ i b. inl (none refl refl))
        (λ i b. ⊎_elim (λ a. inl (age-map n (λ y o. record { word = o.word; before = o.before; waits = λ r. on_of e t i y }) (λ x. l) h a))
        (λ a. inr (a.0, age-map n (λ y o. o) (λ x. l) h a.1)) (t.lanes i));
    global = ⊎_elim (λ a. inl (age-map n (λ y o. o) (λ x. l) h a)) (λ a. inr (a.0, age-map n (λ y o. o) (λ x. l) h a.1)) t.global;
  }
    where
      f : Engine
      f = started (with_largest n e)

  tidy-requested : (e : Engine) (q : Queues) → Tidy Level X Y e → is_empty q.next ≡ false
      → Tidy Level X Y (requested (target e) e) × Clean (requested (target e) e) (batched (target e) q)
  unfolding requested target started
  tidy-requested e q t f = go t.level
    where
      go : Level e → Tidy Level X Y (requested (target e) e) × Clean (requested (target e) e) (batched (target e) q)
      go (goes r l) = rw r (tidy-largest (raised (up e.current) e) e t (goes r (inr m)) (λ x. inr m) (λ x. m), soon f refl m)
        where
          m : raised (up e.current) e ≡ up e.current
          m = ⊎_elim (λ p. let k : later (up e.current) e.largest ≡ true = rw p (up-later t.word) in rw k)
              (λ p. let k : later (up e.current) e.largest ≡ false = rw p (later-self (up_word e.current)) in rw k p) l
      go (rests r w p) =
          rw r (
            tidy-started (raised e.current e) e t (inl m)
                (λ x. let y : later e.current e.largest ≡ false = rw x (later-up t.word) in clash k y),
            now f refl (inl m),
          )
        where
          k : later e.current e.largest ≡ true
          k = rw (← p) (up-later w)

          m : raised e.current e ≡ e.current
          m = rw k

-- ---- advance

frame_on : (t : ℕ) (e : Engine) (i : ℕ) → (lane_at (requested t e) i).online ≡ (lane_at e i).online
unfolding requested started
frame_on t e i = cond_cases (λ (f : Engine). (lane_at f i).online ≡ (lane_at e i).online) (runs e) (λ r. refl)
    (λ r. map_cases fresh_lane (λ (j : ℕ) (l : Lane). l.online ≡ (lane_at e j).online) e.lanes awaiting (λ j. refl) (λ j b. refl) i)

module _ {Y : Type 0} where
  -- lane i, which is on, gets clean queues
  tidy-queues : (i : ℕ) (q : Queues) (e : Engine) → i < length e.lanes → (lane_at e i).online ≡ true → Tidy Level (λ (j : ℕ). j ≡ i) Y e → Clean e q
      → Tidy Level (λ (j : ℕ). ⊥) Y (at_lane i (set_queues q) e)
  tidy-queues i q e b o t c = record {
    word = t.word;
    level = level-anew e f.lanes e.global same t.level;
    some = any-update-same is_online (set_queues q) e.lanes i (λ l. refl) ∙ t.some;
    off = update-cases fresh_lane (λ (j : ℕ). OffEmpty) e.lanes i (set_queues q) t.off (λ h. clash o h);
    lanes = λ j. inl (lanes j (same_or j i));
    global = t.global;
  }
    where
      f : Engine
      f = at_lane i (set_queues q) e

      same : runs f ≡ runs e
      same = any-update-same is_pending (set_queues q) e.lanes i (λ l. refl)

      lanes : (j : ℕ) → (j ≡ i) ⊎ ((j ≢ i) × (eqb j i ≡ false)) → Strict f (lane_at f j)
      lanes j (inl d) = rw (d, get_or-update-same fresh_lane e.lanes i (set_queues q) b) (age-map e.largest (λ y u. absurd u) (λ x. x) (λ x. x) c)
      lanes j (inr d) =
          rw (get_or-update-other fresh_lane e.lanes i (set_queues q) j d.0)
          (⊎_elim (strict-anew e f.lanes e.global (λ r. sym same ∙ r) (lane_at e j)) (λ a. absurd (d.0 a.0)) (t.lanes j))

  age-loose : (i : ℕ) (e : Engine) → Tidy Level (λ (j : ℕ). j ≡ i) Y e → Loose e (lane_at e i).queues
  age-loose i e t = ⊎_elim (λ a. loosen e (lane_at e i) a) (λ a. a.1) (t.lanes i)

  pub tidy-advanced_lane : (i : ℕ) (e : Engine) → i < length e.lanes → (lane_at e i).online ≡ true → Tidy Level (λ (j : ℕ). j ≡ i) Y e
      → Tidy Level (λ (j : ℕ). ⊥) Y (advanced_lane i e)
  unfolding advanced_lane ready
  tidy-advanced_lane i e b o t =
      cond_cases (Tidy Level (λ (j : ℕ). ⊥) Y) (ready q) yes'
      (λ r. tidy-queues i q e b o t (age-settled e.current e.largest (lane_at e i).queues t.word (age-loose i e t)))
    where
      q : Queues
      q = settled e.current (lane_at e i).queues

      yes' : ready q ≡ true → Tidy Level (λ (j : ℕ). ⊥) Y (requested (target e) (at_lane i (set_queues (batched (target e) q)) e))
      yes' r =
          let u = tidy-requested e q t (not-true _ (and-true (is_empty q.current) (not (is_empty q.next)) r).1) in
          let f = frame-requested (target e) e in
          rw (requested-lane (target e) i (batched (target e) q) e)
          (tidy-queues i (batched (target e) q) (requested (target e) e) (rw f.size b) (frame_on (target e) e i ∙ o) u.0 u.1)

  tidy-global : {Z : Type 0} (q : Queues) (e : Engine) → Tidy Level (λ (j : ℕ). ⊥) Y e → Clean e q → Tidy Level (λ (j : ℕ). ⊥) Z (with_global q e)
  tidy-global q e t c = record {
    word = t.word;
    level = level-anew e e.lanes q refl t.level;
    some = t.some;
    off = t.off;
    global = inl c;
    lanes = λ i. inl (⊎_elim (strict-anew e e.lanes q (λ r. r) (lane_at e i)) (λ a. absurd a.0) (t.lanes i));
  }

pub tidy-advanced_global : (e : Engine) → LooseGlobal e → Disciplined (advanced_global e)
unfolding advanced_global ready
tidy-advanced_global e t = cond_cases Disciplined (ready q) yes' (λ r. tidy-global q e t (age-settled e.current e.largest e.global t.word loose))
  where
    q : Queues
    q = settled e.current e.global

    loose : Loose e e.global
    loose = ⊎_elim (λ a. age-map e.largest (λ y u. absurd u) (λ x. x) (λ x. x) a) (λ a. a.1) t.global

    yes' : ready q ≡ true → Disciplined (requested (target e) (with_global (batched (target e) q) e))
    yes' r =
        let u = tidy-requested e q t (not-true _ (and-true (is_empty q.current) (not (is_empty q.next)) r).1) in
        rw (requested-global (target e) (batched (target e) q) e) (tidy-global (batched (target e) q) (requested (target e) e) u.0 u.1)
