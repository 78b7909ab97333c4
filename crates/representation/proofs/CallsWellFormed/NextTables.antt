-- The calls that change the table keep a state well formed: add, replace and delete, hand-back.
use Prim.Native.Nat.{ℕ, ◌+◌, ◌<◌}
use mathlib.Core.Path.{◌≡◌, refl, ap, ◌∙◌}
use mathlib.Core.Logic.{◌⊎◌, inl, inr, ◌≢◌}
use mathlib.Core.Bool.{true, false, ◌&&◌}
use native.Mathlib.Omega.{arith}
use lib.ListN.{length, get_or, set}
use lib.Seq.{get_or-set_same, get_or-set_other}
use lib.Dec.{eqb}
use Rattle.model.specs.Word.{none}
use Rattle.model.specs.Lists.{is_empty}
use Rattle.model.specs.State.{Lane, Engine, Product, Table, State, lane_count}
use Rattle.model.specs.Engine.{fresh_lane}
use Rattle.model.specs.Table.{slot_of, present, link_of, added, replaced, deleted, reclaimed}
use Rattle.model.specs.Rules.{lane_of, with, retired, handed_back, less_handed_back, from_global, less_done, reclaiming}
use Rattle.laws.specs.Tests.{cond_cases, same_or}
use Rattle.laws.specs.ListLaws.{length-update, update-cases}
use Rattle.laws.specs.Counts.{mark, mark-self, mark-other}
use Rattle.representation.proofs.Discipline.Frame.{queued}
use Rattle.representation.proofs.Causes.SlotCounts.{in_table, in-added, in-replaced, in-deleted, in-reclaimed, in-retired, in-handed}
use Rattle.representation.proofs.WellFormed.{WellFormed, LaneFits, TableFits, ProductFits, Generations}
use Rattle.representation.proofs.FromState.Standing.{fit, at_most_one, table-once, table_below}
use Rattle.representation.proofs.CallsWellFormed.EngineFields.{Fits, queued-fits}
use Rattle.representation.proofs.CallsWellFormed.EngineGenerations.{generations-at, generations-global}
use Rattle.representation.proofs.CallsWellFormed.Tables.{deleted-fits, reclaimed-fits}
use Rattle.representation.proofs.CallsWellFormed.TableGifts.{added-fits, replaced-fits}
use Rattle.representation.proofs.CallsWellFormed.NextLanes.{anew, in-lanes}

module _ (s : State) (w : WellFormed s) where
  abbrev n : ℕ
  n = s.sizes.slots

  abbrev e : Engine
  e = s.engine

  abbrev t : Table
  t = s.table

  pub well-add : (p : Product) → is_empty t.free ≡ false → present t p.code ≡ false → ProductFits p → WellFormed (with s e (added p t))
  unfolding added
  well-add p f a h = anew s w e (added p t) (record {
    size = refl;
    fits = w.fits;
    table = added-fits n t w.table (fit s w).few_slots (table-once s w) (table_below s w) p f a h;
    same = λ x. omega (arith, in-added t w.table.chains x p f);
    unlinked = w.unlinked;
    generations = w.generations;
  })

  -- slot o leaves its chain for lane i's next queue
  well-retire : (i o : ℕ) (u : Table) → i < lane_count s.sizes → (lane_of s i).online ≡ true → TableFits n u
      → ((x : ℕ) → in_table x u + mark x o ≡ in_table x t) → u.links ≡ set t.links o (link_of t o) → WellFormed (with s (retired s i o) u)
  well-retire i o u b lit h same l = anew s w (retired s i o) u (record {
    size = length-update e.lanes i _;
    fits = update-cases fresh_lane (λ (j : ℕ) (l : Lane). LaneFits n l) e.lanes i _ w.fits (queued-fits n _ (lane_of s i) lit (w.fits i));
    table = h;
    same = λ x. omega (arith, same x, in-retired s i (in-lanes s w i b) x o);
    unlinked = λ x q. rw l (kept x q (same_or x o));
    generations = generations-at i _ e (λ l. record { pending = refl; current = refl; generation = refl }) w.generations;
  })
    where
      kept : (x : ℕ) → queued x (retired s i o) ≡ 0 → (x ≡ o) ⊎ ((x ≢ o) × (eqb x o ≡ false)) → get_or (set t.links o (link_of t o)) x none ≡ none
      kept x q (inl d) = absurd (let k : mark x o ≡ 1 = rw d (mark-self o) in omega (arith, in-retired s i (in-lanes s w i b) x o))
      kept x q (inr d) = get_or-set_other t.links o x (link_of t o) none d.0 ∙ w.unlinked x (omega (arith, in-retired s i (in-lanes s w i b) x o))

  pub well-replace : (i : ℕ) (p : Product) → i < lane_count s.sizes → (lane_of s i).online ≡ true
      → is_empty t.free ≡ false → present t p.code ≡ true → ProductFits p → WellFormed (with s (retired s i (slot_of t p.code)) (replaced p t))
  unfolding replaced
  well-replace i p b o f h k =
      well-retire i (slot_of t p.code) (replaced p t) b o
      (replaced-fits n t w.table (fit s w).few_slots (table-once s w) (table_below s w) p f h k)
      (λ x. in-replaced t w.table.chains x p f h) refl

  pub well-delete : (i c : ℕ) → i < lane_count s.sizes → (lane_of s i).online ≡ true → present t c ≡ true
      → WellFormed (with s (retired s i (slot_of t c)) (deleted c t))
  unfolding deleted
  well-delete i c b o h =
      well-retire i (slot_of t c) (deleted c t) b o (deleted-fits n t w.table (fit s w).few_slots (table-once s w) (table_below s w) c h)
      (λ x. in-deleted t w.table.chains x c h) refl

  pub well-back : (i : ℕ) → i < lane_count s.sizes → (lane_of s i).online ≡ true
      → (is_empty (lane_of s i).queues.done && is_empty e.global.done) ≡ false → WellFormed (with s (less_handed_back s i) (reclaimed (handed_back s i) t))
  unfolding reclaimed
  well-back i b o h = anew s w (less_handed_back s i) (reclaimed k t) (record {
    size = cond_cases (λ (f : Engine). length f.lanes ≡ length e.lanes) (from_global s i) (λ r. refl) (λ r. length-update e.lanes i _);
    fits = cond_cases (Fits n) (from_global s i) (λ r. w.fits)
        (λ r. update-cases fresh_lane (λ (j : ℕ) (l : Lane). LaneFits n l) e.lanes i reclaiming w.fits
        (queued-fits n _ (lane_of s i) o (w.fits i)));
    table = reclaimed-fits n t w.table (fit s w).few_slots (table-once s w) (table_below s w) k
        (omega (arith, at_most_one s w k, handed_out k, mark-self k)) inside;
    same = λ x. omega (arith, in-reclaimed t w.table.chains x k, handed_out x);
    unlinked = λ x q. kept x q (same_or x k);
    generations = cond_cases Generations (from_global s i) (λ r. generations-global (less_done e.global) e refl refl w.generations)
        (λ r. generations-at i reclaiming e (λ l. record { pending = refl; current = refl; generation = refl }) w.generations);
  })
    where
      k : ℕ
      k = handed_back s i

      handed_out : (x : ℕ) → queued x (less_handed_back s i) + mark x k ≡ queued x e
      handed_out x = in-handed s i (in-lanes s w i b) x h

      inside : k < n
      inside = w.range k (omega (arith, handed_out k, mark-self k))

      kept : (x : ℕ) → queued x (less_handed_back s i) ≡ 0 → (x ≡ k) ⊎ ((x ≢ k) × (eqb x k ≡ false)) → get_or (set t.links k none) x none ≡ none
      kept x q (inl d) = ap (λ (y : ℕ). get_or (set t.links k none) y none) d ∙ get_or-set_same t.links k none none (omega (arith, inside, w.table.links))
      kept x q (inr d) = get_or-set_other t.links k x none none d.0 ∙ w.unlinked x (omega (arith, handed_out x, mark-other x k d.0))
