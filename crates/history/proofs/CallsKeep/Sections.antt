-- Begin and end: a section is opened and ended, a lookup that ran in it is dropped. No slot waits for a section that is only now opened, nor for one that
-- is ended.
use Prim.Native.Nat.{ℕ, suc, ◌<◌, ◌≤◌}
use mathlib.Core.Path.{◌≡◌, refl, sym, ap, ◌∙◌}
use mathlib.Core.Logic.{◌⊎◌, inl, inr, ⊎_elim, ◌≢◌}
use mathlib.Core.Bool.{true, false}
use mathlib.Core.List.Memᴰ
use mathlib.Core.List.{List, ◌∷◌, Memᴰ}
use native.Mathlib.Omega.{arith}
use lib.ListN.{length}
use lib.Dec.{eqb}
use borrow.Author.Tests.{eq-eqb}
use Rattle.model.specs.Lists.{drops}
use Rattle.model.specs.State.{Lane, State}
use Rattle.model.specs.Engine.{fresh_lane, lane_at, set_reading, at_lane}
use Rattle.model.specs.Rules.{lane_of, with_lane, leaving}
use Rattle.model.specs.Ledger.{Section, Ledger, section_of, section_opened, section_ended, search_struck}
use Rattle.laws.specs.Tests.{clash, same_or}
use Rattle.laws.specs.ListLaws.{update-cases, get_or-update-same, get_or-update-other}
use Rattle.laws.specs.Elements.{of-drops, to-drops}
use Rattle.representation.proofs.WellFormed.{WellFormed}
use Rattle.history.proofs.Ties.Halves.{Waits, Grace, WaitsFor}
use Rattle.history.proofs.Ties.Invariant.{OpenOn, Sections, Tied}
use Rattle.history.proofs.EngineHalf.Grace.{grace-same, grace-wider}
use Rattle.history.proofs.ChainHalf.ChainStretches.{SameOr}
use Rattle.history.proofs.CallsKeep.SlotFacts.{queued-lane, retains-map, waits-map}
use Rattle.history.proofs.CallsKeep.Respects.{respects-still, outs-same, Keeps}

module _ {k : ℕ} {s : State} {g : Ledger} (v : Tied k s g) where
  -- lane i's section is opened or ended by f, and the ledger becomes g': what both calls share
  keeps-reading : (i : ℕ) (f : Lane → Lane) (g' : Ledger) → (f (lane_of s i)).queues ≡ (lane_of s i).queues → WellFormed (with_lane s i f)
      → g'.entries ≡ g.entries → g'.outs ≡ g.outs
      → Sections (suc k) (at_lane i f s.engine) g'.sections → Grace (WaitsFor g') (at_lane i f s.engine)
      → ((z : Section) → Memᴰ z g'.sections → z.opened ≤ k → Memᴰ z g.sections) → Keeps k s (with_lane s i f) g g'
  keeps-reading i f g' q w ee eo zs gr was = record {
    tied = record {
      well_formed = w;
      entries = rw ee v.entries;
      sections = zs;
      outs = rw eo (outs-same (at_lane i f s.engine) (queued-lane i f s.engine q) v.outs);
      grace = gr;
    };
    respects = respects-still k s.table g g' eo was;
  }

  -- a lane other than i reads as before
  reading-other : (i : ℕ) (f : Lane → Lane) (j : ℕ) → j ≢ i → (lane_at (at_lane i f s.engine) j).reading ≡ (lane_of s j).reading
  reading-other i f j n = ap (λ (l : Lane). l.reading) (get_or-update-other fresh_lane s.engine.lanes i f j n)

  reading-self : (i : ℕ) (f : Lane → Lane) → i < length s.engine.lanes → (lane_at (at_lane i f s.engine) i).reading ≡ (f (lane_of s i)).reading
  reading-self i f h = ap (λ (l : Lane). l.reading) (get_or-update-same fresh_lane s.engine.lanes i f h)

  -- ---- begin

  module _ (i : ℕ) (inside : i < length s.engine.lanes) (w : WellFormed (with_lane s i (set_reading true))) where
    abbrev new : Section
    new = record { lane = i; opened = suc k }

    -- a section of the past is not the new one
    older : (z : Section) → z.opened ≤ k → Memᴰ z (new ∷ g.sections) → Memᴰ z g.sections
    older z h m = ⊎_elim (λ e. absurd (omega (arith, ap (λ (z : Section). z.opened) e))) (λ n. n) (Memᴰ.cases_cons m)

    fewer : (x j : ℕ) → Waits g.outs (new ∷ g.sections) x j → WaitsFor g x j
    fewer x j = waits-map x j (λ z r. retains-map z x (λ o e m. m) (older z (v.outs.before r.out z r.is_out r.is_in)) r)

    sections-begin : Sections (suc k) (at_lane i (set_reading true) s.engine) (new ∷ g.sections)
    sections-begin = record {
      reading = λ z m. read z (Memᴰ.cases_cons m);
      section = λ j r. open' j (same_or j i) r;
      opened = λ z m. ⊎_elim (λ e. omega (arith, ap (λ (z : Section). z.opened) e)) (λ n. omega (arith, v.sections.opened z n))
          (Memᴰ.cases_cons m);
    }
      where
        still : (j : ℕ) → (lane_of s j).reading ≡ true → (lane_at (at_lane i (set_reading true) s.engine) j).reading ≡ true
        still = update-cases fresh_lane (λ (j : ℕ) (l : Lane). (lane_of s j).reading ≡ true → l.reading ≡ true)
            s.engine.lanes i (set_reading true) (λ j r. r) (λ r. refl)

        read : (z : Section) → (z ≡ new) ⊎ Memᴰ z g.sections → (lane_at (at_lane i (set_reading true) s.engine) z.lane).reading ≡ true
        read z (inl e) = let q : z.lane ≡ i = ap (λ (z : Section). z.lane) e in rw q (reading-self i (set_reading true) inside)
        read z (inr n) = still z.lane (v.sections.reading z n)

        open' : (j : ℕ) → SameOr j i → (lane_at (at_lane i (set_reading true) s.engine) j).reading ≡ true → OpenOn (new ∷ g.sections) j
        open' j (inl e) r = record { section = new; is_open = Memᴰ.head refl; of_lane = sym e }
        open' j (inr e) r =
            let u = v.sections.section j (sym (reading-other i (set_reading true) j e.0) ∙ r) in
            record { section = u.section; is_open = Memᴰ.tail u.is_open; of_lane = u.of_lane }

    pub keeps-begin : Keeps k s (with_lane s i (set_reading true)) g (section_opened i (suc k) g)
    keeps-begin = keeps-reading i (set_reading true) (section_opened i (suc k) g) refl w refl refl sections-begin
        (grace-same i (set_reading true) s.engine refl refl refl (λ x q. ((before.reads x i q).0, refl, refl)) before) (λ z m o. older z o m)
      where
        before : Grace (Waits g.outs (new ∷ g.sections)) s.engine
        before = grace-wider s.engine (λ x j q. inl (fewer x j q)) v.grace

  -- ---- end: the lane has no section then, and no lookup

  module _ (i : ℕ) (inside : i < length s.engine.lanes) (w : WellFormed (with_lane s i leaving)) where
    abbrev rest : List Section
    rest = drops (section_of i) g.sections

    -- an open section left is one of before, of another lane
    left : (z : Section) → Memᴰ z rest → Memᴰ z g.sections × (eqb z.lane i ≡ false)
    left z m = of-drops (section_of i) z g.sections m

    others : (z : Section) → Memᴰ z rest → z.lane ≢ i
    others z m e = clash (eq-eqb z.lane i e) (left z m).1

    fewer-end : (x j : ℕ) → Waits g.outs rest x j → WaitsFor g x j
    fewer-end x j = waits-map x j (λ z. retains-map z x (λ o e m. m) (λ m. (left z m).0))

    sections-end : Sections (suc k) (at_lane i leaving s.engine) rest
    sections-end = record {
      reading = λ z m. reading-other i leaving z.lane (others z m) ∙ v.sections.reading z (left z m).0;
      section = λ j r. open' j (same_or j i) r;
      opened = λ z m. omega (arith, v.sections.opened z (left z m).0);
    }
      where
        open' : (j : ℕ) → SameOr j i → (lane_at (at_lane i leaving s.engine) j).reading ≡ true → OpenOn rest j
        open' j (inl e) r = clash (rw e at r) (reading-self i leaving inside)
        open' j (inr e) r =
            let u = v.sections.section j (sym (reading-other i leaving j e.0) ∙ r) in
            record {
              section = u.section;
              is_open = to-drops (section_of i) u.section g.sections u.is_open (rw u.of_lane e.1);
              of_lane = u.of_lane;
            }

    pub keeps-end : Keeps k s (with_lane s i leaving) g (search_struck i (section_ended i g))
    keeps-end = keeps-reading i leaving (search_struck i (section_ended i g)) refl w refl refl sections-end
        (grace-same i leaving s.engine refl refl refl (λ x q. absurd (others q.section q.retains.is_open q.of_lane)) before)
        (λ z m o. (left z m).0)
      where
        before : Grace (Waits g.outs rest) s.engine
        before = grace-wider s.engine (λ x j q. inl (fewer-end x j q)) v.grace
