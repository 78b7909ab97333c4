-- A slot leaves its chain and is retired, as replace and delete have it: every open section retains it, and lookups that stand on it go on.
use Prim.Native.Nat.{ℕ, suc, ◌<◌}
use mathlib.Core.Path.{◌≡◌, refl, sym, ap, ◌∙◌}
use mathlib.Core.Logic.{◌⊎◌, inl, inr, ⊎_elim, ◌≢◌}
use mathlib.Core.Bool.{true}
use mathlib.Core.List.Memᴰ
use mathlib.Core.List.{List, ◌∷◌, Memᴰ}
use native.Mathlib.Omega.{arith}
use lib.ListN.{length, get_or}
use borrow.Author.Tests.{ne_eqb}
use Rattle.model.specs.Word.{none}
use Rattle.model.specs.Lists.{count, drops}
use Rattle.model.specs.State.{Lane, Table, State}
use Rattle.model.specs.Engine.{fresh_lane, lane_at}
use Rattle.model.specs.Table.{product_at, chain_of}
use Rattle.model.specs.Rules.{with, retired, retiring, lane_of}
use Rattle.model.specs.Ledger.{Section, Out, Entry, Ledger, of_slot, search_in}
use Rattle.laws.specs.Tests.{same_or}
use Rattle.laws.specs.ListLaws.{update-cases}
use Rattle.laws.specs.Elements.{of-drops, to-drops}
use Rattle.laws.specs.Counts.{mark-self, mark-other, count-append}
use Rattle.representation.proofs.Discipline.Frame.{queued}
use Rattle.representation.proofs.Causes.SlotCounts.{in-retired}
use Rattle.representation.proofs.WellFormed.{WellFormed, chained}
use Rattle.history.proofs.Ties.Halves.{Retains, RetainedBy, Waits, WaitsFor, searched, Grace}
use Rattle.history.proofs.Ties.Invariant.{OutOf, Outs, Tied}
use Rattle.history.proofs.Ties.Invariant.{in_chain, retained}
use Rattle.history.proofs.EngineHalf.Grace.{grace-lane, Newly, grace-wider}
use Rattle.history.proofs.ChainHalf.ChainStretches.{SameOr, chained-at}
use Rattle.history.proofs.ChainHalf.TrailLeaves.{Leaves}
use Rattle.history.proofs.CallsKeep.SlotFacts.{standing-once, reading-online, retains-queued, retains-map}
use Rattle.history.proofs.CallsKeep.Respects.{place, Respects, sections-same, Keeps}

module _ {k : ℕ} {s : State} {g : Ledger} (v : Tied k s g) where
  -- Lane i retires slot o of code d: the table becomes u, the entries become es. Other queued slots keep product and link, other chained slots stay
  -- chained
  pub record Retires (i d o : ℕ) (u : Table) (es : List Entry) : Type 0 where
    pub well_formed : WellFormed (with s (retired s i o) u)
    pub inside : i < length s.engine.lanes
    pub new : List ℕ
    pub leaves : Leaves s.table u d o new
    pub products : (x : ℕ) → 0 < queued x s.engine → product_at u.products x ≡ product_at s.table.products x
    pub links : (x : ℕ) → x ≢ o → get_or u.links x none ≡ get_or s.table.links x none
    pub chained : (x : ℕ) → x ≢ o → 0 < chained x s.table → 0 < chained x u
    pub entries : (c : ℕ) → search_in c es ≡ searched u.products c (chain_of u c)

  module _ (i d o : ℕ) (u : Table) (es : List Entry) (h : Retires i d o u es) where
    abbrev out : Out
    out = record { slot = o; sections = g.sections }

    abbrev after : Ledger
    after = record { entries = es; sections = g.sections; searches = g.searches; outs = out ∷ drops (of_slot o) g.outs }

    o-chained : 0 < chained o s.table
    unfolding count
    o-chained =
        let l = h.leaves.turn in
        omega (arith, chained-at s.table d o, ap (count o) l.was, count-append o l.front (o ∷ l.rest), mark-self o)

    -- a queued slot is another
    other : (x : ℕ) → 0 < queued x s.engine → x ≢ o
    other x q e = twice (rw e at q)
      where
        twice : 0 < queued o s.engine → ⊥
        twice p = omega (arith, o-chained, standing-once v.well_formed o)

    -- every open section retains the slot, and those retained before stay so
    mine : (z : Section) → Memᴰ z g.sections → Retains after.outs g.sections z o
    mine z m = record { out = out; is_out = Memᴰ.head refl; of_slot = refl; is_in = m; is_open = m }

    earlier : (u : Out) (x : ℕ) → u.slot ≡ x → x ≢ o → Memᴰ u g.outs → Memᴰ u after.outs
    earlier u x e n m = Memᴰ.tail (to-drops (of_slot o) u g.outs m (ne_eqb u.slot o (λ q. n (sym e ∙ q))))

    still : (z : Section) (x : ℕ) → RetainedBy g z x → Retains after.outs g.sections z x
    still z x r = let n = other x (retains-queued v.outs z x r) in retains-map z x (λ o e m. earlier o x e n m) (λ m. m) r

    respects-retired : Respects k s.table u g after
    respects-retired = record {
      was = λ z m b. m;
      stay = λ z m x r. let q = retains-queued v.outs z x r in (still z x r, h.products x q, h.links x (other x q));
      kept = h.leaves.turn.kept;
      anchored = λ z x m m' c. ⊎_elim (λ e. retained (rw e (mine z m))) (λ e. in_chain (h.chained x e.0 c)) (same_or x o);
      chains = place h.leaves (λ z m m'. mine z m);
    }

    outs-retired : Outs (suc k) (retired s i o) after.outs
    outs-retired = record {
      out = λ x p. found x p (same_or x o);
      is_queued = λ a m. ⊎_elim (λ (e : a ≡ out). rw (ap (λ (a : Out). a.slot) e) (omega (arith, mark-self o, in-retired s i h.inside o o)))
          (λ n. omega (arith, v.outs.is_queued a (of-drops (of_slot o) a g.outs n).0, in-retired s i h.inside a.slot o))
          (Memᴰ.cases_cons m);
      before = λ a z m n. ⊎_elim (λ e. omega (arith, v.sections.opened z (rw e at n)))
          (λ b. omega (arith, v.outs.before a z (of-drops (of_slot o) a g.outs b).0 n)) (Memᴰ.cases_cons m);
    }
      where
        found : (x : ℕ) → 0 < queued x (retired s i o) → SameOr x o → OutOf after.outs x
        found x p (inl e) = record { out = out; is_out = Memᴰ.head refl; of_slot = sym e }
        found x p (inr e) =
            let a = v.outs.out x (omega (arith, in-retired s i h.inside x o, mark-other x o e.0)) in
            record { out = a.out; is_out = earlier a.out x a.of_slot e.0 a.is_out; of_slot = a.of_slot }

    -- only the slot itself waits anew, and it is in no queue but, from now on, a next one
    grace-retired : Grace (Waits after.outs g.sections) (retired s i o)
    grace-retired = grace-lane i (retiring o) s.engine wider (record {
      snapshot = wider.snapshots i;
      reads = λ x. wider.reads x i;
      awaited = λ x w a. record { pending = a.pending; unmoved = a.unmoved };
      pending = λ p. p;
      queues = record { done = (wider.lanes i).done; current = (wider.lanes i).current };
    })
      where
        newly : (x j : ℕ) → Waits after.outs g.sections x j → WaitsFor g x j ⊎ Newly s.engine x j
        newly x j w = go (Memᴰ.cases_cons w.retains.is_out)
          where
            reads : (lane_of s j).reading ≡ true
            reads = rw w.of_lane at (v.sections.reading w.section w.retains.is_open)

            unqueued : queued o s.engine ≡ 0
            unqueued = omega (arith, o-chained, standing-once v.well_formed o)

            go : (w.retains.out ≡ out) ⊎ Memᴰ w.retains.out (drops (of_slot o) g.outs) → WaitsFor g x j ⊎ Newly s.engine x j
            go (inl e) =
                let p : o ≡ x = sym (ap (λ (a : Out). a.slot) e) ∙ w.retains.of_slot in
                inr (record { unqueued = rw p at unqueued; online = reading-online v.well_formed j reads; reading = reads })
            go (inr m) = let r = w.retains in inl (record {
              section = w.section;
              of_lane = w.of_lane;
              retains = record {
                out = r.out;
                is_out = (of-drops (of_slot o) r.out g.outs m).0;
                of_slot = r.of_slot;
                is_in = r.is_in;
                is_open = r.is_open;
              };
            })

        wider : Grace (Waits after.outs g.sections) s.engine
        wider = grace-wider s.engine newly v.grace

    pub keeps-retire : Keeps k s (with s (retired s i o) u) g after
    keeps-retire = record {
      tied = record {
        well_formed = h.well_formed;
        entries = h.entries;
        sections = sections-same (retired s i o) reading v.sections;
        outs = outs-retired;
        grace = grace-retired;
      };
      respects = respects-retired;
    }
      where
        reading : (j : ℕ) → (lane_at (retired s i o) j).reading ≡ (lane_of s j).reading
        reading = update-cases fresh_lane (λ (j : ℕ) (l : Lane). l.reading ≡ (lane_of s j).reading) s.engine.lanes i (retiring o) (λ j. refl) refl
