-- The lookups after a call: one that the call does not move stays where it is and on its trail; the others are started, go on, are answered or dropped.
use Prim.Native.Nat.{ℕ, zero, suc, ◌<◌}
use mathlib.Core.Path.{◌≡◌, refl, sym, ap, ◌∙◌}
use mathlib.Core.Logic.{⊎_elim, ◌≢◌}
use mathlib.Core.Bool.{Bool, true, false}
use mathlib.Core.List.Memᴰ
use native.Mathlib.Omega.{arith}
use lib.ListN.{length}
use borrow.Author.Tests.{ne_eqb}
use Rattle.model.specs.Lists.{first}
use Rattle.model.specs.State.{Lookup, idle, running, is_running, Lane, State, lane_count}
use Rattle.model.specs.Engine.{fresh_lane, lane_at, set_lookup, at_lane}
use Rattle.model.specs.Table.{chain_of, link_of}
use Rattle.model.specs.Rules.{Op, start, step, end, Answer, zeros, lane_of, refusal}
use Rattle.model.specs.Rules.{Outcome, outcome, outcome_answer, continued, stepped, leaving, performed, result, answer, next}
use Rattle.model.specs.Calls.{on_state}
use Rattle.model.specs.Ledger.{Search, Ledger, section_of, search_of, is_answer, fed, fed_call}
use Rattle.laws.specs.Tests.{clash, eqb-self}
use Rattle.laws.specs.ListLaws.{get_or-update-same}
use Rattle.laws.specs.Elements.{of-drops, to-drops}
use Rattle.representation.proofs.Causes.Passed.{call-cases, next-accepted, answer-accepted, answer-refused}
use Rattle.representation.proofs.Causes.Accepted.{accepts}
use Rattle.representation.proofs.WellFormed.{WellFormed}
use Rattle.representation.proofs.CallsWellFormed.Next.{status}
use Rattle.history.proofs.Ties.Halves.{Looks, Looking}
use Rattle.history.proofs.Ties.Invariant.{Tied, Invariant}
use Rattle.history.proofs.CallsKeep.Respects.{Spared, spared-same, looks-kept, looking-kept, respects-still, Keeps}
use Rattle.history.proofs.CallsKeep.Unseen.{keeps_same}
use Rattle.history.proofs.CallsKeep.LookupSteps.{Stepped, ends, finds, goes, stepped-cases}
use Rattle.history.proofs.CallsKeep.StartStep.{new, looks-start, looks_on}
use Rattle.history.proofs.CallsKeep.EveryCall.{moves_lookup, fed-cases, fed_call-accepted, fed_call-refused, lookup-other, moves-cases}

-- ---- a lane whose lookup the call does not move

-- the ledger keeps its sections and lookups
spared : (i k : ℕ) (o : Op) (r : Answer) (g : Ledger) → moves_lookup i o ≡ false → Spared g (fed k o r g) i
unfolding moves_lookup
spared i k o r g h = fed-cases (λ (l : Ledger). Spared g l i) k o r g (record {
  same = all g refl refl;
  made = λ e u. all _ refl refl;
  struck = λ c u. all _ refl refl;
  out = λ x l d. record { sections = d.sections; searches = d.searches; no_other = d.no_other };
  back = λ x. all _ refl refl;
  opened = λ j n u. record { sections = λ z e m. Memᴰ.tail m; searches = λ q e m. m; no_other = λ q e m. m };
  ended = λ j u. record {
    sections = λ z e m. to-drops (section_of j) z g.sections m (ne_eqb z.lane j (apart j u z.lane e));
    searches = λ q e m. m;
    no_other = λ q e m. m;
  };
  noted = λ j c n u. let w = apart j (rw u (eqb-self j)) in record {
    sections = λ z e m. m;
    searches = λ q e m. Memᴰ.tail (to-drops (search_of j) q g.searches m (ne_eqb q.lane j (w q.lane e)));
    no_other = λ q e m. ⊎_elim (λ d. absurd (w q.lane e (ap (λ (q : Search). q.lane) d))) (λ d. (of-drops (search_of j) q g.searches d).0)
        (Memᴰ.cases_cons m);
  };
  dropped = λ j l u d. record {
    sections = d.sections;
    searches = λ q e m. to-drops (search_of j) q l.searches (d.searches q e m) (ne_eqb q.lane j (apart j u q.lane e));
    no_other = λ q e m. d.no_other q e (of-drops (search_of j) q l.searches m).0;
  };
})
  where
    -- lane i is not the lane j whose lookup moves
    apart : (j : ℕ) → moves_lookup j o ≡ true → (x : ℕ) → x ≡ i → x ≢ j
    apart j u x e d = clash (rw (sym d ∙ e) at u) h

    all : (l : Ledger) → l.sections ≡ g.sections → l.searches ≡ g.searches → Spared g l i
    all l a b = record { sections = λ z e m. rw a m; searches = λ q e m. rw b m; no_other = λ q e m. rw b at m }

module _ {k : ℕ} {s : State} {g : Ledger} (past : ℕ → Ledger) where
  -- a call of lane i, or another, that leaves where lane i's lookup stands, and its note
  module _ (o : Op) (h : Keeps k s (next s o) g (fed_call (suc k) (on_state o) (answer s o) g))
      (now : past (suc k) ≡ fed_call (suc k) (on_state o) (answer s o) g) (i : ℕ) (f : (answer s o).status ≡ 0 → moves_lookup i o ≡ false) where
    pub lookup-stays : (lane_of (next s o) i).lookup ≡ (lane_of s i).lookup
    lookup-stays = call-cases (λ (t : State) (r : Answer). (r.status ≡ 0 → moves_lookup i o ≡ false) → (lane_of t i).lookup ≡ (lane_of s i).lookup) s o
        (λ z m. lookup-other s i o z (m (status s o))) (λ n m. refl) f

    looks-spared : Spared g (fed_call (suc k) (on_state o) (answer s o) g) i
    looks-spared = call-cases (λ (t : State) (r : Answer). (r.status ≡ 0 → moves_lookup i o ≡ false) → Spared g (fed_call (suc k) (on_state o) r g) i) s o
        (λ z m. rw (fed_call-accepted (suc k) o (result s o) g (status s o)) (spared i (suc k) o (result s o) g (m (status s o))))
        (λ n m. rw (fed_call-refused (suc k) o n g) (spared-same g i)) f

    pub looks-stays : (q : Search) (c n p : ℕ) → Looks past k s.table g q i c n p
        → Looks past (suc k) (next s o).table (fed_call (suc k) (on_state o) (answer s o) g) q i c n p
    looks-stays q c n p = looks-kept h.respects past q i c n p (rw now (h.tied.entries c)) looks-spared

    looking-stays : Looking past k s.table g i (lane_of s i).lookup
        → Looking past (suc k) (next s o).table (fed_call (suc k) (on_state o) (answer s o) g) i (lane_of (next s o) i).lookup
    looking-stays l = rw lookup-stays (looking-kept h.respects past i (λ c. rw now (h.tied.entries c)) looks-spared (lane_of s i).lookup l)

-- ---- a lane whose lookup an accepted call moves

-- a step answers by the lookup's position
pub step-answer : (s : State) (i c p : ℕ) → (lane_of s i).lookup ≡ running c p → result s (step i) ≡ outcome_answer (outcome s.table (running c p))
unfolding result
step-answer s i c p e = ap (λ (l : Lookup). outcome_answer (outcome s.table l)) e

module _ {s : State} (w : WellFormed s) where
  -- the lane that a call is of, after it
  lane-after : (i : ℕ) (f : Lane → Lane) → i < lane_count s.sizes → lane_at (at_lane i f s.engine) i ≡ f (lane_of s i)
  lane-after i f h = get_or-update-same fresh_lane s.engine.lanes i f (omega (arith, w.lanes))

  -- a step leaves the lookup as its outcome says
  pub step-lookup : (i c p : ℕ) → i < lane_count s.sizes → (lane_of s i).lookup ≡ running c p
      → (lane_of (performed s (step i)) i).lookup ≡ continued s.table (running c p) (outcome s.table (running c p))
  unfolding performed
  step-lookup i c p h e = ap (λ (l : Lane). l.lookup) (lane-after i (stepped s.table) h)
      ∙ ap (λ (l : Lookup). continued s.table l (outcome s.table l)) e

  pub start-lookup : (i c : ℕ) → i < lane_count s.sizes → (lane_of (performed s (start i c)) i).lookup ≡ running c (first (chain_of s.table c))
  unfolding performed
  start-lookup i c h = ap (λ (l : Lane). l.lookup) (lane-after i (set_lookup (running c (first (chain_of s.table c)))) h)

module _ {k : ℕ} {s : State} {g : Ledger} (v : Tied k s g) (past : ℕ → Ledger) where
  -- what lane i looks for after the call o, which no cause refuses
  abbrev LookingAfter : ℕ → Op → Type 0
  LookingAfter i o = Looking past (suc k) (performed s o).table (fed (suc k) o (result s o) g) i (lane_of (performed s o) i).lookup

  looking-started : (i c : ℕ) → refusal s (start i c) ≡ 0 → past (suc k) ≡ fed (suc k) (start i c) (result s (start i c)) g → LookingAfter i (start i c)
  unfolding performed fed
  looking-started i c z now =
      let a = accepts s (start i c) z in
      rw (start-lookup v.well_formed i c a.lane.known) (new v i c, length (chain_of s.table c), looks-start v past i c a.reading now)

  -- a step of lane i, whose lookup is q and may go n steps more: it answers, or goes on to position p, with one step less to go
  pub data StepOf (q : Search) (i c n : ℕ) : Type 0 where
    answers : is_answer (result s (step i)) ≡ true → (lane_of (performed s (step i)) i).lookup ≡ idle → StepOf q i c n
    goes_to : (m p : ℕ) → n ≡ suc m → result s (step i) ≡ zeros → (lane_of (performed s (step i)) i).lookup ≡ running c p
        → Looks past (suc k) (performed s (step i)).table (fed (suc k) (step i) (result s (step i)) g) q i c m p → StepOf q i c n

  pub step_of : (q : Search) (i c n p : ℕ) → refusal s (step i) ≡ 0 → past (suc k) ≡ fed (suc k) (step i) (result s (step i)) g
      → (lane_of s i).lookup ≡ running c p → Looks past k s.table g q i c n p → StepOf q i c n
  unfolding performed fed result outcome_answer
  step_of q i c n p z now e l = go _ _ (stepped-cases s.table c p) refl refl
    where
      after : (lane_of (performed s (step i)) i).lookup ≡ continued s.table (running c p) (outcome s.table (running c p))
      after = step-lookup v.well_formed i c p (accepts s (step i) z).lane.known e

      is : result s (step i) ≡ outcome_answer (outcome s.table (running c p))
      is = step-answer s i c p e

      -- the outcome is a, and the lookup becomes m
      go : (a : Outcome) (m : Lookup) → Stepped s.table c p a m → outcome s.table (running c p) ≡ a
          → continued s.table (running c p) (outcome s.table (running c p)) ≡ m → StepOf q i c n
      go a m (ends x) ea em = answers (ap is_answer (is ∙ ap outcome_answer ea)) (after ∙ em)
      go a m (finds x d) ea em = answers (ap is_answer (is ∙ ap outcome_answer ea)) (after ∙ em)
      go a m (goes x d) ea em =
          let r = looks_on v q i c n p x d l in goes_to r.0 (link_of s.table p) r.1 going' (after ∙ em) (rw going' (on (rw going' at now) r.0 r.2))
        where
          going' : result s (step i) ≡ zeros
          going' = is ∙ ap outcome_answer ea

          on : past (suc k) ≡ g → (m : ℕ) → Looks past k s.table g q i c m (link_of s.table p)
              → Looks past (suc k) s.table g q i c m (link_of s.table p)
          on u m = looks-kept (respects-still k s.table g g refl (λ z m o. m)) past q i c m (link_of s.table p) (rw u (v.entries c)) (spared-same g i)

  looking-stepped : (i : ℕ) → Looking past k s.table g i (lane_of s i).lookup → refusal s (step i) ≡ 0
      → past (suc k) ≡ fed (suc k) (step i) (result s (step i)) g → LookingAfter i (step i)
  unfolding is_running
  looking-stepped i l z now = go (lane_of s i).lookup refl l
    where
      go : (l : Lookup) → (lane_of s i).lookup ≡ l → Looking past k s.table g i l → LookingAfter i (step i)
      go idle e l = clash (accepts s (step i) z).running (ap is_running e)
      go (running c p) e (q, n, l) = at (step_of q i c n p z now e l)
        where
          at : StepOf q i c n → LookingAfter i (step i)
          at (answers a b) = rw b tt
          at (goes_to m p' d a b h) = rw b (q, m, h)

  looking-dropped : (i : ℕ) → refusal s (end i) ≡ 0 → LookingAfter i (end i)
  unfolding performed
  looking-dropped i z = rw (lane-after v.well_formed i leaving (accepts s (end i) z).lane.known) tt

-- ---- every lane, after every call

-- what a call that no cause refuses does to the ledger
pub fed-now : (s : State) (o : Op) (k : ℕ) (g : Ledger) → refusal s o ≡ 0 → fed_call (suc k) (on_state o) (answer s o) g ≡ fed (suc k) o (result s o) g
fed-now s o k g z = ap (λ (r : Answer). fed_call (suc k) (on_state o) r g) (answer-accepted s o z) ∙ fed_call-accepted (suc k) o (result s o) g (status s o)

-- no call: the next instant has the same state and ledger
pub invariant-same : {past : ℕ → Ledger} {k : ℕ} {s : State} {g : Ledger} → Invariant past k s g → past (suc k) ≡ g → Invariant past (suc k) s g
invariant-same {past} {k} {s} {g} v now = record {
  tied = (keeps_same v.tied).tied;
  looking = λ i. looking-kept (keeps_same v.tied).respects past i (λ c. rw now (v.tied.entries c)) (spared-same g i) (lane_of s i).lookup (v.looking i);
}

module _ {past : ℕ → Ledger} {k : ℕ} {s : State} {g : Ledger} (v : Invariant past k s g) (o : Op)
    (h : Keeps k s (next s o) g (fed_call (suc k) (on_state o) (answer s o) g)) (now : past (suc k) ≡ fed_call (suc k) (on_state o) (answer s o) g) where
  pub looking-next : (i : ℕ) → Looking past (suc k) (next s o).table (fed_call (suc k) (on_state o) (answer s o) g) i (lane_of (next s o) i).lookup
  looking-next i = go (refusal s o) refl
    where
      Goal : Type 0
      Goal = Looking past (suc k) (next s o).table (fed_call (suc k) (on_state o) (answer s o) g) i (lane_of (next s o) i).lookup

      moved : refusal s o ≡ 0 → moves_lookup i o ≡ true → Goal
      moved z e = rw (next-accepted s o z, fed-now s o k g z) (moves-cases (λ (o : Op). refusal s o ≡ 0 → past (suc k) ≡ fed (suc k) o (result s o) g
          → LookingAfter v.tied past i o) i (looking-started v.tied past i) (looking-stepped v.tied past i (v.looking i))
          (λ z n. looking-dropped v.tied past i z) o e z (now ∙ fed-now s o k g z))

      at : refusal s o ≡ 0 → (b : Bool) → moves_lookup i o ≡ b → Goal
      at z true e = moved z e
      at z false e = looking-stays past o h now i (λ u. e) (v.looking i)

      go : (n : ℕ) → refusal s o ≡ n → Goal
      go zero z = at z (moves_lookup i o) refl
      go (suc n) z = looking-stays past o h now i (λ u. absurd (refuses u)) (v.looking i)
        where
          refuses : (answer s o).status ≡ 0 → ⊥
          refuses u = omega (arith, ap (λ (r : Answer). r.status) (answer-refused s o n z))
