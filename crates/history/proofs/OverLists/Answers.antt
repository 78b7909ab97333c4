-- What the invariant says of an answer, at the instant before it: an accepted step has its lookup noted, an answered one is explained, a found slot is
-- held, and the slot handed back was out.
use Prim.Native.Nat.{ℕ, suc, ◌<◌}
use mathlib.Core.Path.{◌≡◌, refl, ap}
use mathlib.Core.Logic.{◌⊎◌, ⊎_elim}
use mathlib.Core.Bool.{true, false}
use mathlib.Core.List.{Memᴰ}
use native.Mathlib.Omega.{arith}
use lib.Dec.{eqb-suc-zero}
use Rattle.model.specs.State.{Lookup, idle, running, is_running, Product, State}
use Rattle.model.specs.Table.{product, product_at}
use Rattle.model.specs.Rules.{step, hand_back, Answer, refused, first_cause, lane_of, handed_back, causes, Outcome, outcome, outcome_answer, result, answer}
use Rattle.model.specs.Ledger.{Section, Search, Out, Ledger, is_answer}
use Rattle.laws.specs.Tests.{clash}
use Rattle.representation.proofs.Causes.Passed.{call-cases}
use Rattle.representation.proofs.Causes.Accepted.{accepts}
use Rattle.representation.proofs.WellFormed.{chained}
use Rattle.history.proofs.Ties.Halves.{Window, Looks, Looking, RetainedBy}
use Rattle.history.proofs.Ties.Invariant.{Invariant, Anchored, in_chain, retained, Held}
use Rattle.history.proofs.ChainHalf.Trail.{trail-anchored}
use Rattle.history.proofs.CallsKeep.SlotFacts.{retains-queued}
use Rattle.history.proofs.CallsKeep.LookupSteps.{Stepped, ends, finds, goes, stepped-cases, answer-window}
use Rattle.history.proofs.CallsKeep.EveryCall.{inside}
use Rattle.history.proofs.CallsKeep.Reclaim.{none-retains, was-out}

-- the ledger has noted a lookup of lane i
pub record Noted (g : Ledger) (i : ℕ) : Type 0 where
  pub noted : Search
  pub is_noted : Memᴰ noted g.searches
  pub of_lane : noted.lane ≡ i

-- a lookup that the ledger has noted of lane i, in whose window the answer r lies
pub record Answered (past : ℕ → Ledger) (k : ℕ) (g : Ledger) (i : ℕ) (r : Answer) : Type 0 where
  pub noted : Search
  pub is_noted : Memᴰ noted g.searches
  pub of_lane : noted.lane ≡ i
  pub window : Window past noted.started k noted.code r

-- the open section in which the answer r found its slot, the code looked for, and that the slot holds it while the section is open
pub record Found (k : ℕ) (s : State) (g : Ledger) (i : ℕ) (r : Answer) : Type 0 where
  pub finder : Section
  pub is_open : Memᴰ finder g.sections
  pub of_lane : finder.lane ≡ i
  pub code : ℕ
  pub only : (q : Search) → Memᴰ q g.searches → q.lane ≡ i → q.code ≡ code
  pub held : Held k s.table g finder r.b (product code r.c r.d)

-- the slot was out, and each section open at its removal had ended
pub record Ended (g : Ledger) (x : ℕ) : Type 0 where
  pub out : Out
  pub is_out : Memᴰ out g.outs
  pub of_slot : out.slot ≡ x
  pub over : (z : Section) → Memᴰ z out.sections → Memᴰ z g.sections → ⊥

module _ {past : ℕ → Ledger} {k : ℕ} {s : State} {g : Ledger} (v : Invariant past k s g) where
  -- ---- lookups

  pub step-noted : (i : ℕ) → (answer s (step i)).status ≡ 0 → Noted g i
  unfolding is_running
  step-noted i = call-cases (λ (t : State) (r : Answer). r.status ≡ 0 → Noted g i) s (step i)
      (λ z e. go (lane_of s i).lookup (accepts s (step i) z).running (v.looking i)) (λ m e. absurd (omega arith))
    where
      go : (l : Lookup) → is_running l ≡ true → Looking past k s.table g i l → Noted g i
      go idle e l = clash e refl
      go (running c p) e (q, n, l) = record { noted = q; is_noted = l.is_noted; of_lane = l.noted_lane }

  pub step-answered : (i : ℕ) → is_answer (answer s (step i)) ≡ true → Answered past k g i (answer s (step i))
  unfolding result outcome outcome_answer
  step-answered i = call-cases (λ (t : State) (r : Answer). is_answer r ≡ true → Answered past k g i r) s (step i)
      (λ z. go (lane_of s i).lookup (v.looking i)) (λ m h. clash h (refuses m))
    where
      refuses : (m : ℕ) → is_answer (refused (suc m)) ≡ false
      refuses m = rw (eqb-suc-zero m)

      go : (l : Lookup) → Looking past k s.table g i l → is_answer (outcome_answer (outcome s.table l)) ≡ true
          → Answered past k g i (outcome_answer (outcome s.table l))
      go idle l h = clash h refl
      go (running c p) (q, n, l) h = record {
        noted = q;
        is_noted = l.is_noted;
        of_lane = l.noted_lane;
        window = rw l.noted_code (answer-window v.tied q i c n p l (outcome s.table (running c p)) (stepped-cases s.table c p) h);
      }

  -- ---- finds

  -- a slot that is chained or retained is one of the table's
  pub anchored-inside : (z : Section) (x : ℕ) → Anchored s.table g z x → x < s.sizes.slots
  anchored-inside z x (in_chain c) = v.tied.well_formed.range x (omega arith)
  anchored-inside z x (retained r) = v.tied.well_formed.range x (omega (arith, retains-queued v.tied.outs z x r))

  pub step-found : (i : ℕ) → (answer s (step i)).status ≡ 0 → (answer s (step i)).a ≡ 1 → Found k s g i (answer s (step i))
  unfolding result outcome_answer outcome
  step-found i = call-cases (λ (t : State) (r : Answer). r.status ≡ 0 → r.a ≡ 1 → Found k s g i r) s (step i)
      (λ z e. go (lane_of s i).lookup (v.looking i)) (λ m e. absurd (omega arith))
    where
      -- the slot found is chained, or the finder's section retains it
      at : (q : Search) (c n p : ℕ) (l : Looks past k s.table g q i c n p) (o : Outcome) (x : Lookup) → Stepped s.table c p o x → (outcome_answer o).a ≡ 1
          → Found k s g i (outcome_answer o)
      at q c n p l o x (ends e) h = absurd (omega arith)
      at q c n p l o x (goes m e) h = absurd (omega arith)
      at q c n p l o x (finds m e) h = record {
        finder = l.section;
        is_open = l.is_open;
        of_lane = l.of_lane;
        code = c;
        only = l.only;
        held = record {
          opened = v.tied.sections.opened l.section l.is_open;
          holds = λ b. (ap (λ (b : ℕ). product b r.deposit r.material) e, ⊎_elim (λ q. in_chain q) (λ q. retained q) anchor);
        };
      }
        where
          r : Product
          r = product_at s.table.products p

          anchor : (0 < chained p s.table) ⊎ RetainedBy g l.section p
          anchor = trail-anchored s.table c n p m l.trail

      go : (l : Lookup) → Looking past k s.table g i l → (outcome_answer (outcome s.table l)).a ≡ 1
          → Found k s g i (outcome_answer (outcome s.table l))
      go idle l h = absurd (omega arith)
      go (running c p) (q, n, l) h = at q c n p l _ _ (stepped-cases s.table c p) h

  -- ---- hand-backs

  pub hand_back-ended : (i : ℕ) → (answer s (hand_back i)).status ≡ 0 → Ended g (answer s (hand_back i)).a
  unfolding result causes
  hand_back-ended i = call-cases (λ (t : State) (r : Answer). r.status ≡ 0 → Ended g r.a) s (hand_back i) now (λ m h. absurd (omega arith))
    where
      now : first_cause (causes s (hand_back i)) ≡ 0 → (result s (hand_back i)).status ≡ 0 → Ended g (handed_back s i)
      now z h =
          let k = accepts s (hand_back i) z in
          let o = was-out v.tied i (inside v.tied i k.lane.known) k.done in
          record {
            out = o.out;
            is_out = o.is_out;
            of_slot = o.of_slot;
            over = λ z m n. none-retains v.tied i (inside v.tied i k.lane.known) k.done z
                (record { out = o.out; is_out = o.is_out; of_slot = o.of_slot; is_in = m; is_open = n });
          }
