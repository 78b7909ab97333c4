-- Every call, one by one, and nowhere else in the crate: what it changes in the ledger, that it keeps state and ledger tied, that it respects readers, and
-- whose lookup it moves.
use Prim.Native.Nat.{ℕ, suc, ◌<◌}
use mathlib.Core.Path.{◌≡◌, refl, sym, ap, subst}
use mathlib.Core.Bool.{Bool, true, false, cond}
use native.Mathlib.Omega.{arith}
use lib.ListN.{length}
use lib.Dec.{eqb, eqb-suc-zero}
use borrow.Author.Tests.{eq-eqb, eqb-true}
use Rattle.model.specs.State.{Lane, State, lane_count}
use Rattle.model.specs.Engine.{fresh_lane, lane_at, set_online, set_reading, at_lane, counted}
use Rattle.model.specs.Rules.{Op, add, replace, delete, begin, end, start, step, pass, clock, on, off, hand_back, awaited, refusal}
use Rattle.model.specs.Rules.{Answer, refused, lane_of, retiring, leaving, stepped, performed, result, answer, next}
use Rattle.model.specs.Calls.{Call, set_up, on_state}
use Rattle.model.specs.Ledger.{Entry, Ledger, entry_of, is_answer, fed, fed_call, is_step_of}
use Rattle.model.specs.Ledger.{entry_made, entry_struck, slot_out, slot_back, section_opened, section_ended, search_noted, search_struck}
use Rattle.laws.specs.Tests.{clash, cond_cases, eqb-self}
use Rattle.laws.specs.ListLaws.{update-cases, get_or-update-other}
use Rattle.representation.proofs.Discipline.Frame.{frame-clocked, frame-went_off}
use Rattle.representation.proofs.Causes.Passed.{call-cases}
use Rattle.representation.proofs.Causes.Accepted.{accepts}
use Rattle.representation.proofs.WellFormed.{WellFormed}
use Rattle.representation.proofs.CallsWellFormed.Next.{status}
use Rattle.history.proofs.Ties.Invariant.{Tied}
use Rattle.history.proofs.CallsKeep.Respects.{Keeps}
use Rattle.history.proofs.CallsKeep.Unseen.{keeps_same, keeps-pass, keeps_on, keeps-clock, keeps-off}
use Rattle.history.proofs.CallsKeep.Sections.{keeps-begin, keeps-end}
use Rattle.history.proofs.CallsKeep.StartStep.{keeps-start, keeps-step}
use Rattle.history.proofs.CallsKeep.Add.{keeps-add}
use Rattle.history.proofs.CallsKeep.Remove.{keeps-replace, keeps-delete}
use Rattle.history.proofs.CallsKeep.Reclaim.{lanes-same, keeps-hand_back}

-- ---- the ledger

-- the call changes code c: an add, replace or delete of it
unfoldable pub changes_code : ℕ → Call → Bool
changes_code c (set_up z) = false
changes_code c (on_state (add i b d m)) = eqb b c
changes_code c (on_state (replace i b d m)) = eqb b c
changes_code c (on_state (delete i b)) = eqb b c
changes_code c (on_state (start i b)) = false
changes_code c (on_state (pass i n)) = false
changes_code c (on_state (begin i)) = false
changes_code c (on_state (end i)) = false
changes_code c (on_state (step i)) = false
changes_code c (on_state (clock i)) = false
changes_code c (on_state (on i)) = false
changes_code c (on_state (off i)) = false
changes_code c (on_state (hand_back i)) = false
changes_code c (on_state awaited) = false

-- the call starts, steps or drops a lookup of lane i
unfoldable pub moves_lookup : ℕ → Op → Bool
moves_lookup i (start j c) = eqb j i
moves_lookup i (step j) = eqb j i
moves_lookup i (end j) = eqb j i
moves_lookup i (add j c d m) = false
moves_lookup i (replace j c d m) = false
moves_lookup i (delete j c) = false
moves_lookup i (pass j n) = false
moves_lookup i (begin j) = false
moves_lookup i (clock j) = false
moves_lookup i (on j) = false
moves_lookup i (off j) = false
moves_lookup i (hand_back j) = false
moves_lookup i awaited = false

-- P holds of the ledger g and after each change that call o may make of it: entries change only for a code that o changes, begin alone opens a section,
-- start alone notes a lookup, and sections end and lookups are struck only of a lane whose lookup o moves
pub record Changed (P : Ledger → Type 0) (o : Op) (g : Ledger) : Type 0 where
  pub same : P g
  pub made : (e : Entry) → changes_code e.code (on_state o) ≡ true → P (entry_made e g)
  pub struck : (c : ℕ) → changes_code c (on_state o) ≡ true → P (entry_struck c g)
  pub out : (x : ℕ) (l : Ledger) → P l → P (slot_out x l)
  pub back : (x : ℕ) → P (slot_back x g)
  pub opened : (i k : ℕ) → o ≡ begin i → P (section_opened i k g)
  pub ended : (i : ℕ) → moves_lookup i o ≡ true → P (section_ended i g)
  pub noted : (i c k : ℕ) → o ≡ start i c → P (search_noted (record { lane = i; code = c; started = k }) g)
  pub dropped : (i : ℕ) (l : Ledger) → moves_lookup i o ≡ true → P l → P (search_struck i l)

pub fed-cases : (P : Ledger → Type 0) (k : ℕ) (o : Op) (r : Answer) (g : Ledger) → Changed P o g → P (fed k o r g)
unfolding fed changes_code moves_lookup
fed-cases P k (add i c d m) r g h = h.made (entry_of c r.a d m) (eqb-self c)
fed-cases P k (replace i c d m) r g h = h.out r.b _ (h.made (entry_of c r.a d m) (eqb-self c))
fed-cases P k (delete i c) r g h = h.out r.a _ (h.struck c (eqb-self c))
fed-cases P k (start i c) r g h = h.noted i c k refl
fed-cases P k (pass i n) r g h = h.same
fed-cases P k (begin i) r g h = h.opened i k refl
fed-cases P k (end i) r g h = h.dropped i _ (eqb-self i) (h.ended i (eqb-self i))
fed-cases P k (step i) r g h = cond_cases P (is_answer r) (λ t. h.dropped i _ (eqb-self i) h.same) (λ t. h.same)
fed-cases P k (clock i) r g h = h.same
fed-cases P k (on i) r g h = h.same
fed-cases P k (off i) r g h = h.same
fed-cases P k (hand_back i) r g h = h.back r.a
fed-cases P k awaited r g h = h.same

-- of any call with its answer; one that is refused changes nothing
pub fed_call-cases : (P : Ledger → Type 0) (k : ℕ) (x : Call) (r : Answer) (g : Ledger) → P g
    → ((o : Op) → x ≡ on_state o → r.status ≡ 0 → Changed P o g) → P (fed_call k x r g)
unfolding fed_call
fed_call-cases P k (set_up z) r g p h = p
fed_call-cases P k (on_state o) r g p h =
    cond_cases P (eqb r.status 0) (λ t. fed-cases P k o r g (h o refl (eqb-true r.status 0 t))) (λ t. p)

-- ---- a call

pub fed_call-accepted : (k : ℕ) (o : Op) (r : Answer) (g : Ledger) → r.status ≡ 0 → fed_call k (on_state o) r g ≡ fed k o r g
unfolding fed_call
fed_call-accepted k o r g h = ap (λ (n : ℕ). cond (eqb n 0) (fed k o r g) g) h

pub fed_call-refused : (k : ℕ) (o : Op) (m : ℕ) (g : Ledger) → fed_call k (on_state o) (refused (suc m)) g ≡ g
unfolding fed_call
fed_call-refused k o m g = rw (eqb-suc-zero m)

module _ {k : ℕ} {s : State} {g : Ledger} (v : Tied k s g) where
  -- a lane that cause 4 does not refuse is one of the list
  pub inside : (i : ℕ) → i < lane_count s.sizes → i < length s.engine.lanes
  inside i h = omega (arith, v.well_formed.lanes)

  -- no cause applies
  keeps-accepted : (o : Op) → refusal s o ≡ 0 → WellFormed (performed s o) → Keeps k s (performed s o) g (fed (suc k) o (result s o) g)
  unfolding performed result fed
  keeps-accepted (add i c d m) z w = keeps-add v c d m (accepts s (add i c d m) z).free w
  keeps-accepted (replace i c d m) z w =
      let a = accepts s (replace i c d m) z in keeps-replace v i c (inside i a.lane.known) a.present d m a.free w
  keeps-accepted (delete i c) z w = let a = accepts s (delete i c) z in keeps-delete v i c (inside i a.lane.known) a.present w
  keeps-accepted (start i c) z w = keeps-start v i c w
  keeps-accepted (pass i n) z w = keeps-pass v i n w (accepts s (pass i n) z).closed
  keeps-accepted (begin i) z w = keeps-begin v i (inside i (accepts s (begin i) z).lane.known) w
  keeps-accepted (end i) z w = keeps-end v i (inside i (accepts s (end i) z).lane.known) w
  keeps-accepted (step i) z w = keeps-step v i (result s (step i)) w
  keeps-accepted (clock i) z w = keeps-clock v i w
  keeps-accepted (on i) z w = keeps_on v i w
  keeps-accepted (off i) z w = keeps-off v i w (accepts s (off i) z).closed
  keeps-accepted (hand_back i) z w = let a = accepts s (hand_back i) z in keeps-hand_back v i (inside i a.lane.known) a.done w
  keeps-accepted awaited z w = keeps_same v

  -- refused or not
  pub keeps-next : (o : Op) → WellFormed (next s o) → Keeps k s (next s o) g (fed_call (suc k) (on_state o) (answer s o) g)
  keeps-next o = call-cases (λ (t : State) (r : Answer). WellFormed t → Keeps k s t g (fed_call (suc k) (on_state o) r g)) s o
      (λ z. rw (fed_call-accepted (suc k) o (result s o) g (status s o)) (keeps-accepted o z))
      (λ m w. rw (fed_call-refused (suc k) o m g) (keeps_same v))

-- ---- a lane's lookup

module _ (s : State) where
  -- a change of a lane that leaves its lookup leaves every lane's
  lookup-lane : (j : ℕ) (f : Lane → Lane) → (f (lane_of s j)).lookup ≡ (lane_of s j).lookup
      → (i : ℕ) → (lane_at (at_lane j f s.engine) i).lookup ≡ (lane_of s i).lookup
  lookup-lane j f e = update-cases fresh_lane (λ (i : ℕ) (l : Lane). l.lookup ≡ (lane_of s i).lookup) s.engine.lanes j f (λ i. refl) e

  -- a change of another lane
  lookup-apart : (j : ℕ) (f : Lane → Lane) (i : ℕ) → eqb j i ≡ false → (lane_at (at_lane j f s.engine) i).lookup ≡ (lane_of s i).lookup
  lookup-apart j f i e =
      ap (λ (l : Lane). l.lookup) (get_or-update-other fresh_lane s.engine.lanes j f i (λ q. clash (eq-eqb j i (sym q)) e))

  -- a call that does not move the lane's lookup leaves it
  pub lookup-other : (i : ℕ) (o : Op) → refusal s o ≡ 0 → moves_lookup i o ≡ false → (lane_of (performed s o) i).lookup ≡ (lane_of s i).lookup
  unfolding performed moves_lookup counted
  lookup-other i (add j c d m) z e = refl
  lookup-other i (replace j c d m) z e = lookup-lane j (retiring _) refl i
  lookup-other i (delete j c) z e = lookup-lane j (retiring _) refl i
  lookup-other i (start j c) z e = lookup-apart j _ i e
  lookup-other i (pass j n) z e = lookup-lane j (counted n) refl i
  lookup-other i (begin j) z e = lookup-lane j (set_reading true) refl i
  lookup-other i (end j) z e = lookup-apart j leaving i e
  lookup-other i (step j) z e = lookup-apart j (stepped s.table) i e
  lookup-other i (clock j) z e = (frame-clocked j s.engine).lookup i
  lookup-other i (on j) z e = lookup-lane j (set_online true) refl i
  lookup-other i (off j) z e = (frame-went_off j s.engine (accepts s (off j) z).closed).lookup i
  lookup-other i (hand_back j) z e = (lanes-same s j (accepts s (hand_back j) z).done i).1
  lookup-other i awaited z e = refl

-- a call that moves it is a start, a step or an end of the lane
pub moves-cases : (P : Op → Type 0) (i : ℕ) → ((c : ℕ) → P (start i c)) → P (step i) → P (end i) → (o : Op) → moves_lookup i o ≡ true → P o
unfolding moves_lookup
moves-cases P i f g h (start j c) e = subst (λ (j : ℕ). P (start j c)) (sym (eqb-true j i e)) (f c)
moves-cases P i f g h (step j) e = subst (λ (j : ℕ). P (step j)) (sym (eqb-true j i e)) g
moves-cases P i f g h (end j) e = subst (λ (j : ℕ). P (end j)) (sym (eqb-true j i e)) h
moves-cases P i f g h (add j c d m) e = clash e refl
moves-cases P i f g h (replace j c d m) e = clash e refl
moves-cases P i f g h (delete j c) e = clash e refl
moves-cases P i f g h (pass j n) e = clash e refl
moves-cases P i f g h (begin j) e = clash e refl
moves-cases P i f g h (clock j) e = clash e refl
moves-cases P i f g h (on j) e = clash e refl
moves-cases P i f g h (off j) e = clash e refl
moves-cases P i f g h (hand_back j) e = clash e refl
moves-cases P i f g h awaited e = clash e refl

-- a call of step of the lane is that one
pub is-step : (i : ℕ) (o : Op) → is_step_of i (on_state o) ≡ true → o ≡ step i
unfolding is_step_of
is-step i (step j) e = ap (λ (j : ℕ). step j) (eqb-true j i e)
is-step i (start j c) e = clash e refl
is-step i (end j) e = clash e refl
is-step i (add j c d m) e = clash e refl
is-step i (replace j c d m) e = clash e refl
is-step i (delete j c) e = clash e refl
is-step i (pass j n) e = clash e refl
is-step i (begin j) e = clash e refl
is-step i (clock j) e = clash e refl
is-step i (on j) e = clash e refl
is-step i (off j) e = clash e refl
is-step i (hand_back j) e = clash e refl
is-step i awaited e = clash e refl
