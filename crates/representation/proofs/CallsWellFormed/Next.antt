-- Each call on a state, one by one: it changes no size, has status 0 where no cause applies, and keeps the state well formed.
use mathlib.Core.Path.{◌≡◌, refl, ap}
use mathlib.Core.Bool.{not}
use Rattle.model.specs.State.{State}
use Rattle.model.specs.Table.{product}
use Rattle.model.specs.Rules.{Op, add, replace, delete, begin, end, start, step, pass, clock, on, off, hand_back, awaited}
use Rattle.model.specs.Rules.{Answer, lane_of, Outcome, going, found, absent, outcome, outcome_answer, refusal, performed, result, next}
use Rattle.representation.proofs.Causes.Passed.{call-cases}
use Rattle.representation.proofs.Causes.Accepted.{accepts}
use Rattle.representation.proofs.WellFormed.{WellFormed}
use Rattle.representation.proofs.Sentences.Ranges.{code_fits, product-fits}
use Rattle.representation.proofs.CallsWellFormed.NextLanes.{well-begin, well-end, well-start, well-step, well-pass, well-on, well-clock, well-off}
use Rattle.representation.proofs.CallsWellFormed.NextTables.{well-add, well-replace, well-delete, well-back}

-- a call changes no size
pub sizes-performed : (s : State) (o : Op) → (performed s o).sizes ≡ s.sizes
unfolding performed
sizes-performed s (add i c d m) = refl
sizes-performed s (replace i c d m) = refl
sizes-performed s (delete i c) = refl
sizes-performed s (start i c) = refl
sizes-performed s (pass i n) = refl
sizes-performed s (begin i) = refl
sizes-performed s (end i) = refl
sizes-performed s (step i) = refl
sizes-performed s (clock i) = refl
sizes-performed s (on i) = refl
sizes-performed s (off i) = refl
sizes-performed s (hand_back i) = refl
sizes-performed s awaited = refl

outcome-status : (o : Outcome) → (outcome_answer o).status ≡ 0
unfolding outcome_answer
outcome-status going = refl
outcome-status (found r) = refl
outcome-status absent = refl

-- a call that no cause refuses has status 0
pub status : (s : State) (o : Op) → (result s o).status ≡ 0
unfolding result
status s (add i c d m) = refl
status s (replace i c d m) = refl
status s (delete i c) = refl
status s (start i c) = refl
status s (pass i n) = refl
status s (begin i) = refl
status s (end i) = refl
status s (step i) = outcome-status (outcome s.table (lane_of s i).lookup)
status s (clock i) = refl
status s (on i) = refl
status s (off i) = refl
status s (hand_back i) = refl
status s awaited = refl

well-performed : (s : State) → WellFormed s → (o : Op) → refusal s o ≡ 0 → WellFormed (performed s o)
unfolding performed
well-performed s w (add i c d m) h = let k = accepts s (add i c d m) h in well-add s w (product c d m) k.free k.missing (product-fits c d m k.in_range)
well-performed s w (replace i c d m) h =
    let k = accepts s (replace i c d m) h in
    well-replace s w i (product c d m) k.lane.known k.lane.online k.free k.present (product-fits c d m k.in_range)
well-performed s w (delete i c) h = let k = accepts s (delete i c) h in well-delete s w i c k.lane.known k.lane.online k.present
well-performed s w (start i c) h = let k = accepts s (start i c) h in well-start s w i c k.reading (code_fits c k.in_range)
well-performed s w (pass i k) h = well-pass s w i k
well-performed s w (begin i) h = well-begin s w i (accepts s (begin i) h).lane.online
well-performed s w (end i) h = well-end s w i
well-performed s w (step i) h = well-step s w i
well-performed s w (clock i) h = let k = accepts s (clock i) h in well-clock s w i k.known k.online
well-performed s w (on i) h = well-on s w i
well-performed s w (off i) h = let k = accepts s (off i) h in well-off s w i k.lane.known k.lane.online k.closed (ap not k.another)
well-performed s w (hand_back i) h = let k = accepts s (hand_back i) h in well-back s w i k.lane.known k.lane.online k.done
well-performed s w awaited h = w

-- ---- refused or not

pub sizes-next : (s : State) (o : Op) → (next s o).sizes ≡ s.sizes
sizes-next s o = call-cases (λ (t : State) (r : Answer). t.sizes ≡ s.sizes) s o (λ z. sizes-performed s o) (λ m. refl)

pub next-well_formed : (s : State) (o : Op) → WellFormed s → WellFormed (next s o)
next-well_formed s o w = call-cases (λ (u : State) (r : Answer). WellFormed u) s o (well-performed s w o) (λ m. w)
