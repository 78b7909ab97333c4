-- Step: a lookup that goes on stands on a slot and stores its position alone, and one that ends is put to rest.
use Prim.Native.Nat.{ℕ, ◌+◌, ◌<◌}
use mathlib.Core.Path.{◌≡◌, refl, ap, sym, subst, ◌∙◌}
use mathlib.Core.Logic.{inl, inr}
use mathlib.Core.List.{List}
use lib.ListN.{set}
use borrow.Author.Tests.{eq-eqb}
use Rattle.model.specs.Word.{none}
use Rattle.model.specs.State.{Sizes, Lookup, idle, running, Table}
use Rattle.model.specs.Layout.{position_at, lane_address}
use Rattle.model.specs.Table.{link_of}
use Rattle.model.specs.Engine.{set_lookup}
use Rattle.model.specs.Rules.{step, refusal, lane_of, Outcome, going, found, absent, outcome, continued, outcome_answer, result}
use Rattle.model.specs.Memory.{at, flags, sizes, state}
use Rattle.model.specs.Calls.{on_state}
use Rattle.representation.specs.Sound.{Sound}
use Rattle.representation.proofs.WellFormed.{SlotOrNone}
use Rattle.words.specs.Lent.{sizes_of}
use Rattle.std.specs.Prelude.{Ok}
use Rattle.chains.specs.declared.Step.{Step}
use Rattle.chains.specs.declared.Step.TheVariants.{Going as StillGoing, Found, Absent}
use Rattle.chains.specs.Outcome.{outcome_of, step_words}
use Rattle.chains.specs.Chain.{link_address}
use Rattle.changes.proofs.OfChains.ChainChanges.{link-shown}
use Rattle.changes.proofs.OfLanes.OneLane.{stored_from}
use Rattle.changes.proofs.OfLanes.LaneWords.{lookup_words}
use Rattle.changes.proofs.OfLanes.LaneCalls.{step-stored, step-going-stored}
use Rattle.access.specs.declared.Answer.{Answer}
use Rattle.access.specs.declared.Lane.{Lane}
use Rattle.access.specs.Causes.{answer_of}
use Rattle.access.specs.Contract.{five, Does}
use Rattle.access.proofs.Ways.{performs, shown, well_formed}
use Rattle.readers.specs.Lookups.{lookup_stored, Looking, Going, moved_on}
use Rattle.readers.proofs.LookupLaws.{lookup-stored, lookup-shown, position-fits}

-- ---- outcomes

-- found and absent end the lookup
ended : (t : Table) (k : Lookup) (o : Outcome) → (o ≡ going → ⊥) → continued t k o ≡ idle
unfolding continued
ended t idle o e = refl
ended t (running c p) going e = absurd (e refl)
ended t (running c p) (found r) e = refl
ended t (running c p) absent e = refl

-- a lookup that goes on stands on a slot
on-slot : (t : Table) (n c p : ℕ) → SlotOrNone n p → outcome t (running c p) ≡ going → p < n
unfolding outcome
on-slot t n c p (inl h) e = h
on-slot t n c p (inr h) e = let q : absent ≡ going = rw (eq-eqb p none h) at e in cc

-- that the code's outcome is another one
pub not-going : (s : Step) → (s ≡ StillGoing → ⊥) → outcome_of s ≡ going → ⊥
unfolding outcome_of
not-going StillGoing n e = n refl
not-going (Found r) n e = cc
not-going Absent n e = cc

-- the answer has the outcome's words
worded : (o : Outcome) (w : List ℕ) → w ≡ step_words (outcome_answer o) → five (answer_of (Ok w)) ≡ outcome_answer o
unfolding outcome_answer
worded going w e = rw e
worded (found r) w e = rw e
worded absent w e = rw e

-- ---- a lookup that goes on

module _ (m : List ℕ) (l : Lane) (k : Going m l) where
  position-slot : at m (l.address + position_at) < (sizes m).slots
  position-slot =
      let h = k.looking in
      on-slot (state m).table (sizes m).slots _ _ (position-fits m l h) (ap (outcome (state m).table) (sym (lookup-shown m l h)) ∙ k.going)

  pub position-by : at m (l.address + position_at) < l.sizes.slots
  position-by = subst (λ (z : Sizes). at m (l.address + position_at) < z.slots) (sym k.looking.lane.named.sizes) position-slot

  -- by what the code read
  pub moved_by : (w : ℕ) → w ≡ at m (link_address (sizes_of l.sizes) (at m (l.address + position_at))) → set m (l.address + position_at) w ≡ moved_on m l
  unfolding state
  moved_by w e =
      let named = k.looking.lane.named in
      ap (set m (l.address + position_at))
      (e ∙ ap (λ (z : Sizes). at m (link_address z (at m (l.address + position_at)))) named.sizes
      ∙ link-shown (state m) m (shown m named.sound) _ position-slot)

-- ---- the call

module _ (m : List ℕ) (l : Lane) (k : Looking m l) (e : 0 ≡ refusal (state m) (step l.number)) where
  abbrev v : Sound m
  v = k.lane.named.sound

  abbrev own : Lookup
  own = (lane_of (state m) l.number).lookup

  module _ (o : Outcome) (eo : o ≡ outcome (state m).table own) (w : List ℕ) (ew : w ≡ step_words (outcome_answer o)) (n : List ℕ) where
    abbrev r : Answer
    r = answer_of (Ok w)

    er : five r ≡ outcome_answer o
    er = worded o w ew

    pub step-going : o ≡ going → n ≡ moved_on m l → Does (on_state (step l.number)) m r n
    unfolding result state
    step-going t en =
        performs m (step l.number) v e r n (er ∙ ap outcome_answer eo)
        (en ∙ ap (λ (a : ℕ). set m (a + position_at) (link_of (state m).table (at m (l.address + position_at)))) k.lane.named.address
        ∙ step-going-stored (state m) m (shown m v) (well_formed m v) l.number _ _ k.lane.known (lookup-shown m l k)
        (ap (outcome (state m).table) (sym (lookup-shown m l k)) ∙ sym eo ∙ t))

    pub step-ended : (o ≡ going → ⊥) → n ≡ lookup_stored m l.address idle → Does (on_state (step l.number)) m r n
    unfolding result state
    step-ended t en =
        let q : continued (state m).table own (outcome (state m).table own) ≡ idle = ended (state m).table own _ (λ (x : outcome (state m).table own ≡ going). t (eo ∙ x)) in
        performs m (step l.number) v e r n (er ∙ ap outcome_answer eo)
        (en ∙ lookup-stored m l idle k.lane
        ∙ ap (λ (u : Lookup). stored_from m (lane_address (sizes m) l.number) (lookup_words (flags (set_lookup u (lane_of (state m) l.number))) u)) (sym q)
        ∙ step-stored (state m) m (shown m v) (well_formed m v) l.number k.lane.known)
